use Rattle.std.proofs.Common.{sym, ◌∙◌, rules, arith, length}
use Rattle.std.proofs.lemmas.List.{length_push}
use Rattle.std.proofs.lemmas.Iterator.Adapters.{YieldsList-from_vec}
use Rattle.std.proofs.lemmas.Iterator.Consumers.{YieldsList-turn}
use Rattle.pt_case.proofs.RunsLemmas.{runs-append}
use Rattle.pt_par.proofs.runs.gathered.Goals as goal

pub loop-made-preserved : goal.loop-made-preserved
loop-made-preserved g c =
    let turn = YieldsList-turn (YieldsList-from_vec c.args.shares.items (search rules) (search rules)) c.loop-made.yielded c.loop-made.made-iterator c.loop-made.yielded_by c.next.result c.next.new.self
    c.in-Some.made c.in-Some.is c.next.ensures.steps in
    let this = c.requires.each (length c.loop-made.yielded) c.in-Some.made (omega (arith, turn.0, c.args.shares.ok)) in
    let made = rw (sym turn.1 ∙ c.in_ok-made.was) at this in
    rw (c.in_ok-append.ensures, length_push c.loop-made.yielded c.in-Some.made)
    (runs-append _ _ _ _ _ _ _ c.loop-made.invariant made)
