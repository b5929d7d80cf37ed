use Rattle.std.proofs.Common.{sym, ◌∙◌, rules, arith, length}
use Rattle.std.proofs.lemmas.List.{length_push}
use Rattle.std.proofs.lemmas.Iterator.Adapters.{YieldsList-from_vec}
use Rattle.std.proofs.lemmas.Iterator.Consumers.{YieldsList-turn, YieldsList-end}
use Rattle.std.specs.Prelude.{vec_len}
use Rattle.pt_par.proofs.LeastLemmas.{covers-more, covers-all}
use Rattle.pt_par.proofs.search.least.Goals as goal

pub loop-hit-preserved : goal.loop-hit-preserved
loop-hit-preserved g c =
    let turn = YieldsList-turn (YieldsList-from_vec c.args.shares.items (search rules) (search rules)) c.loop-hit.yielded c.loop-hit.hit-iterator
    c.loop-hit.yielded_by c.next.result c.next.new.self c.in-Some.hit c.in-Some.is c.next.ensures.steps in
    let this = c.requires.each (length c.loop-hit.yielded) c.in-Some.hit (omega (arith, turn.0, c.args.shares.ok)) in
    let share = rw (sym turn.1 ∙ c.in_ok-hit.was) at this in
    rw (length_push c.loop-hit.yielded c.in-Some.hit) (covers-more _ _ _ _ _ _ _ _ c.loop-hit.invariant share c.earlier-least.ensures)

pub returns : goal.returns
returns g c =
    let done = YieldsList-end (YieldsList-from_vec c.args.shares.items (search rules) (search rules)) c.loop-hit.yielded c.loop-hit.hit-iterator
    c.loop-hit.yielded_by c.next.result c.next.new.self c.in-None.is c.next.ensures.steps in
    covers-all _ _ _ (vec_len c.args.shares) (length c.loop-hit.yielded) _ c.requires.some (omega (arith, done.1, c.args.shares.ok)) c.loop-hit.invariant
