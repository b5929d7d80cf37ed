use Rattle.std.proofs.Common.{◌≡◌, ◌++◌, ◌∷◌, [], sym, subst, ap, ◌∙◌, rules, arith, length}
use Rattle.std.proofs.lemmas.List.{length_push, map-id}
use Rattle.std.proofs.lemmas.List.Elements.{All-push}
use Rattle.std.proofs.lemmas.Iterator.Adapters.{YieldsList-from_vec}
use Rattle.std.proofs.lemmas.Iterator.Consumers.{YieldsList-end}
use Rattle.std.specs.List.{All}
use Rattle.pt_all.specs.Survey.{share_of, ReplaysItself}
use Rattle.pt_all.specs.Progress.{Reduces}
use Rattle.pt_all.proofs.ReducedLemmas.{AreReduced, reduced-push}
use Rattle.pt_all.proofs.reductions.reduce_all.Goals as goal

pub loop-first-preserved : goal.loop-first-preserved
loop-first-preserved g c =
    let step = g.C.Check.step c.args.check.now in
    let faults = c.loop-first.faults in
    let fault = c.in_ok-reduce.field-0 in
    let so_far = c.loop-first.invariant in
    let share : c.share-share.result ≡ share_of c.args.budget (length faults) = c.share-share.ensures ∙ ap (share_of c.args.budget) c.len.ensures in
    let last : Reduces step (share_of c.args.budget (length faults)) c.in-Some.first fault =
    subst (λ n. Reduces step n c.in-Some.first fault) share c.in_ok-reduce.ensures.reduces in
    let pushed = sym c.in_ok-push.ensures.ok in
    let as_many = so_far.one_each in
    record {
      one_each = ap length c.in_ok-push.ensures.ok ∙ (omega (arith, length_push faults fault, length_push c.loop-first.yielded c.in-Some.first, as_many));
      each = subst (AreReduced step c.args.budget (c.loop-first.yielded ++ c.in-Some.first ∷ [])) pushed
          (reduced-push step c.args.budget c.loop-first.yielded faults c.in-Some.first fault as_many so_far.each last);
      replays = subst (All (ReplaysItself step)) pushed (All-push (ReplaysItself step) faults fault so_far.replays c.in_ok-reduce.ensures.replays);
    }

pub returns-clause-each : goal.returns-clause-each
returns-clause-each g c =
    let all = YieldsList-from_vec c.args.firsts.items (search rules) (search rules) in
    let ends = YieldsList-end all c.loop-first.yielded c.loop-first.first-iterator c.loop-first.yielded_by c.next.result c.next.new.self c.in-None.is c.next.ensures.steps in
    let whole = sym (map-id c.loop-first.yielded) ∙ ends.0 in
    subst (λ firsts. AreReduced (g.C.Check.step c.args.check.now) c.args.budget firsts c.loop-first.faults) whole c.loop-first.invariant.each
