use Rattle.std.proofs.Common.{◌≤◌, ◌∙◌, ap, drop, arith}
use Rattle.pt_cand.specs.Edit.{edited}
use Rattle.pt_cand.specs.Left.{left_of}
use Rattle.pt_cand.proofs.WalkLemmas.{passed-more, passed-all}
use Rattle.pt_cand.proofs.walk.Walk.skip.Goals as goal

pub returns-in-None : goal.returns-in-None
returns-in-None c =
    let all = left_of c.self.inside.pass c.self.inside.best.now c.self.inside.cursor in
    let left = left_of c.loop.self-inside.pass c.loop.self-inside.best.now c.loop.self-inside.cursor in
    let order : c.loop.counter ≤ c.args.count = omega (arith, c.loop-test.true) in
    passed-all all left c.loop.counter c.loop.invariant c.args.count order c.in-None.ensures ∙ ap (λ lists. drop c.args.count lists) c.self.view_is

pub loop-preserved : goal.loop-preserved
loop-preserved c =
    let all = left_of c.self.inside.pass c.self.inside.best.now c.self.inside.cursor in
    let left = left_of c.loop.self-inside.pass c.loop.self-inside.best.now c.loop.self-inside.cursor in
    passed-more all left c.loop.counter c.loop.invariant (edited c.loop.self-inside.best.now.choices c.in-Some.found.edit)
    (left_of c.loop.self-inside.pass c.loop.self-inside.best.now c.in-Some.found.next) c.in-Some.ensures
