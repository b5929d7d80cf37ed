use Rattle.std.proofs.Common.{sym, subst}
use Rattle.pt_cand.specs.Left.{left_of, pairs_left}
use Rattle.pt_cand.specs.Moves.{both_nearer, shifted}
use Rattle.pt_cand.specs.Walk.{FindsHere}
use Rattle.pt_cand.proofs.step.find_here.Goals as goal

pub returns-in-LowerPair : goal.returns-in-LowerPair
returns-in-LowerPair c =
    subst (λ pass. FindsHere (left_of pass c.args.best.now) c.args.best.now.choices c.args.at c.find-in-LowerPair.result) (sym c.in-LowerPair.is)
    (subst (λ choices. FindsHere (pairs_left both_nearer choices) choices c.args.at c.find-in-LowerPair.result) c.as_slice.ensures c.find-in-LowerPair.ensures)

pub returns-in-Shift : goal.returns-in-Shift
returns-in-Shift c =
    subst (λ pass. FindsHere (left_of pass c.args.best.now) c.args.best.now.choices c.args.at c.find-in-Shift.result) (sym c.in-Shift.is)
    (subst (λ choices. FindsHere (pairs_left shifted choices) choices c.args.at c.find-in-Shift.result) c.as_slice-in-Shift.ensures c.find-in-Shift.ensures)
