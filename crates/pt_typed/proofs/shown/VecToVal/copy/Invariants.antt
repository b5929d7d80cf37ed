use Rattle.std.proofs.Common.{◌≡◌, map, take}
use Rattle.pt_typed.proofs.shown.VecToVal.copy.Given as goal

abbrev pub invariant-loop-item : goal.invariant-loop-item
invariant-loop-item g l = map g.T.ToVal.val l.copies.items ≡ map g.T.ToVal.val (take l.item-index l.self.items)
