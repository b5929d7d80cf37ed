use Rattle.std.proofs.Common.{◌≡◌, map, take}
use Rattle.pt_typed.proofs.shown.VecToVal.to_val.Given as goal

abbrev pub invariant-loop-item : goal.invariant-loop-item
invariant-loop-item g l = l.members ≡ map g.T.ToVal.val (take l.item-index l.self.items)
