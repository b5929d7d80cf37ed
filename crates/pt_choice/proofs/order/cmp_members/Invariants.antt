use Rattle.std.proofs.Common.{◌≡◌, length, drop}
use Rattle.std.specs.Cmp.Lexicographic.{slice_cmp}
use Rattle.pt_choice.specs.Order.{cmp_choice}
use Rattle.pt_choice.proofs.order.cmp_members.Given as goal

-- so far the two lists agree
abbrev pub invariant-loop-x : goal.invariant-loop-x
invariant-loop-x l =
    slice_cmp cmp_choice l.a l.b ≡ slice_cmp cmp_choice (drop (length l.yielded) l.a) (drop (length l.yielded) l.b)
