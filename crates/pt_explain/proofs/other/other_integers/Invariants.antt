use Rattle.std.proofs.Common.{◌≡◌, map, take}
use Rattle.pt_choice.specs.declared.choice.Choice.TheVariants as choice
use Rattle.pt_explain.specs.Others.{other_integers}
use Rattle.pt_explain.proofs.other.other_integers.Given as goal

abbrev pub invariant-loop-number : goal.invariant-loop-number
invariant-loop-number l = l.members ≡ map (λ v. choice.Int v) (take l.number (other_integers l.fn.value))
