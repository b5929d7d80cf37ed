-- The command that was drawn.
use Rattle.std.proofs.Common.{◌≡◌, ℤ}
use Rattle.pt_typed.proofs.ReadingLemmas.{first_pair, second_pair}
use Rattle.demo_lru.specs.Command.{drawn_val, command_of, command_of_sort}

pub command_of-drawn : (drawn : ℤ × (ℤ × ℤ)) → command_of (drawn_val drawn) ≡ command_of_sort drawn.0 drawn.1.0 drawn.1.1
command_of-drawn drawn = simp (first_pair, second_pair)
