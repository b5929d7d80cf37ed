-- Other octets in a choice that holds some.
use Rattle.std.specs.Prelude.{ℕ, List}
use Rattle.pt_choice.specs.declared.choice.Choice.{Choice}
use Rattle.pt_choice.specs.declared.choice.Choice.TheVariants as choice

-- the octets as a choice of the same sort
abbrev pub with_octets : Choice → List ℕ → Choice
with_octets (choice.Text octets) = λ other. choice.Text other
with_octets (choice.Bytes octets) = λ other. choice.Bytes other
with_octets (choice.Int value) = λ other. choice.Bytes other
with_octets (choice.Bool value) = λ other. choice.Bytes other
