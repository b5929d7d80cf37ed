-- What is equal as a key is the same, and the other way round.
use Rattle.std.proofs.Common.{◌≡◌, ap, List}
use Rattle.std.specs.Bool.{Decides}
use Rattle.std.specs.Cmp.{booleans_Decides, signed_Decides}
use Rattle.std.specs.Cmp.Lexicographic.{bytes_decides, pointwise_decides}
use Rattle.pt_choice.specs.declared.choice.Choice.{Choice}
use Rattle.pt_choice.specs.declared.choice.Choice.TheVariants as choice
use Rattle.pt_choice.specs.Same.{same_choice, same_choices}

pub same_choice-decides : (a b : Choice) → Decides (same_choice a b) (a ≡ b)
same_choice-decides (choice.Bool a) (choice.Bool b) = let is = booleans_Decides a b in (λ e. ap choice.Bool (is.0 e), λ e. is.1 cc)
same_choice-decides (choice.Int a) (choice.Int b) = let is = signed_Decides a b in (λ e. ap choice.Int (is.0 e), λ e. is.1 cc)
same_choice-decides (choice.Bytes a) (choice.Bytes b) = let is = bytes_decides a b in (λ e. ap choice.Bytes (is.0 e), λ e. is.1 cc)
same_choice-decides (choice.Text a) (choice.Text b) = let is = bytes_decides a b in (λ e. ap choice.Text (is.0 e), λ e. is.1 cc)
same_choice-decides a b = (λ e. cc, λ e. cc)

pub same_choices-decides : (a b : List Choice) → Decides (same_choices a b) (a ≡ b)
same_choices-decides = pointwise_decides same_choice-decides
