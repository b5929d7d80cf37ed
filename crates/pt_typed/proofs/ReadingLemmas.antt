-- What is read of a value of the suite language.
use Rattle.std.proofs.Common.{◌≡◌, ◌≤ℤ◌, ℤ, true, List, [], ◌∷◌, sym, ◌∙◌, ap, arith}
use Rattle.std.specs.Prelude.{◌&&◌, int_le}
use Rattle.std.proofs.lemmas.Grind.{common_steps}
use Rattle.pt_val.specs.declared.val.Val.{Val}
use Rattle.pt_val.specs.declared.val.Val.TheVariants as val
use Rattle.pt_val.specs.declared.val.Val.TheOpen as shape
use Rattle.pt_val.specs.declared.val.Val.TheViews.{out-Val, out-roll-Val}
use Rattle.pt_typed.specs.Shown.{pair_of}
use Rattle.pt_typed.specs.Reading.{number_of, members_in, members_of, first_in, first_of, second_in, second_of}
use Rattle.pt_typed.specs.Sets.{IsBetween}

both-bounds : (lo hi number : ℤ) → lo ≤ℤ number → number ≤ℤ hi → int_le lo number && int_le number hi ≡ true
both-bounds lo hi number low high = grind (arith, common_steps)

-- a function that may be called between two bounds may be called on what is drawn between them
pub between-tested : (lo hi : ℤ) (value : Val) → IsBetween lo hi value → int_le lo (number_of value) && int_le (number_of value) hi ≡ true
between-tested lo hi value is = rw is.1 (both-bounds lo hi is.0 is.2 is.3)

-- the members of a list and of a tuple
pub members_list : (members : List Val) → members_of (val.List members) ≡ members
members_list members = ap members_in (ap out-Val (sym (val.rolls-List members)) ∙ out-roll-Val (shape.List members))

pub members_tuple : (members : List Val) → members_of (val.Tuple members) ≡ members
members_tuple members = ap members_in (ap out-Val (sym (val.rolls-Tuple members)) ∙ out-roll-Val (shape.Tuple members))

-- and of a pair
pub first_pair : (first second : Val) → first_of (pair_of first second) ≡ first
first_pair first second = ap (first_in (pair_of first second)) (members_tuple (first ∷ second ∷ []))

pub second_pair : (first second : Val) → second_of (pair_of first second) ≡ second
second_pair first second = ap (second_in (pair_of first second)) (members_tuple (first ∷ second ∷ []))
