-- What follows a choice of a kind.
use Rattle.std.proofs.Common.{◌≡◌, ◌≤◌, ◌<◌, ◌≤ℤ◌, ℕ, ℤ, true, false, Bool, Some, None, List, [], ◌∷◌, length, refl, sym, ◌∙◌, arith, inl, inr}
use Rattle.std.specs.Prelude.{◌&&◌, nat_le, nat_lt, int_le}
use Rattle.std.specs.List.{list_all}
use Rattle.std.specs.declared.cmp.Ordering.{Ordering}
use Rattle.std.specs.declared.cmp.Ordering.TheVariants.{Less, Equal, Greater}
use Rattle.std.specs.Ordering.{MatchOrdering, nat_cmp, ordering_then}
use Rattle.std.proofs.lemmas.Cmp.{ranked}
use Rattle.std.proofs.lemmas.Bool.Decides.{nat_tests}
use Rattle.std.proofs.lemmas.Int.{ints}
use Rattle.pt_choice.specs.Kind.{admits}
use Rattle.pt_choice.specs.Order.{IsBelow, integer_place}
use Rattle.pt_choice.specs.declared.kind.Shape.{Shape}
use Rattle.pt_choice.specs.declared.kind.Shape.TheVariants as shape
use Rattle.pt_choice.specs.declared.choice.Choice.{Choice}
use Rattle.pt_choice.specs.declared.choice.Choice.TheVariants as choice
use Rattle.pt_tree.specs.Above.{AreUnder, IsAnswer, IsLeastAbove, IsNextAdmitted, IsNearer, IsNextInteger, IsLower, IsNextList}

both : (a b : Bool) → a && b ≡ true → (a ≡ true) × (b ≡ true)
both true true e = (refl, refl)
both true false e = cc
both false b e = cc

nearer-below : (one other : ℤ) → IsNearer one other → IsBelow (choice.Int one) (choice.Int other)
nearer-below one other is = by (nat_cmp (integer_place one) (integer_place other)) (ranked (integer_place one) (integer_place other) _ refl)
  where
    by : (o : Ordering) → MatchOrdering o (integer_place one < integer_place other) (integer_place one ≡ integer_place other) (integer_place other < integer_place one) →
        ordering_then o Equal ≡ Less
    by Less m = refl
    by Equal m = absurd (omega (arith, m, is))
    by Greater m = absurd (omega (arith, m, is))

below-nearer : (one other : ℤ) → IsBelow (choice.Int one) (choice.Int other) → IsNearer one other
below-nearer one other is = by (nat_cmp (integer_place one) (integer_place other)) (ranked (integer_place one) (integer_place other) _ refl) is
  where
    by : (o : Ordering) → MatchOrdering o (integer_place one < integer_place other) (integer_place one ≡ integer_place other) (integer_place other < integer_place one) →
        ordering_then o Equal ≡ Less → IsNearer one other
    by Less m e = m
    by Equal m e = cc
    by Greater m e = cc

bounds : (lo hi value : ℤ) → int_le lo value && int_le value hi ≡ true → (lo ≤ℤ value) × (value ≤ℤ hi)
bounds lo hi value is = let parts = both (int_le lo value) (int_le value hi) is in (grind (arith, ints, nat_tests), grind (arith, ints, nat_tests))

pub within-bounds : (lo hi value : ℤ) → lo ≤ℤ value → value ≤ℤ hi → int_le lo value && int_le value hi ≡ true
within-bounds lo hi value low high = grind (arith, ints, nat_tests)

pub integer-follows : (lo hi after next : ℤ) → IsNextInteger lo hi after (Some next) → IsLeastAbove (shape.Int lo hi) (choice.Int after) (choice.Int next)
integer-follows lo hi after next is = record {
  answers = (within-bounds lo hi next is.0 is.1, tt);
  above = nearer-below after next is.2;
  least = least;
}
  where
    least : (other : Choice) → IsAnswer (shape.Int lo hi) other → IsBelow (choice.Int after) other → ¬ IsBelow other (choice.Int next)
    least (choice.Int other) answers above below = let within = bounds lo hi other answers.0 in
        is.3 other within.0 within.1 (below-nearer after other above) (below-nearer other next below)
    least (choice.Bool other) answers above below = let no = answers.0 in cc
    least (choice.Bytes other) answers above below = let no = answers.0 in cc
    least (choice.Text other) answers above below = let no = answers.0 in cc

pub integer-last : (lo hi after : ℤ) → IsNextInteger lo hi after None → IsNextAdmitted (shape.Int lo hi) (choice.Int after) None
integer-last lo hi after is (choice.Int other) answers above =
    let within = bounds lo hi other answers.0 in is other within.0 within.1 (below-nearer after other above)
integer-last lo hi after is (choice.Bool other) answers above = let no = answers.0 in cc
integer-last lo hi after is (choice.Bytes other) answers above = let no = answers.0 in cc
integer-last lo hi after is (choice.Text other) answers above = let no = answers.0 in cc

lengths : (min max : ℕ) (places : List ℕ) → nat_le min (length places) && nat_le (length places) max ≡ true → (min ≤ length places) × (length places ≤ max)
lengths min max places is = let parts = both (nat_le min (length places)) (nat_le (length places) max) is in (grind (arith, nat_tests), grind (arith, nat_tests))

within-lengths : (min max : ℕ) (places : List ℕ) → min ≤ length places → length places ≤ max → nat_le min (length places) && nat_le (length places) max ≡ true
within-lengths min max places low high = grind (arith, nat_tests)

pub few-bytes : (min max : ℕ) (bytes : List ℕ) → admits (shape.Bytes min max) (choice.Bytes bytes) ≡ true → length bytes ≤ max
few-bytes min max bytes is = (lengths min max bytes is).1

pub bytes-follow : (min max : ℕ) (after next : List ℕ) → admits (shape.Bytes min max) (choice.Bytes after) ≡ true → AreUnder 256 after →
    IsNextList 256 max after (Some next) → IsLeastAbove (shape.Bytes min max) (choice.Bytes after) (choice.Bytes next)
bytes-follow min max after next admitted bytes is = record {
  answers = (within-lengths min max next (omega (arith, (lengths min max after admitted).0, is.0)) is.1, is.2 bytes);
  above = is.3;
  least = least;
}
  where
    least : (other : Choice) → IsAnswer (shape.Bytes min max) other → IsBelow (choice.Bytes after) other → ¬ IsBelow other (choice.Bytes next)
    least (choice.Bytes other) answers above below = is.4 other answers.1 above below
    least (choice.Bool other) answers above below = let no = answers.0 in cc
    least (choice.Int other) answers above below = let no = answers.0 in cc
    least (choice.Text other) answers above below = let no = answers.0 in cc

pub bytes-last : (min max : ℕ) (after : List ℕ) → IsNextList 256 max after None → IsNextAdmitted (shape.Bytes min max) (choice.Bytes after) None
bytes-last min max after is (choice.Bytes other) answers above = is other (lengths min max other answers.0).1 answers.1 above
bytes-last min max after is (choice.Bool other) answers above = let no = answers.0 in cc
bytes-last min max after is (choice.Int other) answers above = let no = answers.0 in cc
bytes-last min max after is (choice.Text other) answers above = let no = answers.0 in cc

under-tests : (size : ℕ) (places : List ℕ) → list_all (λ place. nat_lt place size) places ≡ true → AreUnder size places
under-tests size [] is = tt
under-tests size (place ∷ places) is = let parts = both (nat_lt place size) (list_all (λ p. nat_lt p size) places) is in
    (grind (arith, nat_tests), under-tests size places parts.1)

tests-under : (size : ℕ) (places : List ℕ) → AreUnder size places → list_all (λ place. nat_lt place size) places ≡ true
tests-under size [] is = refl
tests-under size (place ∷ places) is = let first = is.0 in let rest = tests-under size places is.1 in grind (arith, nat_tests)

text : (min max size : ℕ) (places : List ℕ) → admits (shape.Text min max size) (choice.Text places) ≡ true →
    (min ≤ length places) × (length places ≤ max) × AreUnder size places
text min max size places is =
    let parts = both (nat_le min (length places) && nat_le (length places) max) (list_all (λ place. nat_lt place size) places) is in
    let long = lengths min max places parts.0 in
    (long.0, long.1, under-tests size places parts.1)

of-text : (min max size : ℕ) (places : List ℕ) → min ≤ length places → length places ≤ max → AreUnder size places →
    admits (shape.Text min max size) (choice.Text places) ≡ true
of-text min max size places low high under =
    rw (within-lengths min max places low high, tests-under size places under) refl

pub few-places : (min max size : ℕ) (places : List ℕ) → admits (shape.Text min max size) (choice.Text places) ≡ true → length places ≤ max
few-places min max size places is = (text min max size places is).1

pub text-follows : (min max size : ℕ) (after next : List ℕ) → admits (shape.Text min max size) (choice.Text after) ≡ true →
    IsNextList size max after (Some next) → IsLeastAbove (shape.Text min max size) (choice.Text after) (choice.Text next)
text-follows min max size after next admitted is =
    let was = text min max size after admitted in
    record {
      answers = (of-text min max size next (omega (arith, was.0, is.0)) is.1 (is.2 was.2), tt);
      above = is.3;
      least = least;
    }
  where
    least : (other : Choice) → IsAnswer (shape.Text min max size) other → IsBelow (choice.Text after) other → ¬ IsBelow other (choice.Text next)
    least (choice.Text other) answers above below = is.4 other (text min max size other answers.0).2 above below
    least (choice.Bool other) answers above below = let no = answers.0 in cc
    least (choice.Int other) answers above below = let no = answers.0 in cc
    least (choice.Bytes other) answers above below = let no = answers.0 in cc

pub text-last : (min max size : ℕ) (after : List ℕ) → IsNextList size max after None → IsNextAdmitted (shape.Text min max size) (choice.Text after) None
text-last min max size after is (choice.Text other) answers above = let was = text min max size other answers.0 in is other was.1 was.2 above
text-last min max size after is (choice.Bool other) answers above = let no = answers.0 in cc
text-last min max size after is (choice.Int other) answers above = let no = answers.0 in cc
text-last min max size after is (choice.Bytes other) answers above = let no = answers.0 in cc

pub true-follows : (chance : ℕ) → IsLeastAbove (shape.Bool chance) (choice.Bool false) (choice.Bool true)
true-follows chance = record { answers = (refl, tt); above = refl; least = least }
  where
    least : (other : Choice) → IsAnswer (shape.Bool chance) other → IsBelow (choice.Bool false) other → ¬ IsBelow other (choice.Bool true)
    least (choice.Bool false) answers above below = cc
    least (choice.Bool true) answers above below = cc
    least (choice.Int other) answers above below = let no = answers.0 in cc
    least (choice.Bytes other) answers above below = let no = answers.0 in cc
    least (choice.Text other) answers above below = let no = answers.0 in cc

pub true-last : (chance : ℕ) → IsNextAdmitted (shape.Bool chance) (choice.Bool true) None
true-last chance (choice.Bool false) answers above = cc
true-last chance (choice.Bool true) answers above = cc
true-last chance (choice.Int other) answers above = let no = answers.0 in cc
true-last chance (choice.Bytes other) answers above = let no = answers.0 in cc
true-last chance (choice.Text other) answers above = let no = answers.0 in cc
