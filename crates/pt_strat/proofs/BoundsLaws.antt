-- What bounds are where they come to something.
use Rattle.std.proofs.Common.{◌≡◌, ℕ, ◌≤◌, ℤ, ◌≤ℤ◌, pos, negsuc, Bool, true, false, Result, Ok, Err, List, refl, sym, ◌∙◌, ap, arith}
use Rattle.std.specs.Prelude.{int_lt, ◌||◌, if◌then◌else◌}
use Rattle.std.proofs.lemmas.Int.{ints}
use Rattle.pt_val.specs.declared.place.Place.{Place}
use Rattle.pt_val.specs.declared.val.Val.{Val}
use Rattle.pt_case.specs.declared.ending.What.TheVariants.{Bounds}
use Rattle.pt_case.specs.declared.ending.Origin.{Origin}
use Rattle.pt_ast.specs.declared.binding.Binding.{Binding}
use Rattle.pt_ast.specs.Trees.{ExprTree}
use Rattle.pt_eval.specs.Parts.{number_of}
use Rattle.pt_eval.specs.Steps.{fault, after}
use Rattle.pt_eval.specs.Value.{evaluated}
use Rattle.pt_strat.specs.declared.bounds.Range.{Range}
use Rattle.pt_strat.specs.declared.bounds.Lengths.{Lengths}
use Rattle.pt_strat.specs.Bounds.{both_of, count_of, in_order, as_lengths, range_of, lengths_of}
use Rattle.pt_strat.specs.Member.{IsBetween}

-- what comes to something came to something first
pub after-ok : {A B : Type 0} (first : Result A Origin) (next : A → Result B Origin) (value : B) → after first next ≡ Ok value →
    (given : A) × (first ≡ Ok given) × (next given ≡ Ok value)
after-ok (Ok given) next value is = (given, refl, is)
after-ok (Err origin) next value is = cc

-- the numbers are those of two values
both-is : (lo hi : ExprTree) (env : List Binding) (range : Range) → both_of lo hi env ≡ Ok range →
    (a b : Val) × (evaluated lo env ≡ Ok a) × (evaluated hi env ≡ Ok b) × (range.lo ≡ number_of a) × (range.hi ≡ number_of b)
both-is lo hi env range is =
    let one = after-ok (evaluated lo env) _ range is in
    let other = after-ok (evaluated hi env) _ range one.2 in
    let same : record { lo = number_of one.0; hi = number_of other.0 } ≡ range = (let e = other.2 in cc) in
    (one.0, other.0, one.1, other.1, sym (ap (λ r. r.lo) same), sym (ap (λ r. r.hi) same))

ordered-is : (at : Place) (given range : Range) → in_order at given ≡ Ok range → given ≡ range
ordered-is at given range is = split (int_lt given.hi given.lo) is
  where
    split : (test : Bool) → (if test then fault Bounds at else Ok given) ≡ Ok range → given ≡ range
    split true is = cc
    split false is = cc

-- a number between the bounds of integers
pub between-range : (at : Place) (lo hi : ExprTree) (env : List Binding) (range : Range) (number : ℤ) → range_of at lo hi env ≡ Ok range →
    range.lo ≤ℤ number → number ≤ℤ range.hi → IsBetween lo hi env number
between-range at lo hi env range number is low high =
    let first = after-ok (both_of lo hi env) (in_order at) range is in
    let both = both-is lo hi env first.0 first.1 in
    let same = ordered-is at first.0 range first.2 in
    (both.0, both.1, both.2, both.3, rw (← both.4, same) low, rw (← both.5, same) high)

counted : (number : ℤ) → int_lt number (pos 0) ≡ false → number ≡ pos (count_of number)
counted (pos count) is = refl
counted (negsuc less) is = cc

lengths-are : (at : Place) (most : ℕ) (range : Range) (lengths : Lengths) → as_lengths at most range ≡ Ok lengths →
    (range.lo ≡ pos lengths.least) × (range.hi ≡ pos lengths.most) × (lengths.least ≤ lengths.most)
lengths-are at most range lengths is = split (int_lt range.lo (pos 0)) (int_lt range.hi range.lo) (int_lt (pos most) range.hi) refl refl is
  where
    split : (below crossed many : Bool) → int_lt range.lo (pos 0) ≡ below → int_lt range.hi range.lo ≡ crossed →
        (if below || crossed || many then fault Bounds at else Ok (record { least = count_of range.lo; most = count_of range.hi })) ≡ Ok lengths →
        (range.lo ≡ pos lengths.least) × (range.hi ≡ pos lengths.most) × (lengths.least ≤ lengths.most)
    split true crossed many low order is = cc
    split false true many low order is = cc
    split false false true low order is = cc
    split false false false low order is =
        let same : record { least = count_of range.lo; most = count_of range.hi } ≡ lengths = cc in
        let least : range.lo ≡ pos lengths.least = counted range.lo low ∙ ap (λ l. pos l.least) same in
        let most : range.hi ≡ pos lengths.most = counted range.hi (grind (arith, ints, low, order)) ∙ ap (λ l. pos l.most) same in
        (least, most, grind (arith, ints, least, most, order))

-- a number between the bounds of lengths, which are in order
pub between-lengths : (at : Place) (most : ℕ) (lo hi : ExprTree) (env : List Binding) (lengths : Lengths) (number : ℕ) → lengths_of at most lo hi env ≡ Ok lengths →
    lengths.least ≤ number → number ≤ lengths.most → IsBetween lo hi env (pos number)
between-lengths at most lo hi env lengths number is low high =
    let first = after-ok (both_of lo hi env) (as_lengths at most) lengths is in
    let both = both-is lo hi env first.0 first.1 in
    let same = lengths-are at most first.0 lengths first.2 in
    (both.0, both.1, both.2, both.3, rw (← both.4, same.0) (grind (arith, ints, low)), rw (← both.5, same.1) (grind (arith, ints, high)))

pub lengths-ordered : (at : Place) (most : ℕ) (lo hi : ExprTree) (env : List Binding) (lengths : Lengths) → lengths_of at most lo hi env ≡ Ok lengths →
    lengths.least ≤ lengths.most
lengths-ordered at most lo hi env lengths is =
    let first = after-ok (both_of lo hi env) (as_lengths at most) lengths is in (lengths-are at most first.0 lengths first.2).2
