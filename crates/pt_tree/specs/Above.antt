-- The choice that follows another among those that a kind admits.
use Rattle.std.specs.Prelude.{◌≡◌, ◌≤◌, ◌<◌, ◌≤ℤ◌, ℕ, ℤ, true, Option, Some, None, List, length}
use Rattle.std.specs.List.{AllByRecursion}
use Rattle.std.specs.declared.cmp.Ordering.TheVariants.{Less}
use Rattle.std.specs.Ordering.{nat_cmp, ordering_then}
use Rattle.std.specs.Cmp.Lexicographic.{slice_cmp}
use Rattle.pt_choice.specs.Kind.{admits}
use Rattle.pt_choice.specs.Order.{IsBelow, integer_place}
use Rattle.pt_choice.specs.declared.choice.Choice.{Choice}
use Rattle.pt_choice.specs.declared.choice.Choice.TheVariants as choice
use Rattle.pt_choice.specs.declared.kind.Shape.{Shape}

-- each number is below this one
abbrev pub AreUnder : ℕ → List ℕ → Type 0
AreUnder size places = AllByRecursion (λ place. place < size) places

-- its bytes are bytes, if it has any
abbrev pub HasBytes : Choice → Type 0
HasBytes (choice.Bool value) = Unit {0}
HasBytes (choice.Int value) = Unit {0}
HasBytes (choice.Bytes bytes) = AreUnder 256 bytes
HasBytes (choice.Text places) = Unit {0}

-- the choice is one that answers a question of this kind
abbrev pub IsAnswer : Shape → Choice → Type 0
IsAnswer kind answer = (admits kind answer ≡ true) × HasBytes answer

-- the choice is an answer above the other, and no answer above that is below it
pub record IsLeastAbove (kind : Shape) (after next : Choice) : Type 0 where
  pub answers : IsAnswer kind next
  pub above : IsBelow after next
  pub least : (other : Choice) → IsAnswer kind other → IsBelow after other → ¬ IsBelow other next

-- it is that choice, or there is none above
abbrev pub IsNextAdmitted : Shape → Choice → Option Choice → Type 0
IsNextAdmitted kind after (Some next) = IsLeastAbove kind after next
IsNextAdmitted kind after None = (other : Choice) → IsAnswer kind other → ¬ IsBelow after other

-- the integer stands before the other among 0, 1, -1, 2, -2 and so on
abbrev pub IsNearer : ℤ → ℤ → Type 0
IsNearer one other = integer_place one < integer_place other

-- of the integers within the bounds it is the next in that order, or there is none
abbrev pub IsNextInteger : ℤ → ℤ → ℤ → Option ℤ → Type 0
IsNextInteger lo hi after (Some next) = (lo ≤ℤ next) × (next ≤ℤ hi) × IsNearer after next
    × ((other : ℤ) → lo ≤ℤ other → other ≤ℤ hi → IsNearer after other → ¬ IsNearer other next)
IsNextInteger lo hi after None = (other : ℤ) → lo ≤ℤ other → other ≤ℤ hi → ¬ IsNearer after other

-- the list is shorter, or as long and before the other in the order of a dictionary
abbrev pub IsLower : List ℕ → List ℕ → Type 0
IsLower one other = ordering_then (nat_cmp (length one) (length other)) (slice_cmp nat_cmp one other) ≡ Less

-- of the lists of at most so many places that are below the size, it is the next in that order, or there is none
abbrev pub IsNextList : ℕ → ℕ → List ℕ → Option (List ℕ) → Type 0
IsNextList size most after (Some next) = (length after ≤ length next) × (length next ≤ most) × (AreUnder size after → AreUnder size next)
    × IsLower after next × ((other : List ℕ) → AreUnder size other → IsLower after other → ¬ IsLower other next)
IsNextList size most after None = (other : List ℕ) → length other ≤ most → AreUnder size other → ¬ IsLower after other
