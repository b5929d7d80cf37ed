-- The order of choices, and of lists of them.
use Rattle.std.specs.Prelude.{◌≡◌, ◌⊎◌, ℕ, zero, suc, ◌-◌, ◌*◌, true, false, ℤ, pos, negsuc, List, [], ◌∷◌, length}
use Rattle.std.specs.declared.cmp.Ordering.{Ordering}
use Rattle.std.specs.declared.cmp.Ordering.TheVariants.{Less}
use Rattle.std.specs.Ordering.{nat_cmp, ordering_then}
use Rattle.std.specs.Cmp.Lexicographic.{slice_cmp}
use Rattle.pt_choice.specs.declared.choice.Choice.{Choice}
use Rattle.pt_choice.specs.declared.choice.Choice.TheVariants as choice

-- where an integer stands among 0, 1, -1, 2, -2 and so on
abbrev pub integer_place : ℤ → ℕ
integer_place (pos zero) = 0
integer_place (pos (suc n)) = 2 * suc n - 1
integer_place (negsuc n) = 2 * suc n

-- the numbers by which a choice is compared: its sort, and then its value or its length and its members
abbrev pub choice_key : Choice → List ℕ
choice_key (choice.Bool false) = 0 ∷ 0 ∷ []
choice_key (choice.Bool true) = 0 ∷ 1 ∷ []
choice_key (choice.Int value) = 1 ∷ integer_place value ∷ []
choice_key (choice.Bytes bytes) = 2 ∷ length bytes ∷ bytes
choice_key (choice.Text places) = 3 ∷ length places ∷ places

-- two choices compare as their keys do, lexicographically
abbrev pub cmp_choice : Choice → Choice → Ordering
cmp_choice a b = slice_cmp nat_cmp (choice_key a) (choice_key b)

-- two lists compare by their lengths, and where these are equal by the first place at which the lists differ
abbrev pub shortlex : List Choice → List Choice → Ordering
shortlex a b = ordering_then (nat_cmp (length a) (length b)) (slice_cmp cmp_choice a b)

-- the one choice comes before the other
abbrev pub IsBelow : Choice → Choice → Type 0
IsBelow a b = cmp_choice a b ≡ Less

-- the one list comes before the other
abbrev pub IsShorter : List Choice → List Choice → Type 0
IsShorter a b = shortlex a b ≡ Less

-- one of three facts holds, and no other
abbrev pub ExactlyOne : Type 0 → Type 0 → Type 0 → Type 0
ExactlyOne P Q R = (P × ¬ Q × ¬ R) ⊎ ((¬ P × Q × ¬ R) ⊎ (¬ P × ¬ Q × R))

-- of any two things one comes before the other or they are the same, and what comes before comes before all that follows
pub record IsStrictOrder {X : Type 0} (Before : X → X → Type 0) : Type 0 where
  pub total : (a b : X) → ExactlyOne (Before a b) (a ≡ b) (Before b a)
  pub transitive : (a b c : X) → Before a b → Before b c → Before a c
