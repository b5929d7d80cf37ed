-- A trail as the table that keeps it.
use Rattle.std.proofs.Common.{◌≡◌, ◌⊎◌, ◌<◌, ℕ, suc, Bool, true, false, cond, Option, Some, None, List, [], ◌∷◌, ◌++◌, map, length, is_some, sym, ap, ◌∙◌, refl, subst, inl, inr, arith}
use Rattle.std.specs.List.{Contains}
use Rattle.std.specs.Map.{lookup}
use Rattle.std.proofs.lemmas.List.{map-append}
use Rattle.pt_choice.specs.declared.choice.Choice.{Choice}
use Rattle.pt_choice.specs.Same.{same_choices}
use Rattle.pt_choice.proofs.SameLemmas.{same_choices-decides}
use Rattle.pt_found.specs.Tried.{Tried, tried_in}
use Rattle.pt_found.specs.Trail.{lists_of}
use Rattle.pt_found.proofs.VainLemmas.{among_first, not_among}

abbrev Pairs : Type 0
Pairs = List (List Choice × Bool)

here : (list : List Choice) (lists : List (List Choice)) (other : List Choice) → list ≡ other → Contains (list ∷ lists) other
here list lists other same = (0, omega arith, same)

later : (first : List Choice) (lists : List (List Choice)) (list : List Choice) → Contains lists list → Contains (first ∷ lists) list
later first lists list among = let within : among.0 < length lists = among.1 in (suc among.0, omega (arith, within), among.2)

module _ (list : List Choice) (pair : List Choice × Bool) (pairs : Pairs) where
  abbrev rest : Option Bool
  rest = lookup (same_choices list) pairs

  abbrev value : Bool → Bool
  value same = is_some (cond same (Some pair.1) rest)

  found-by : (same : Bool) → same_choices list pair.0 ≡ same → (is_some rest ≡ true → Contains (lists_of (tried_in pairs)) list) → value same ≡ true →
      Contains (pair.0 ∷ lists_of (tried_in pairs)) list
  found-by true is others found = here pair.0 (lists_of (tried_in pairs)) list (sym ((same_choices-decides list pair.0).0 is))
  found-by false is others found = later pair.0 (lists_of (tried_in pairs)) list (others found)

  tried-by : (same : Bool) → same_choices list pair.0 ≡ same → (Contains (lists_of (tried_in pairs)) list → is_some rest ≡ true) →
      Contains (pair.0 ∷ lists_of (tried_in pairs)) list → value same ≡ true
  tried-by true is others among = refl
  tried-by false is others among = elim (among_first pair.0 (lists_of (tried_in pairs)) list among) [
    | inl same ↦ let yes_ = (same_choices-decides list pair.0).1 (sym same) in absurd cc
    | inr other ↦ others other
  ]

pub found-tried : (list : List Choice) (pairs : Pairs) → is_some (lookup (same_choices list) pairs) ≡ true → Contains (lists_of (tried_in pairs)) list
found-tried list [] found = cc
found-tried list (pair ∷ pairs) found = found-by list pair pairs (same_choices list pair.0) refl (λ others. found-tried list pairs others) found

pub tried-found : (list : List Choice) (pairs : Pairs) → Contains (lists_of (tried_in pairs)) list → is_some (lookup (same_choices list) pairs) ≡ true
tried-found list [] among = not_among list among
tried-found list (pair ∷ pairs) among = tried-by list pair pairs (same_choices list pair.0) refl (λ others. tried-found list pairs others) among

no_value : (found : Option Bool) → ¬ (is_some found ≡ true) → found ≡ None
no_value None never = refl
no_value (Some value) never = absurd (never refl)

pub untried-absent : (list : List Choice) (pairs : Pairs) → ¬ Contains (lists_of (tried_in pairs)) list → lookup (same_choices list) pairs ≡ None
untried-absent list pairs untried = no_value (lookup (same_choices list) pairs) (λ found. untried (found-tried list pairs found))

pub tried-push : (pairs : Pairs) (list : List Choice) (accepted : Bool) →
    tried_in (pairs ++ (list, accepted) ∷ []) ≡ tried_in pairs ++ record { list = list; accepted = accepted } ∷ []
tried-push pairs list accepted = map-append _ pairs ((list, accepted) ∷ [])
