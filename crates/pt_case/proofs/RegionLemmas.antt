-- How open spans nest.
use Rattle.std.proofs.Common.{◌≡◌, ◌⊎◌, ℕ, zero, suc, ◌<◌, Bool, true, false, Option, Some, None, List, [], ◌∷◌, ◌++◌, length, take, inl, inr, refl, ap, arith}
use Rattle.std.specs.Prelude.{slice_get, slice_set, is_none, if◌then◌else◌}
use Rattle.std.specs.Option.{option_or, option_map}
use Rattle.pt_case.specs.declared.region.Region.{Region}
use Rattle.pt_case.specs.Kept.{AreNested}
use Rattle.pt_case.specs.Region.{is_open, ended, spans_at, innermost, leave_innermost}
use Rattle.pt_case.proofs.PlacedLemmas.{get_pushed}

-- the innermost open span of a list is the innermost of its tail or, where none is open there, its head
innermost-cases : (region : Region) (regions : List Region) (i : ℕ) → innermost (region ∷ regions) ≡ Some i →
    ((j : ℕ) × (innermost regions ≡ Some j) × (i ≡ suc j)) ⊎ ((innermost regions ≡ None) × (is_open region ≡ true) × (i ≡ 0))
innermost-cases region regions i e = split (innermost regions) (is_open region) e
  where
    split : (later : Option ℕ) (here : Bool) → option_or (option_map suc later) (if here then Some 0 else None) ≡ Some i →
        ((j : ℕ) × (later ≡ Some j) × (i ≡ suc j)) ⊎ ((later ≡ None) × (here ≡ true) × (i ≡ 0))
    split (Some j) here e = inl (j, refl, cc)
    split None true e = inr (refl, refl, cc)
    split None false e = cc

pub innermost-within : (regions : List Region) (i : ℕ) → innermost regions ≡ Some i → i < length regions
innermost-within [] i e = cc
innermost-within (region ∷ regions) i e = elim (innermost-cases region regions i e) [
  | inl h ↦ let below = innermost-within regions h.0 h.1 in omega (arith, h.2)
  | inr h ↦ omega (arith, h.2)
]

none-cases : (region : Region) (regions : List Region) → innermost (region ∷ regions) ≡ None → (innermost regions ≡ None) × (is_open region ≡ false)
none-cases region regions e = split (innermost regions) (is_open region) e
  where
    split : (later : Option ℕ) (here : Bool) → option_or (option_map suc later) (if here then Some 0 else None) ≡ None → (later ≡ None) × (here ≡ false)
    split (Some j) here e = cc
    split None true e = cc
    split None false e = (refl, refl)

none_open : (regions : List Region) (i : ℕ) (region : Region) → innermost regions ≡ None → slice_get regions i ≡ Some region → is_open region ≡ true → ⊥
none_open [] i region e g o = cc
none_open (x ∷ regions) zero region e g o =
    let same : x ≡ region = cc in
    let shut = rw same at (none-cases x regions e).1 in
    cc
none_open (x ∷ regions) (suc i) region e g o = none_open regions i region (none-cases x regions e).0 g o

pub innermost-open : (regions : List Region) (i : ℕ) (region : Region) → innermost regions ≡ Some i → slice_get regions i ≡ Some region → is_open region ≡ true
innermost-open [] i region e g = cc
innermost-open (x ∷ regions) zero region e g = elim (innermost-cases x regions zero e) [
  | inl h ↦ absurd (omega (arith, h.2))
  | inr h ↦ let same : x ≡ region = cc in rw (← same) h.1
]
innermost-open (x ∷ regions) (suc i) region e g = elim (innermost-cases x regions (suc i) e) [
  | inl h ↦ let same : i ≡ h.0 = omega (arith, h.2) in innermost-open regions i region (rw same h.1) g
  | inr h ↦ absurd (omega (arith, h.2))
]

-- leaving the innermost open span writes that span
pub leave-set : (here : ℕ) (regions : List Region) (i : ℕ) (region : Region) → innermost regions ≡ Some i →
    slice_get regions i ≡ Some region → leave_innermost here regions ≡ slice_set regions i (record region { to = Some here })
leave-set here [] i region e g = cc
leave-set here (x ∷ regions) zero region e g = elim (innermost-cases x regions zero e) [
  | inl h ↦ absurd (omega (arith, h.2))
  | inr h ↦ let same : x ≡ region = cc in rw (h.0, same) refl
]
leave-set here (x ∷ regions) (suc i) region e g = elim (innermost-cases x regions (suc i) e) [
  | inl h ↦ let same : i ≡ h.0 = omega (arith, h.2) in
      let found : innermost regions ≡ Some i = rw same h.1 in
      rw found (ap (λ rs. x ∷ rs) (leave-set here regions i region found g))
  | inr h ↦ absurd (omega (arith, h.2))
]

-- then the innermost is the innermost of those before it
pub innermost-left : (here : ℕ) (regions : List Region) (i : ℕ) → innermost regions ≡ Some i →
    innermost (leave_innermost here regions) ≡ innermost (take i regions)
innermost-left here [] i e = cc
innermost-left here (x ∷ regions) zero e = elim (innermost-cases x regions zero e) [
  | inl h ↦ absurd (omega (arith, h.2))
  | inr h ↦ rw h.0 (rw h.0 refl)
]
innermost-left here (x ∷ regions) (suc i) e = elim (innermost-cases x regions (suc i) e) [
  | inl h ↦ let same : i ≡ h.0 = omega (arith, h.2) in
      let found : innermost regions ≡ Some i = rw same h.1 in
      let later = innermost-left here regions i found in
      rw found (ap (λ o. option_or (option_map suc o) (if is_open x then Some 0 else None)) later)
  | inr h ↦ absurd (omega (arith, h.2))
]

-- a span that is still open then was open before, and what is before it stays
still_open : (here : ℕ) (regions : List Region) (i number : ℕ) (region : Region) → innermost regions ≡ Some i →
    slice_get (leave_innermost here regions) number ≡ Some region → is_open region ≡ true →
    (slice_get regions number ≡ Some region) × (take number (leave_innermost here regions) ≡ take number regions)
still_open here [] i number region e g o = cc
still_open here (x ∷ regions) i zero region e g o = elim (innermost-cases x regions i e) [
  | inl h ↦ (rw h.1 at g, refl)
  | inr h ↦
      let found : slice_get (record x { to = Some here } ∷ regions) 0 ≡ Some region = rw h.0 at g in
      let same : record x { to = Some here } ≡ region = cc in
      let shut : is_open region ≡ false = rw (← same) refl in
      cc
]
still_open here (x ∷ regions) i (suc n) region e g o = elim (innermost-cases x regions i e) [
  | inl h ↦
      let rest = still_open here regions h.0 n region h.1 (rw h.1 at g) o in
      (rest.0, rw h.1 (ap (λ rs. x ∷ rs) rest.1))
  | inr h ↦ absurd (none_open regions n region h.0 (rw h.0 at g) o)
]

pub nested-left : (here : ℕ) (regions : List Region) (i : ℕ) → innermost regions ≡ Some i → AreNested regions → AreNested (leave_innermost here regions)
nested-left here regions i e all number region g o =
    let was = still_open here regions i number region e g o in
    rw was.1 (all number region was.0 o)

-- and the spans that a record shows are the same
pub spans-left : (here : ℕ) (regions : List Region) (i : ℕ) → innermost regions ≡ Some i → spans_at here (leave_innermost here regions) ≡ spans_at here regions
spans-left here [] i e = cc
spans-left here (x ∷ regions) i e = elim (innermost-cases x regions i e) [
  | inl h ↦ rw h.1 (ap (λ spans. ended here x ∷ spans) (spans-left here regions h.0 h.1))
  | inr h ↦ rw h.0 (ap (λ span. span ∷ spans_at here regions) (shut x.to h.1))
]
  where
    shut : (to : Option ℕ) → is_none to ≡ true → ended here (record x { to = Some here }) ≡ ended here (record x { to = to })
    shut None o = refl
    shut (Some end) o = cc

-- a span that is entered is the innermost
pub innermost-pushed : (regions : List Region) (last : Region) → is_open last ≡ true → innermost (regions ++ last ∷ []) ≡ Some (length regions)
innermost-pushed [] last o = rw o refl
innermost-pushed (x ∷ regions) last o = rw (innermost-pushed regions last o) refl

pub nested-pushed : (regions : List Region) (last : Region) → AreNested regions → last.parent ≡ innermost regions → AreNested (regions ++ last ∷ [])
nested-pushed regions last all parent number region g o = elim (get_pushed regions last number region g) [
  | inl h ↦ rw h.1 (all number region h.0 o)
  | inr h ↦ rw (h.2, h.1) parent
]
