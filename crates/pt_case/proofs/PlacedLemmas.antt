-- Spans stay placed.
use Rattle.std.proofs.Common.{◌≡◌, ◌⊎◌, ℕ, zero, suc, ◌+◌, Option, Some, None, List, [], ◌∷◌, ◌++◌, length, map, take, inl, inr, refl, ap, subst, arith}
use Rattle.std.specs.Prelude.{slice_get}
use Rattle.pt_case.specs.declared.span.Span.{Span}
use Rattle.pt_case.specs.declared.region.Region.{Region}
use Rattle.pt_case.specs.Placed.{IsPlaced, ArePlaced}
use Rattle.pt_case.specs.Region.{ended, spans_at}

-- a member of a list with one more at its end is an earlier member or that one
pub get_pushed : {X : Type 0} (xs : List X) (last : X) (i : ℕ) (x : X) → slice_get (xs ++ last ∷ []) i ≡ Some x →
    ((slice_get xs i ≡ Some x) × (take i (xs ++ last ∷ []) ≡ take i xs))
    ⊎ ((i ≡ length xs) × (x ≡ last) × (take i (xs ++ last ∷ []) ≡ xs))
get_pushed [] last zero x e = inr (refl, cc, refl)
get_pushed [] last (suc i) x e = cc
get_pushed (y ∷ ys) last zero x e = inl (e, refl)
get_pushed (y ∷ ys) last (suc i) x e = elim (get_pushed ys last i x e) [
  | inl h ↦ inl (h.0, ap (λ zs. y ∷ zs) h.1)
  | inr h ↦ inr (ap suc h.0, h.1, ap (λ zs. y ∷ zs) h.2)
]

-- a member of a mapped list comes from one of the list
pub get_mapped : {X Y : Type 0} (f : X → Y) (xs : List X) (i : ℕ) (y : Y) → slice_get (map f xs) i ≡ Some y →
    (x : X) × (slice_get xs i ≡ Some x) × (f x ≡ y)
get_mapped f [] i y e = cc
get_mapped f (x ∷ xs) zero y e = (x, refl, cc)
get_mapped f (x ∷ xs) (suc i) y e = get_mapped f xs i y e

pub placed-pushed : (count : ℕ) (spans : List Span) (span : Span) →
    ArePlaced count spans → IsPlaced (length spans) count span → ArePlaced count (spans ++ span ∷ [])
placed-pushed count spans span all one number other e = elim (get_pushed spans span number other e) [
  | inl h ↦ all number other h.0
  | inr h ↦ rw (h.0, h.1) one
]

-- one more choice does no harm
region-grown : (number count : ℕ) (region : Region) → IsPlaced number count (ended count region) → IsPlaced number (count + 1) (ended (count + 1) region)
region-grown number count region is = ended_so region.to is
  where
    ended_so : (to : Option ℕ) → IsPlaced number count (ended count (record region { to = to })) → IsPlaced number (count + 1) (ended (count + 1) (record region { to = to }))
    ended_so (Some end) is = record { begins = is.begins; ends = omega arith; earlier = is.earlier }
    ended_so None is = record { begins = omega arith; ends = omega arith; earlier = is.earlier }

pub placed-grown : (count : ℕ) (regions : List Region) →
    ArePlaced count (spans_at count regions) → ArePlaced (count + 1) (spans_at (count + 1) regions)
placed-grown count regions all number span e =
    let from = get_mapped (ended (count + 1)) regions number span e in
    let was = all number (ended count from.0) (mapped regions number from.0 from.1) in
    subst (λ s. IsPlaced number (count + 1) s) from.2 (region-grown number count from.0 was)
  where
    mapped : (rs : List Region) (i : ℕ) (r : Region) → slice_get rs i ≡ Some r → slice_get (spans_at count rs) i ≡ Some (ended count r)
    mapped [] i r g = cc
    mapped (x ∷ rs) zero r g = cc
    mapped (x ∷ rs) (suc i) r g = mapped rs i r g
