-- Names in byte order, once each.
use Rattle.std.proofs.Common.{◌≡◌, sym, ap, refl, subst, ℕ, List, [], ◌∷◌, arith, map, zero, suc, cond, Bool, true, false}
use Rattle.std.specs.Prelude.{AllPairs, All, Contains, nat_eq}
use Rattle.std.specs.Borrow.{Bor}
use Rattle.std.specs.List.{dedup}
use Rattle.std.specs.List.Sorted.{IsPermutation}
use Rattle.std.specs.Cmp.Lexicographic.{pointwise, nat_list_eq_equiv, bytes_decides}
use Rattle.std.proofs.lemmas.List.Elements.{All-nil, All-cons}
use Rattle.std.proofs.lemmas.List.Kept.{AllPairs-cons, Contains-dedup, Contains-from_dedup}
use Rattle.std.proofs.lemmas.List.Sorted.{IsPermutation-map, IsPermutation-sym, Contains-permutation}
use Rattle.pt_disk.proofs.Named.{same_bytes}
use Rattle.pt_real.specs.FileNames.{HaveSame}

module _ {X Y : Type 0} (f : X → Y) (R : Y → Y → Type 0) where
  All-map : (y : Y) (xs : List X) → All (λ x. R y (f x)) xs → All (R y) (map f xs)
  All-map y [] all = All-nil (R y)
  All-map y (x ∷ xs) all = All-cons (R y) (f x) (map f xs) (all zero x (omega arith)) (All-map y xs (λ k d within. all (suc k) d (omega (arith, within))))

  -- what holds of each pair, by what its members give, holds of each pair of these
  pub AllPairs-map : (xs : List X) → AllPairs (λ x z. R (f x) (f z)) xs → AllPairs R (map f xs)
  AllPairs-map [] pairs = λ i j d before within. absurd (omega arith)
  AllPairs-map (x ∷ xs) pairs =
      AllPairs-cons R (f x) (map f xs)
      (All-map (f x) xs (λ k d within. pairs zero (suc k) d (omega arith) (omega (arith, within))))
      (AllPairs-map xs (λ i j d before within. pairs (suc i) (suc j) d (omega (arith, before)) (omega (arith, within))))

abbrev pub bytes_at : Bor (List ℕ) → List ℕ
bytes_at one = one.now

either : (b : Bool) (last : Bor (List ℕ)) (same other : List (Bor (List ℕ))) (same_at other_at : List (List ℕ)) → map bytes_at same ≡ same_at → map bytes_at other ≡ other_at →
    map bytes_at (cond b same (last ∷ other)) ≡ cond b same_at (last.now ∷ other_at)
either true last same other same_at other_at skipped kept = skipped
either false last same other same_at other_at skipped kept = ap (λ rest. last.now ∷ rest) kept

-- what is kept of the references is what is kept of their bytes
map-dedup_from : (last : Bor (List ℕ)) (xs : List (Bor (List ℕ))) → map bytes_at (dedup same_bytes (last ∷ xs)) ≡ dedup (pointwise nat_eq) (bytes_at last ∷ map bytes_at xs)
map-dedup_from last [] = refl
map-dedup_from last (x ∷ xs) = either (pointwise nat_eq x.now last.now) last _ _ _ _ (map-dedup_from last xs) (map-dedup_from x xs)

pub map-dedup : (xs : List (Bor (List ℕ))) → map bytes_at (dedup same_bytes xs) ≡ dedup (pointwise nat_eq) (map bytes_at xs)
map-dedup [] = refl
map-dedup (x ∷ xs) = map-dedup_from x xs

-- names that were put in another order, and kept once each, are the same ones
pub HaveSame-dedup : (names other : List (Bor (List ℕ))) → IsPermutation names other → HaveSame (map bytes_at (dedup same_bytes other)) (map bytes_at names)
HaveSame-dedup names other permuted = λ name.
    let moved = IsPermutation-map bytes_at names other permuted in
    let kept = map-dedup other in (
      λ contains. Contains-permutation (map bytes_at other) (map bytes_at names) name (IsPermutation-sym (map bytes_at names) (map bytes_at other) moved)
          (Contains-from_dedup (pointwise nat_eq) (map bytes_at other) name (subst (λ (l : List (List ℕ)). Contains l name) kept contains)),
      λ contains. subst (λ (l : List (List ℕ)). Contains l name) (sym kept)
          (Contains-dedup nat_list_eq_equiv (λ x y is. (bytes_decides x y).0 is) (map bytes_at other) name
          (Contains-permutation (map bytes_at names) (map bytes_at other) name moved contains)),
    )
