-- What follows an integer, and a list of places.
use Rattle.std.proofs.Common.{◌≡◌, ◌⊎◌, ◌<◌, ◌≤◌, ◌+◌, ◌≤ℤ◌, ◌+ℤ◌, ◌-ℤ◌, ℕ, ℤ, pos, negsuc, zero, suc, Option, Some, None, List, [], ◌∷◌, ◌++◌, length, replicate, inl, inr, refl, sym, ◌∙◌, ap, arith}
use Rattle.std.specs.declared.cmp.Ordering.{Ordering}
use Rattle.std.specs.declared.cmp.Ordering.TheVariants.{Less, Equal, Greater}
use Rattle.std.specs.Ordering.{MatchOrdering, nat_cmp, ordering_then}
use Rattle.std.specs.Cmp.Lexicographic.{slice_cmp}
use Rattle.std.specs.List.{AllByRecursion}
use Rattle.std.specs.Prelude.{get_or}
use Rattle.std.proofs.lemmas.Int.{ints}
use Rattle.std.proofs.lemmas.Cmp.{ranked}
use Rattle.std.proofs.lemmas.List.{length-replicate}
use Rattle.pt_choice.specs.Order.{integer_place}
use Rattle.pt_tree.specs.Above.{AreUnder, IsNearer, IsNextInteger, IsLower, IsNextList}

-- where an integer stands
placed : (value : ℤ) → ((pos 1 ≤ℤ value) × (pos (integer_place value + 1) ≡ value +ℤ value)) ⊎ ((value ≤ℤ pos 0) × ((pos (integer_place value) +ℤ value +ℤ value) ≡ pos 0))
placed (pos zero) = inr (grind (arith, ints), grind (arith, ints))
placed (pos (suc n)) = inl (grind (arith, ints), grind (arith, ints))
placed (negsuc n) = inr (grind (arith, ints), grind (arith, ints))

positive-place : (value : ℤ) → pos 1 ≤ℤ value → pos (integer_place value + 1) ≡ value +ℤ value
positive-place value is = elim (placed value) [ inl p ↦ p.1 | inr p ↦ absurd (grind (arith, ints)) ]

other-place : (value : ℤ) → value ≤ℤ pos 0 → (pos (integer_place value) +ℤ value +ℤ value) ≡ pos 0
other-place value is = elim (placed value) [ inl p ↦ absurd (grind (arith, ints)) | inr p ↦ p.1 ]

module _ (lo hi after next : ℤ) (low : lo ≤ℤ pos 0) (high : pos 0 ≤ℤ hi) (above : lo ≤ℤ after) (below : after ≤ℤ hi) where
  -- a positive integer is followed by its negative
  pub mirrored : pos 1 ≤ℤ after → lo ≤ℤ next → (next +ℤ after) ≡ pos 0 → IsNextInteger lo hi after (Some next)
  mirrored sign room is =
      let a = positive-place after sign in
      let n : (pos (integer_place next) +ℤ next +ℤ next) ≡ pos 0 = other-place next (grind (arith, ints)) in
      (room, grind (arith, ints), grind (arith, ints), λ other l h more less. grind (arith, ints))

  -- or by the next positive one
  pub risen : pos 1 ≤ℤ after → (pos 0 -ℤ after) ≤ℤ (lo -ℤ pos 1) → next ≤ℤ hi → next ≡ after +ℤ pos 1 → IsNextInteger lo hi after (Some next)
  risen sign low_end room is =
      let a = positive-place after sign in
      let n : pos (integer_place next + 1) ≡ next +ℤ next = positive-place next (grind (arith, ints)) in (
        grind (arith, ints),
        room,
        grind (arith, ints),
        λ other l h more less. elim (placed other) [
          | inl o ↦ grind (arith, ints)
          | inr o ↦ grind (arith, ints)
        ],
      )

  -- or by none
  pub ended : pos 1 ≤ℤ after → (pos 0 -ℤ after) ≤ℤ (lo -ℤ pos 1) → hi ≤ℤ after → IsNextInteger lo hi after None
  ended sign low_end high_end other l h more =
      let a = positive-place after sign in
      elim (placed other) [
        | inl o ↦ grind (arith, ints)
        | inr o ↦ grind (arith, ints)
      ]

  -- an integer that is not positive is followed by the next magnitude
  pub crossed : after ≤ℤ pos 0 → next ≤ℤ hi → (next +ℤ after) ≡ pos 1 → IsNextInteger lo hi after (Some next)
  crossed sign room is =
      let a = other-place after sign in
      let n : pos (integer_place next + 1) ≡ next +ℤ next = positive-place next (grind (arith, ints)) in
      (grind (arith, ints), room, grind (arith, ints), λ other l h more less. grind (arith, ints))

  -- which is negative where the positive one is past the bound
  pub sunk : after ≤ℤ pos 0 → hi ≤ℤ (pos 0 -ℤ after) → lo ≤ℤ next → next ≡ after -ℤ pos 1 → IsNextInteger lo hi after (Some next)
  sunk sign high_end room is =
      let a = other-place after sign in
      let n : (pos (integer_place next) +ℤ next +ℤ next) ≡ pos 0 = other-place next (grind (arith, ints)) in (
        room,
        grind (arith, ints),
        grind (arith, ints),
        λ other l h more less. elim (placed other) [
          | inl o ↦ grind (arith, ints)
          | inr o ↦ grind (arith, ints)
        ],
      )

  pub ended-below : after ≤ℤ pos 0 → hi ≤ℤ (pos 0 -ℤ after) → after ≤ℤ lo → IsNextInteger lo hi after None
  ended-below sign high_end low_end other l h more =
      let a = other-place after sign in
      elim (placed other) [
        | inl o ↦ grind (arith, ints)
        | inr o ↦ grind (arith, ints)
      ]

-- as lists of places of one length compare
abbrev pub IsFirst : List ℕ → List ℕ → Type 0
IsFirst [] other = ⊥
IsFirst (x ∷ xs) [] = ⊥
IsFirst (x ∷ xs) (y ∷ ys) = (x < y) ⊎ ((x ≡ y) × IsFirst xs ys)

first-by : (x y : ℕ) (xs ys : List ℕ) → (slice_cmp nat_cmp xs ys ≡ Less → IsFirst xs ys) →
    (o : Ordering) → MatchOrdering o (x < y) (x ≡ y) (y < x) → ordering_then o (slice_cmp nat_cmp xs ys) ≡ Less → IsFirst (x ∷ xs) (y ∷ ys)
first-by x y xs ys rest Less m e = inl m
first-by x y xs ys rest Equal m e = inr (m, rest e)
first-by x y xs ys rest Greater m e = cc

first-of : (xs ys : List ℕ) → length xs ≡ length ys → slice_cmp nat_cmp xs ys ≡ Less → IsFirst xs ys
first-of [] [] same e = cc
first-of [] (y ∷ ys) same e = absurd (omega (arith, same))
first-of (x ∷ xs) [] same e = absurd (omega (arith, same))
first-of (x ∷ xs) (y ∷ ys) same e = first-by x y xs ys (first-of xs ys (omega (arith, same))) (nat_cmp x y) (ranked x y (nat_cmp x y) refl) e

by-first : (x y : ℕ) (xs ys : List ℕ) → IsFirst (x ∷ xs) (y ∷ ys) → (IsFirst xs ys → slice_cmp nat_cmp xs ys ≡ Less) →
    (o : Ordering) → MatchOrdering o (x < y) (x ≡ y) (y < x) → ordering_then o (slice_cmp nat_cmp xs ys) ≡ Less
by-first x y xs ys is rest Less m = refl
by-first x y xs ys is rest Equal m = elim is [ inl less ↦ absurd (omega (arith, m, less)) | inr more ↦ rest more.1 ]
by-first x y xs ys is rest Greater m = elim is [ inl less ↦ absurd (omega (arith, m, less)) | inr more ↦ absurd (omega (arith, m, more.0)) ]

of-first : (xs ys : List ℕ) → IsFirst xs ys → slice_cmp nat_cmp xs ys ≡ Less
of-first [] ys is = absurd is
of-first (x ∷ xs) [] is = absurd is
of-first (x ∷ xs) (y ∷ ys) is = by-first x y xs ys is (of-first xs ys) (nat_cmp x y) (ranked x y (nat_cmp x y) refl)

-- when a list is lower
pub lower-cases : (one other : List ℕ) → IsLower one other → (length one < length other) ⊎ ((length one ≡ length other) × IsFirst one other)
lower-cases one other e = by (nat_cmp (length one) (length other)) (ranked (length one) (length other) (nat_cmp (length one) (length other)) refl) e
  where
    by : (o : Ordering) → MatchOrdering o (length one < length other) (length one ≡ length other) (length other < length one) →
        ordering_then o (slice_cmp nat_cmp one other) ≡ Less → (length one < length other) ⊎ ((length one ≡ length other) × IsFirst one other)
    by Less m e = inl m
    by Equal m e = inr (m, first-of one other m e)
    by Greater m e = cc

pub lower-shorter : (one other : List ℕ) → length one < length other → IsLower one other
lower-shorter one other less = by (nat_cmp (length one) (length other)) (ranked (length one) (length other) (nat_cmp (length one) (length other)) refl)
  where
    by : (o : Ordering) → MatchOrdering o (length one < length other) (length one ≡ length other) (length other < length one) →
        ordering_then o (slice_cmp nat_cmp one other) ≡ Less
    by Less m = refl
    by Equal m = absurd (omega (arith, m, less))
    by Greater m = absurd (omega (arith, m, less))

pub lower-first : (one other : List ℕ) → length one ≡ length other → IsFirst one other → IsLower one other
lower-first one other same is = by (nat_cmp (length one) (length other)) (ranked (length one) (length other) (nat_cmp (length one) (length other)) refl)
  where
    by : (o : Ordering) → MatchOrdering o (length one < length other) (length one ≡ length other) (length other < length one) →
        ordering_then o (slice_cmp nat_cmp one other) ≡ Less
    by Less m = absurd (omega (arith, m, same))
    by Equal m = of-first one other is
    by Greater m = absurd (omega (arith, m, same))

-- each place is at its end
abbrev pub AreFull : ℕ → List ℕ → Type 0
AreFull size places = AllByRecursion (λ place. size ≤ place + 1) places

-- nothing of the same length follows such a list
full-last : (size : ℕ) (xs ys : List ℕ) → AreFull size xs → AreUnder size ys → ¬ IsFirst xs ys
full-last size [] ys full under is = is
full-last size (x ∷ xs) [] full under is = is
full-last size (x ∷ xs) (y ∷ ys) full under is = elim is [
  | inl less ↦ absurd (omega (arith, full.0, under.0, less))
  | inr more ↦ full-last size xs ys full.1 under.1 more.1
]

-- nothing stands before zeros
zeros-first : (count : ℕ) (ys : List ℕ) → ¬ IsFirst ys (replicate count 0)
zeros-first zero [] is = is
zeros-first zero (y ∷ ys) is = is
zeros-first (suc count) [] is = is
zeros-first (suc count) (y ∷ ys) is = elim is [ inl less ↦ absurd (omega (arith, less)) | inr more ↦ zeros-first count ys more.1 ]

zeros-under : (size count : ℕ) → 0 < size → AreUnder size (replicate count 0)
zeros-under size zero some = tt
zeros-under size (suc count) some = (some, zeros-under size count some)

-- the list with a place raised and zeros behind it
abbrev pub counted : List ℕ → ℕ → ℕ → List ℕ
counted first place count = first ++ (place + 1) ∷ replicate count 0

counted-above : (first : List ℕ) (place : ℕ) (behind : List ℕ) → IsFirst (first ++ place ∷ behind) (counted first place (length behind))
counted-above [] place behind = inl (omega arith)
counted-above (x ∷ first) place behind = inr (refl, counted-above first place behind)

counted-least : (size : ℕ) (first : List ℕ) (place : ℕ) (behind other : List ℕ) → AreFull size behind → AreUnder size other →
    IsFirst (first ++ place ∷ behind) other → ¬ IsFirst other (counted first place (length behind))
counted-least size [] place behind [] full under above below = above
counted-least size [] place behind (y ∷ ys) full under above below = elim above [
  | inl less ↦ elim below [
    | inl more ↦ absurd (omega (arith, less, more))
    | inr more ↦ zeros-first (length behind) ys more.1
  ]
  | inr same ↦ full-last size behind ys full under.1 same.1
]
counted-least size (x ∷ first) place behind [] full under above below = above
counted-least size (x ∷ first) place behind (y ∷ ys) full under above below = elim above [
  | inl less ↦ elim below [ inl more ↦ absurd (omega (arith, less, more)) | inr more ↦ absurd (omega (arith, less, more.0)) ]
  | inr same ↦ elim below [
    | inl more ↦ absurd (omega (arith, same.0, more))
    | inr more ↦ counted-least size first place behind ys full under.1 same.1 more.1
  ]
]

counted-length : (first : List ℕ) (place : ℕ) (behind : List ℕ) → length (first ++ place ∷ behind) ≡ length (counted first place (length behind))
counted-length [] place behind = ap suc (sym (length-replicate (length behind) 0))
counted-length (x ∷ first) place behind = ap suc (counted-length first place behind)

counted-under : (size : ℕ) (first : List ℕ) (place : ℕ) (behind : List ℕ) → place + 1 < size → AreUnder size (first ++ place ∷ behind) →
    AreUnder size (counted first place (length behind))
counted-under size [] place behind room under = (room, zeros-under size (length behind) (omega (arith, room)))
counted-under size (x ∷ first) place behind room under = (under.0, counted-under size first place behind room under.1)

-- a place that is not at its end is raised, where all behind it are
pub next-counted : (size most : ℕ) (first : List ℕ) (place : ℕ) (behind : List ℕ) → length (first ++ place ∷ behind) ≤ most → place + 1 < size →
    AreFull size behind → IsNextList size most (first ++ place ∷ behind) (Some (counted first place (length behind)))
next-counted size most first place behind few room full =
    let same = counted-length first place behind in
    let after = first ++ place ∷ behind in
    let next = counted first place (length behind) in (
      omega (arith, same),
      omega (arith, same, few),
      counted-under size first place behind room,
      lower-first after next same (counted-above first place behind),
      λ other under above below. elim (lower-cases after other above) [
        | inl longer ↦ elim (lower-cases other next below) [
          | inl shorter ↦ absurd (omega (arith, same, longer, shorter))
          | inr equal ↦ absurd (omega (arith, same, longer, equal.0))
        ]
        | inr first_ ↦ elim (lower-cases other next below) [
          | inl shorter ↦ absurd (omega (arith, same, first_.0, shorter))
          | inr equal ↦ counted-least size first place behind other full under first_.1 equal.1
        ]
      ],
    )

-- where all are at their ends, the zeros of the next length follow
pub next-longer : (size most : ℕ) (after : List ℕ) → 0 < size → length after + 1 ≤ most → AreFull size after →
    IsNextList size most after (Some (replicate (length after + 1) 0))
next-longer size most after some room full =
    let next : List ℕ = replicate (length after + 1) 0 in
    let long : length next ≡ length after + 1 = length-replicate (length after + 1) 0 in (
      omega (arith, long),
      omega (arith, long, room),
      λ under. zeros-under size (length after + 1) some,
      lower-shorter after next (omega (arith, long)),
      λ other under above below. elim (lower-cases after other above) [
        | inl longer ↦ elim (lower-cases other next below) [
          | inl shorter ↦ absurd (omega (arith, long, longer, shorter))
          | inr equal ↦ zeros-first (length after + 1) other equal.1
        ]
        | inr first_ ↦ full-last size after other full under first_.1
      ],
    )

-- and none, where that is too long
pub next-none : (size most : ℕ) (after : List ℕ) → most ≤ length after → AreFull size after → IsNextList size most after None
next-none size most after long full other few under above = elim (lower-cases after other above) [
  | inl longer ↦ absurd (omega (arith, long, few, longer))
  | inr first_ ↦ full-last size after other full under first_.1
]

under-from : (size : ℕ) (places : List ℕ) → ((k : ℕ) → k < length places → get_or places k 0 < size) → AreUnder size places
under-from size [] each = tt
under-from size (place ∷ places) each = (each 0 (omega arith), under-from size places (λ k few. each (suc k) (omega (arith, few))))
