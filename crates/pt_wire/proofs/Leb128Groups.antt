-- A number in groups, from its first group on.
use Rattle.std.proofs.Common.{◌≡◌, ℕ, ◌+◌, ◌*◌, ◌-◌, ◌/◌, ◌<◌, ◌≤◌, List, [], ◌∷◌, ◌++◌, refl, sym, ap, ◌∙◌, arith}
use Rattle.pt_wire.specs.Spelling.{Begins, FailsAt, StartsWith}
use Rattle.pt_wire.specs.Leb128.{IsLeb128, IsLeb128Within}
use Rattle.pt_wire.proofs.Failing.{fails_at_end, fails_here, fails_behind, starts_behind, starts_with_byte, begins_spelled}

-- no number is spelled by no bytes
pub groups_empty : (least most number : ℕ) → IsLeb128Within least most number [] → ⊥
groups_empty least most number h = h.0

-- one group more in front
pub group_more : (low high : ℕ) (bytes : List ℕ) → low < 128 → 0 < high → IsLeb128 high bytes → IsLeb128 (low + 128 * high) ((128 + low) ∷ bytes)
group_more low high [] small above spelled = absurd spelled
group_more low high (next ∷ others) small above spelled = (low, high, small, above, refl, refl, spelled)

-- the groups within bounds, behind a first group with more above it
pub group_within : (least most low high : ℕ) (bytes : List ℕ) → least ≤ 1 → low < 128 → IsLeb128Within 1 ((most - low) / 128) high bytes → low + 128 ≤ most
    → IsLeb128Within least most (low + 128 * high) ((128 + low) ∷ bytes)
group_within least most low high bytes one small (spelled, above, below) room =
    (group_more low high bytes small above spelled, omega arith, omega arith)

-- what stands behind a byte from 128 on
pub group_behind : (least most low number : ℕ) (bytes : List ℕ) → IsLeb128Within least most number ((128 + low) ∷ bytes)
    → (high : ℕ) × IsLeb128Within 1 ((most - low) / 128) high bytes × (number ≡ low + 128 * high)
group_behind least most low number [] (spelled, above, below) = absurd (omega arith)
group_behind least most low number (next ∷ others) ((low', high, small, positive, byte, whole, rest), above, below) =
    (high, (rest, positive, omega arith), omega arith)

-- the least number is spelled
begun : (least most : ℕ) → least ≤ 1 → least ≤ most → Begins (StartsWith (IsLeb128Within least most)) []
begun least most small ordered = begins_spelled (IsLeb128Within least most) least (least ∷ []) ((omega arith, refl), omega arith, ordered)

pub groups_end : (least most : ℕ) → least ≤ 1 → least ≤ most → FailsAt (StartsWith (IsLeb128Within least most)) [] 0
groups_end least most small ordered = fails_at_end (StartsWith (IsLeb128Within least most)) (begun least most small ordered) none where
  none : (number : ℕ) → StartsWith (IsLeb128Within least most) number [] → ⊥
  none number (after, ([], spelled, parts)) = spelled.0
  none number (after, (first ∷ front, spelled, parts)) = absurd cc

-- a last group out of bounds
pub group_refused : (least most first : ℕ) (others : List ℕ) → least ≤ 1 → least ≤ most → first < 128 → (least ≤ first → first ≤ most → ⊥)
    → FailsAt (StartsWith (IsLeb128Within least most)) (first ∷ others) 0
group_refused least most first others small ordered last out = fails_here (StartsWith (IsLeb128Within least most)) first others (begun least most small ordered) none where
  none : (number : ℕ) (rest : List ℕ) → StartsWith (IsLeb128Within least most) number (first ∷ rest) → ⊥
  none number rest (after, ([], spelled, parts)) = spelled.0
  none number rest (after, (byte ∷ [], (one, above, below), parts)) =
      let same : first ≡ byte = cc in
      out (omega arith) (omega arith)
  none number rest (after, (byte ∷ next ∷ front, ((low, high, bound, positive, more, whole, spelled), above, below), parts)) =
      let same : first ≡ byte = cc in
      absurd (omega arith)

-- a group with more above it than the bounds allow
pub group_too_great : (least most low : ℕ) (others : List ℕ) → least ≤ 1 → least ≤ most → most < low + 128
    → FailsAt (StartsWith (IsLeb128Within least most)) ((128 + low) ∷ others) 0
group_too_great least most low others small ordered great = fails_here (StartsWith (IsLeb128Within least most)) (128 + low) others (begun least most small ordered) none where
  none : (number : ℕ) (rest : List ℕ) → StartsWith (IsLeb128Within least most) number ((128 + low) ∷ rest) → ⊥
  none number rest (after, ([], spelled, parts)) = spelled.0
  none number rest (after, (byte ∷ [], (one, above, below), parts)) =
      let same : 128 + low ≡ byte = cc in
      absurd (omega arith)
  none number rest (after, (byte ∷ next ∷ front, ((low', high, bound, positive, more, whole, spelled), above, below), parts)) =
      let same : 128 + low ≡ byte = cc in
      absurd (omega arith)

-- the groups above fail where the whole does
pub groups_behind : (least most low place : ℕ) (others : List ℕ) → least ≤ 1 → low < 128 → low + 128 ≤ most
    → FailsAt (StartsWith (IsLeb128Within 1 ((most - low) / 128))) others place → FailsAt (StartsWith (IsLeb128Within least most)) ((128 + low) ∷ others) (place + 1)
groups_behind least most low place others small last room =
    let Inner = IsLeb128Within 1 ((most - low) / 128) in
    let Outer = IsLeb128Within least most in
    fails_behind (StartsWith Inner) (StartsWith Outer) (128 + low) others place (λ high. low + 128 * high)
    (starts_behind Inner Outer (128 + low) (λ high. low + 128 * high) (λ high rest h. group_within least most low high rest small last h room))
    (starts_with_byte Inner Outer (128 + low) (groups_empty least most) (λ number rest h. let b = group_behind least most low number rest h in (b.0, b.1)))

-- no spelling of a number begins another
pub one_number : (m n : ℕ) (f g x y : List ℕ) → IsLeb128 m f → IsLeb128 n g → f ++ x ≡ g ++ y → (m ≡ n) × (f ≡ g)
one_number m n [] g x y h k e = absurd h
one_number m n (b ∷ f) [] x y h k e = absurd k
one_number m n (b ∷ []) (c ∷ []) x y (below, is) (below', is') e = let same : b ≡ c = cc in (is ∙ same ∙ sym is', ap (λ d. d ∷ []) same)
one_number m n (b ∷ []) (c ∷ d ∷ g) x y (below, is) (low, high, small, positive, byte, whole, more) e = let same : b ≡ c = cc in absurd (omega arith)
one_number m n (b ∷ b' ∷ f) (c ∷ []) x y (low, high, small, positive, byte, whole, more) (below, is) e = let same : b ≡ c = cc in absurd (omega arith)
one_number m n (b ∷ b' ∷ f) (c ∷ c' ∷ g) x y (low, high, small, positive, byte, whole, more) (low', high', small', positive', byte', whole', more') e =
    let same : b ≡ c = cc in
    let behind : (b' ∷ f) ++ x ≡ (c' ∷ g) ++ y = cc in
    let rest = one_number high high' (b' ∷ f) (c' ∷ g) x y more more' behind in
    let highs = rest.0 in
    (omega arith, let others = rest.1 in cc)
