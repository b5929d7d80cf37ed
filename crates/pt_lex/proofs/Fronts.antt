-- Fronts of lists.
use Rattle.std.proofs.Common.{◌≡◌, ℕ, Bool, true, false, ◌&&◌, ◌≤◌, List, [], ◌∷◌, ◌++◌, length, refl, arith}
use Rattle.std.specs.List.{list_all}

-- nothing that passes stands at the front
abbrev pub Stops : (ℕ → Bool) → List ℕ → Type 0
Stops test [] = Unit {0}
Stops test (char ∷ text) = test char ≡ false

pub and_left : (a b : Bool) → (a && b) ≡ true → a ≡ true
and_left true b e = refl
and_left false b e = e

pub and_right : (a b : Bool) → (a && b) ≡ true → b ≡ true
and_right true b e = e
and_right false b e = absurd cc

head_same : (a b : ℕ) (xs ys : List ℕ) → a ∷ xs ≡ b ∷ ys → a ≡ b
head_same a b xs ys e = cc

pub tail_same : (a b : ℕ) (xs ys : List ℕ) → a ∷ xs ≡ b ∷ ys → xs ≡ ys
tail_same a b xs ys e = cc

-- what passes goes no further than where the spelling stops
pub no_longer : (test : ℕ → Bool) (front rest longer more : List ℕ) → Stops test rest → list_all test longer ≡ true → front ++ rest ≡ longer ++ more → length longer ≤ length front
no_longer test front rest [] more stops all e = omega arith
no_longer test [] [] (a ∷ longer) more stops all e = absurd cc
no_longer test [] (b ∷ rest) (a ∷ longer) more stops all e =
    let no : test a ≡ false = cc in
    let yes : test a ≡ true = and_left (test a) (list_all test longer) all in
    absurd cc
no_longer test (b ∷ front) rest (a ∷ longer) more stops all e =
    omega (arith, no_longer test front rest longer more stops (and_right (test a) (list_all test longer) all) (tail_same b a (front ++ rest) (longer ++ more) e))

-- two fronts of one spelling that are as long are one
pub same_front : (a x b y : List ℕ) → a ++ x ≡ b ++ y → length a ≡ length b → (a ≡ b) × (x ≡ y)
same_front [] x [] y e n = (refl, e)
same_front [] x (c ∷ b) y e n = absurd (omega arith)
same_front (d ∷ a) x [] y e n = absurd (omega arith)
same_front (d ∷ a) x (c ∷ b) y e n =
    let more = same_front a x b y (tail_same d c (a ++ x) (b ++ y) e) (omega arith) in
    let h : d ≡ c = cc in
    (rw (h, more.0) refl, more.1)
