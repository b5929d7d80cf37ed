-- Two orders of one set are one list, so what is read of one set spells the same lists.
use Rattle.std.proofs.Common.{◌≡◌, ◌⊎◌, inl, inr, ⊎_elim, ℕ, zero, suc, ◌<◌, List, [], ◌∷◌, Option, Some, None, length, map, refl, sym, ◌∙◌, ap, subst, arith}
use Rattle.std.specs.Prelude.{◌↔◌, All, Contains}
use Rattle.std.specs.List.{AllByRecursion, slice_index_or}
use Rattle.std.specs.Ordering.{nat_cmp}
use Rattle.std.specs.declared.cmp.Ordering.TheVariants.{Less}
use Rattle.std.specs.Cmp.Lexicographic.{slice_cmp, nat_list_cmp_total}
use Rattle.pt_choice.specs.declared.choice.Choice.{Choice}
use Rattle.pt_stored.specs.Digest.{file_name}
use Rattle.pt_wire.specs.Unpacked.{Unpacks, IsUnpacked}
use Rattle.pt_wire.specs.declared.unpacking.Unpacked.{Unpacked}
use Rattle.pt_edits.specs.Readings.{IsSpelled, AreInFileOrder, list_in, lists_of}
use Rattle.pt_edits.specs.declared.reading.Reading.{Reading}

-- ---- lists in order

pub here : {X : Type 0} (x : X) (xs : List X) → Contains (x ∷ xs) x
here x xs = (0, omega arith, refl)

pub there : {X : Type 0} (y : X) (xs : List X) (x : X) → Contains xs x → Contains (y ∷ xs) x
there y xs x (k, within, at) = (suc k, omega (arith, within), at)

pub first-or-later : {X : Type 0} (y : X) (xs : List X) (x : X) → Contains (y ∷ xs) x → (y ≡ x) ⊎ Contains xs x
first-or-later y xs x (zero, within, at) = inl at
first-or-later y xs x (suc k, within, at) = inr (k, omega (arith, within), at)

module _ {X : Type 0} (R : X → X → Type 0) where
  abbrev IsOrdered : List X → Type 0
  IsOrdered [] = Unit {0}
  IsOrdered (x ∷ xs) = AllByRecursion (R x) xs × IsOrdered xs

  all-later : (P : X → Type 0) (xs : List X) (x : X) → AllByRecursion P xs → Contains xs x → P x
  all-later P [] x all (k, within, at) = absurd (omega (arith, within))
  all-later P (y ∷ ys) x all among = ⊎_elim (λ is. subst P is all.0) (λ later. all-later P ys x all.1 later) (first-or-later y ys x among)

  module _ (never : (x y : X) → R x y → R y x → ⊥) where
    first-same : (x y : X) (xs ys : List X) → IsOrdered (x ∷ xs) → IsOrdered (y ∷ ys) → Contains (y ∷ ys) x → Contains (x ∷ xs) y → x ≡ y
    first-same x y xs ys one other among inside =
        ⊎_elim (λ is. sym is)
        (λ later. ⊎_elim (λ is. is)
        (λ after. absurd (never x y (all-later (R x) xs y one.0 after) (all-later (R y) ys x other.0 later)))
        (first-or-later x xs y inside))
        (first-or-later y ys x among)

    later-still : (x y : X) (xs ys : List X) → x ≡ y → IsOrdered (x ∷ xs) → ((z : X) → Contains (x ∷ xs) z → Contains (y ∷ ys) z) →
        (z : X) → Contains xs z → Contains ys z
    later-still x y xs ys same one within z among =
        ⊎_elim
        (λ is. let twice : R x z = all-later (R x) xs z one.0 among in
        let itself : R x x = subst (R x) (sym (same ∙ is)) twice in
        absurd (never x x itself itself))
        (λ later. later)
        (first-or-later y ys z (within z (there x xs z among)))

    pub one-order : (xs ys : List X) → IsOrdered xs → IsOrdered ys → ((z : X) → Contains xs z ↔ Contains ys z) → xs ≡ ys
    one-order [] [] one other same = refl
    one-order [] (y ∷ ys) one other same = let none = (same y).1 (here y ys) in absurd (omega (arith, none.1))
    one-order (x ∷ xs) [] one other same = let none = (same x).0 (here x xs) in absurd (omega (arith, none.1))
    one-order (x ∷ xs) (y ∷ ys) one other same =
        let first : x ≡ y = first-same x y xs ys one other ((same x).0 (here x xs)) ((same y).1 (here y ys)) in
        let rest : xs ≡ ys = one-order xs ys one.1 other.1 (λ z. (
          later-still x y xs ys first one (λ z among. (same z).0 among) z,
          later-still y x ys xs (sym first) other (λ z among. (same z).1 among) z,
        )) in
        cc

-- ---- readings in the order of their files

abbrev IsBefore : List ℕ → List ℕ → List ℕ → Type 0
IsBefore digest one other = slice_cmp nat_cmp (file_name digest one) (file_name digest other) ≡ Less

never-both : (digest one other : List ℕ) → IsBefore digest one other → IsBefore digest other one → ⊥
never-both digest one other first second =
    let turned = nat_list_cmp_total.antisymm (file_name digest one) (file_name digest other) in
    cc

all-after : (digest : List ℕ) (first : Reading) (readings : List Reading) →
    ((k : ℕ) (d : Reading) → k < length readings → IsBefore digest first.bytes (slice_index_or readings k d).bytes) →
    AllByRecursion (IsBefore digest first.bytes) (map (λ reading. reading.bytes) readings)
all-after digest first [] all = tt
all-after digest first (reading ∷ readings) all =
    (all 0 reading (omega arith), all-after digest first readings (λ k d within. all (suc k) d (omega (arith, within))))

in-order : (digest : List ℕ) (readings : List Reading) → AreInFileOrder digest readings →
    IsOrdered (IsBefore digest) (map (λ reading. reading.bytes) readings)
in-order digest [] ordered = tt
in-order digest (reading ∷ readings) ordered = (
  all-after digest reading readings (λ k d within. ordered 0 (suc k) d (omega arith) (omega (arith, within))),
  in-order digest readings (λ i j d before within. ordered (suc i) (suc j) d (omega (arith, before)) (omega (arith, within))),
)

-- ---- what they spell

module _ (one-list : (list other : List Choice) (bytes : List ℕ) → Unpacks bytes list → Unpacks bytes other → list ≡ other) where
  one-spelled : (bytes : List ℕ) (one other : Option Unpacked) → IsUnpacked bytes one → IsUnpacked bytes other → list_in one ≡ list_in other
  one-spelled bytes None None a b = refl
  one-spelled bytes (Some one) (Some other) a b = ap (λ list. list ∷ []) (one-list one.list other.list bytes a.0 b.0)
  one-spelled bytes None (Some other) a b = absurd (a other.list b.0)
  one-spelled bytes (Some one) None a b = absurd (b one.list a.0)

  same-lists : (ones others : List Reading) → All IsSpelled ones → All IsSpelled others →
      map (λ reading. reading.bytes) ones ≡ map (λ reading. reading.bytes) others → lists_of ones ≡ lists_of others
  same-lists [] [] a b same = refl
  same-lists [] (other ∷ others) a b same = cc
  same-lists (one ∷ ones) [] a b same = cc
  same-lists (one ∷ ones) (other ∷ others) a b same =
      let first : one.bytes ≡ other.bytes = cc in
      let rest : map (λ reading. reading.bytes) ones ≡ map (λ reading. reading.bytes) others = cc in
      let its = a 0 one (omega arith) in
      let there = b 0 other (omega arith) in
      let spelled = one-spelled other.bytes one.unpacked other.unpacked (subst (λ bytes. IsUnpacked bytes one.unpacked) first its) there in
      let more = same-lists ones others (λ k d within. a (suc k) d (omega (arith, within))) (λ k d within. b (suc k) d (omega (arith, within))) rest in
      cc

  -- readings of one set
  pub one-reading : (digest : List ℕ) (ones others : List Reading) → AreInFileOrder digest ones → AreInFileOrder digest others → All IsSpelled ones →
      All IsSpelled others →
      ((b : List ℕ) → Contains (map (λ reading. reading.bytes) ones) b ↔ Contains (map (λ reading. reading.bytes) others) b) →
      lists_of ones ≡ lists_of others
  one-reading digest ones others first second a b same =
      same-lists ones others a b
      (one-order (IsBefore digest) (never-both digest) _ _ (in-order digest ones first) (in-order digest others second) same)
