-- A list of places that is counted up from its end.
use Rattle.std.proofs.Common.{◌≡◌, ◌<◌, ◌≤◌, ◌+◌, ℕ, zero, suc, Some, None, List, [], ◌∷◌, ◌++◌, length, replicate, refl, sym, ◌∙◌, ap, subst, arith, append_assoc, length-append}
use Rattle.std.specs.Prelude.{get_or, slice_set}
use Rattle.std.proofs.lemmas.List.{length-replicate}
use Rattle.pt_tree.specs.Above.{AreUnder, IsNextList}
use Rattle.pt_tree.proofs.AboveLemmas.{AreFull, counted, next-counted, next-longer, next-none}

-- from this place on all were at their ends, and are zeros now
pub record IsCounting (size : ℕ) (after : List ℕ) (index : ℕ) (now : List ℕ) : Type 0 where
  pub first : List ℕ
  pub behind : List ℕ
  pub are : after ≡ first ++ behind
  pub count : length first ≡ index
  pub zeroed : now ≡ first ++ replicate (length behind) 0
  pub full : AreFull size behind

append_nil : (xs : List ℕ) → xs ++ [] ≡ xs
append_nil [] = refl
append_nil (x ∷ xs) = ap (λ ys. x ∷ ys) (append_nil xs)

pub counting-new : (size : ℕ) (after : List ℕ) → IsCounting size after (length after) after
counting-new size after = record { first = after; behind = []; are = sym (append_nil after); count = refl; zeroed = sym (append_nil after); full = tt }

-- the last of some places
record IsSplit (xs : List ℕ) (count : ℕ) : Type 0 where
  first : List ℕ
  last : ℕ
  are : xs ≡ first ++ last ∷ []
  as_many : length first ≡ count

split : (xs : List ℕ) (count : ℕ) → length xs ≡ count + 1 → IsSplit xs count
split [] count same = absurd (omega (arith, same))
split (x ∷ []) count same = record { first = []; last = x; are = refl; as_many = omega (arith, same) }
split (x ∷ y ∷ xs) zero same = absurd (omega (arith, same))
split (x ∷ y ∷ xs) (suc count) same =
    let rest = split (y ∷ xs) count (omega (arith, same)) in
    record { first = x ∷ rest.first; last = rest.last; are = ap (λ ys. x ∷ ys) rest.are; as_many = ap suc rest.as_many }

get-seam : (first : List ℕ) (place : ℕ) (behind : List ℕ) (other : ℕ) → get_or (first ++ place ∷ behind) (length first) other ≡ place
get-seam [] place behind other = refl
get-seam (x ∷ first) place behind other = get-seam first place behind other

set-seam : (first : List ℕ) (place new : ℕ) (behind : List ℕ) → slice_set (first ++ place ∷ behind) (length first) new ≡ first ++ new ∷ behind
set-seam [] place new behind = refl
set-seam (x ∷ first) place new behind = ap (λ ys. x ∷ ys) (set-seam first place new behind)

-- what stands at the place before, and what becomes of the list where that is set
pub record IsAt (size : ℕ) (after : List ℕ) (index place : ℕ) (now : List ℕ) : Type 0 where
  pub first : List ℕ
  pub behind : List ℕ
  pub are : after ≡ first ++ place ∷ behind
  pub count : length first ≡ index
  pub set : (new : ℕ) → slice_set now index new ≡ first ++ new ∷ replicate (length behind) 0
  pub full : AreFull size behind

pub counting-at : (size : ℕ) (after : List ℕ) (last index : ℕ) (now : List ℕ) (place : ℕ) → IsCounting size after last now → last ≡ index + 1 →
    place ≡ get_or now index place → IsAt size after index place now
counting-at size after last index now place is next got =
    let parts = split is.first index (is.count ∙ next) in
    let zeros : List ℕ = replicate (length is.behind) 0 in
    let cut : now ≡ parts.first ++ parts.last ∷ zeros = is.zeroed ∙ ap (λ xs. xs ++ zeros) parts.are ∙ append_assoc parts.first (parts.last ∷ []) zeros in
    let there : get_or now index place ≡ parts.last =
    subst (λ n. get_or now n place ≡ parts.last) parts.as_many
    (subst (λ xs. get_or xs (length parts.first) place ≡ parts.last) (sym cut) (get-seam parts.first parts.last zeros place)) in
    let same : parts.last ≡ place = sym there ∙ sym got in
    record {
      first = parts.first;
      behind = is.behind;
      are = is.are ∙ ap (λ xs. xs ++ is.behind) parts.are ∙ append_assoc parts.first (parts.last ∷ []) is.behind ∙ ap (λ x. parts.first ++ x ∷ is.behind) same;
      count = parts.as_many;
      set = λ new. subst (λ n. slice_set now n new ≡ parts.first ++ new ∷ zeros) parts.as_many
          (subst (λ xs. slice_set xs (length parts.first) new ≡ parts.first ++ new ∷ zeros) (sym cut) (set-seam parts.first parts.last new zeros));
      full = is.full;
    }

-- a place at its end becomes a zero
pub counting-zeroed : (size : ℕ) (after : List ℕ) (index place : ℕ) (now : List ℕ) → IsAt size after index place now → size ≤ place + 1 →
    IsCounting size after index (slice_set now index 0)
counting-zeroed size after index place now at end = record {
  first = at.first;
  behind = place ∷ at.behind;
  are = at.are;
  count = at.count;
  zeroed = at.set 0;
  full = (end, at.full);
}

-- any other is raised, and that is the next list
pub counting-raised : (size most : ℕ) (after : List ℕ) (index place : ℕ) (now : List ℕ) → IsAt size after index place now → length after ≤ most →
    place + 1 < size → IsNextList size most after (Some (slice_set now index (place + 1)))
counting-raised size most after index place now at few room =
    let few' : length (at.first ++ place ∷ at.behind) ≤ most = subst (λ xs. length xs ≤ most) at.are few in
    let next = next-counted size most at.first place at.behind few' room at.full in
    subst (λ xs. IsNextList size most after (Some xs)) (sym (at.set (place + 1)))
    (subst (λ xs. IsNextList size most xs (Some (counted at.first place (length at.behind)))) (sym at.are) next)

empty : (xs : List ℕ) → length xs ≡ 0 → xs ≡ []
empty [] none = refl
empty (x ∷ xs) none = absurd (omega (arith, none))

zeros-push : (count : ℕ) → ◌++◌ {A = ℕ} (replicate count 0) (0 ∷ []) ≡ replicate (count + 1) 0
zeros-push zero = refl
zeros-push (suc count) = ap (λ xs. 0 ∷ xs) (zeros-push count) ∙ one_more
  where
    one_more : ◌≡◌ {A = List ℕ} (0 ∷ replicate (count + 1) 0) (replicate (suc count + 1) 0)
    one_more = let same : suc (count + 1) ≡ suc count + 1 = omega arith in ap (λ (n : ℕ). replicate n 0) same

-- where all were at their ends, one more zero makes the next list, or there is none
pub counting-all : (size : ℕ) (after now : List ℕ) → IsCounting size after 0 now → AreFull size after × (now ≡ replicate (length after) 0)
counting-all size after now is =
    let none : is.first ≡ [] = empty is.first is.count in
    let all : after ≡ is.behind = is.are ∙ ap (λ xs. xs ++ is.behind) none in (
      subst (λ xs. AreFull size xs) (sym all) is.full,
      is.zeroed ∙ ap (λ xs. xs ++ replicate (length is.behind) 0) none ∙ ap (λ xs. replicate (length xs) 0) (sym all),
    )

pub counting-longer : (size most : ℕ) (after now : List ℕ) → IsCounting size after 0 now → 0 < size → length now < most →
    IsNextList size most after (Some (now ++ 0 ∷ []))
counting-longer size most after now is some room =
    let all = counting-all size after now is in
    let long : length now ≡ length after = ap length all.1 ∙ length-replicate (length after) 0 in
    subst (λ xs. IsNextList size most after (Some xs)) (sym (ap (λ xs. xs ++ 0 ∷ []) all.1 ∙ zeros-push (length after)))
    (next-longer size most after some (omega (arith, long, room)) all.0)

pub counting-none : (size most : ℕ) (after now : List ℕ) → IsCounting size after 0 now → most ≤ length now → IsNextList size most after None
counting-none size most after now is long =
    let all = counting-all size after now is in
    let as_long : length now ≡ length after = ap length all.1 ∙ length-replicate (length after) 0 in
    next-none size most after (omega (arith, as_long, long)) all.0
