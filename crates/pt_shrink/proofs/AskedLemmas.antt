-- The place at which a step differs.
use Rattle.std.proofs.Common.{◌≡◌, ◌≢◌, ◌⊎◌, ℕ, zero, suc, ◌+◌, ◌*◌, ◌<◌, ℤ, unsigned_abs, pos, negsuc, neg_ℤ, ◌-◌, true, false, Option, Some, None, List, [], ◌∷◌, ◌++◌, length, take, drop, get_or, slice_get, is_none, sym, ap, ◌∙◌, refl, subst, arith, inl, inr, length-append}
use Rattle.std.specs.declared.cmp.Ordering.{Ordering}
use Rattle.std.specs.declared.cmp.Ordering.TheVariants.{Less, Equal, Greater}
use Rattle.std.specs.Ordering.{ordering_index, ordering_reverse}
use Rattle.std.specs.Prelude.{◌==◌, IsTrue}
use Rattle.std.proofs.lemmas.Bool.{cases_lt, true≢false}
use Rattle.pt_choice.specs.declared.choice.Choice.{Choice}
use Rattle.pt_choice.specs.declared.choice.Choice.TheVariants as choice
use Rattle.pt_choice.specs.Order.{cmp_choice}
use Rattle.pt_choice.proofs.OrderLemmas.{cmp_choice-exact, cmp_choice-total}
use Rattle.pt_cand.specs.Lower.{nearer}
use Rattle.pt_found.specs.Leap.{IsLeap}

own_reverse : (o : Ordering) → o ≡ ordering_reverse o → o ≡ Equal
own_reverse Less is = cc
own_reverse Equal is = refl
own_reverse Greater is = cc

decides : (a b : Choice) (o : Ordering) → cmp_choice a b ≡ o → (a ≡ b → o ≡ Equal) →
    (IsTrue (ordering_index o == 1) → a ≡ b) × (a ≡ b → IsTrue (ordering_index o == 1))
decides a b Less is equal = (λ no. cc, λ same. let e = equal same in cc)
decides a b Equal is equal = (λ yes_. cmp_choice-exact a b is, λ same. refl)
decides a b Greater is equal = (λ no. cc, λ same. let e = equal same in cc)

pub same-decides : (a b : Choice) →
    (IsTrue (ordering_index (cmp_choice a b) == 1) → a ≡ b) × (a ≡ b → IsTrue (ordering_index (cmp_choice a b) == 1))
same-decides a b = decides a b (cmp_choice a b) refl (λ same. subst (λ x. cmp_choice a x ≡ Equal) same (own_reverse (cmp_choice a a) (cmp_choice-total.antisymm a a)))

-- the members of two lists that differ at one place
mid-get : (front : List Choice) (x : Choice) (back : List Choice) (d : Choice) → get_or (front ++ x ∷ back) (length front) d ≡ x
mid-get [] x back d = refl
mid-get (c ∷ front) x back d = mid-get front x back d

mid-take : (front : List Choice) (x : Choice) (back : List Choice) → take (length front) (front ++ x ∷ back) ≡ front
mid-take [] x back = refl
mid-take (c ∷ front) x back = ap (λ l. c ∷ l) (mid-take front x back)

mid-drop : (front : List Choice) (x : Choice) (back : List Choice) (n : ℕ) → n ≡ suc (length front) → drop n (front ++ x ∷ back) ≡ back
mid-drop front x back zero is = absurd (omega (arith, is))
mid-drop [] x back (suc n) is = let none : n ≡ 0 = omega (arith, is) in subst (λ m. drop m back ≡ back) (sym none) refl
mid-drop (c ∷ front) x back (suc n) is = mid-drop front x back n (omega (arith, is))

other-get : (front : List Choice) (x y : Choice) (back : List Choice) (k : ℕ) → k ≢ length front → slice_get (front ++ x ∷ back) k ≡ slice_get (front ++ y ∷ back) k
other-get [] x y back zero other = absurd (other refl)
other-get [] x y back (suc k) other = refl
other-get (c ∷ front) x y back zero other = refl
other-get (c ∷ front) x y back (suc k) other = other-get front x y back k (λ same. other (ap suc same))

same_or_not : (a b : ℕ) → (a ≡ b) ⊎ (a ≢ b)
same_or_not a b = elim (cases_lt a b) [
  | inl less ↦ inr (λ e. omega (arith, e, less))
  | inr other ↦ elim (cases_lt b a) [ inl less ↦ inr (λ e. omega (arith, e, less)) | inr both ↦ inl (omega (arith, other, both)) ]
]

-- the place is that of the step
pub leap-place : (old new asked : List Choice) (at : ℕ) (leap : IsLeap old new asked) → slice_get old at ≢ slice_get new at → at ≡ length leap.front
leap-place old new asked at leap differ = elim (same_or_not at (length leap.front)) [
  | inl same ↦ same
  | inr other ↦ absurd (differ (ap (λ l. slice_get l at) leap.before ∙ other-get leap.front (choice.Int leap.was) (choice.Int leap.now) leap.back at other
      ∙ sym (ap (λ l. slice_get l at) leap.after)))
]

pub leap-was : (old new asked : List Choice) (at : ℕ) (d : Choice) (leap : IsLeap old new asked) → at ≡ length leap.front → get_or old at d ≡ choice.Int leap.was
leap-was old new asked at d leap is =
    ap (λ l. get_or l at d) leap.before ∙ ap (λ n. get_or (leap.front ++ choice.Int leap.was ∷ leap.back) n d) is ∙ mid-get leap.front (choice.Int leap.was) leap.back d

pub leap-now : (old new asked : List Choice) (at : ℕ) (d : Choice) (leap : IsLeap old new asked) → at ≡ length leap.front → get_or new at d ≡ choice.Int leap.now
leap-now old new asked at d leap is =
    ap (λ l. get_or l at d) leap.after ∙ ap (λ n. get_or (leap.front ++ choice.Int leap.now ∷ leap.back) n d) is ∙ mid-get leap.front (choice.Int leap.now) leap.back d

-- what is asked for
pub leap-asked : (old new asked : List Choice) (at : ℕ) (value : Choice) (leap : IsLeap old new asked) → at ≡ length leap.front →
    value ≡ choice.Int (nearer leap.now (2 * leap.size)) → take at new ++ value ∷ drop (at + 1) new ≡ asked
leap-asked old new asked at value leap is to =
    let front = ap (λ l. take at l) leap.after ∙ ap (λ n. take n (leap.front ++ choice.Int leap.now ∷ leap.back)) is ∙ mid-take leap.front (choice.Int leap.now) leap.back in
    let back = ap (λ l. drop (at + 1) l) leap.after ∙ mid-drop leap.front (choice.Int leap.now) leap.back (at + 1) (omega (arith, is)) in
    ap (λ f. f ++ value ∷ drop (at + 1) new) front ∙ ap (λ b. leap.front ++ value ∷ b) back ∙ ap (λ v. leap.front ++ v ∷ leap.back) to ∙ sym leap.leap

-- the step is one between lists of one length, and its integers differ
pub leap-length : (old new asked : List Choice) → IsLeap old new asked → length old ≡ length new
leap-length old new asked leap =
    let a = ap length leap.before ∙ length-append leap.front (choice.Int leap.was ∷ leap.back) in
    let b = ap length leap.after ∙ length-append leap.front (choice.Int leap.now ∷ leap.back) in
    omega (arith, a, b)

mid-slice : (front : List Choice) (x : Choice) (back : List Choice) → slice_get (front ++ x ∷ back) (length front) ≡ Some x
mid-slice [] x back = refl
mid-slice (c ∷ front) x back = mid-slice front x back

abs_neg : (n : ℕ) → unsigned_abs (neg_ℤ (pos n)) ≡ n
abs_neg zero = refl
abs_neg (suc n) = omega arith

nearer-abs : (was : ℤ) (size : ℕ) → unsigned_abs (nearer was size) ≡ unsigned_abs was - size
nearer-abs (pos n) size = refl
nearer-abs (negsuc n) size = abs_neg (n + 1 - size) ∙ omega arith

abbrev value_of : Choice → Option Choice → Choice
value_of d None = d
value_of d (Some x) = x

some_same : (one other : Choice) → Some one ≡ Some other → one ≡ other
some_same one other same = ap (λ o. value_of one o) same

abbrev int_of : Choice → ℤ
int_of (choice.Int v) = v
int_of (choice.Bool v) = pos 0
int_of (choice.Bytes v) = pos 0
int_of (choice.Text v) = pos 0

-- at the place of a step the lists differ
pub leap-differs : (old new asked : List Choice) (leap : IsLeap old new asked) → slice_get old (length leap.front) ≢ slice_get new (length leap.front)
leap-differs old new asked leap same =
    let a = ap (λ l. slice_get l (length leap.front)) leap.before ∙ mid-slice leap.front (choice.Int leap.was) leap.back in
    let b = ap (λ l. slice_get l (length leap.front)) leap.after ∙ mid-slice leap.front (choice.Int leap.now) leap.back in
    let ints : leap.was ≡ leap.now = ap int_of (some_same (choice.Int leap.was) (choice.Int leap.now) (sym a ∙ same ∙ b)) in
    let size : unsigned_abs leap.was ≡ unsigned_abs leap.was - leap.size = ap unsigned_abs (ints ∙ leap.stepped) ∙ nearer-abs leap.was leap.size in
    let here = ap unsigned_abs ints in
    let moved = leap.moved in
    let room = leap.room in
    omega (arith, size, here, moved, room)

pub leap-within : (old new asked : List Choice) (leap : IsLeap old new asked) → length leap.front < length old
leap-within old new asked leap =
    let a = ap length leap.before ∙ length-append leap.front (choice.Int leap.was ∷ leap.back) in
    omega (arith, a)

pub choice_same : {one other : Choice} → Some one ≡ Some other → one ≡ other
choice_same {one} {other} same = some_same one other same

pub none_some : {P : Type 0} {v : Choice} → None ≡ Some v → P
none_some same = let no : true ≡ false = ap is_none same in absurd (true≢false no)
