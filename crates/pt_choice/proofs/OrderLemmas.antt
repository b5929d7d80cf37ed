-- The order of lists of choices is total and tells them apart.
use Rattle.std.proofs.Common.{◌≡◌, ℤ, pos, negsuc, zero, suc, true, false, List, [], ◌∷◌, length, refl, ap, ◌∙◌, subst, arith, inl, inr}
use Rattle.std.specs.declared.cmp.Ordering.{Ordering}
use Rattle.std.specs.declared.cmp.Ordering.TheVariants.{Less, Equal, Greater}
use Rattle.std.specs.Ordering.{nat_cmp, ordering_then, ordering_reverse}
use Rattle.std.specs.Cmp.{IsTotalOrder}
use Rattle.std.specs.Cmp.Lexicographic.{slice_cmp}
use Rattle.std.proofs.lemmas.Cmp.{on_total, then_total, lists_total, nat_cmp_total, nat_list_cmp_total, tied_itself}
use Rattle.std.proofs.lemmas.Map.Lookups.{CmpEqualImpliesEq, exact_bytes}
use Rattle.pt_choice.specs.declared.choice.Choice.{Choice}
use Rattle.pt_choice.specs.declared.choice.Choice.TheVariants as choice
use Rattle.pt_choice.specs.Order.{integer_place, choice_key, cmp_choice, shortlex, IsShorter, ExactlyOne, IsStrictOrder}

integer_place-injective : (a b : ℤ) → integer_place a ≡ integer_place b → a ≡ b
integer_place-injective (pos zero) (pos zero) e = refl
integer_place-injective (pos zero) (pos (suc b)) e = absurd (omega arith)
integer_place-injective (pos zero) (negsuc b) e = absurd (omega arith)
integer_place-injective (pos (suc a)) (pos zero) e = absurd (omega arith)
integer_place-injective (pos (suc a)) (pos (suc b)) e = ap (λ n. pos (suc n)) (omega arith)
integer_place-injective (pos (suc a)) (negsuc b) e = absurd (omega arith)
integer_place-injective (negsuc a) (pos zero) e = absurd (omega arith)
integer_place-injective (negsuc a) (pos (suc b)) e = absurd (omega arith)
integer_place-injective (negsuc a) (negsuc b) e = ap negsuc (omega arith)

-- choices of one key are one choice
choice_key-injective : (a b : Choice) → choice_key a ≡ choice_key b → a ≡ b
choice_key-injective (choice.Bool false) (choice.Bool false) e = refl
choice_key-injective (choice.Bool true) (choice.Bool true) e = refl
choice_key-injective (choice.Int a) (choice.Int b) e =
    let same : integer_place a ≡ integer_place b = cc in
    ap choice.Int (integer_place-injective a b same)
choice_key-injective (choice.Bytes a) (choice.Bytes b) e = cc
choice_key-injective (choice.Text a) (choice.Text b) e = cc
choice_key-injective a (choice.Bool false) e = cc
choice_key-injective a (choice.Bool true) e = cc
choice_key-injective a b e = cc

then_Equal : (first second : Ordering) → ordering_then first second ≡ Equal → (first ≡ Equal) × (second ≡ Equal)
then_Equal Less second e = cc
then_Equal Equal second e = (refl, e)
then_Equal Greater second e = cc

pub cmp_choice-total : IsTotalOrder cmp_choice
cmp_choice-total = on_total choice_key nat_list_cmp_total

pub cmp_choice-exact : CmpEqualImpliesEq cmp_choice
cmp_choice-exact a b e = choice_key-injective a b (exact_bytes (choice_key a) (choice_key b) e)

pub shortlex-total : IsTotalOrder shortlex
shortlex-total = then_total (on_total length nat_cmp_total) (lists_total cmp_choice-total)

members-exact : (a b : List Choice) → slice_cmp cmp_choice a b ≡ Equal → a ≡ b
members-exact [] [] e = refl
members-exact [] (y ∷ ys) e = cc
members-exact (x ∷ xs) [] e = cc
members-exact (x ∷ xs) (y ∷ ys) e =
    let both = then_Equal (cmp_choice x y) (slice_cmp cmp_choice xs ys) e in
    let first = cmp_choice-exact x y both.0 in
    let others = members-exact xs ys both.1 in
    cc

pub shortlex-exact : CmpEqualImpliesEq shortlex
shortlex-exact a b e = members-exact a b (then_Equal (nat_cmp (length a) (length b)) (slice_cmp cmp_choice a b) e).1

-- no list is shorter than itself
pub not_shorter-itself : (list : List Choice) → ¬ IsShorter list list
not_shorter-itself list shorter = let same = tied_itself shortlex-total list in cc

-- of an order that tells apart what it compares, "comes before" is strict and total
module _ {X : Type 0} (cmp : X → X → Ordering) (order : IsTotalOrder cmp) (exact : CmpEqualImpliesEq cmp) where
  abbrev Before : X → X → Type 0
  Before a b = cmp a b ≡ Less

  same-ties : (a b : X) → a ≡ b → cmp a b ≡ Equal
  same-ties a b same = subst (λ (x : X). cmp a x ≡ Equal) same (tied_itself order a)

  one_of : (a b : X) (answer : Ordering) → cmp a b ≡ answer → ExactlyOne (Before a b) (a ≡ b) (Before b a)
  one_of a b Less e =
      let back : cmp b a ≡ Greater = order.antisymm b a ∙ ap ordering_reverse e in
      inl (e, (λ (same : a ≡ b). let tie = same-ties a b same in cc), (λ (after : Before b a). cc))
  one_of a b Equal e =
      let back : cmp b a ≡ Equal = order.antisymm b a ∙ ap ordering_reverse e in
      inr (inl ((λ (before : Before a b). cc), exact a b e, (λ (after : Before b a). cc)))
  one_of a b Greater e =
      let back : cmp b a ≡ Less = order.antisymm b a ∙ ap ordering_reverse e in
      inr (inr ((λ (before : Before a b). cc), (λ (same : a ≡ b). let tie = same-ties a b same in cc), back))

  pub strict : IsStrictOrder Before
  strict = record { total = λ a b. one_of a b (cmp a b) refl; transitive = order.trans }
