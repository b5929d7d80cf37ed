-- Types that are kept once.
use Rattle.std.proofs.Common.{◌≡◌, ℕ, zero, suc, ◌+◌, ◌<◌, Bool, true, false, Some, List, [], ◌∷◌, ◌++◌, length, get_or, eqb, inl, inr, refl, sym, ◌∙◌, ap, subst, append_assoc, arith}
use Rattle.std.specs.Prelude.{slice_get, ◌&&◌, if◌then◌else◌}
use Rattle.std.specs.List.{IsDistinct}
use Rattle.std.proofs.lemmas.List.{append-nil, length-append}
use Rattle.std.proofs.lemmas.Bool.{cases_order, eqb-true, eq-eqb}
use Rattle.std.proofs.lemmas.Bool.Decides.{eqb_tells}
use Rattle.std.proofs.lemmas.Option.{slice_get_within, slice_get-get_or, get_or_from_slice_get}
use Rattle.std.proofs.lemmas.Map.Keys.{apart_from_distinct}
use Rattle.pt_ast.specs.Types.{TypeTree, Int_type, Bool_type, Text_type, Bytes_type, Tree_type, List_type, Tuple_type, TypeTrees, no_type, more_type}
use Rattle.pt_typing.specs.Serving.{IsTuple}
use Rattle.pt_typing.specs.Served.{same_type}
use Rattle.pt_typing.proofs.Types.{same-self as types-self, same-is as types-same}
use Rattle.pt_types.specs.declared.shape.Shape.{Shape}
use Rattle.pt_types.specs.declared.shape.Shape.TheVariants as shape
use Rattle.pt_types.specs.contracts.shape.ShapePartialEq.TheImpl.{eq-value}
use Rattle.pt_types.specs.Kept.{type_at, type_of, types_under, tree_of, IsWithin, grown, trees_of, AreOrderedFrom, AreOrdered, StandOnce, AreKept, Keeps, base_shapes}

-- a type at a place of more types
pub at-front : (xs ys : List TypeTree) (place : ℕ) → place < length xs → type_at (xs ++ ys) place ≡ type_at xs place
at-front [] ys place within = absurd (omega (arith, within))
at-front (first ∷ xs) ys zero within = refl
at-front (first ∷ xs) ys (suc place) within = at-front xs ys place (omega (arith, within))

at-end : (xs : List TypeTree) (one : TypeTree) (ys : List TypeTree) → type_at (xs ++ one ∷ ys) (length xs) ≡ one
at-end [] one ys = refl
at-end (first ∷ xs) one ys = at-end xs one ys

tree-more : (trees more : List TypeTree) (one : Shape) → IsWithin trees one → tree_of (trees ++ more) one ≡ tree_of trees one
tree-more trees more shape.Int within = refl
tree-more trees more shape.Bool within = refl
tree-more trees more shape.Text within = refl
tree-more trees more shape.Bytes within = refl
tree-more trees more shape.Tree within = refl
tree-more trees more (shape.List member) within = ap List_type (at-front trees more member within)
tree-more trees more shape.Empty within = refl
tree-more trees more (shape.Tuple first behind) within =
    ap (λ t. Tuple_type (more_type t (types_under (type_at (trees ++ more) behind)))) (at-front trees more first within.0)
    ∙ ap (λ t. Tuple_type (more_type (type_at trees first) (types_under t))) (at-front trees more behind within.1)

length-more : (xs ys : List TypeTree) (place : ℕ) → place < length xs → place < length (xs ++ ys)
length-more xs ys place within = let long : length (xs ++ ys) ≡ length xs + length ys = length-append xs ys in omega (arith, within, long)

within-more : (trees more : List TypeTree) (one : Shape) → IsWithin trees one → IsWithin (trees ++ more) one
within-more trees more shape.Int within = tt
within-more trees more shape.Bool within = tt
within-more trees more shape.Text within = tt
within-more trees more shape.Bytes within = tt
within-more trees more shape.Tree within = tt
within-more trees more (shape.List member) within = length-more trees more member within
within-more trees more shape.Empty within = tt
within-more trees more (shape.Tuple first behind) within =
    (length-more trees more first within.0, length-more trees more behind within.1, subst IsTuple (sym (at-front trees more behind within.1)) within.2)

-- what grows begins as it was
begins : (trees : List TypeTree) (shapes : List Shape) → (more : List TypeTree) × (grown trees shapes ≡ trees ++ more)
begins trees [] = ([], sym (append-nil trees))
begins trees (first ∷ others) =
    let rest = begins (trees ++ tree_of trees first ∷ []) others in
    (tree_of trees first ∷ rest.0, rest.1 ∙ append_assoc trees (tree_of trees first ∷ []) rest.0)

pub grown-push : (trees : List TypeTree) (shapes : List Shape) (last : Shape) →
    grown trees (shapes ++ last ∷ []) ≡ grown trees shapes ++ tree_of (grown trees shapes) last ∷ []
grown-push trees [] last = refl
grown-push trees (first ∷ others) last = grown-push (trees ++ tree_of trees first ∷ []) others last

pub ordered-push : (trees : List TypeTree) (shapes : List Shape) (last : Shape) → AreOrderedFrom trees shapes → IsWithin (grown trees shapes) last →
    AreOrderedFrom trees (shapes ++ last ∷ [])
ordered-push trees [] last ordered within = (within, tt)
ordered-push trees (first ∷ others) last ordered within = (ordered.0, ordered-push (trees ++ tree_of trees first ∷ []) others last ordered.1 within)

pub grown-long : (trees : List TypeTree) (shapes : List Shape) → length (grown trees shapes) ≡ length trees + length shapes
grown-long trees [] = omega arith
grown-long trees (first ∷ others) =
    let so : length (grown (trees ++ tree_of trees first ∷ []) others) ≡ length (trees ++ tree_of trees first ∷ []) + length others = grown-long (trees ++ tree_of trees first ∷ []) others in
    let one : length (trees ++ tree_of trees first ∷ []) ≡ length trees + 1 = length-append trees (tree_of trees first ∷ []) in
    omega (arith, so, one)

-- the type of each number is that of its shape
pub placed : (trees : List TypeTree) (shapes : List Shape) (place : ℕ) (one : Shape) → AreOrderedFrom trees shapes → slice_get shapes place ≡ Some one →
    (type_at (grown trees shapes) (length trees + place) ≡ tree_of (grown trees shapes) one) × IsWithin (grown trees shapes) one
placed trees [] place one ordered is = let within : place < 0 = slice_get_within {A = Shape} [] place one is in absurd (omega (arith, within))
placed trees (first ∷ others) zero one ordered is =
    let tree = tree_of trees first in
    let all = grown (trees ++ tree ∷ []) others in
    let rest = begins (trees ++ tree ∷ []) others in
    let split : all ≡ trees ++ tree ∷ rest.0 = rest.1 ∙ append_assoc trees (tree ∷ []) rest.0 in
    let same : first ≡ one = cc in
    let here : length trees + 0 ≡ length trees = omega arith in (
      ap (type_at all) here ∙ ap (λ xs. type_at xs (length trees)) split ∙ at-end trees tree rest.0
          ∙ sym (ap (λ xs. tree_of xs first) split ∙ tree-more trees (tree ∷ rest.0) first ordered.0) ∙ ap (tree_of all) same,
      subst (λ xs. IsWithin xs one) (sym split) (within-more trees (tree ∷ rest.0) one (subst (IsWithin trees) same ordered.0)),
    )
placed trees (first ∷ others) (suc place) one ordered is =
    let tree = tree_of trees first in
    let all = grown (trees ++ tree ∷ []) others in
    let there = placed (trees ++ tree ∷ []) others place one ordered.1 is in
    let one_more : length (trees ++ tree ∷ []) ≡ length trees + 1 = length-append trees (tree ∷ []) in
    let where_ : length trees + suc place ≡ length (trees ++ tree ∷ []) + place = omega (arith, one_more) in
    (ap (type_at all) where_ ∙ there.0, there.1)

-- which shape a type has
is-int : (trees : List TypeTree) (one : Shape) → tree_of trees one ≡ Int_type → one ≡ shape.Int
is-int trees shape.Int is = refl
is-int trees _ is = cc

is-bool : (trees : List TypeTree) (one : Shape) → tree_of trees one ≡ Bool_type → one ≡ shape.Bool
is-bool trees shape.Bool is = refl
is-bool trees _ is = cc

is-text : (trees : List TypeTree) (one : Shape) → tree_of trees one ≡ Text_type → one ≡ shape.Text
is-text trees shape.Text is = refl
is-text trees _ is = cc

is-bytes : (trees : List TypeTree) (one : Shape) → tree_of trees one ≡ Bytes_type → one ≡ shape.Bytes
is-bytes trees shape.Bytes is = refl
is-bytes trees _ is = cc

is-tree : (trees : List TypeTree) (one : Shape) → tree_of trees one ≡ Tree_type → one ≡ shape.Tree
is-tree trees shape.Tree is = refl
is-tree trees _ is = cc

is-list : (trees : List TypeTree) (one : Shape) (member : TypeTree) → tree_of trees one ≡ List_type member → (number : ℕ) × (one ≡ shape.List number) × (type_at trees number ≡ member)
is-list trees (shape.List number) member is = (number, refl, cc)
is-list trees _ member is = cc

is-empty : (trees : List TypeTree) (one : Shape) → tree_of trees one ≡ Tuple_type no_type → one ≡ shape.Empty
is-empty trees shape.Empty is = refl
is-empty trees _ is = cc

is-tuple : (trees : List TypeTree) (one : Shape) (type : TypeTree) (types : TypeTrees) → tree_of trees one ≡ Tuple_type (more_type type types) →
    (first : ℕ) × (behind : ℕ) × (one ≡ shape.Tuple first behind) × (type_at trees first ≡ type) × (types_under (type_at trees behind) ≡ types)
is-tuple trees (shape.Tuple first behind) type types is = (first, behind, refl, cc, cc)
is-tuple trees _ type types is = cc

under : (found : TypeTree) (types : TypeTrees) → IsTuple found → types_under found ≡ types → found ≡ Tuple_type types
under found types tuple is = tuple.1 ∙ ap Tuple_type (sym (ap types_under tuple.1) ∙ is)

-- one number for each type
module _ (shapes : List Shape) (ordered : AreOrdered shapes) (once : StandOnce shapes) where
  abbrev trees : List TypeTree
  trees = trees_of shapes

  -- the shape of a number, and what is known of it
  shaped : (place : ℕ) → place < length shapes → (one : Shape) × (slice_get shapes place ≡ Some one) × (type_at trees place ≡ tree_of trees one) × IsWithin trees one
  shaped place within =
      let one = get_or shapes place shape.Int in
      let is : slice_get shapes place ≡ Some one = slice_get-get_or shapes place shape.Int within in
      let there = placed [] shapes place one ordered is in
      let here : place ≡ 0 + place = omega arith in
      (one, is, ap (type_at trees) here ∙ there.0, there.1)

  inside : (number : ℕ) → number < length trees → number < length shapes
  inside number within = let long : length trees ≡ 0 + length shapes = grown-long [] shapes in omega (arith, long)

  -- numbers of one shape
  one-shape : (left right : ℕ) (one other known : Shape) → slice_get shapes left ≡ Some one → slice_get shapes right ≡ Some other → one ≡ known → other ≡ known → left ≡ right
  one-shape left right one other known left_is right_is here there = once left right known (left_is ∙ ap Some here) (right_is ∙ ap Some there)

  mutual
    pub one-number : (type : TypeTree) (left right : ℕ) → left < length shapes → right < length shapes → type_at trees left ≡ type → type_at trees right ≡ type → left ≡ right
    one-number Int_type left right l r left_is right_is =
        let a = shaped left l in let b = shaped right r in
        one-shape left right a.0 b.0 shape.Int a.1 b.1 (is-int trees a.0 (sym a.2 ∙ left_is)) (is-int trees b.0 (sym b.2 ∙ right_is))
    one-number Bool_type left right l r left_is right_is =
        let a = shaped left l in let b = shaped right r in
        one-shape left right a.0 b.0 shape.Bool a.1 b.1 (is-bool trees a.0 (sym a.2 ∙ left_is)) (is-bool trees b.0 (sym b.2 ∙ right_is))
    one-number Text_type left right l r left_is right_is =
        let a = shaped left l in let b = shaped right r in
        one-shape left right a.0 b.0 shape.Text a.1 b.1 (is-text trees a.0 (sym a.2 ∙ left_is)) (is-text trees b.0 (sym b.2 ∙ right_is))
    one-number Bytes_type left right l r left_is right_is =
        let a = shaped left l in let b = shaped right r in
        one-shape left right a.0 b.0 shape.Bytes a.1 b.1 (is-bytes trees a.0 (sym a.2 ∙ left_is)) (is-bytes trees b.0 (sym b.2 ∙ right_is))
    one-number Tree_type left right l r left_is right_is =
        let a = shaped left l in let b = shaped right r in
        one-shape left right a.0 b.0 shape.Tree a.1 b.1 (is-tree trees a.0 (sym a.2 ∙ left_is)) (is-tree trees b.0 (sym b.2 ∙ right_is))
    one-number (List_type member) left right l r left_is right_is =
        let a = shaped left l in let b = shaped right r in
        let x = is-list trees a.0 member (sym a.2 ∙ left_is) in let y = is-list trees b.0 member (sym b.2 ∙ right_is) in
        let same : y.0 ≡ x.0 = one-number member y.0 x.0 (inside y.0 (subst (IsWithin trees) y.1 b.3)) (inside x.0 (subst (IsWithin trees) x.1 a.3)) y.2 x.2 in
        one-shape left right a.0 b.0 (shape.List x.0) a.1 b.1 x.1 (y.1 ∙ ap shape.List same)
    one-number (Tuple_type types) left right l r left_is right_is = one-tuple types left right l r left_is right_is

    one-tuple : (types : TypeTrees) (left right : ℕ) → left < length shapes → right < length shapes → type_at trees left ≡ Tuple_type types → type_at trees right ≡ Tuple_type types → left ≡ right
    one-tuple no_type left right l r left_is right_is =
        let a = shaped left l in let b = shaped right r in
        one-shape left right a.0 b.0 shape.Empty a.1 b.1 (is-empty trees a.0 (sym a.2 ∙ left_is)) (is-empty trees b.0 (sym b.2 ∙ right_is))
    one-tuple (more_type type types) left right l r left_is right_is =
        let a = shaped left l in let b = shaped right r in
        let x = is-tuple trees a.0 type types (sym a.2 ∙ left_is) in let y = is-tuple trees b.0 type types (sym b.2 ∙ right_is) in
        let v : (x.0 < length trees) × (x.1 < length trees) × IsTuple (type_at trees x.1) = subst (IsWithin trees) x.2 a.3 in
        let w : (y.0 < length trees) × (y.1 < length trees) × IsTuple (type_at trees y.1) = subst (IsWithin trees) y.2 b.3 in
        let heads : y.0 ≡ x.0 = one-number type y.0 x.0 (inside y.0 w.0) (inside x.0 v.0) y.3 x.3 in
        let rests : y.1 ≡ x.1 = one-tuple types y.1 x.1 (inside y.1 w.1) (inside x.1 v.1) (under (type_at trees y.1) types w.2 y.4) (under (type_at trees x.1) types v.2 x.4) in
        one-shape left right a.0 b.0 (shape.Tuple x.0 x.1) a.1 b.1 x.2 (y.2 ∙ ap (λ n. shape.Tuple n y.1) heads ∙ ap (shape.Tuple x.0) rests)

both-true : (left right : Bool) → left && right ≡ true → (left ≡ true) × (right ≡ true)
both-true true true is = (refl, refl)
both-true true false is = cc
both-true false right is = cc

-- the derived test tells shapes apart
abbrev same : Shape → Shape → Bool
same = eq-value.it

pub same-is : (one other : Shape) → same one other ≡ true → one ≡ other
same-is shape.Int shape.Int is = refl
same-is shape.Bool shape.Bool is = refl
same-is shape.Text shape.Text is = refl
same-is shape.Bytes shape.Bytes is = refl
same-is shape.Tree shape.Tree is = refl
same-is shape.Empty shape.Empty is = refl
same-is (shape.List left) (shape.List right) is = ap shape.List (eqb-true left right is)
same-is (shape.Tuple left lefts) (shape.Tuple right rights) is =
    let so = both-true (eqb left right) (eqb lefts rights) is in
    ap (λ n. shape.Tuple n lefts) (eqb-true left right so.0) ∙ ap (shape.Tuple right) (eqb-true lefts rights so.1)
same-is _ _ is = cc

pub same-self : (one : Shape) → same one one ≡ true
same-self shape.Int = refl
same-self shape.Bool = refl
same-self shape.Text = refl
same-self shape.Bytes = refl
same-self shape.Tree = refl
same-self shape.Empty = refl
same-self (shape.List number) = eq-eqb number number refl
same-self (shape.Tuple first behind) = ap (λ b. b && eqb behind behind) (eq-eqb first first refl) ∙ eq-eqb behind behind refl

-- shapes that differ stand once
apart : (shapes : List Shape) (place other : ℕ) (one : Shape) → IsDistinct same shapes → slice_get shapes place ≡ Some one → slice_get shapes other ≡ Some one → ¬ (place < other)
apart shapes place other one distinct here there before =
    let differ : same (get_or shapes place one) (get_or shapes other one) ≡ false =
    apart_from_distinct same shapes place other one distinct before (slice_get_within shapes other one there) in
    let left : get_or shapes place one ≡ one = get_or_from_slice_get shapes place one one here in
    let right : get_or shapes other one ≡ one = get_or_from_slice_get shapes other one one there in
    let alike : same (get_or shapes place one) (get_or shapes other one) ≡ true = ap (λ s. same s (get_or shapes other one)) left ∙ ap (same one) right ∙ same-self one in
    cc

once-from : (shapes : List Shape) → IsDistinct same shapes → StandOnce shapes
once-from shapes distinct place other one here there = elim (cases_order place other) [
  | inl is ↦ is
  | inr (inl before) ↦ absurd (apart shapes place other one distinct here there before)
  | inr (inr behind) ↦ absurd (apart shapes other place one distinct there here behind)
]

-- what is kept when a shape is put among the others
pub kept-after : (old new : List Shape) (one : Shape) (found : Bool) → AreKept old → IsWithin (trees_of old) one → new ≡ (if found then old else old ++ one ∷ []) → IsDistinct same new → AreKept new
kept-after old new one true kept within is distinct = (subst AreOrdered (sym is) kept.0, once-from new distinct)
kept-after old new one false kept within is distinct = (subst AreOrdered (sym is) (ordered-push [] old one kept.0 within), once-from new distinct)

same-tree : (old new : List Shape) (one : Shape) (found : Bool) → IsWithin (trees_of old) one → new ≡ (if found then old else old ++ one ∷ []) → tree_of (trees_of new) one ≡ tree_of (trees_of old) one
same-tree old new one true within is = ap (λ shapes. tree_of (trees_of shapes) one) is
same-tree old new one false within is =
    ap (λ shapes. tree_of (trees_of shapes) one) is ∙ ap (λ trees. tree_of trees one) (grown-push [] old one) ∙ tree-more (trees_of old) (tree_of (trees_of old) one ∷ []) one within

pub keeps-after : (old new : List Shape) (one : Shape) (number : ℕ) (found : Bool) → AreKept old → IsWithin (trees_of old) one → new ≡ (if found then old else old ++ one ∷ []) → IsDistinct same new →
    (kept : Shape) × (slice_get new number ≡ Some kept) × (same one kept ≡ true) → Keeps new number (tree_of (trees_of old) one)
keeps-after old new one number found kept within is distinct stored =
    let all = kept-after old new one found kept within is distinct in
    let placed_so = placed [] new number stored.0 all.0 stored.1 in
    let here : number ≡ 0 + number = omega arith in (
      slice_get_within new number stored.0 stored.1,
      ap (type_at (trees_of new)) here ∙ placed_so.0 ∙ ap (tree_of (trees_of new)) (sym (same-is one stored.0 stored.2)) ∙ same-tree old new one found within is,
    )

-- a number that is kept has a type
pub within-trees : (shapes : List Shape) (number : ℕ) → number < length shapes → number < length (trees_of shapes)
within-trees shapes number within = let long : length (trees_of shapes) ≡ 0 + length shapes = grown-long [] shapes in omega (arith, long)

-- the shape of a number
pub shape-at : (shapes : List Shape) (number : ℕ) (one : Shape) → AreKept shapes → slice_get shapes number ≡ Some one →
    (type_of shapes number ≡ tree_of (trees_of shapes) one) × IsWithin (trees_of shapes) one
shape-at shapes number one kept is =
    let there = placed [] shapes number one kept.0 is in
    let here : number ≡ 0 + number = omega arith in
    (ap (type_at (trees_of shapes)) here ∙ there.0, there.1)

-- numbers tell types apart
tell : (shapes : List Shape) (left right : ℕ) → AreKept shapes → left < length shapes → right < length shapes → (alike : Bool) → same_type (type_of shapes left) (type_of shapes right) ≡ alike →
    ¬ (left ≡ right) → alike ≡ false
tell shapes left right kept l r true is differ =
    absurd (differ (one-number shapes kept.0 kept.1 (type_of shapes left) left right l r refl (sym (types-same (type_of shapes left) (type_of shapes right) is))))
tell shapes left right kept l r false is differ = refl

pub numbers-tell : (shapes : List Shape) (left right : ℕ) → AreKept shapes → left < length shapes → right < length shapes → eqb left right ≡ same_type (type_of shapes left) (type_of shapes right)
numbers-tell shapes left right kept l r = elim (eqb_tells left right) [
  | inl alike ↦ alike.0 ∙ sym (ap (λ n. same_type (type_of shapes left) (type_of shapes n)) (sym alike.1) ∙ types-self (type_of shapes left))
  | inr apart_so ↦ apart_so.0 ∙ sym (tell shapes left right kept l r (same_type (type_of shapes left) (type_of shapes right)) refl apart_so.1)
]

-- those from the beginning
pub kept-base : (new : List Shape) → new ≡ base_shapes → IsDistinct same new → AreKept new
kept-base new is distinct = (subst AreOrdered (sym is) (tt, (tt, (tt, (tt, (tt, (tt, tt)))))), once-from new distinct)
