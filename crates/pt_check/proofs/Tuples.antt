-- The types of tuples and of their parts.
use Rattle.std.proofs.Common.{◌≡◌, ℕ, zero, suc, ◌-◌, ◌<◌, ◌≤◌, true, Option, Some, List, [], ◌∷◌, ◌++◌, length, refl, sym, ◌∙◌, ap, subst, arith}
use Rattle.std.specs.Prelude.{ℤ, option_map}
use Rattle.pt_val.specs.declared.place.Place.{Place}
use Rattle.pt_ast.specs.Types.{TypeTree, Int_type, TypeTrees, more_type}
use Rattle.pt_ast.specs.Typing.{part_type}
use Rattle.pt_typing.specs.Steps.{after, right}
use Rattle.pt_typing.specs.Served.{tuple_types, part_at}
use Rattle.pt_types.specs.declared.shape.Shape.{Shape}
use Rattle.pt_types.specs.declared.shape.Shape.TheVariants as shape
use Rattle.pt_types.specs.Kept.{type_of, types_under, trees_of, tree_of, IsWithin}
use Rattle.pt_check.specs.Bases.{is_tuple_shape}
use Rattle.pt_check.specs.Stacks.{newest, behind}
use Rattle.pt_check.specs.Known.{parts_held, below}
use Rattle.pt_check.proofs.Growth.{trees-long}

-- the parts of a tuple have numbers
pub parts-within : (shapes : List Shape) (one : Shape) (first others : ℕ) → one ≡ shape.Tuple first others → IsWithin (trees_of shapes) one → (first < length shapes) × (others < length shapes)
parts-within shapes one first others is within =
    let both = subst (IsWithin (trees_of shapes)) is within in
    let here : first < length (trees_of shapes) = both.0 in
    let there : others < length (trees_of shapes) = both.1 in
    let long : length (trees_of shapes) ≡ length shapes = trees-long shapes in
    (omega (arith, here, long), omega (arith, there, long))

-- a part after the first is one of those behind it
part-after : (left : ℕ) (type : TypeTree) (types : TypeTrees) → 0 < left → part_type left (more_type type types) ≡ part_type (left - 1) types
part-after zero type types some = absurd (omega (arith, some))
part-after (suc left) type types some = let less : suc left - 1 ≡ left = omega arith in ap (λ n. part_type n types) (sym less)

pub part-step : (shapes : List Shape) (left tuple first others : ℕ) (one : Shape) → 0 < left → type_of shapes tuple ≡ tree_of (trees_of shapes) one → one ≡ shape.Tuple first others →
    part_type left (types_under (type_of shapes tuple)) ≡ part_type (left - 1) (types_under (type_of shapes others))
part-step shapes left tuple first others one some shaped is =
    ap (λ type. part_type left (types_under type)) (shaped ∙ ap (tree_of (trees_of shapes)) is) ∙ part-after left (type_of shapes first) (types_under (type_of shapes others)) some

tuple-shape : (trees : List TypeTree) (one : Shape) → is_tuple_shape one ≡ true → tuple_types (tree_of trees one) ≡ Some (types_under (tree_of trees one))
tuple-shape trees shape.Empty is = refl
tuple-shape trees (shape.Tuple first others) is = refl
tuple-shape trees shape.Int is = cc
tuple-shape trees shape.Bool is = cc
tuple-shape trees shape.Text is = cc
tuple-shape trees shape.Bytes is = cc
tuple-shape trees shape.Tree is = cc
tuple-shape trees (shape.List member) is = cc

pub part-says : (shapes : List Shape) (at place : Place) (part : ℤ) (type : TypeTree) (tuple : ℕ) (one : Shape) (answer : Option ℕ) → type ≡ type_of shapes tuple →
    type_of shapes tuple ≡ tree_of (trees_of shapes) one → is_tuple_shape one ≡ true → option_map (type_of shapes) answer ≡ part_at part (types_under (type_of shapes tuple)) →
    after (right at (tuple_types type)) (λ types. right place (part_at part types)) ≡ right place (option_map (type_of shapes) answer)
part-says shapes at place part type tuple one answer is shaped tupled answered =
    ap (λ found. after (right at (tuple_types found)) (λ types. right place (part_at part types))) (is ∙ shaped)
    ∙ ap (λ found. after (right at found) (λ types. right place (part_at part types))) (tuple-shape (trees_of shapes) one tupled)
    ∙ ap (λ found. right place (part_at part (types_under found))) (sym shaped) ∙ ap (right place) (sym answered)

-- one more part of a tuple
held-after : (left : ℕ) (rest : List TypeTree) (types : TypeTrees) → 0 < left → parts_held left rest types ≡ parts_held (left - 1) (behind rest) (more_type (newest Int_type rest) types)
held-after zero rest types some = absurd (omega (arith, some))
held-after (suc left) rest types some =
    let less : suc left - 1 ≡ left = omega arith in ap (λ n. parts_held n (behind rest) (more_type (newest Int_type rest) types)) (sym less)

below-after : (left : ℕ) (rest : List TypeTree) → 0 < left → below left rest ≡ below (left - 1) (behind rest)
below-after zero rest some = absurd (omega (arith, some))
below-after (suc left) rest some = let less : suc left - 1 ≡ left = omega arith in ap (λ n. below n (behind rest)) (sym less)

pub held-step : (left : ℕ) (rest : List TypeTree) (types : TypeTrees) → 0 < left →
    (parts_held left rest types ≡ parts_held (left - 1) (behind rest) (more_type (newest Int_type rest) types)) × (below left rest ≡ below (left - 1) (behind rest))
held-step left rest types some = (held-after left rest types some, below-after left rest some)

pub held-last : (left : ℕ) (rest : List TypeTree) (types : TypeTrees) → left ≤ 0 → (parts_held left rest types ≡ types) × (below left rest ≡ rest)
held-last zero rest types none = (refl, refl)
held-last (suc left) rest types none = absurd (omega (arith, none))

-- the types that were found, the newest first, before others
abbrev pub gather : List TypeTree → TypeTrees → TypeTrees
gather [] types = types
gather (first ∷ found) types = gather found (more_type first types)

pub gather-held : (found held : List TypeTree) (types : TypeTrees) → parts_held (length found) (found ++ held) types ≡ gather found types
gather-held [] held types = refl
gather-held (first ∷ found) held types = gather-held found held (more_type first types)

pub gather-below : (found held : List TypeTree) → below (length found) (found ++ held) ≡ held
gather-below [] held = refl
gather-below (first ∷ found) held = gather-below found held
