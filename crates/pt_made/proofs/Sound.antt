-- Made suites are sound.
use Rattle.std.proofs.Common.{◌≡◌, ℕ, zero, suc, ◌+◌, ◌^◌, ◌<◌, ◌≤◌, ◌==◌, Bool, true, false, List, [], ◌∷◌, map, drop, refl, ap, arith}
use Rattle.std.specs.List.{AllByRecursion, IsDistinct, range_with_len}
use Rattle.std.specs.Cmp.Lexicographic.{pointwise, bytes_decides}
use Rattle.std.specs.Fmt.{decimal}
use Rattle.std.proofs.lemmas.Fmt.{decimal_injective}
use Rattle.std.proofs.lemmas.List.FromFn.{length-map-range_with_len}
use Rattle.std.proofs.lemmas.Map.Keys.{IsDistinct-cons}
use Rattle.pt_ast.specs.Trees.{ItemTree}
use Rattle.pt_ast.specs.Bounds.{IsBoundedItem}
use Rattle.pt_ast.specs.Levels.{body_levels, most_levels}
use Rattle.pt_ast.specs.Names.{AreDistinct}
use Rattle.pt_ast.specs.Suites.{IsTypedItem}
use Rattle.pt_ast.specs.Sound.{IsSound}
use Rattle.pt_made.specs.Lines.{made_item, made_suite}
use Rattle.pt_made.proofs.EachLine.{all_lines, each_line, line_name}
use Rattle.pt_made.proofs.Numbered.{suite_numbered}

-- no level past the 64th is open in a list of items where none is in one of them
levels_few : (items : List ItemTree) → AllByRecursion (λ item. body_levels item.body ≤ 64) items → most_levels (λ item. body_levels item.body) items ≤ 64
levels_few [] shallow = omega arith
levels_few (item ∷ items) shallow = let rest = levels_few items shallow.1 in omega (arith, shallow.0, rest)

-- the names of two lines are not the same
apart : (k other : ℕ) → k < other → other < 2 ^ 64 → pointwise ◌==◌ (112 ∷ decimal k) (112 ∷ decimal other) ≡ false
apart k other before fits = by (pointwise ◌==◌ (112 ∷ decimal k) (112 ∷ decimal other)) refl where
  by : (b : Bool) → pointwise ◌==◌ (112 ∷ decimal k) (112 ∷ decimal other) ≡ b → b ≡ false
  by false e = refl
  by true e =
      let written : decimal k ≡ decimal other = ap (drop 1) ((bytes_decides (112 ∷ decimal k) (112 ∷ decimal other)).0 e) in
      let same : k ≡ other = decimal_injective k other (omega arith) fits written in
      absurd (omega (arith, same, before))

names_apart : (seed k from count : ℕ) → k < from → from + count ≤ 200 →
    AllByRecursion (λ other. pointwise ◌==◌ (made_item seed k).name.name other ≡ false) (map (λ item. item.name.name) (map (made_item seed) (range_with_len from count)))
names_apart seed k from zero before few = tt
names_apart seed k from (suc count) before few =
    (rw (line_name seed k, line_name seed from) (apart k from before (omega arith)), names_apart seed k (from + 1) count (omega arith) (omega arith))

names_distinct : (seed from count : ℕ) → from + count ≤ 200 → AreDistinct (map (λ item. item.name.name) (map (made_item seed) (range_with_len from count)))
unfolding IsDistinct
names_distinct seed from zero few = tt
names_distinct seed from (suc count) few =
    IsDistinct-cons (pointwise ◌==◌) (made_item seed from).name.name (map (λ item. item.name.name) (map (made_item seed) (range_with_len (from + 1) count)))
    (names_apart seed from (from + 1) count (omega arith) (omega arith)) (names_distinct seed (from + 1) count (omega arith))

pub made_sound : (seed count : ℕ) (known : List (List ℕ)) → count ≤ 200 → IsSound known (made_suite seed count)
made_sound seed count known few = record {
  bounded = record {
    few_items = omega (arith, few, length-map-range_with_len (made_item seed) 0 count);
    not_deep = levels_few (made_suite seed count).items (all_lines (λ item. body_levels item.body ≤ 64) seed (λ k. (each_line known seed k).shallow) 0 count);
    items = all_lines IsBoundedItem seed (λ k. (each_line known seed k).bounded) 0 count;
  };
  numbered = suite_numbered seed count few;
  typed = record {
    distinct = names_distinct seed 0 count (omega (arith, few));
    items = all_lines (IsTypedItem known) seed (λ k. (each_line known seed k).typed) 0 count;
  };
}

-- the suite of these items
pub suite_of : {items : List ItemTree} (seed count : ℕ) → items ≡ map (made_item seed) (range_with_len 0 count) → record { items = items } ≡ made_suite seed count
suite_of seed count is = ap (λ items. record { items = items }) is
