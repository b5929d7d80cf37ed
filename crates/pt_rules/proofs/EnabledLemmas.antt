-- The enabled rules among those that are left.
use Rattle.std.proofs.Common.{◌≡◌, ℕ, suc, ◌+◌, ◌<◌, ◌≤◌, true, false, cond, List, [], ◌∷◌, map, length, drop, get_or, sym, ◌∙◌, ap, arith, add-one, Some}
use Rattle.std.specs.Prelude.{slice_get}
use Rattle.std.proofs.lemmas.List.{drop-map, drop_all, length-map}
use Rattle.std.proofs.Math.Seq.{drop-cons}
use Rattle.pt_val.specs.declared.val.Val.{Val}
use Rattle.pt_rules.specs.Meaning.{Meaning}
use Rattle.pt_rules.specs.Machine.{enabled_rules}

module _ {X : Type 0} (meaning : X → Meaning) (state : Val) (items : List X) (place : ℕ) (item : X) (within : place < length items)
    (is : item ≡ get_or items place item) where
  -- the rule at a place stands first among those from there on
  rules-from : drop place (map meaning items) ≡ meaning item ∷ drop (place + 1) (map meaning items)
  rules-from =
      let next : suc place ≡ place + 1 = omega arith in
      drop-map meaning place items ∙ ap (map meaning) (drop-cons items place item within)
      ∙ ap (λ first. meaning first ∷ map meaning (drop (suc place) items)) (sym is)
      ∙ ap (λ rest. meaning item ∷ rest) (sym (drop-map meaning (suc place) items) ∙ ap (λ count. drop count (map meaning items)) next)

  -- where it is enabled, and where it is not
  pub enabled-next : (meaning item).enabled state ≡ true →
      enabled_rules (drop place (map meaning items)) state ≡ meaning item ∷ enabled_rules (drop (place + 1) (map meaning items)) state
  enabled-next on =
      ap (λ rules. enabled_rules rules state) rules-from
      ∙ ap (λ truth. cond truth (meaning item ∷ enabled_rules (drop (place + 1) (map meaning items)) state) (enabled_rules (drop (place + 1) (map meaning items)) state)) on

  pub enabled-past : (meaning item).enabled state ≡ false →
      enabled_rules (drop place (map meaning items)) state ≡ enabled_rules (drop (place + 1) (map meaning items)) state
  enabled-past off =
      ap (λ rules. enabled_rules rules state) rules-from
      ∙ ap (λ truth. cond truth (meaning item ∷ enabled_rules (drop (place + 1) (map meaning items)) state) (enabled_rules (drop (place + 1) (map meaning items)) state)) off

  -- so there is one more, or as many
  pub count-next : (meaning item).enabled state ≡ true →
      length (enabled_rules (drop place (map meaning items)) state) ≡ length (enabled_rules (drop (place + 1) (map meaning items)) state) + 1
  count-next on = ap length (enabled-next on) ∙ sym (add-one _)

  pub count-past : (meaning item).enabled state ≡ false →
      length (enabled_rules (drop place (map meaning items)) state) ≡ length (enabled_rules (drop (place + 1) (map meaning items)) state)
  count-past off = ap length (enabled-past off)

  -- and the first of them is it, or the others stand one place later, or at the same
  pub first-next : (before : ℕ) → (meaning item).enabled state ≡ true → before ≡ 0 →
      slice_get (enabled_rules (drop place (map meaning items)) state) before ≡ Some (meaning item)
  first-next before on none = ap (λ count. slice_get (enabled_rules (drop place (map meaning items)) state) count) none ∙ ap (λ rules. slice_get rules 0) (enabled-next on)

  pub later-next : (before more : ℕ) → (meaning item).enabled state ≡ true → before ≡ suc more →
      slice_get (enabled_rules (drop place (map meaning items)) state) before ≡ slice_get (enabled_rules (drop (place + 1) (map meaning items)) state) more
  later-next before more on one =
      ap (λ count. slice_get (enabled_rules (drop place (map meaning items)) state) count) one ∙ ap (λ rules. slice_get rules (suc more)) (enabled-next on)

  pub later-past : (before : ℕ) → (meaning item).enabled state ≡ false →
      slice_get (enabled_rules (drop place (map meaning items)) state) before ≡ slice_get (enabled_rules (drop (place + 1) (map meaning items)) state) before
  later-past before off = ap (λ rules. slice_get rules before) (enabled-past off)

-- behind the last rule there is none
pub enabled-end : {X : Type 0} (meaning : X → Meaning) (state : Val) (items : List X) (place : ℕ) → length items ≤ place →
    enabled_rules (drop place (map meaning items)) state ≡ []
enabled-end meaning state items place past =
    let many = length-map items meaning in
    ap (λ rules. enabled_rules rules state) (drop_all place (map meaning items) (omega (arith, past, many)))

pub count-end : {X : Type 0} (meaning : X → Meaning) (state : Val) (items : List X) (place : ℕ) → length items ≤ place →
    length (enabled_rules (drop place (map meaning items)) state) ≡ 0
count-end meaning state items place past = ap length (enabled-end meaning state items place past)
