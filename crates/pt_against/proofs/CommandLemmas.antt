-- The commands that are left.
use Rattle.std.proofs.Common.{◌≡◌, ℕ, suc, ◌+◌, ◌<◌, ◌≤◌, List, [], ◌∷◌, map, length, drop, get_or, sym, ◌∙◌, ap, arith, Option, Some, None}
use Rattle.std.specs.Prelude.{Bool}
use Rattle.std.proofs.lemmas.List.{drop-map, drop_all, length-map}
use Rattle.std.proofs.Math.Seq.{drop-cons}
use Rattle.pt_val.specs.declared.val.Val.{Val}
use Rattle.pt_case.specs.declared.ending.Ending.{Ending}
use Rattle.pt_case.specs.declared.ending.Ending.TheVariants.{Pass, Fail}
use Rattle.pt_case.specs.declared.ending.Origin.TheVariants.{Point}
use Rattle.pt_against.specs.Compared.{Pairing, compared, or_failed, verdict_on}

-- the one at a place stands first among those from there on
commands-from : {X : Type 0} (shown : X → Val) (items : List X) (place : ℕ) (item : X) → place < length items → item ≡ get_or items place item →
    drop place (map shown items) ≡ shown item ∷ drop (place + 1) (map shown items)
commands-from shown items place item within is =
    let next : suc place ≡ place + 1 = omega arith in
    drop-map shown place items ∙ ap (map shown) (drop-cons items place item within)
    ∙ ap (λ first. shown first ∷ map shown (drop (suc place) items)) (sym is)
    ∙ ap (λ rest. shown item ∷ rest) (sym (drop-map shown (suc place) items) ∙ ap (λ count. drop count (map shown items)) next)

module _ {X Thing Model Answer : Type 0} (pairing : Pairing Thing Model Answer) (same : Answer → Answer → Bool) (shown : X → Val) (items : List X) where
  -- a command is given, and what it comes to stands before what is left
  pub given-next : (place : ℕ) (item : X) (thing next_thing : Thing) (model next_model : Model) (differs : Option ℕ) → place < length items →
      item ≡ get_or items place item →
      compared pairing same thing model (drop place (map shown items)) ≡ verdict_on pairing same (map shown items) →
      ((others : List Val) → compared pairing same thing model (shown item ∷ others) ≡ or_failed differs (compared pairing same next_thing next_model others)) →
      or_failed differs (compared pairing same next_thing next_model (drop (place + 1) (map shown items))) ≡ verdict_on pairing same (map shown items)
  given-next place item thing next_thing model next_model differs within is before given =
      sym (given (drop (place + 1) (map shown items)))
      ∙ ap (λ left. compared pairing same thing model left) (sym (commands-from shown items place item within is)) ∙ before

  -- behind the last command there is none
  pub given-all : (place : ℕ) (thing : Thing) (model : Model) → length items ≤ place →
      compared pairing same thing model (drop place (map shown items)) ≡ verdict_on pairing same (map shown items) →
      Pass ≡ verdict_on pairing same (map shown items)
  given-all place thing model past before =
      let many = length-map items shown in
      ap (λ left. compared pairing same thing model left) (sym (drop_all place (map shown items) (omega (arith, past, many)))) ∙ before
