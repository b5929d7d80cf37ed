-- Findings of the same items that differ in their reductions alone.
use Rattle.std.specs.Prelude.{ℕ, List, [], ◌∷◌, Contains}
use Rattle.pt_choice.specs.declared.choice.Choice.{Choice}
use Rattle.pt_case.specs.Step.{Answer}
use Rattle.pt_ast.specs.Trees.{ItemTree}
use Rattle.pt_item.specs.Item.{OfItem}
use Rattle.pt_found.specs.declared.finding.Finding.{Finding}
use Rattle.pt_engine.specs.Agree.{Agree}
use Rattle.pt_turns.specs.Turn.{digest_of}

module _ {C : Type 0} (name : C → List ℕ) (step : C → List Choice → Answer → Type 0) (checks : List C) where
  -- two findings of the item's check agree
  abbrev pub AgreeOn : ItemTree → Finding → Finding → Type 0
  AgreeOn item one other = OfItem name step checks item (λ says. Agree says one other)

  -- there are as many of both as items, and they agree one by one
  abbrev pub AllAgree : List ItemTree → List Finding → List Finding → Type 0
  AllAgree [] [] [] = Unit {0}
  AllAgree (item ∷ items) (one ∷ ones) (other ∷ others) = AgreeOn item one other × AllAgree items ones others
  AllAgree [] (one ∷ ones) others = ⊥
  AllAgree [] [] (other ∷ others) = ⊥
  AllAgree (item ∷ items) [] others = ⊥
  AllAgree (item ∷ items) (one ∷ ones) [] = ⊥

  -- there are as many of both as items, and they agree on each item whose name's digest is that of no earlier name
  abbrev pub AgreeWhereOwn : List (List ℕ) → List ItemTree → List Finding → List Finding → Type 0
  AgreeWhereOwn earlier [] [] [] = Unit {0}
  AgreeWhereOwn earlier (item ∷ items) (one ∷ ones) (other ∷ others) =
      (¬ Contains earlier (digest_of item) → AgreeOn item one other) × AgreeWhereOwn (digest_of item ∷ earlier) items ones others
  AgreeWhereOwn earlier [] (one ∷ ones) others = ⊥
  AgreeWhereOwn earlier [] [] (other ∷ others) = ⊥
  AgreeWhereOwn earlier (item ∷ items) [] others = ⊥
  AgreeWhereOwn earlier (item ∷ items) (one ∷ ones) [] = ⊥
