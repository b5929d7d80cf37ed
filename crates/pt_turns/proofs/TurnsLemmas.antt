-- Turns one after another.
use Rattle.std.proofs.Common.{◌≡◌, ℕ, ◌+◌, ◌<◌, ◌≤◌, List, [], ◌∷◌, ◌++◌, Option, length, take, map, get_or, sym, ◌∙◌, ap, subst, suc, refl, arith}
use Rattle.std.proofs.lemmas.List.{take_more, take_all, length_push, length-map, get_or-map}
use Rattle.pt_choice.specs.declared.choice.Choice.{Choice}
use Rattle.pt_case.specs.Step.{Answer}
use Rattle.pt_ast.specs.declared.suite.Item.{Item}
use Rattle.pt_ast.specs.Plain.{plain_item}
use Rattle.pt_ast.specs.Trees.{ItemTree}
use Rattle.pt_disk.specs.Moments.{Told}
use Rattle.pt_edits.specs.Pairs.{PairEdit}
use Rattle.pt_found.specs.declared.finding.Finding.{Finding}
use Rattle.pt_turns.specs.Examined.{Examined}
use Rattle.pt_turns.specs.Turn.{Turn}
use Rattle.pt_turns.specs.Turns.{AreExamined, AreTurnsAfter, AreTurns, FirstTurns}

-- the first items and one more
next-items : (items : List Item) (item : Item) (i : ℕ) → i < length items → item ≡ get_or items i item →
    take (i + 1) (map plain_item items) ≡ take i (map plain_item items) ++ plain_item item ∷ []
next-items items item i within at =
    let trees = map plain_item items in
    let inside : i < length trees = rw (length-map items plain_item) within in
    let read : get_or trees i (plain_item item) ≡ plain_item item = get_or-map plain_item items i item (plain_item item) within ∙ ap plain_item (sym at) in
    take_more trees i (plain_item item) inside ∙ ap (λ x. take i trees ++ x ∷ []) read

-- one finding more
next-count : (findings new : List Finding) (finding : Finding) (i : ℕ) → length findings ≡ i → new ≡ findings ++ finding ∷ [] → length new ≡ i + 1
next-count findings new finding i counted pushed = ap length pushed ∙ length_push findings finding ∙ ap (λ n. n + 1) counted

-- the first items where there are no more are all
all-items : (items : List Item) (i : ℕ) → length items ≤ i → take i (map plain_item items) ≡ map plain_item items
all-items items i past =
    let long : length (map plain_item items) ≤ i = rw (length-map items plain_item) past in
    take_all i (map plain_item items) long

module _ {C : Type 0} (name : C → List ℕ) (step : C → List Choice → Answer → Type 0) (checks : List C) (seed : ℕ) where
  examined-more : (items : List ItemTree) (findings : List Finding) (item : ItemTree) (finding : Finding) → AreExamined name step checks seed items findings →
      Examined name step checks seed [] item finding → AreExamined name step checks seed (items ++ item ∷ []) (findings ++ finding ∷ [])
  examined-more [] [] item finding those more = (more, tt)
  examined-more [] (first ∷ findings) item finding those more = elim those [ ]
  examined-more (other ∷ items) [] item finding those more = elim those [ ]
  examined-more (other ∷ items) (first ∷ findings) item finding those more = (those.0, examined-more items findings item finding those.1 more)

  -- an item more was examined
  pub next-examined : (items : List Item) (findings new : List Finding) (item : Item) (finding : Finding) (i : ℕ) →
      length findings ≡ i → i < length items → item ≡ get_or items i item → new ≡ findings ++ finding ∷ [] →
      AreExamined name step checks seed (take i (map plain_item items)) findings → Examined name step checks seed [] (plain_item item) finding →
      (length new ≡ i + 1) × AreExamined name step checks seed (take (i + 1) (map plain_item items)) new
  next-examined items findings new item finding i counted within at pushed those more = (
    next-count findings new finding i counted pushed,
    rw (next-items items item i within at, pushed) (examined-more (take i (map plain_item items)) findings (plain_item item) finding those more),
  )

  module _ (told : Option Told) where
    turns-more : (done : List PairEdit) (items : List ItemTree) (findings : List Finding) (all : List PairEdit) (item : ItemTree) (finding : Finding)
        (edits : List PairEdit) → AreTurnsAfter name step checks seed told done items findings all → Turn name step checks seed told all item finding edits →
        AreTurnsAfter name step checks seed told done (items ++ item ∷ []) (findings ++ finding ∷ []) (all ++ edits)
    turns-more done [] [] all item finding edits turns turn =
        let P : List PairEdit → Type 0 = λ before. Turn name step checks seed told before item finding edits in
        (edits, subst P turns turn, ap (λ before. before ++ edits) turns)
    turns-more done [] (first ∷ findings) all item finding edits turns turn = elim turns [ ]
    turns-more done (other ∷ items) [] all item finding edits turns turn = elim turns [ ]
    turns-more done (other ∷ items) (first ∷ findings) all item finding edits turns turn =
        (turns.0, turns.1, turns-more (done ++ turns.0) items findings all item finding edits turns.2 turn)

    -- there are as many findings as items
    turns-count : (done : List PairEdit) (items : List ItemTree) (findings : List Finding) (all : List PairEdit) →
        AreTurnsAfter name step checks seed told done items findings all → length findings ≡ length items
    turns-count done [] [] all turns = refl
    turns-count done [] (first ∷ findings) all turns = elim turns [ ]
    turns-count done (item ∷ items) [] all turns = elim turns [ ]
    turns-count done (item ∷ items) (first ∷ findings) all turns = ap suc (turns-count (done ++ turns.0) items findings all turns.2)

    -- the turns of all items are those of first items
    pub first-of-all : (items : List ItemTree) (findings : List Finding) (edits : List PairEdit) → AreTurns name step checks seed told items findings edits →
        FirstTurns name step checks seed told items findings edits
    first-of-all items findings edits turns =
        let count = turns-count [] items findings edits turns in
        rw (take_all (length findings) items (omega (arith, count))) turns

    -- a turn more over the first items
    pub next-turns : (items : List Item) (findings new : List Finding) (done : List PairEdit) (item : Item) (finding : Finding) (edits : List PairEdit) (i : ℕ) →
        length findings ≡ i → i < length items → item ≡ get_or items i item → new ≡ findings ++ finding ∷ [] →
        AreTurns name step checks seed told (take i (map plain_item items)) findings done →
        Turn name step checks seed told done (plain_item item) finding edits →
        (length new ≡ i + 1) × AreTurns name step checks seed told (take (i + 1) (map plain_item items)) new (done ++ edits)
    next-turns items findings new done item finding edits i counted within at pushed turns turn = (
      next-count findings new finding i counted pushed,
      rw (next-items items item i within at, pushed)
          (turns-more [] (take i (map plain_item items)) findings done (plain_item item) finding edits turns turn),
    )

    -- after the last item all have had their turns
    pub all-turns : (items : List Item) (findings : List Finding) (edits : List PairEdit) (i : ℕ) → length items ≤ i →
        AreTurns name step checks seed told (take i (map plain_item items)) findings edits →
        AreTurns name step checks seed told (map plain_item items) findings edits
    all-turns items findings edits i past turns = rw (all-items items i past) at turns
