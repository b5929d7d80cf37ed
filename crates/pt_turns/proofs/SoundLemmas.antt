-- Of a whole run nothing is lost, nothing is invented, and no other file is changed.
use Rattle.std.proofs.Common.{◌≡◌, ◌⊎◌, inl, inr, ⊎_elim, ℕ, zero, suc, Bool, List, [], ◌∷◌, ◌++◌, length, take, Option, Some, None, refl, sym, ◌∙◌, ap, subst, arith}
use Rattle.std.specs.Prelude.{Contains, slice_get, ⊤}
use Rattle.std.proofs.lemmas.Option.{slice_get_within, get_or_from_slice_get}
use Rattle.pt_choice.specs.declared.choice.Choice.{Choice}
use Rattle.pt_case.specs.Ending.{is_failure}
use Rattle.pt_case.specs.Run.{IsRecord}
use Rattle.pt_case.specs.Step.{Answer}
use Rattle.pt_case.specs.declared.record.Record.{Record}
use Rattle.pt_ast.specs.Trees.{BodyTree, Check_of, Property_of, Machine_of, ItemTree}
use Rattle.pt_ast.specs.declared.suite.Settings.{Settings}
use Rattle.pt_plan.specs.Says.{plan_says}
use Rattle.pt_prop.specs.Property.{property_plan}
use Rattle.pt_machine.specs.Machine.{machine_plan}
use Rattle.pt_item.specs.Item.{OfBody}
use Rattle.pt_disk.specs.Files.{Files}
use Rattle.pt_disk.specs.Folder.{reads}
use Rattle.pt_disk.specs.Moments.{Told, now}
use Rattle.pt_found.specs.declared.finding.Finding.{Finding}
use Rattle.pt_engine.specs.Finding.{IsFinding, ReplaysItself}
use Rattle.pt_stored.specs.Digest.{file_name}
use Rattle.pt_stored.specs.Stored.{IsStored}
use Rattle.pt_wire.specs.Unpacked.{IsUnpacked}
use Rattle.pt_wire.specs.declared.unpacking.Unpacked.{Unpacked}
use Rattle.pt_edits.specs.Pairs.{PairEdit, SavePair, DeletePair, bytes_of, left_by}
use Rattle.pt_edits.specs.Readings.{lists_of}
use Rattle.pt_turns.specs.Crash.{IsMidway}
use Rattle.pt_turns.specs.Differences.{OfKey, Fails, MayGo, NothingIsLost, NothingIsInvented, NothingElseChanges}
use Rattle.pt_turns.specs.Ended.{AreOfNext}
use Rattle.pt_turns.specs.Turn.{Turn, digest_of}
use Rattle.pt_turns.specs.Turns.{AreTurnsAfter}
use Rattle.pt_turns.proofs.ReasonLemmas.{HaveReasons, AtAnyTime, Goes, have-both, have-first, edits-have, was-or-fails, there-or-goes, same-or-changed}

-- what an edit leaves of its file
whole-or-away : (edit : PairEdit) (file : Option (List ℕ)) → file ≡ left_by edit → (file ≡ Some (bytes_of edit)) ⊎ (file ≡ None)
whole-or-away (SavePair digest bytes) file left = inl left
whole-or-away (DeletePair digest bytes) file left = inr left

-- ---- some of the items

among-first : {X : Type 0} (n : ℕ) (xs : List X) (x : X) → Contains (take n xs) x → Contains xs x
among-first zero xs x (k, within, is) = absurd (omega (arith, within))
among-first (suc n) [] x (k, within, is) = absurd (omega (arith, within))
among-first (suc n) (y ∷ xs) x (zero, within, is) = (zero, omega arith, is)
among-first (suc n) (y ∷ xs) x (suc k, within, is) =
    let rest = among-first n xs x (k, omega (arith, within), is) in
    (suc rest.0, omega (arith, rest.1), rest.2)

among-at : {X : Type 0} (xs : List X) (k : ℕ) (x : X) → slice_get xs k ≡ Some x → Contains xs x
among-at xs k x is = (k, slice_get_within xs k x is, get_or_from_slice_get xs k x x is)

among-later : {X : Type 0} (x : X) (xs : List X) (y : X) → Contains xs y → Contains (x ∷ xs) y
among-later x xs y (k, within, is) = (suc k, omega (arith, within), is)

module _ {C : Type 0} (name : C → List ℕ) (step : C → List Choice → Answer → Type 0) (checks : List C) where
  -- what holds of the answers of an item's check says of each of its records whether its list fails
  body-own : (word : List ℕ) (settings : Settings) (body : BodyTree) (Holds : (List Choice → Answer → Type 0) → Type 0) (Goal : Type 0) →
      OfBody name step checks word settings body Holds →
      ((says : List Choice → Answer → Type 0) → Holds says →
      ((list : List Choice) (flag : Bool) (rec : Record) → IsRecord says list rec → is_failure rec.ending ≡ flag →
      OfBody name step checks word settings body (λ says. (rec : Record) × IsRecord says list rec × (is_failure rec.ending ≡ flag))) → Goal) →
      Goal
  body-own word settings Check_of Holds Goal (place, check, at, named, said) follows =
      follows (step check) said (λ list flag rec is fails. (place, check, at, named, (rec, is, fails)))
  body-own word settings (Property_of stmts) Holds Goal said follows =
      follows (plan_says (property_plan stmts)) said (λ list flag rec is fails. (rec, is, fails))
  body-own word settings (Machine_of machine) Holds Goal said follows =
      follows (plan_says (machine_plan machine settings.steps)) said (λ list flag rec is fails. (rec, is, fails))

  module _ (seed : ℕ) (items : List ItemTree) where
    -- the digest is that of an item's name, and an item of this digest fails on the list, or does not
    abbrev IsOwn : List ℕ → Type 0
    IsOwn digest = OfKey items digest (λ item. ⊤)

    abbrev OwnFails : List ℕ → List Choice → Bool → Type 0
    OwnFails digest list flag = OfKey items digest (λ item. Fails name step checks item list flag)

    turn-has : (told : Option Told) (done : List PairEdit) (item : ItemTree) (finding : Finding) (edits : List PairEdit) → Contains items item →
        Turn name step checks seed told done item finding edits → AtAnyTime IsOwn OwnFails edits
    turn-has told done item finding edits among turn =
        body-own item.name.name item.settings item.body
        (λ says. IsFinding says item.name.name seed item.settings.runs item.settings.shrink (lists_of turn.readings) finding × ReplaysItself says finding.verdict)
        (AtAnyTime IsOwn OwnFails edits) turn.examined.found
        (λ says (found, replays) own. edits-have IsOwn OwnFails says (digest_of item) (item, among, refl, tt)
        (λ list flag rec is fails. (item, among, refl, own list flag rec is fails)) finding.verdict turn.readings found.is.records finding.failing edits replays
        turn.spelled found.is.replayed (found.flags ∙ found.is.flags) turn.edited)

    turns-have : (told : Option Told) (done : List PairEdit) (some : List ItemTree) (findings : List Finding) (all : List PairEdit) →
        ((item : ItemTree) → Contains some item → Contains items item) → HaveReasons IsOwn OwnFails [] done →
        AreTurnsAfter name step checks seed told done some findings all → HaveReasons IsOwn OwnFails [] all
    turns-have told done [] [] all known have turns = subst (HaveReasons IsOwn OwnFails []) (sym turns) have
    turns-have told done [] (finding ∷ findings) all known have turns = absurd turns
    turns-have told done (item ∷ some) [] all known have turns = absurd turns
    turns-have told done (item ∷ some) (finding ∷ findings) all known have (edits, turn, turns) =
        let its = turn-has told done item finding edits (known item (0, omega arith, refl)) turn in
        turns-have told (done ++ edits) some findings all (λ other within. known other (among-later item some other within))
        (have-both IsOwn OwnFails done edits [] have its) turns

    none-have : (edits : List PairEdit) → edits ≡ [] → AtAnyTime IsOwn OwnFails edits
    none-have edits none = subst (AtAnyTime IsOwn OwnFails) (sym none) (λ before. tt)

    next-have : (told : Option Told) (findings : List Finding) (done more : List PairEdit) → AreOfNext name step checks seed items told findings done more →
        AtAnyTime IsOwn OwnFails more
    next-have told findings done more (inl none) = none-have more none
    next-have told findings done more (inr (next, stands, inl none)) = none-have more none
    next-have told findings done more (inr (next, stands, inr (finding, turn))) =
        turn-has told done next finding more (among-at items (length findings) next stands) turn

    module _ (findings : List Finding) (start : Told) (image : Files) (midway : IsMidway name step checks seed items findings start image) where
      made-have : HaveReasons IsOwn OwnFails [] midway.edited.0
      made-have =
          let first = turns-have (Some start) [] (take (length findings) items) findings midway.edits (among-first (length findings) items) tt midway.turns in
          let more = next-have (Some start) findings midway.edits midway.more midway.of_next in
          let all = have-both IsOwn OwnFails midway.edits midway.more [] first more in
          have-first IsOwn OwnFails midway.edited.0 midway.edited.1 [] (subst (HaveReasons IsOwn OwnFails []) midway.edited.2 all)

      pub nothing-invented : NothingIsInvented name step checks items (reads (now start)) image
      nothing-invented d b has = ⊎_elim
          (λ was. inl was)
          (λ (list, stored, few, (item, among, same, fails)). inr (item, among, same, (list, stored, few, fails)))
          (was-or-fails IsOwn OwnFails midway.edited.0 made-have (reads (now start)) image midway.edited.3 d b has)

      gone : (d b : List ℕ) (found : Option Unpacked) → IsUnpacked b found →
          Goes IsOwn OwnFails midway.edited.0 made-have (reads (now start)) image midway.edited.3 d found →
          OfKey items d (λ item. (found : Option Unpacked) × IsUnpacked b found × MayGo name step checks item (IsStored image d) found)
      gone d b None unpacks (item, among, same, has) = (item, among, same, (None, unpacks, tt))
      gone d b (Some unpacked) unpacks (inl (item, among, same, passing)) = (item, among, same, (Some unpacked, unpacks, inl passing))
      gone d b (Some unpacked) unpacks (inr ((item, among, same, failing), first, fresh, stored, kept)) =
          (item, among, same, (Some unpacked, unpacks, inr (first, fresh, stored, kept)))

      pub nothing-lost : NothingIsLost name step checks items (reads (now start)) image
      nothing-lost d b was = ⊎_elim
          (λ has. inl has)
          (λ (found, unpacks, goes). inr (gone d b found unpacks goes))
          (there-or-goes IsOwn OwnFails midway.edited.0 made-have (reads (now start)) image midway.edited.3 d b was)

      pub nothing-else : NothingElseChanges items (reads (now start)) image
      nothing-else file spare = ⊎_elim
          (λ same. inl same)
          (λ (edit, (item, among, same, own), is, left).
          let bytes = bytes_of edit in
          inr (item, among, bytes, is ∙ ap (λ (d : List ℕ). file_name d bytes) (sym same), whole-or-away edit (image file) left))
          (same-or-changed IsOwn OwnFails midway.edited.0 made-have (reads (now start)) image midway.edited.3
          (λ digest list flag (item, among, same, fails). (item, among, same, tt)) file spare)
