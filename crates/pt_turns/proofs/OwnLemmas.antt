-- Two runs of the same items agree on those that no earlier item's edits reach.
use Rattle.std.proofs.Common.{◌≡◌, inl, ⊎_elim, ℕ, List, [], ◌∷◌, ◌++◌, Some, map, sym, subst, arith}
use Rattle.std.specs.Prelude.{◌↔◌, Contains}
use Rattle.std.specs.List.{AllByRecursion}
use Rattle.pt_choice.specs.declared.choice.Choice.{Choice}
use Rattle.pt_wire.specs.Unpacked.{Unpacks}
use Rattle.pt_case.specs.Step.{Answer}
use Rattle.pt_ast.specs.Names.{AreDistinct}
use Rattle.pt_ast.specs.Trees.{ItemTree}
use Rattle.pt_disk.specs.Folder.{reads}
use Rattle.pt_disk.specs.Moments.{Told, now}
use Rattle.pt_stored.specs.Stored.{IsStored, SameStored}
use Rattle.pt_found.specs.declared.finding.Finding.{Finding}
use Rattle.pt_edits.specs.Pairs.{Pairs, PairEdit, SavePair, DeletePair, after, after_all, AreUnder, digest_of}
use Rattle.pt_edits.specs.Readings.{lists_of}
use Rattle.pt_edits.proofs.UnderLemmas.{all-append, edits-under}
use Rattle.pt_turns.specs.Agree.{AgreeOn, AgreeWhereOwn}
use Rattle.pt_turns.specs.Examined.{Examined}
use Rattle.pt_turns.specs.Turn.{Turn, digest_of as turn_digest}
use Rattle.pt_turns.specs.Turns.{AreTurnsAfter}
use Rattle.pt_turns.proofs.AgreeLemmas.{item-agrees}
use Rattle.pt_turns.proofs.SameReadings.{there, one-reading}

-- ---- edits under other digests

-- each of the edits is under one of these digests
abbrev pub AreAmong : List (List ℕ) → List PairEdit → Type 0
AreAmong digests edits = AllByRecursion (λ edit. Contains digests (digest_of edit)) edits

pub among-more : (digest : List ℕ) (digests : List (List ℕ)) (edits : List PairEdit) → AreAmong digests edits → AreAmong (digest ∷ digests) edits
among-more digest digests [] among = tt
among-more digest digests (edit ∷ edits) among = (there digest digests (digest_of edit) among.0, among-more digest digests edits among.1)

pub among-under : (digest : List ℕ) (digests : List (List ℕ)) (edits : List PairEdit) → AreUnder digest edits → AreAmong (digest ∷ digests) edits
among-under digest digests [] under = tt
among-under digest digests (edit ∷ edits) under = ((0, omega arith, sym under.0), among-under digest digests edits under.1)

-- an edit under another digest leaves what is stored under this one
pub other-edit : (edit : PairEdit) (S : Pairs) (d b : List ℕ) → (digest_of edit ≡ d → ⊥) → after edit S d b ↔ S d b
other-edit (SavePair digest bytes) S d b other = (
  λ has. ⊎_elim (λ was. was) (λ pair. absurd (other (sym pair.0))) has,
  λ was. inl was,
)
other-edit (DeletePair digest bytes) S d b other = (λ has. has.0, λ was. (was, λ pair. other (sym pair.0)))

pub others-left : (digests : List (List ℕ)) (edits : List PairEdit) (S : Pairs) (d b : List ℕ) → AreAmong digests edits → ¬ Contains digests d →
    after_all edits S d b ↔ S d b
others-left digests [] S d b among none = (λ has. has, λ has. has)
others-left digests (edit ∷ edits) S d b among none =
    let P : List ℕ → Type 0 = λ digest. Contains digests digest in
    let first = other-edit edit S d b (λ is. none (subst P is among.0)) in
    let rest = others-left digests edits (after edit S) d b among.1 none in
    (λ has. first.0 (rest.0 has), λ has. rest.1 (first.1 has))

-- ---- turns over disks that store the same

module _ (one-list : (list other : List Choice) (bytes : List ℕ) → Unpacks bytes list → Unpacks bytes other → list ≡ other)
    {C : Type 0} (name : C → List ℕ) (step : C → List Choice → Answer → Type 0) (checks : List C) (distinct : AreDistinct (map name checks)) (seed : ℕ)
    (told telling : Told) (same : SameStored (reads (now told)) (reads (now telling))) where
  own-agrees : (earlier : List (List ℕ)) (item : ItemTree) (done did edits more : List PairEdit) (one other : Finding) → AreAmong earlier done →
      AreAmong earlier did → Turn name step checks seed (Some told) done item one edits → Turn name step checks seed (Some telling) did item other more →
      ¬ Contains earlier (turn_digest item) → AgreeOn name step checks item one other
  own-agrees earlier item done did edits more one other among between a b own =
      let digest = turn_digest item in
      let was = λ (v : List ℕ). others-left earlier done (IsStored (reads (now told))) digest v among own in
      let is = λ (v : List ℕ). others-left earlier did (IsStored (reads (now telling))) digest v between own in
      let lists : lists_of b.readings ≡ lists_of a.readings = one-reading one-list digest b.readings a.readings b.ordered a.ordered b.spelled a.spelled (λ v. (
        λ has. (a.of_key v).1 ((was v).1 ((same digest v).0 ((is v).0 ((b.of_key v).0 has)))),
        λ has. (b.of_key v).1 ((is v).1 ((same digest v).1 ((was v).0 ((a.of_key v).0 has)))),
      )) in
      let P : List (List Choice) → Type 0 = λ stored. Examined name step checks seed stored item other in
      item-agrees name step checks distinct seed (lists_of a.readings) item one other a.examined (subst P lists b.examined)

  pub turns-agree : (earlier : List (List ℕ)) (done did : List PairEdit) (items : List ItemTree) (one other : List Finding) (edits more : List PairEdit) →
      AreAmong earlier done → AreAmong earlier did → AreTurnsAfter name step checks seed (Some told) done items one edits →
      AreTurnsAfter name step checks seed (Some telling) did items other more → AgreeWhereOwn name step checks earlier items one other
  turns-agree earlier done did [] [] [] edits more among between a b = tt
  turns-agree earlier done did [] (one ∷ ones) others edits more among between a b = elim a [ ]
  turns-agree earlier done did [] [] (other ∷ others) edits more among between a b = elim b [ ]
  turns-agree earlier done did (item ∷ items) [] others edits more among between a b = elim a [ ]
  turns-agree earlier done did (item ∷ items) (one ∷ ones) [] edits more among between a b = elim b [ ]
  turns-agree earlier done did (item ∷ items) (one ∷ ones) (other ∷ others) edits more among between a b =
      let digest = turn_digest item in
      let its = edits-under digest a.1.readings one.verdict one.failing a.0 a.1.edited in
      let theirs = edits-under digest b.1.readings other.verdict other.failing b.0 b.1.edited in (
        own-agrees earlier item done did a.0 b.0 one other among between a.1 b.1,
        turns-agree (digest ∷ earlier) (done ++ a.0) (did ++ b.0) items ones others edits more
            (all-append (λ edit. Contains (digest ∷ earlier) (digest_of edit)) done a.0 (among-more digest earlier done among) (among-under digest earlier a.0 its))
            (all-append (λ edit. Contains (digest ∷ earlier) (digest_of edit)) did b.0 (among-more digest earlier did between) (among-under digest earlier b.0 theirs)) a.2 b.2,
      )
