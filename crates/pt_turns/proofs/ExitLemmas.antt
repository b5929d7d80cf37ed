-- What a crash leaves at the exit of a run, by what the run came to.
use Rattle.std.proofs.Common.{◌≡◌, ◌≢◌, ◌⊎◌, inl, inr, ℕ, zero, suc, ◌<◌, true, false, List, [], ◌∷◌, ◌++◌, length, take, Option, Some, None, refl, sym, ◌∙◌, ap, subst, append-nil, append_assoc, arith}
use Rattle.std.specs.Prelude.{slice_get}
use Rattle.std.specs.List.{AllByRecursion}
use Rattle.pt_choice.specs.declared.choice.Choice.{Choice}
use Rattle.pt_case.specs.Step.{Answer}
use Rattle.pt_ast.specs.Trees.{ItemTree}
use Rattle.pt_disk.specs.Files.{Files}
use Rattle.pt_disk.specs.Folder.{reads, IsImage}
use Rattle.pt_disk.specs.Leaves.{IsTidy}
use Rattle.pt_disk.specs.Moments.{Told, now}
use Rattle.pt_found.specs.declared.finding.Finding.{Finding}
use Rattle.pt_stored.specs.Stored.{pending}
use Rattle.pt_edits.specs.Made.{Settled, SettledAnd}
use Rattle.pt_edits.specs.Pairs.{PairEdit, AreUnder, digest_of as edit_digest, IsAfter}
use Rattle.pt_edits.proofs.CrashLemmas.{settled-and-left, attached-since}
use Rattle.pt_edits.proofs.SetLemmas.{is-after-none, is-after-then}
use Rattle.pt_edits.proofs.UnderLemmas.{all-first, edits-under}
use Rattle.pt_turns.specs.Blocks.{AreWritten}
use Rattle.pt_turns.specs.Crash.{IsMidway, IsAtExit, IsAtEnd}
use Rattle.pt_turns.specs.Ended.{AreOfNext}
use Rattle.pt_turns.specs.Finishes.{PartlyDone, IsHalted, IsCut, Finishes, StoppedShort}
use Rattle.pt_turns.specs.Kept.{AreKept, AreStillKept}
use Rattle.pt_turns.specs.Scene.{Scene}
use Rattle.pt_turns.specs.Turn.{digest_of}
use Rattle.pt_turns.specs.Turns.{FirstTurns}
use Rattle.pt_turns.specs.declared.reporting.Reported.{Reported}
use Rattle.pt_turns.proofs.KeptLemmas.{kept-after}
use Rattle.pt_turns.proofs.TurnsLemmas.{first-of-all}

-- where all edits were made, each image has them
settled-end : (edits : List PairEdit) (old new : Told) (image : Files) → Settled edits true old new → IsTidy pending (now old) → IsImage (now new) image →
    IsAfter (edits ++ []) (reads (now old)) image
settled-end edits old new image settled tidy is =
    let but = (settled.rests tidy refl).images image is in
    is-after-then edits [] (reads (now old)) (reads (now new)) image (settled.edited refl)
    (is-after-none (reads (now new)) image but)

-- ---- what was shown

module _ {X : Type 0} (P : X → Type 0) where
  all-of-first : (n : ℕ) (xs : List X) → AllByRecursion P xs → AllByRecursion P (take n xs)
  all-of-first zero xs all = tt
  all-of-first (suc n) [] all = tt
  all-of-first (suc n) (x ∷ xs) all = (all.0, all-of-first n xs all.1)

  all-at : (xs : List X) (k : ℕ) (x : X) → AllByRecursion P xs → slice_get xs k ≡ Some x → P x
  all-at [] k x all at = cc
  all-at (y ∷ xs) zero x all at = let same : y ≡ x = cc in subst P same all.0
  all-at (y ∷ xs) (suc k) x all at = all-at xs k x all.1 at

-- these edits are none, or under the digest of the item at this place
abbrev UnderNext : List ItemTree → ℕ → List PairEdit → Type 0
UnderNext items count edits = (edits ≡ []) ⊎ ((next : ItemTree) × (slice_get items count ≡ Some next) × AreUnder (digest_of next) edits)

others-all : (digest other : List ℕ) (edits : List PairEdit) → other ≢ digest → AreUnder other edits → AllByRecursion (λ edit. edit_digest edit ≢ digest) edits
others-all digest other [] differ under = tt
others-all digest other (edit ∷ edits) differ under = ((λ same. differ (sym under.0 ∙ same)), others-all digest other edits differ under.1)

others-next : (digest : List ℕ) (items : List ItemTree) (count : ℕ) (edits : List PairEdit) → AllByRecursion (λ other. digest_of other ≢ digest) items →
    UnderNext items count edits → AllByRecursion (λ edit. edit_digest edit ≢ digest) edits
others-next digest items count edits differ (inl none) =
    let P : List PairEdit → Type 0 = λ all. AllByRecursion (λ edit. edit_digest edit ≢ digest) all in subst P (sym none) tt
others-next digest items count edits differ (inr (next, stands, under)) =
    others-all digest (digest_of next) edits (all-at (λ other. digest_of other ≢ digest) items count next differ stands) under

kept-still : (image : Files) (edits : List PairEdit) (items : List ItemTree) (findings : List Finding) → UnderNext items (length findings) edits →
    AreKept image edits (take (length findings) items) findings → AreStillKept image items findings
kept-still image edits items [] under kept = tt
kept-still image edits [] (finding ∷ findings) under kept = absurd kept
kept-still image edits (item ∷ items) (finding ∷ findings) under kept = (
  λ differ. kept.0 (all-of-first (λ other. digest_of other ≢ digest_of item) (length findings) items differ)
      (others-next (digest_of item) items (length findings) edits differ under),
  kept-still image edits items findings under kept.1,
)

module _ {C : Type 0} (name : C → List ℕ) (step : C → List Choice → Answer → Type 0) (checks : List C) (seed : ℕ) (items : List ItemTree) where
  under-none : (count : ℕ) (made left more : List PairEdit) → more ≡ [] → more ≡ made ++ left → UnderNext items count made
  under-none count [] left more none parts = inl refl
  under-none count (edit ∷ made) left more none parts = absurd (let empty : [] ≡ edit ∷ (made ++ left) = sym none ∙ parts in cc)

  under-next : (told : Option Told) (findings : List Finding) (done more made left : List PairEdit) → AreOfNext name step checks seed items told findings done more →
      more ≡ made ++ left → UnderNext items (length findings) made
  under-next told findings done more made left (inl none) parts = under-none (length findings) made left more none parts
  under-next told findings done more made left (inr (next, stands, inl none)) parts = under-none (length findings) made left more none parts
  under-next told findings done more made left (inr (next, stands, inr (finding, turn))) parts =
      let under = edits-under (digest_of next) turn.readings finding.verdict finding.failing more turn.edited in
      let first = all-first (λ edit. edit_digest edit ≡ digest_of next) made left (subst (AreUnder (digest_of next)) parts under) in
      inr (next, stands, first)

  -- at an exit each failure that was shown is stored
  pub exit-kept : (findings : List Finding) (start : Told) (image : Files) → IsAtExit name step checks seed items findings start image →
      AreStillKept image items findings
  exit-kept findings start image exit =
      kept-still image exit.made items findings
      (under-next (Some start) findings exit.edits exit.more exit.made exit.left exit.of_next exit.parts)
      (kept-after name step checks seed (Some start) (reads (now start)) image exit.made [] (take (length findings) items) findings exit.edits exit.turns exit.edited.stored)

  -- an exit is a moment
  pub exit-midway : (findings : List Finding) (start : Told) (image : Files) → IsAtExit name step checks seed items findings start image →
      IsMidway name step checks seed items findings start image
  exit-midway findings start image exit = record {
    edits = exit.edits;
    turns = exit.turns;
    more = exit.more;
    of_next = exit.of_next;
    edited = (
      exit.edits ++ exit.made,
      exit.left,
      ap (λ (all : List PairEdit). exit.edits ++ all) exit.parts ∙ sym (append_assoc exit.edits exit.made exit.left),
      exit.edited,
    );
  }

  -- where all items had their turns, an exit leaves all their edits
  pub end-exit : (findings : List Finding) (start : Told) (image : Files) → IsAtEnd name step checks seed items findings start image →
      IsAtExit name step checks seed items findings start image
  end-exit findings start image (edits, turns, edited) =
      let P : List PairEdit → Type 0 = λ all. IsAfter all (reads (now start)) image in
      record {
        edits = edits;
        turns = first-of-all name step checks seed (Some start) items findings edits turns;
        more = [];
        of_next = inl refl;
        made = [];
        left = [];
        parts = refl;
        edited = subst P (sym (append-nil edits)) edited;
      }

  -- ---- what a run came to

  module _ (start end : Told) (image : Files) (tidy : IsTidy pending (now start)) (is : IsImage (now end) image) where
    abbrev Exit : List Finding → Type 0
    Exit findings = ((findings ≡ []) × IsImage (now start) image) ⊎ IsAtExit name step checks seed items findings start image

    settled-exit : (findings : List Finding) (edits : List PairEdit) → FirstTurns name step checks seed (Some start) items findings edits →
        Settled edits true start end → IsAtExit name step checks seed items findings start image
    settled-exit findings edits turns settled = record {
      edits = edits;
      turns = turns;
      more = [];
      of_next = inl refl;
      made = [];
      left = [];
      parts = refl;
      edited = settled-end edits start end image settled tidy is;
    }

    and-exit : (findings : List Finding) (edits more : List PairEdit) → FirstTurns name step checks seed (Some start) items findings edits →
        AreOfNext name step checks seed items (Some start) findings edits more → SettledAnd edits more (Some start) (Some end) →
        IsAtExit name step checks seed items findings start image
    and-exit findings edits more turns of (None, settled, made) = absurd settled
    and-exit findings edits more turns of (Some mid, settled, made) =
        let (first, rest, parts, edited) = settled-and-left edits more start mid end image settled made tidy is in
        record { edits = edits; turns = turns; more = more; of_next = of; made = first; left = rest; parts = parts; edited = edited }

    partly-exit : (findings : List Finding) → PartlyDone name step checks seed items findings (Some start) (Some end) →
        IsAtExit name step checks seed items findings start image
    partly-exit findings partly = and-exit findings partly.edits partly.more partly.turns partly.of_next partly.kept

    halted-exit : (findings : List Finding) → IsHalted name step checks seed items findings (Some start) (Some end) → Exit findings
    halted-exit findings (inl (none, attached)) =
        inl (none, attached-since false start end image attached (end.clock, attached.moments.later, omega arith, is))
    halted-exit findings (inr partly) = inr (partly-exit findings partly)

    module _ (old new : Scene) (from : old.disk.told ≡ Some start) (to : new.disk.told ≡ Some end) where
      cut-exit : (findings : List Finding) → IsCut name step checks seed items findings old new → Exit findings
      cut-exit findings (inl (edits, turns, settled, written, still)) =
          inr (settled-exit findings edits (rw from at turns) (rw (from, to) at settled))
      cut-exit findings (inr (inl (edits, turns, settled, written, still))) =
          inr (settled-exit findings edits (first-of-all name step checks seed (Some start) items findings edits (rw from at turns)) (rw (from, to) at settled))
      cut-exit findings (inr (inr (inl (halted, rose, written)))) = halted-exit findings (rw (from, to) at halted)
      cut-exit findings (inr (inr (inr (two, clashing, written, still)))) = inr (partly-exit findings (rw (from, to) at clashing.partly))

      pub finished-exit : (reported : Reported) → Finishes name step checks seed items reported old new → Exit reported.findings
      finished-exit reported (inl whole) =
          inr (settled-exit reported.findings whole.edits
          (first-of-all name step checks seed (Some start) items reported.findings whole.edits (rw from at whole.turns)) (rw (from, to) at whole.kept))
      finished-exit reported (inr (inl unstored)) = halted-exit reported.findings (rw (from, to) at unstored.halted)
      finished-exit reported (inr (inr (inl clashed))) = inr (partly-exit reported.findings (rw (from, to) at clashed.clashing.partly))
      finished-exit reported (inr (inr (inr unwritten))) = cut-exit reported.findings unwritten.cut

      pub finished-end : (reported : Reported) → Finishes name step checks seed items reported old new → reported.status < 2 →
          IsAtEnd name step checks seed items reported.findings start image
      finished-end reported (inl whole) below =
          let P : List PairEdit → Type 0 = λ all. IsAfter all (reads (now start)) image in (
            whole.edits,
            rw from at whole.turns,
            subst P (append-nil whole.edits) (settled-end whole.edits start end image (rw (from, to) at whole.kept) tidy is),
          )
      finished-end reported (inr (inl unstored)) below = absurd (omega (arith, unstored.ends, below))
      finished-end reported (inr (inr (inl clashed))) below = absurd (omega (arith, clashed.ends, below))
      finished-end reported (inr (inr (inr unwritten))) below = absurd (omega (arith, unwritten.ends, below))

      pub stopped-exit : (short : StoppedShort name step checks seed items old new) →
          (findings : List Finding) × AreWritten findings old.sink.bytes new.sink.bytes × IsAtExit name step checks seed items findings start image
      stopped-exit short = (short.findings, short.written, partly-exit short.findings (rw (from, to) at short.partly))
