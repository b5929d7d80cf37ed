-- The edits of a turn are all under one digest.
use Rattle.std.proofs.Common.{◌≡◌, ◌≢◌, ⊎_elim, inl, ℕ, Bool, true, false, List, [], ◌∷◌, ◌++◌, Option, Some, None, refl, sym, ◌∙◌, subst}
use Rattle.std.specs.Prelude.{◌↔◌}
use Rattle.std.specs.List.{AllByRecursion}
use Rattle.pt_choice.specs.declared.choice.Choice.{Choice}
use Rattle.pt_disk.specs.Files.{Files}
use Rattle.pt_wire.specs.declared.unpacking.Unpacked.{Unpacked}
use Rattle.pt_found.specs.declared.finding.Verdict.{Verdict}
use Rattle.pt_found.specs.declared.finding.Verdict.TheVariants.{Passed, GaveUp, Failed}
use Rattle.pt_stored.specs.Stored.{IsStored}
use Rattle.pt_edits.specs.Differences.{SameElsewhere}
use Rattle.pt_edits.specs.Pairs.{Pairs, PairEdit, SavePair, DeletePair, AreUnder, digest_of, after, after_all, IsAfterSome}
use Rattle.pt_edits.specs.Readings.{IsRenewed, IsKeptOrNot, IsAskedBy, AreAskedFor, IsShownSaved, AreEdits}
use Rattle.pt_edits.specs.declared.reading.Reading.{Reading}

module _ {X : Type 0} (P : X → Type 0) where
  pub all-append : (one more : List X) → AllByRecursion P one → AllByRecursion P more → AllByRecursion P (one ++ more)
  all-append [] more first second = second
  all-append (x ∷ one) more first second = (first.0, all-append one more first.1 second)

  pub all-first : (one more : List X) → AllByRecursion P (one ++ more) → AllByRecursion P one
  all-first [] more all = tt
  all-first (x ∷ one) more all = (all.0, all-first one more all.1)

module _ (digest : List ℕ) where
  under-renewed : (bytes : List ℕ) (list : List Choice) (old : Bool) (edits : List PairEdit) → IsRenewed digest bytes list old edits → AreUnder digest edits
  under-renewed bytes list true edits (fresh, stored, is) = subst (AreUnder digest) (sym is) (refl, (refl, tt))
  under-renewed bytes list false edits is = subst (AreUnder digest) (sym is) tt

  under-kept : (bytes : List ℕ) (unpacked : Unpacked) (flag : Bool) (edits : List PairEdit) → IsKeptOrNot digest bytes unpacked flag edits → AreUnder digest edits
  under-kept bytes unpacked true edits kept = under-renewed bytes unpacked.list unpacked.old edits kept
  under-kept bytes unpacked false edits is = subst (AreUnder digest) (sym is) (refl, tt)

  under-its : (bytes : List ℕ) (found : Option Unpacked) (flags left : List Bool) (edits : List PairEdit) → IsAskedBy digest bytes found flags left edits → AreUnder digest edits
  under-its bytes None flags left edits asked = subst (AreUnder digest) (sym asked.1) (refl, tt)
  under-its bytes (Some unpacked) flags left edits (flag, is, kept) = under-kept bytes unpacked flag edits kept

  under-asked : (readings : List Reading) (flags : List Bool) (edits : List PairEdit) → AreAskedFor digest readings flags edits → AreUnder digest edits
  under-asked [] flags edits is = subst (AreUnder digest) (sym is) tt
  under-asked (reading ∷ readings) flags edits (left, its, rest, asked, follow, parts) =
      subst (AreUnder digest) (sym parts)
      (all-append (λ edit. digest_of edit ≡ digest) its rest (under-its reading.bytes reading.unpacked flags left its asked) (under-asked readings left rest follow))

  under-shown : (verdict : Verdict) (edits : List PairEdit) → IsShownSaved digest verdict edits → AreUnder digest edits
  under-shown Passed edits is = subst (AreUnder digest) (sym is) tt
  under-shown GaveUp edits is = subst (AreUnder digest) (sym is) tt
  under-shown (Failed shown found spent) edits (fresh, stored, is) = subst (AreUnder digest) (sym is) (refl, tt)

  pub edits-under : (readings : List Reading) (verdict : Verdict) (flags : List Bool) (edits : List PairEdit) → AreEdits digest readings verdict flags edits → AreUnder digest edits
  edits-under readings verdict flags edits (first, rest, saved, asked, parts) =
      subst (AreUnder digest) (sym parts) (all-append (λ edit. digest_of edit ≡ digest) first rest (under-shown verdict first saved) (under-asked readings flags rest asked))

  -- ---- under other digests nothing changes

  after-other : (edit : PairEdit) (S : Pairs) (d b : List ℕ) → digest_of edit ≡ digest → d ≢ digest → after edit S d b ↔ S d b
  after-other (SavePair digest bytes) S d b its other = (λ has. ⊎_elim (λ was. was) (λ pair. absurd (other (pair.0 ∙ its))) has, λ was. inl was)
  after-other (DeletePair digest bytes) S d b its other = (λ has. has.0, λ was. (was, λ pair. other (pair.0 ∙ its)))

  after-all-other : (edits : List PairEdit) (S : Pairs) (d b : List ℕ) → AreUnder digest edits → d ≢ digest → after_all edits S d b ↔ S d b
  after-all-other [] S d b under other = (λ has. has, λ has. has)
  after-all-other (edit ∷ edits) S d b under other =
      let rest = after-all-other edits (after edit S) d b under.1 other in
      let first = after-other edit S d b under.0 other in
      (λ has. first.0 (rest.0 has), λ was. rest.1 (first.1 was))

  pub same-elsewhere : (edits : List PairEdit) (old new : Files) → AreUnder digest edits → IsAfterSome edits old new → SameElsewhere digest old new
  same-elsewhere edits old new under (made, left, parts, edited) d b other =
      let same = after-all-other made (IsStored old) d b (all-first (λ edit. digest_of edit ≡ digest) made left (subst (AreUnder digest) parts under)) other in
      (λ has. same.0 ((edited.stored d b).0 has), λ was. (edited.stored d b).1 (same.1 was))
