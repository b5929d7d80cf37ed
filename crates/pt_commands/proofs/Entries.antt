-- What is listed of a folder that was settled first.
use Rattle.std.proofs.Common.{◌≡◌, ◌⊎◌, inl, inr, ℕ, ◌≤◌, true, false, List, [], ◌∷◌, length, Option, Some, None, refl, sym, ◌∙◌, ap, subst}
use Rattle.std.specs.Prelude.{All, ⊤}
use Rattle.std.proofs.lemmas.List.Elements.{All-nil, All-cons, All-head, All-tail}
use Rattle.pt_disk.specs.Calls.{HasCause, Rests}
use Rattle.pt_disk.specs.Files.{Files}
use Rattle.pt_disk.specs.Folder.{Folder, reads, IsImage}
use Rattle.pt_disk.specs.Leaves.{IsAtRest, IsTidy}
use Rattle.pt_disk.specs.Moments.{Told, now, Elapsed, BothTell}
use Rattle.pt_disk.proofs.Times.{elapsed-now, elapsed-then, elapsed-weaker}
use Rattle.pt_stored.specs.Digest.{file_name}
use Rattle.pt_stored.specs.Entries.{AreEntries, AreInOrder, IsEntry, IsShown}
use Rattle.pt_stored.specs.Stored.{SameStored, pending}
use Rattle.pt_stored.specs.declared.entry.Entry.{Entry}
use Rattle.pt_db.specs.Attaching.{Attached}
use Rattle.pt_db.specs.Reading.{AreTheEntries}
use Rattle.pt_db.proofs.Telling.{both-then, IsAsAt, rested}
use Rattle.pt_report.specs.declared.refusal.Refusal.TheVariants.{Database}
use Rattle.pt_turns.specs.Scene.{DiskShown}
use Rattle.pt_commands.specs.Ends.{Lists}
use Rattle.pt_commands.specs.declared.message.Message.TheVariants.{Refused, Listed}

-- a crash leaves what it might have left of the start
abbrev LeftOf : Folder → Folder → Type 0
LeftOf start folder = (image : Files) → IsImage folder image → IsImage start image

-- a folder that was settled and then read was settled
settled-read : (old mid new : Told) → Attached true old mid → Elapsed (IsAsAt mid) mid new → Attached true old new
settled-read old mid new settled rests =
    let same = rested mid new rests in
    let left : LeftOf (now old) (now mid) = elapsed-now (LeftOf (now old)) old mid settled.moments (λ image is. is) in
    record {
      moments = elapsed-then (LeftOf (now old)) old mid new settled.moments
          (elapsed-weaker (IsAsAt mid) (LeftOf (now old)) mid new (λ folder is. subst (LeftOf (now old)) (sym is) left) rests);
      settled = λ ok. same ∙ settled.settled ok;
      same = λ ok name. ap (λ (f : Folder). reads f name) same ∙ settled.same ok name;
      image = subst (λ (f : Folder). IsImage (now old) (reads f)) (sym same) settled.image;
      tidy = λ is. elapsed-then (IsTidy pending) old mid new (settled.tidy is)
          (elapsed-weaker (IsAsAt mid) (IsTidy pending) mid new
          (λ folder at. subst (IsTidy pending) (sym at) (elapsed-now (IsTidy pending) old mid (settled.tidy is) is)) rests);
      rests = λ is ok. subst (IsAtRest pending) (sym same) (settled.rests is ok);
      kept = λ is ok. subst (λ (f : Folder). (image : Files) → IsImage f image → SameStored (reads f) image) (sym same) (settled.kept is ok);
    }

pub both-settled-read : (old mid new : Option Told) → BothTell (Attached true) old mid → Rests mid new → BothTell (Attached true) old new
both-settled-read old mid new = both-then (Attached true) (λ old new. Elapsed (IsAsAt old) old new) (Attached true) old mid new settled-read

-- an entry of the one files is one of the others, which read alike
entry-of : (one other : Files) → ((name : List ℕ) → other name ≡ one name) → (entry : Entry) → IsEntry other entry → IsEntry one entry
entry-of one other same entry is = record {
  stored = record { key = is.stored.key; short = is.stored.short; file = sym (same (file_name entry.key entry.bytes)) ∙ is.stored.file };
  named = is.named;
}

entries-before : (old mid : Told) (entries : List Entry) → Attached true old mid → AreEntries None (reads (now mid)) entries → AreEntries None (reads (now old)) entries
entries-before old mid entries settled are entry = (
  λ has. (entry-of (reads (now old)) (reads (now mid)) (settled.same refl) entry ((are entry).0 has).0, tt),
  λ is. (are entry).1 (entry-of (reads (now mid)) (reads (now old)) (λ name. sym (settled.same refl name)) entry is.0, tt),
)

-- the entries of a settled folder are those from before
pub both-entries-before : (old mid : Option Told) (entries : List Entry) → BothTell (Attached true) old mid → AreTheEntries None mid entries → AreTheEntries None old entries
both-entries-before None None entries settled are = tt
both-entries-before (Some old) (Some mid) entries settled are = entries-before old mid entries settled are
both-entries-before None (Some mid) entries settled are = absurd settled
both-entries-before (Some old) None entries settled are = absurd settled

-- entries that are shown are short
pub shown-short : (entries : List Entry) → All IsShown entries → All (λ entry. length entry.bytes ≤ 65536) entries
shown-short [] shown = All-nil (λ (entry : Entry). length entry.bytes ≤ 65536)
shown-short (entry ∷ entries) shown =
    All-cons (λ (entry : Entry). length entry.bytes ≤ 65536) entry entries (All-head IsShown entry entries shown).short
    (shown-short entries (All-tail IsShown entry entries shown))

-- a folder was settled, unless the call failed, which it did not
settled-unless : (A F B : Type 0) → (F → ⊥) → A ⊎ (F × B) → A
settled-unless A F B not (inl settled) = settled
settled-unless A F B not (inr (failed, lost)) = absurd (not failed)

-- what is left of a listing whose entries were read
pub listed : (old new : DiskShown) (entries : List Entry) (F B : Type 0) → (F → ⊥) → AreTheEntries None old.told entries → AreInOrder entries →
    BothTell (Attached true) old.told new.told ⊎ (F × B) → HasCause F old.faults new.faults → Lists old new (Listed entries)
listed old new entries F B not are ordered settled cause = (ordered, are, settled-unless _ F B not settled, cause.quiet not)

-- and of one whose disk failed
pub unlisted : (old new : DiskShown) (F : Type 0) → F → BothTell (Attached true) old.told new.told ⊎ (F × BothTell (Attached false) old.told new.told) →
    HasCause F old.faults new.faults → Lists old new (Refused Database)
unlisted old new F failed (inl settled) cause = (inl settled, cause.rose failed)
unlisted old new F failed (inr (is, lost)) cause = (inr lost, cause.rose failed)

-- what holds of a disk at the end of a listing, of which the last value is known
module _ {D : Type 0} (faults : D → ℕ) (tells : D → Option Told) where
  pub read-settled : (old mid read last : D) (F B : Type 0) → last ≡ read → BothTell (Attached true) (tells old) (tells mid) → Rests (tells mid) (tells read) →
      BothTell (Attached true) (tells old) (tells last) ⊎ (F × B)
  read-settled old mid read last F B is settled rests =
      inl (subst (λ (d : D). BothTell (Attached true) (tells old) (tells d)) (sym is) (both-settled-read (tells old) (tells mid) (tells read) settled rests))

  pub lost-settled : (old lost last : D) (A F : Type 0) → F → last ≡ lost → BothTell (Attached false) (tells old) (tells lost) →
      A ⊎ (F × BothTell (Attached false) (tells old) (tells last))
  lost-settled old lost last A F failed is settled =
      inr (failed, subst (λ (d : D). BothTell (Attached false) (tells old) (tells d)) (sym is) settled)

  pub lost-cause : (old lost last : D) (F : Type 0) → F → last ≡ lost → HasCause ⊤ (faults old) (faults lost) → HasCause F (faults old) (faults last)
  lost-cause old lost last F failed is cause =
      let here : HasCause ⊤ (faults old) (faults last) = subst (λ (d : D). HasCause ⊤ (faults old) (faults d)) (sym is) cause in
      record { later = here.later; rose = λ f. here.rose tt; quiet = λ not. absurd (not failed) }
