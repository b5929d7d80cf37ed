-- The four calls that write a file, and the two that remove one.
use Rattle.std.proofs.Common.{◌≡◌, ◌≢◌, inl, inr, ℕ, Bool, true, false, List, Option, Some, None, Result, Ok, Err, IsErr, is_ok, refl, sym, ◌∙◌, ap, subst}
use Rattle.std.specs.Prelude.{if◌then◌else◌, not, ◌&&◌, is_some}
use Rattle.pt_disk.specs.Files.{SameBut, with_file, is_name}
use Rattle.pt_disk.specs.Folder.{Folder, After, reads, is_unsynced, after_rename}
use Rattle.pt_disk.specs.Moments.{Told, now, IsWithin, BothTell}
use Rattle.pt_disk.specs.Calls.{Changed, Changes, IsThere}
use Rattle.pt_disk.specs.Leaves.{Only, OneOf, IsAtRest}
use Rattle.pt_disk.specs.declared.change.Change.TheVariants.{Put, Sync, Rename, Remove, Settle}
use Rattle.pt_disk.proofs.Names.{name-same, name-other}
use Rattle.pt_disk.proofs.Folders.{leaves-within, leaves-weaker, only-put, only-sync, one-renamed, one-removed, only-settled}
use Rattle.pt_disk.proofs.Times.{elapsed-none, elapsed-then, elapsed-weaker}
use Rattle.pt_stored.specs.Stored.{pending}
use Rattle.pt_db.specs.Editing.{saved_as, removed}
use Rattle.pt_db.specs.Writing.{LeavesOne, Reached}
use Rattle.pt_db.proofs.Telling.{both-then, both-weaker}

-- ---- one call more

module _ (name : List ℕ) (file : Option (List ℕ)) where
  abbrev no_calls : Folder → Folder
  no_calls folder = folder

  -- from a disk at rest a crash after these calls leaves the files of the start, or these with the file
  abbrev pub AreSafe : (Folder → Folder) → Type 0
  AreSafe calls = (start : Folder) → IsAtRest pending start → LeavesOne name file start (calls start)

  pub none-safe : AreSafe no_calls
  none-safe start rests = leaves-weaker pending (SameBut pending (reads start)) (OneOf pending name file (reads start)) start (λ image but. inl but) rests

  pub begun : (told : Told) → Reached name file no_calls true told told
  begun told = record { here = λ ok. refl; moments = λ rests. elapsed-none (LeavesOne name file (now told)) told }

  pub step : (calls change : Folder → Folder) (ok : Bool) → AreSafe calls → AreSafe (λ folder. change (calls folder)) →
      (old mid new : Told) → Reached name file calls true old mid → Changed change ok mid new → Reached name file (λ folder. change (calls folder)) ok old new
  step calls change ok before after old mid new so_far changed =
      let is = so_far.here refl in
      record {
        here = λ went. changed.done went ∙ ap change is;
        moments = λ rests. elapsed-then (LeavesOne name file (now old)) old mid new (so_far.moments rests)
            (elapsed-weaker (IsWithin (now mid) (change (now mid))) (LeavesOne name file (now old)) mid new
            (λ folder. leaves-within pending (OneOf pending name file (reads (now old))) (now mid) (change (now mid)) folder
            (subst (LeavesOne name file (now old)) (sym is) (before (now old) rests))
            (subst (λ (f : Folder). LeavesOne name file (now old) (change f)) (sym is) (after (now old) rests)))
            changed.moments);
      }

  -- a settle, after which reads give the files with this one
  pub settled-safe : (calls : Folder → Folder) → AreSafe calls → ((start : Folder) → SameBut pending (with_file name file (reads start)) (reads (calls start))) →
      AreSafe (λ folder. After Settle (calls folder))
  settled-safe calls safe has start rests =
      leaves-weaker pending (SameBut pending (with_file name file (reads start))) (OneOf pending name file (reads start)) (After Settle (calls start)) (λ image but. inr but)
      (only-settled pending (OneOf pending name file (reads start)) (with_file name file (reads start)) (calls start) (safe start rests) (has start))

  pub settled-rests : (calls : Folder → Folder) → AreSafe calls → (start : Folder) → IsAtRest pending start → IsAtRest pending (After Settle (calls start))
  settled-rests calls safe start rests = only-settled pending (OneOf pending name file (reads start)) (reads (calls start)) (calls start) (safe start rests) (λ n other. refl)

-- ---- a file that is written

module _ (name bytes : List ℕ) (other : name ≢ pending) where
  abbrev pub after_put : Folder → Folder
  after_put folder = After (Put pending bytes) folder

  abbrev pub after_sync : Folder → Folder
  after_sync folder = After (Sync pending) (after_put folder)

  abbrev pub after_the_rename : Folder → Folder
  after_the_rename folder = after_rename pending name (after_sync folder)

  abbrev Safe : (Folder → Folder) → Type 0
  Safe = AreSafe name (Some bytes)

  safe-only : (calls : Folder → Folder) → ((start : Folder) → IsAtRest pending start → Only pending (reads start) (calls start)) → Safe calls
  safe-only calls only start rests = leaves-weaker pending (SameBut pending (reads start)) (OneOf pending name (Some bytes) (reads start)) (calls start) (λ image but. inl but) (only start rests)

  put-only : (start : Folder) → IsAtRest pending start → Only pending (reads start) (after_put start)
  put-only start rests = only-put pending (reads start) bytes start rests

  sync-only : (start : Folder) → IsAtRest pending start → Only pending (reads start) (after_sync start)
  sync-only start rests = only-sync pending (SameBut pending (reads start)) pending (after_put start) (put-only start rests)

  -- what lies under the spare name is whole and stable
  there : (start : Folder) → reads (after_sync start) pending ≡ Some bytes
  there start = ap (λ (b : Bool). if b then Some bytes else reads start pending) (name-same pending)

  stable : (start : Folder) → is_unsynced (after_sync start) pending ≡ false
  stable start = ap (λ (b : Bool). not b && is_unsynced (after_put start) pending) (name-same pending)

  is-renamed : (folder : Folder) → after_rename pending name folder ≡ After (Rename pending name) folder
  is-renamed folder = ap (λ (b : Bool). if b then folder else After (Rename pending name) folder) (name-other pending name (λ same. other (sym same)))

  rename-safe : Safe after_the_rename
  rename-safe start rests = subst (LeavesOne name (Some bytes) start) (sym (is-renamed (after_sync start)))
      (one-renamed pending name bytes (reads start) (after_sync start) (sync-only start rests) (stable start) (there start))

  renamed-reads : (start : Folder) (n : List ℕ) → n ≢ pending → (b : Bool) → is_name n name ≡ b → reads (After (Rename pending name) (after_sync start)) n ≡ with_file name (Some bytes) (reads start) n
  renamed-reads start n spare true is =
      ap (λ (b : Bool). if b then reads (after_sync start) pending else (if is_name n pending then None else reads (after_sync start) n)) is
      ∙ there start ∙ sym (ap (λ (b : Bool). if b then Some bytes else reads start n) is)
  renamed-reads start n spare false is =
      ap (λ (b : Bool). if b then reads (after_sync start) pending else (if is_name n pending then None else reads (after_sync start) n)) is
      ∙ ap (λ (b : Bool). if b then None else (if b then Some bytes else reads start n)) (name-other n pending spare)
      ∙ sym (ap (λ (b : Bool). if b then Some bytes else reads start n) is)

  pub written-reads : (start : Folder) → SameBut pending (with_file name (Some bytes) (reads start)) (reads (after_the_rename start))
  written-reads start n spare = ap (λ (f : Folder). reads f n) (is-renamed (after_sync start)) ∙ renamed-reads start n spare (is_name n name) refl

  pub written-rests : (start : Folder) → IsAtRest pending start → IsAtRest pending (saved_as name bytes start)
  written-rests = settled-rests name (Some bytes) after_the_rename rename-safe

  -- what two disks tell before and after the first calls
  abbrev AreWritten : (Folder → Folder) → Bool → Option Told → Option Told → Type 0
  AreWritten calls ok = BothTell (Reached name (Some bytes) calls ok)

  module _ (o0 o1 : Option Told) where
    pub wrote-put : (ok : Bool) → Changes after_put ok o0 o1 → AreWritten after_put ok o0 o1
    wrote-put ok = both-weaker (Changed after_put ok) (Reached name (Some bytes) after_put ok) o0 o1
        (λ old new. step name (Some bytes) (no_calls name (Some bytes)) after_put ok (none-safe name (Some bytes)) (safe-only after_put put-only) old old new (begun name (Some bytes) old))

    pub wrote-sync : (ok : Bool) (o2 : Option Told) → Changes after_put true o0 o1 → Changes (After (Sync pending)) ok o1 o2 → AreWritten after_sync ok o0 o2
    wrote-sync ok o2 put sync = both-then (Reached name (Some bytes) after_put true) (Changed (After (Sync pending)) ok) (Reached name (Some bytes) after_sync ok) o0 o1 o2
        (step name (Some bytes) after_put (After (Sync pending)) ok (safe-only after_put put-only) (safe-only after_sync sync-only)) (wrote-put true put) sync

    pub wrote-rename : (ok : Bool) (o2 o3 : Option Told) → Changes after_put true o0 o1 → Changes (After (Sync pending)) true o1 o2 → Changes (after_rename pending name) ok o2 o3 →
        AreWritten after_the_rename ok o0 o3
    wrote-rename ok o2 o3 put sync rename = both-then (Reached name (Some bytes) after_sync true) (Changed (after_rename pending name) ok) (Reached name (Some bytes) after_the_rename ok) o0 o2 o3
        (step name (Some bytes) after_sync (after_rename pending name) ok (safe-only after_sync sync-only) rename-safe) (wrote-sync true o2 put sync) rename

    pub wrote : (ok : Bool) (o2 o3 o4 : Option Told) → Changes after_put true o0 o1 → Changes (After (Sync pending)) true o1 o2 → Changes (after_rename pending name) true o2 o3 →
        Changes (After Settle) ok o3 o4 → AreWritten (saved_as name bytes) ok o0 o4
    wrote ok o2 o3 o4 put sync rename settle = both-then (Reached name (Some bytes) after_the_rename true) (Changed (After Settle) ok) (Reached name (Some bytes) (saved_as name bytes) ok) o0 o3 o4
        (step name (Some bytes) after_the_rename (After Settle) ok rename-safe (settled-safe name (Some bytes) after_the_rename rename-safe written-reads)) (wrote-rename true o2 o3 put sync rename) settle

-- ---- a file that is removed

module _ (name : List ℕ) where
  abbrev after_remove : Folder → Folder
  after_remove folder = After (Remove name) folder

  remove-safe : AreSafe name None after_remove
  remove-safe start rests = one-removed pending name (reads start) start rests

  pub removed-reads : (start : Folder) → SameBut pending (with_file name None (reads start)) (reads (after_remove start))
  removed-reads start n spare = refl

  pub removed-rests : (start : Folder) → IsAtRest pending start → IsAtRest pending (removed name start)
  removed-rests = settled-rests name None after_remove remove-safe

  module _ (o0 o1 : Option Told) where
    pub erased-one : (ok : Bool) → Changes (After (Remove name)) ok o0 o1 → BothTell (Reached name None after_remove ok) o0 o1
    erased-one ok = both-weaker (Changed after_remove ok) (Reached name None after_remove ok) o0 o1
        (λ old new. step name None (no_calls name None) after_remove ok (none-safe name None) remove-safe old old new (begun name None old))

    pub erased : (ok : Bool) (o2 : Option Told) → Changes (After (Remove name)) true o0 o1 → Changes (After Settle) ok o1 o2 → BothTell (Reached name None (removed name) ok) o0 o2
    erased ok o2 remove settle = both-then (Reached name None after_remove true) (Changed (After Settle) ok) (Reached name None (removed name) ok) o0 o1 o2
        (step name None after_remove (After Settle) ok remove-safe (settled-safe name None after_remove remove-safe removed-reads)) (erased-one true remove) settle

-- ---- calls that failed

-- what was put and synced is there
pub still-there : (name bytes : List ℕ) (old mid new : Option Told) → Changes (After (Put name bytes)) true old mid → Changes (After (Sync name)) true mid new → IsThere new name
still-there name bytes None None None first second = tt
still-there name bytes (Some old) (Some mid) (Some new) first second =
    ap (λ (folder : Folder). is_some (reads folder name)) (second.done refl ∙ ap (After (Sync name)) (first.done refl))
    ∙ ap (λ (b : Bool). is_some (if b then Some bytes else reads (now old) name)) (name-same name)
still-there name bytes None (Some mid) new first second = absurd first
still-there name bytes (Some old) None new first second = absurd first
still-there name bytes None None (Some new) first second = absurd second
still-there name bytes (Some old) (Some mid) None first second = absurd second

-- a call that failed reached nothing
failed : (name : List ℕ) (file : Option (List ℕ)) (calls all : Folder → Folder) (old new : Told) → Reached name file calls false old new → Reached name file all false old new
failed name file calls all old new reached = record { here = λ ok. absurd (cc ok); moments = reached.moments }

err-not_ok : {A E : Type 0} (result : Result A E) → IsErr result → is_ok result ≡ false
err-not_ok (Ok x) err = absurd (cc err)
err-not_ok (Err e) err = refl

pub gave-up : (name : List ℕ) (file : Option (List ℕ)) (calls all : Folder → Folder) {E : Type 0} (result : Result (Unit {0}) E) (old new : Option Told) → IsErr result →
    BothTell (Reached name file calls false) old new → BothTell (Reached name file all (is_ok result)) old new
gave-up name file calls all result old new err both =
    subst (λ (ok : Bool). BothTell (Reached name file all ok) old new) (sym (err-not_ok result err))
    (both-weaker (Reached name file calls false) (Reached name file all false) old new (failed name file calls all) both)

-- a call of the disk, and then what the store makes of it
pub carry : {D : Type 0} (tells : D → Option Told) (change : Folder → Folder) (ok now_ok : Bool) (old mid new : D) → Changes change ok (tells old) (tells mid) → new ≡ mid → now_ok ≡ ok →
    Changes change now_ok (tells old) (tells new)
carry tells change ok now_ok old mid new changes same went =
    subst (λ (b : Bool). Changes change b (tells old) (tells new)) (sym went) (subst (λ (d : _). Changes change ok (tells old) (tells d)) (sym same) changes)
