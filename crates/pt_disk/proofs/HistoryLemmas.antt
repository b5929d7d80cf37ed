-- What the newest change says of a name.
use Rattle.std.proofs.Common.{◌≡◌, ℕ, Bool, true, false, List, [], ◌∷◌, ◌++◌, Option, Some, None, refl, sym, ◌∙◌, ap}
use Rattle.std.specs.Prelude.{if◌then◌else◌, not, ◌&&◌, ◌||◌}
use Rattle.pt_disk.specs.Files.{is_name}
use Rattle.pt_disk.specs.Folder.{Folder, After, reads, settled, is_unsynced}
use Rattle.pt_disk.specs.Kept.{left_of, without_unstable}
use Rattle.pt_disk.specs.declared.image.Keep.{Keep}
use Rattle.pt_disk.specs.DiskInMemory.{folder_after}
use Rattle.pt_disk.specs.declared.change.Change.{Change}
use Rattle.pt_disk.specs.declared.change.Change.TheVariants.{Put, Sync, Rename, Remove, Settle}
use Rattle.pt_disk.proofs.Memory.{folder_after-push}

-- the folder is the one before, after the newest change
pub newest : (start : Folder) (left before : List Change) (item change : Change) → left ≡ before ++ item ∷ [] → item ≡ change →
    folder_after start left ≡ After change (folder_after start before)
newest start left before item change split is =
    ap (folder_after start) (split ∙ ap (λ (last : Change). before ++ last ∷ []) is) ∙ folder_after-push start before change

-- what a comparison of names tells
pub tested : (sought given name : List ℕ) (answer is : Bool) → given ≡ name → answer ≡ is_name sought given → answer ≡ is → is_name sought name ≡ is
tested sought given name answer is same says holds = ap (is_name sought) (sym same) ∙ sym says ∙ holds

-- a change that is no settle leaves what was settled
pub settled-kept : (change : Change) (before : Folder) → (change ≡ Settle → ⊥) → settled (After change before) ≡ settled before
settled-kept (Put put bytes) before other = refl
settled-kept (Sync synced) before other = refl
settled-kept (Rename from to) before other = refl
settled-kept (Remove removed) before other = refl
settled-kept Settle before other = absurd (other refl)

and-false : (b : Bool) → (b && false) ≡ false
and-false true = refl
and-false false = refl

module _ (before : Folder) (name : List ℕ) where
  pub reads-put : (put bytes : List ℕ) (is : Bool) → is_name name put ≡ is → reads (After (Put put bytes) before) name ≡ (if is then Some bytes else reads before name)
  reads-put put bytes is test = ap (λ (b : Bool). if b then Some bytes else reads before name) test

  pub reads-remove : (removed : List ℕ) (is : Bool) → is_name name removed ≡ is → reads (After (Remove removed) before) name ≡ (if is then None else reads before name)
  reads-remove removed is test = ap (λ (b : Bool). if b then None else reads before name) test

  pub reads-to : (from to : List ℕ) → is_name name to ≡ true → reads (After (Rename from to) before) name ≡ reads before from
  reads-to from to test = ap (λ (b : Bool). if b then reads before from else (if is_name name from then None else reads before name)) test

  pub reads-from : (from to : List ℕ) (is : Bool) → is_name name to ≡ false → is_name name from ≡ is → reads (After (Rename from to) before) name ≡ (if is then None else reads before name)
  reads-from from to is not_to test = λ i. if not_to i then reads before from else (if test i then None else reads before name)

  pub unsynced-put : (put bytes : List ℕ) (is : Bool) → is_name name put ≡ is → is_unsynced (After (Put put bytes) before) name ≡ (is || is_unsynced before name)
  unsynced-put put bytes is test = ap (λ (b : Bool). b || is_unsynced before name) test

  pub unsynced-sync : (synced : List ℕ) (is : Bool) → is_name name synced ≡ is → is_unsynced (After (Sync synced) before) name ≡ (not is && is_unsynced before name)
  unsynced-sync synced is test = ap (λ (b : Bool). not b && is_unsynced before name) test

  pub unsynced-remove : (removed : List ℕ) (is : Bool) → is_name name removed ≡ is → is_unsynced (After (Remove removed) before) name ≡ (not is && is_unsynced before name)
  unsynced-remove removed is test = ap (λ (b : Bool). not b && is_unsynced before name) test

  pub unsynced-to : (from to : List ℕ) → is_name name to ≡ true → is_unsynced (After (Rename from to) before) name ≡ is_unsynced before from
  unsynced-to from to test = ap (λ (b : Bool). if b then is_unsynced before from else (not (is_name name from) && is_unsynced before name)) test

  pub unsynced-from : (from to : List ℕ) (is : Bool) → is_name name to ≡ false → is_name name from ≡ is → is_unsynced (After (Rename from to) before) name ≡ (not is && is_unsynced before name)
  unsynced-from from to is not_to test = λ i. if not_to i then is_unsynced before from else (not (test i) && is_unsynced before name)

module _ (keep : Keep) (before : Folder) (name : List ℕ) where
  abbrev old : Option (List ℕ)
  old = without_unstable keep before name

  pub kept-put : (put bytes : List ℕ) (is : Bool) → is_name name put ≡ is →
      without_unstable keep (After (Put put bytes) before) name ≡ (if is then left_of keep old (Some bytes) else old)
  kept-put put bytes is test = ap (λ (b : Bool). if b then left_of keep old (Some bytes) else old) test

  pub kept-sync : (synced : List ℕ) (is : Bool) → (is_name name synced && is_unsynced before name) ≡ is →
      without_unstable keep (After (Sync synced) before) name ≡ (if is then settled before name else old)
  kept-sync synced is test = ap (λ (b : Bool). if b then settled before name else old) test

  pub kept-settle : (is : Bool) → is_unsynced before name ≡ is →
      without_unstable keep (After Settle before) name ≡ (if is then left_of keep old (reads before name) else reads before name)
  kept-settle is test = ap (λ (b : Bool). if b then left_of keep old (reads before name) else reads before name) test

  -- a sync of another name, or of a file with no unsynced put
  pub kept-sync-other : (synced : List ℕ) → is_name name synced ≡ false → without_unstable keep (After (Sync synced) before) name ≡ old
  kept-sync-other synced other = kept-sync synced false (ap (λ (b : Bool). b && is_unsynced before name) other)

  pub kept-sync-stable : (synced : List ℕ) → is_unsynced before name ≡ false → without_unstable keep (After (Sync synced) before) name ≡ old
  kept-sync-stable synced stable = kept-sync synced false (ap (λ (b : Bool). is_name name synced && b) stable ∙ and-false (is_name name synced))
