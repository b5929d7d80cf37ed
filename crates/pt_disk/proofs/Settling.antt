-- What a settle leaves could have been left before it, and so could what was there at the last one.
use Rattle.std.proofs.Common.{◌≡◌, ◌≢◌, ◌⊎◌, inl, inr, ℕ, Bool, true, false, List, Some, None, refl, sym, ◌∙◌, ap, subst}
use Rattle.std.specs.Prelude.{if◌then◌else◌, not, ◌&&◌, ◌||◌}
use Rattle.pt_disk.specs.Files.{Files, is_name, with_file}
use Rattle.pt_disk.specs.Folder.{Folder, Stable, After, reads, settled, is_unsynced, IsImage}
use Rattle.pt_disk.specs.declared.change.Change.TheVariants.{Put, Sync, Rename, Remove, Settle}
use Rattle.pt_disk.proofs.Names.{name-same, name-other, name-cases, with_file-at, with_file-other}

-- nothing unstable kept is one of the images
pub settled-image : (folder : Folder) → IsImage folder (settled folder)
settled-image (Stable files) = refl
settled-image (After (Put put bytes) before) = (settled before, settled-image before, λ n other. refl)
settled-image (After (Sync synced) before) = (settled-image before, λ unsynced. inr refl)
settled-image (After (Rename from to) before) = inl (settled-image before)
settled-image (After (Remove removed) before) = inl (settled-image before)
settled-image (After Settle before) = λ name stable. refl

-- where each synced file is as reads give it
abbrev pub IsSettledAs : Folder → Files → Type 0
IsSettledAs folder image = (name : List ℕ) → is_unsynced folder name ≡ false → image name ≡ reads folder name

abbrev Case : List ℕ → List ℕ → Type 0
Case a b = (a ≡ b) ⊎ ((a ≢ b) × (is_name a b ≡ false))

named : (a b : List ℕ) → a ≡ b → is_name a b ≡ true
named a b same = subst (λ (n : List ℕ). is_name a n ≡ true) same (name-same a)

-- the image with the name as reads gave it before is settled as before
back : (before : Folder) (name : List ℕ) (image : Files) → ((n : List ℕ) → n ≢ name → is_unsynced before n ≡ false → image n ≡ reads before n) →
    IsSettledAs before (with_file name (reads before name) image)
back before name image same n stable = at (name-cases n name)
  where
    at : Case n name → with_file name (reads before name) image n ≡ reads before n
    at (inl is) = ap (with_file name (reads before name) image) is ∙ with_file-at name (reads before name) image ∙ ap (reads before) (sym is)
    at (inr other) = with_file-other name (reads before name) image n other.0 ∙ same n other.0 stable

pub settle-image : (folder : Folder) (image : Files) → IsSettledAs folder image → IsImage folder image
settle-image (Stable files) image same = λ i name. same name refl i
settle-image (After (Put put bytes) before) image same = (
  with_file put (reads before put) image,
  settle-image before (with_file put (reads before put) image) (back before put image (λ n other stable. at n other stable (name-cases n put))),
  λ n other. sym (with_file-other put (reads before put) image n other),
)
  where
    at : (n : List ℕ) → n ≢ put → is_unsynced before n ≡ false → Case n put → image n ≡ reads before n
    at n other stable (inl is) = absurd (other is)
    at n other stable (inr differs) =
        same n (ap (λ (b : Bool). b || is_unsynced before n) differs.1 ∙ stable)
        ∙ ap (λ (b : Bool). if b then Some bytes else reads before n) differs.1
settle-image (After (Sync synced) before) image same = (
  settle-image before image (λ n stable. same n (synced_too n stable (not (is_name n synced)))),
  λ unsynced. inl (same synced (ap (λ (b : Bool). not b && is_unsynced before synced) (name-same synced))),
)
  where
    synced_too : (n : List ℕ) → is_unsynced before n ≡ false → (b : Bool) → (b && is_unsynced before n) ≡ false
    synced_too n stable true = stable
    synced_too n stable false = refl
settle-image (After (Remove removed) before) image same = inr (
  with_file removed (reads before removed) image,
  settle-image before (with_file removed (reads before removed) image) (back before removed image (λ n other stable. at n other stable (name-cases n removed))),
  λ i name. whole name (name-cases name removed) i,
)
  where
    at : (n : List ℕ) → n ≢ removed → is_unsynced before n ≡ false → Case n removed → image n ≡ reads before n
    at n other stable (inl is) = absurd (other is)
    at n other stable (inr differs) =
        same n (ap (λ (b : Bool). not b && is_unsynced before n) differs.1 ∙ stable)
        ∙ ap (λ (b : Bool). if b then None else reads before n) differs.1

    whole : (n : List ℕ) → Case n removed → image n ≡ with_file removed None (with_file removed (reads before removed) image) n
    whole n (inl is) =
        let it = named n removed is in
        same n (ap (λ (b : Bool). not b && is_unsynced before n) it)
        ∙ ap (λ (b : Bool). if b then None else reads before n) it
        ∙ sym (ap (λ (b : Bool). if b then None else with_file removed (reads before removed) image n) it)
    whole n (inr differs) =
        sym (with_file-other removed None (with_file removed (reads before removed) image) n differs.0 ∙ with_file-other removed (reads before removed) image n differs.0)
settle-image (After Settle before) image same = same
settle-image (After (Rename from to) before) image same = inr (
  with_file from (reads before from) (with_file to (reads before to) image),
  settle-image before (with_file from (reads before from) (with_file to (reads before to) image))
      (back before from (with_file to (reads before to) image) (λ n other stable. at n other stable (name-cases n to))),
  (λ n other. moved n other (name-cases n from)),
  λ stable. same to (unsynced_at to true (is_name to from) (name-same to) refl ∙ stable) ∙ reads_at to true (is_name to from) (name-same to) refl,
)
  where
    unsynced_at : (n : List ℕ) (is_to is_from : Bool) → is_name n to ≡ is_to → is_name n from ≡ is_from →
        is_unsynced (After (Rename from to) before) n ≡ (if is_to then is_unsynced before from else (not is_from && is_unsynced before n))
    unsynced_at n is_to is_from first second = λ i. if first i then is_unsynced before from else (not (second i) && is_unsynced before n)

    reads_at : (n : List ℕ) (is_to is_from : Bool) → is_name n to ≡ is_to → is_name n from ≡ is_from →
        reads (After (Rename from to) before) n ≡ (if is_to then reads before from else (if is_from then None else reads before n))
    reads_at n is_to is_from first second = λ i. if first i then reads before from else (if second i then None else reads before n)

    beside : (n : List ℕ) → is_name n to ≡ false → is_name n from ≡ false → is_unsynced before n ≡ false → image n ≡ reads before n
    beside n first second stable = same n (unsynced_at n false false first second ∙ stable) ∙ reads_at n false false first second

    at : (n : List ℕ) → n ≢ from → is_unsynced before n ≡ false → Case n to → with_file to (reads before to) image n ≡ reads before n
    at n other stable (inl is) = ap (with_file to (reads before to) image) is ∙ with_file-at to (reads before to) image ∙ ap (reads before) (sym is)
    at n other stable (inr differs) = with_file-other to (reads before to) image n differs.0 ∙ beside n differs.1 (name-other n from other) stable

    moved : (n : List ℕ) → n ≢ to → Case n from → image n ≡ with_file from None (with_file from (reads before from) (with_file to (reads before to) image)) n
    moved n other (inl is) =
        let it = named n from is in
        same n (unsynced_at n false true (name-other n to other) it) ∙ reads_at n false true (name-other n to other) it
        ∙ sym (ap (λ (b : Bool). if b then None else with_file from (reads before from) (with_file to (reads before to) image) n) it)
    moved n other (inr differs) =
        sym (with_file-other from None (with_file from (reads before from) (with_file to (reads before to) image)) n differs.0
        ∙ with_file-other from (reads before from) (with_file to (reads before to) image) n differs.0
        ∙ with_file-other to (reads before to) image n other)
