-- What is kept of a folder is one of its images.
use Rattle.std.proofs.Common.{◌≡◌, inl, inr, ℕ, Bool, true, false, List, Some, refl, ◌∙◌, ap}
use Rattle.std.specs.Prelude.{if◌then◌else◌, ◌&&◌, ◌||◌}
use Rattle.pt_disk.specs.Files.{Files, is_name}
use Rattle.pt_disk.specs.Folder.{Folder, Stable, After, reads, settled, is_unsynced, IsImage}
use Rattle.pt_disk.specs.Kept.{left_of, without_unstable, kept}
use Rattle.pt_disk.specs.declared.change.Change.TheVariants.{Put, Sync, Rename, Remove, Settle}
use Rattle.pt_disk.specs.declared.image.Keep.{Keep}
use Rattle.pt_disk.specs.declared.image.Keep.TheVariants.{Least, Most, Torn}
use Rattle.pt_disk.proofs.Names.{name-same, name-other}
use Rattle.pt_disk.proofs.Folders.{reads-image}

pub if-same : {X : Type 0} (b : Bool) (x : X) → (if b then x else x) ≡ x
if-same true x = refl
if-same false x = refl

if-or : {X : Type 0} (a b : Bool) (x y : X) → (if a then x else (if b then x else y)) ≡ (if a || b then x else y)
if-or true b x y = refl
if-or false b x y = refl

-- some names as at the last settle, and the others without what is not stable
abbrev mixed : (List ℕ → Bool) → Keep → Folder → Files
mixed chosen keep folder name = if chosen name then settled folder name else without_unstable keep folder name

mixed-image : (chosen : List ℕ → Bool) (keep : Keep) (folder : Folder) (image : Files) →
    ((name : List ℕ) → image name ≡ mixed chosen keep folder name) → IsImage folder image
mixed-image chosen keep (Stable files) image same = λ i name. (same name ∙ if-same (chosen name) (files name)) i
mixed-image chosen keep (After (Put put bytes) before) image same = (
  mixed chosen keep before,
  mixed-image chosen keep before (mixed chosen keep before) (λ name. refl),
  λ name other. same name
      ∙ ap (λ (b : Bool). if chosen name then settled before name else (if b then left_of keep (without_unstable keep before name) (Some bytes) else without_unstable keep before name))
      (name-other name put other),
)
mixed-image chosen keep (After (Sync synced) before) image same = (
  mixed-image (λ name. chosen name || (is_name name synced && is_unsynced before name)) keep before image
      (λ name. same name ∙ if-or (chosen name) (is_name name synced && is_unsynced before name) (settled before name) (without_unstable keep before name)),
  λ unsynced. inr (same synced
      ∙ (λ i. if chosen synced then settled before synced else (if name-same synced i && unsynced i then settled before synced else without_unstable keep before synced))
      ∙ if-same (chosen synced) (settled before synced)),
)
mixed-image chosen keep (After (Rename from to) before) image same = inl (mixed-image chosen keep before image same)
mixed-image chosen keep (After (Remove removed) before) image same = inl (mixed-image chosen keep before image same)
mixed-image chosen keep (After Settle before) image same = λ name stable. same name
    ∙ ap (λ (b : Bool). if chosen name then reads before name else (if b then left_of keep (without_unstable keep before name) (reads before name) else reads before name)) stable
    ∙ if-same (chosen name) (reads before name)

pub kept-image : (keep : Keep) (folder : Folder) → IsImage folder (kept keep folder)
kept-image Least folder = mixed-image (λ name. false) Least folder (without_unstable Least folder) (λ name. refl)
kept-image Most folder = reads-image folder
kept-image Torn folder = mixed-image (λ name. false) Torn folder (without_unstable Torn folder) (λ name. refl)
