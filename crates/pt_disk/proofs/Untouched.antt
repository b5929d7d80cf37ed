-- A name that no call touched since the last settle stays as it is.
use Rattle.std.proofs.Common.{◌≡◌, ◌≢◌, ◌⊎◌, ⊎_elim, ℕ, Bool, true, false, List, Some, None, refl, sym, ◌∙◌, ap}
use Rattle.std.specs.Prelude.{if◌then◌else◌, not, ◌&&◌, ◌||◌}
use Rattle.pt_disk.specs.Files.{Files, is_name}
use Rattle.pt_disk.specs.Folder.{Folder, Stable, After, reads, settled, is_touched, is_unsynced, IsImage}
use Rattle.pt_disk.specs.declared.change.Change.TheVariants.{Put, Sync, Rename, Remove, Settle}
use Rattle.pt_disk.proofs.Names.{name-same, name-cases, with_file-other}
use Rattle.pt_disk.proofs.Mentioned.{or-first, or-second}

-- the names differ
apart : (a b : List ℕ) → is_name a b ≡ false → a ≢ b
apart a b is same = absurd (cc (sym is, ap (is_name a) (sym same) ∙ name-same a))

-- it reads as at the last settle
pub untouched-settled : (folder : Folder) (name : List ℕ) → is_touched folder name ≡ false → settled folder name ≡ reads folder name
untouched-settled (Stable files) name untouched = refl
untouched-settled (After (Put put bytes) before) name untouched =
    untouched-settled before name (or-second (is_name name put) (is_touched before name) untouched)
    ∙ sym (ap (λ (b : Bool). if b then Some bytes else reads before name) (or-first (is_name name put) (is_touched before name) untouched))
untouched-settled (After (Sync synced) before) name untouched = untouched-settled before name untouched
untouched-settled (After (Rename from to) before) name untouched =
    let named : (is_name name from || is_name name to) ≡ false = or-first (is_name name from || is_name name to) (is_touched before name) untouched in
    untouched-settled before name (or-second (is_name name from || is_name name to) (is_touched before name) untouched)
    ∙ sym ((λ i. if or-second (is_name name from) (is_name name to) named i then reads before from
    else (if or-first (is_name name from) (is_name name to) named i then None else reads before name)))
untouched-settled (After (Remove removed) before) name untouched =
    untouched-settled before name (or-second (is_name name removed) (is_touched before name) untouched)
    ∙ sym (ap (λ (b : Bool). if b then None else reads before name) (or-first (is_name name removed) (is_touched before name) untouched))
untouched-settled (After Settle before) name untouched = refl

-- what a sync adds
untouched-sync : (this : List ℕ) (before : Folder) (image : Files) (name : List ℕ) → is_touched before name ≡ false → is_unsynced (After (Sync this) before) name ≡ false →
    (is_unsynced before this ≡ true → (image this ≡ reads before this) ⊎ (image this ≡ settled before this)) →
    (b : Bool) → is_unsynced before name ≡ b → (is_unsynced before name ≡ false → image name ≡ reads before name) → image name ≡ reads before name
untouched-sync this before image name untouched synced left false stable rest = rest stable
untouched-sync this before image name untouched synced left true unsynced rest = ⊎_elim
    (λ is. ⊎_elim
    (λ whole. ap image is ∙ whole ∙ ap (reads before) (sym is))
    (λ settled_there. ap image is ∙ settled_there ∙ ap (settled before) (sym is) ∙ untouched-settled before name untouched)
    (left (ap (is_unsynced before) (sym is) ∙ unsynced)))
    (λ other. absurd (cc (sym (λ i. not (other.1 i) && unsynced i) ∙ synced)))
    (name-cases name this)

pub untouched-image : (folder : Folder) (image : Files) (name : List ℕ) → is_touched folder name ≡ false → is_unsynced folder name ≡ false →
    IsImage folder image → image name ≡ reads folder name
untouched-image (Stable files) image name untouched synced left = ap (λ (f : Files). f name) left
untouched-image (After (Put put bytes) before) image name untouched synced left =
    let other : is_name name put ≡ false = or-first (is_name name put) (is_touched before name) untouched in
    left.2 name (apart name put other)
    ∙ untouched-image before left.0 name (or-second (is_name name put) (is_touched before name) untouched) (or-second (is_name name put) (is_unsynced before name) synced) left.1
    ∙ sym (ap (λ (b : Bool). if b then Some bytes else reads before name) other)
untouched-image (After (Sync this) before) image name untouched synced left =
    untouched-sync this before image name untouched synced left.1 (is_unsynced before name) refl (λ stable. untouched-image before image name untouched stable left.0)
untouched-image (After (Rename from to) before) image name untouched synced left =
    let named : (is_name name from || is_name name to) ≡ false = or-first (is_name name from || is_name name to) (is_touched before name) untouched in
    let not_from : is_name name from ≡ false = or-first (is_name name from) (is_name name to) named in
    let not_to : is_name name to ≡ false = or-second (is_name name from) (is_name name to) named in
    let before_untouched : is_touched before name ≡ false = or-second (is_name name from || is_name name to) (is_touched before name) untouched in
    let stable : is_unsynced before name ≡ false = sym (λ i. if not_to i then is_unsynced before from else (not (not_from i) && is_unsynced before name)) ∙ synced in
    ⊎_elim
    (λ undone. untouched-image before image name before_untouched stable undone)
    (λ done. done.2 name (apart name to not_to) ∙ with_file-other from None done.0 name (apart name from not_from)
    ∙ untouched-image before done.0 name before_untouched stable done.1)
    left
    ∙ sym (λ i. if not_to i then reads before from else (if not_from i then None else reads before name))
untouched-image (After (Remove removed) before) image name untouched synced left =
    let other : is_name name removed ≡ false = or-first (is_name name removed) (is_touched before name) untouched in
    let before_untouched : is_touched before name ≡ false = or-second (is_name name removed) (is_touched before name) untouched in
    let stable : is_unsynced before name ≡ false = sym (λ i. not (other i) && is_unsynced before name) ∙ synced in
    ⊎_elim
    (λ undone. untouched-image before image name before_untouched stable undone)
    (λ done. ap (λ (f : Files). f name) done.2 ∙ with_file-other removed None done.0 name (apart name removed other)
    ∙ untouched-image before done.0 name before_untouched stable done.1)
    left
    ∙ sym (ap (λ (b : Bool). if b then None else reads before name) other)
untouched-image (After Settle before) image name untouched synced left = left name synced
