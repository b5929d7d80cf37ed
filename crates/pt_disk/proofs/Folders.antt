-- What a crash leaves of a folder after each call, where one name is spare.
use Rattle.std.proofs.Common.{◌≡◌, ◌≢◌, ◌⊎◌, inl, inr, ⊎_elim, ℕ, Bool, true, false, List, Option, Some, None, refl, sym, ◌∙◌, ap, subst}
use Rattle.std.specs.Prelude.{if◌then◌else◌, not, ◌&&◌, ◌||◌}
use Rattle.pt_disk.specs.Files.{Files, is_name, with_file, SameBut}
use Rattle.pt_disk.specs.Folder.{Folder, Stable, After, reads, is_unsynced, IsImage}
use Rattle.pt_disk.specs.Moments.{IsWithin}
use Rattle.pt_disk.specs.Leaves.{Leaves, Only, OneOf}
use Rattle.pt_disk.specs.declared.change.Change.TheVariants.{Put, Sync, Rename, Remove, Settle}
use Rattle.pt_disk.proofs.Names.{not_true, name-same, name-is, name-other, name-cases, with_file-at, with_file-other}

-- what reads give is one of the images
pub reads-image : (folder : Folder) → IsImage folder (reads folder)
reads-image (Stable files) = refl
reads-image (After (Put put bytes) before) = (reads before, reads-image before, λ n other. ap (λ (b : Bool). if b then Some bytes else reads before n) (name-other n put other))
reads-image (After (Sync synced) before) = (reads-image before, λ unsynced. inl refl)
reads-image (After (Rename from to) before) = inr (
  reads before,
  reads-image before,
  (λ n other. ap (λ (b : Bool). if b then reads before from else (if is_name n from then None else reads before n)) (name-other n to other)),
  λ stable. ap (λ (b : Bool). if b then reads before from else (if is_name to from then None else reads before to)) (name-same to),
)
reads-image (After (Remove removed) before) = inr (reads before, reads-image before, refl)
reads-image (After Settle before) = λ name stable. refl

or-true : (a b : Bool) → (a || b) ≡ true → (a ≡ true) ⊎ (b ≡ true)
or-true true b is = inl refl
or-true false b is = inr is

and-second : (a b : Bool) → (a && b) ≡ true → b ≡ true
and-second true b is = is
and-second false b is = absurd (cc is)

-- a stop within a call leaves what it may leave before or after
pub leaves-within : (spare : List ℕ) (P : Files → Type 0) (before after folder : Folder) →
    Leaves spare P before → Leaves spare P after → IsWithin before after folder → Leaves spare P folder
leaves-within spare P before after folder first second within = record {
  images = λ image left. ⊎_elim (first.images image) (second.images image) (within.images image left);
  tidy = λ name unsynced. ⊎_elim (first.tidy name) (second.tidy name) (within.unsynced name unsynced);
}

pub leaves-weaker : (spare : List ℕ) (P Q : Files → Type 0) (folder : Folder) → ((image : Files) → P image → Q image) → Leaves spare P folder → Leaves spare Q folder
leaves-weaker spare P Q folder weaker leaves = record { images = λ image left. weaker image (leaves.images image left); tidy = leaves.tidy }

-- put of the spare name changes no other
pub only-put : (spare : List ℕ) (files : Files) (bytes : List ℕ) (folder : Folder) → Only spare files folder → Only spare files (After (Put spare bytes) folder)
only-put spare files bytes folder only = record {
  images = λ image left n other. left.2 n other ∙ only.images left.0 left.1 n other;
  tidy = λ name unsynced. ⊎_elim (name-is name spare) (only.tidy name) (or-true (is_name name spare) (is_unsynced folder name) unsynced);
}

pub only-sync : (spare : List ℕ) (P : Files → Type 0) (synced : List ℕ) (folder : Folder) → Leaves spare P folder → Leaves spare P (After (Sync synced) folder)
only-sync spare P synced folder only = record {
  images = λ image left. only.images image left.0;
  tidy = λ name unsynced. only.tidy name (and-second (not (is_name name synced)) (is_unsynced folder name) unsynced);
}

pub only-reads : (spare : List ℕ) (files : Files) (folder : Folder) → Only spare files folder → SameBut spare files (reads folder)
only-reads spare files folder only = only.images (reads folder) (reads-image folder)

-- rename of the spare name, synced, to another: each crash leaves the other as it was, or with these bytes
pub one-renamed : (spare to bytes : List ℕ) (files : Files) (folder : Folder) → Only spare files folder →
    is_unsynced folder spare ≡ false → reads folder spare ≡ Some bytes →
    Leaves spare (OneOf spare to (Some bytes) files) (After (Rename spare to) folder)
one-renamed spare to bytes files folder only synced has = record {
  images = λ image left. ⊎_elim (λ was. inl (only.images image was)) (λ done. inr (λ n other. at image done n other (name-cases n to))) left;
  tidy = λ name unsynced. tidy name unsynced (name-cases name to);
}
  where
    at : (image : Files) → ((was : Files) × IsImage folder was × SameBut to (with_file spare None was) image × (is_unsynced folder spare ≡ false → image to ≡ reads folder spare))
        → (n : List ℕ) → n ≢ spare → ((n ≡ to) ⊎ ((n ≢ to) × (is_name n to ≡ false))) → image n ≡ with_file to (Some bytes) files n
    at image done n other (inl is) = ap image is ∙ done.3 synced ∙ has ∙ sym (with_file-at to (Some bytes) files) ∙ ap (with_file to (Some bytes) files) (sym is)
    at image done n other (inr differs) = done.2 n differs.0 ∙ with_file-other spare None done.0 n other ∙ only.images done.0 done.1 n other ∙ sym (with_file-other to (Some bytes) files n differs.0)

    tidy : (name : List ℕ) → is_unsynced (After (Rename spare to) folder) name ≡ true → ((name ≡ to) ⊎ ((name ≢ to) × (is_name name to ≡ false))) → name ≡ spare
    tidy name unsynced (inl is) =
        let named : is_name name to ≡ true = subst (λ (n : List ℕ). is_name name n ≡ true) is (name-same name) in
        absurd (cc (rw named at unsynced, synced))
    tidy name unsynced (inr differs) = only.tidy name (and-second (not (is_name name spare)) (is_unsynced folder name) (rw differs.1 at unsynced))

-- and reads give the other these bytes
pub reads-renamed : (spare to bytes : List ℕ) (files : Files) (folder : Folder) → Only spare files folder → reads folder spare ≡ Some bytes →
    SameBut spare (with_file to (Some bytes) files) (reads (After (Rename spare to) folder))
reads-renamed spare to bytes files folder only has n other = at (name-cases n to)
  where
    at : ((n ≡ to) ⊎ ((n ≢ to) × (is_name n to ≡ false))) → reads (After (Rename spare to) folder) n ≡ with_file to (Some bytes) files n
    at (inl is) = let named : is_name n to ≡ true = subst (λ (m : List ℕ). is_name n m ≡ true) is (name-same n) in rw (named, has) refl
    at (inr differs) = rw (differs.1, name-other n spare other) (only-reads spare files folder only n other)

-- remove of a name: each crash leaves it as it was, or absent
pub one-removed : (spare name : List ℕ) (files : Files) (folder : Folder) → Only spare files folder →
    Leaves spare (OneOf spare name None files) (After (Remove name) folder)
one-removed spare name files folder only = record {
  images = λ image left. ⊎_elim (λ was. inl (only.images image was))
      (λ done. inr (λ n other. ap (λ (f : Files). f n) done.2 ∙ ap (λ (file : Option (List ℕ)). if is_name n name then None else file) (only.images done.0 done.1 n other))) left;
  tidy = λ n unsynced. only.tidy n (and-second (not (is_name n name)) (is_unsynced folder n) unsynced);
}

pub reads-removed : (spare name : List ℕ) (files : Files) (folder : Folder) → Only spare files folder →
    SameBut spare (with_file name None files) (reads (After (Remove name) folder))
reads-removed spare name files folder only n other = ap (λ (file : Option (List ℕ)). if is_name n name then None else file) (only-reads spare files folder only n other)

-- after a settle a crash leaves what reads give
pub only-settled : (spare : List ℕ) (P : Files → Type 0) (files : Files) (folder : Folder) → Leaves spare P folder → SameBut spare files (reads folder) →
    Only spare files (After Settle folder)
only-settled spare P files folder leaves has = record {
  images = λ image left n other. left n (not_true (is_unsynced folder n) (λ unsynced. other (leaves.tidy n unsynced))) ∙ has n other;
  tidy = leaves.tidy;
}
