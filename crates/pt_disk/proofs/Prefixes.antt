-- What a crash leaves after each call of a save, and of a delete, from files that are all stable.
use Rattle.std.proofs.Common.{◌≡◌, ◌≢◌, ◌⊎◌, inl, inr, ⊎_elim, ℕ, Bool, true, false, List, Option, Some, None, refl, sym, ◌∙◌, ap}
use Rattle.std.specs.Prelude.{if◌then◌else◌, not, ◌&&◌, ◌||◌, ◌↔◌}
use Rattle.pt_disk.specs.Files.{Files, is_name, with_file, SameBut}
use Rattle.pt_disk.specs.Folder.{After, reads, is_unsynced, IsImage}
use Rattle.pt_disk.specs.Prefixes.{put_under, synced_under, renamed_to, replaced, removed_from}
use Rattle.pt_disk.specs.declared.change.Change.TheVariants.{Settle}
use Rattle.pt_disk.proofs.Names.{name-same, name-cases, with_file-at, with_file-other}

-- files that differ at one name alone, and have this file there
same-with : (name : List ℕ) (file : Option (List ℕ)) (files image : Files) → SameBut name files image → image name ≡ file → image ≡ with_file name file files
same-with name file files image same has = λ i n. at n (name-cases n name) i
  where
    at : (n : List ℕ) → (n ≡ name) ⊎ ((n ≢ name) × (is_name n name ≡ false)) → image n ≡ with_file name file files n
    at n (inl is) = ap image is ∙ has ∙ sym (with_file-at name file files) ∙ ap (with_file name file files) (sym is)
    at n (inr other) = same n other.0 ∙ sym (with_file-other name file files n other.0)

same-all : (name : List ℕ) (files image : Files) → SameBut name files image → image name ≡ files name → image ≡ files
same-all name files image same has = λ i n. at n (name-cases n name) i
  where
    at : (n : List ℕ) → (n ≡ name) ⊎ ((n ≢ name) × (is_name n name ≡ false)) → image n ≡ files n
    at n (inl is) = ap image is ∙ has ∙ ap files (sym is)
    at n (inr other) = same n other.0

but-with : (name : List ℕ) (file : Option (List ℕ)) (files image : Files) → image ≡ with_file name file files → SameBut name files image
but-with name file files image is n other = ap (λ (f : Files). f n) is ∙ with_file-other name file files n other

module _ (files : Files) (spare name bytes : List ℕ) where
  pub after-put : (image : Files) → IsImage (put_under files spare bytes) image ↔ SameBut spare files image
  after-put image = (
    λ left n other. left.2 n other ∙ ap (λ (f : Files). f n) left.1,
    λ same. (files, refl, same),
  )

  here : is_unsynced (put_under files spare bytes) spare ≡ true
  here = ap (λ (b : Bool). b || false) (name-same spare)

  pub after-sync : (image : Files) → IsImage (synced_under files spare bytes) image ↔ ((image ≡ files) ⊎ (image ≡ with_file spare (Some bytes) files))
  after-sync image = (
    λ left. ⊎_elim
        (λ whole. inr (same-with spare (Some bytes) files image ((after-put image).0 left.0) (whole ∙ with_file-at spare (Some bytes) files)))
        (λ old. inl (same-all spare files image ((after-put image).0 left.0) old))
        (left.1 here),
    λ one. ⊎_elim
        (λ is. ((after-put image).1 (λ n other. ap (λ (f : Files). f n) is), λ unsynced. inr (ap (λ (f : Files). f spare) is)))
        (λ is. ((after-put image).1 (but-with spare (Some bytes) files image is), λ unsynced. inl (ap (λ (f : Files). f spare) is)))
        one,
  )

  never : (b : Bool) → (not b && (b || false)) ≡ false
  never true = refl
  never false = refl

  -- each file is synced
  stable : (n : List ℕ) → is_unsynced (synced_under files spare bytes) n ≡ false
  stable n = never (is_name n spare)

  is-replaced : (image : Files) → SameBut name (with_file spare None files) image → image name ≡ Some bytes → image ≡ replaced files spare name bytes
  is-replaced = same-with name (Some bytes) (with_file spare None files)

  -- without the spare name the files are the old ones
  without_spare : (was : Files) → SameBut spare files was → (n : List ℕ) → with_file spare None was n ≡ with_file spare None files n
  without_spare was same n = at (name-cases n spare)
    where
      at : (n ≡ spare) ⊎ ((n ≢ spare) × (is_name n spare ≡ false)) → with_file spare None was n ≡ with_file spare None files n
      at (inl is) = ap (with_file spare None was) is ∙ with_file-at spare None was ∙ sym (with_file-at spare None files) ∙ ap (with_file spare None files) (sym is)
      at (inr other) = with_file-other spare None was n other.0 ∙ same n other.0 ∙ sym (with_file-other spare None files n other.0)

  pub after-rename : (image : Files) → IsImage (renamed_to files spare name bytes) image ↔
      ((image ≡ files) ⊎ ((image ≡ with_file spare (Some bytes) files) ⊎ (image ≡ replaced files spare name bytes)))
  after-rename image = (
    λ left. ⊎_elim
        (λ undone. ⊎_elim (λ old. inl old) (λ put. inr (inl put)) ((after-sync image).0 undone))
        (λ done. inr (inr (is-replaced image
        (λ n other. done.2 n other ∙ without_spare done.0 ((after-put done.0).0 done.1.0) n)
        (done.3 (stable spare) ∙ with_file-at spare (Some bytes) files))))
        left,
    λ one. ⊎_elim
        (λ old. inl ((after-sync image).1 (inl old)))
        (λ later. ⊎_elim
        (λ put. inl ((after-sync image).1 (inr put)))
        (λ is. inr (
          files,
          (after-sync files).1 (inl refl),
          but-with name (Some bytes) (with_file spare None files) image is,
          λ synced. ap (λ (f : Files). f name) is ∙ with_file-at name (Some bytes) (with_file spare None files) ∙ sym (with_file-at spare (Some bytes) files),
        ))
        later)
        one,
  )

  neither : (b : Bool) (one other : Bool) → one ≡ false → other ≡ false → (if b then one else other) ≡ false
  neither true one other first second = first
  neither false one other first second = second

  and-neither : (b c : Bool) → c ≡ false → (b && c) ≡ false
  and-neither true c is = is
  and-neither false c is = refl

  renamed-stable : (n : List ℕ) → is_unsynced (renamed_to files spare name bytes) n ≡ false
  renamed-stable n = neither (is_name n name) (is_unsynced (synced_under files spare bytes) spare) (not (is_name n spare) && is_unsynced (synced_under files spare bytes) n)
      (stable spare) (and-neither (not (is_name n spare)) (is_unsynced (synced_under files spare bytes) n) (stable n))

  reads-replaced : reads (renamed_to files spare name bytes) ≡ replaced files spare name bytes
  reads-replaced = λ i. with_file name (with_file-at spare (Some bytes) files i)
      (λ n. without_spare (with_file spare (Some bytes) files) (but-with spare (Some bytes) files (with_file spare (Some bytes) files) refl) n i)

  pub after-settle : (image : Files) → IsImage (After Settle (renamed_to files spare name bytes)) image ↔ (image ≡ replaced files spare name bytes)
  after-settle image = (
    λ left. (λ i n. left n (renamed-stable n) i) ∙ reads-replaced,
    λ is n synced. ap (λ (f : Files). f n) (is ∙ sym reads-replaced),
  )

pub after-remove : (files : Files) (name : List ℕ) (image : Files) → IsImage (removed_from files name) image ↔ ((image ≡ files) ⊎ (image ≡ with_file name None files))
after-remove files name image = (
  λ left. ⊎_elim (λ undone. inl undone) (λ done. inr (done.2 ∙ ap (with_file name None) done.1)) left,
  λ one. ⊎_elim (λ old. inl old) (λ is. inr (files, refl, is)) one,
)

pub after-removed : (files : Files) (name : List ℕ) (image : Files) → IsImage (After Settle (removed_from files name)) image ↔ (image ≡ with_file name None files)
after-removed files name image = (
  λ left i n. left n (none (not (is_name n name))) i,
  λ is n synced. ap (λ (f : Files). f n) is,
)
  where
    none : (b : Bool) → (b && false) ≡ false
    none true = refl
    none false = refl
