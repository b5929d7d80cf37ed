-- How the stored set follows the files.
use Rattle.std.proofs.Common.{◌≡◌, ◌≢◌, inl, inr, ⊎_elim, ℕ, ◌≤◌, List, ◌∷◌, length, Option, Some, None, refl, sym, ◌∙◌, ap, subst, arith, length-append}
use Rattle.pt_disk.specs.Files.{Files, SameBut, with_file}
use Rattle.pt_disk.proofs.Names.{name-cases, with_file-at, with_file-other}
use Rattle.pt_stored.specs.Digest.{IsDigest, digest_text, file_name}
use Rattle.pt_stored.specs.Stored.{IsStored, SameStored, StoredWith, StoredWithout, HasNoneAlike, pending}
use Rattle.pt_stored.proofs.NameLemmas.{same-names}

pub some-is : (a b : List ℕ) → Some a ≡ Some b → a ≡ b
some-is a b same = cc same

-- the spare name is no example's
pub not-pending : (digest bytes : List ℕ) → IsDigest digest → file_name digest bytes ≢ pending
not-pending digest bytes is same =
    let long = ap length same in
    let parts = length-append digest (45 ∷ digest_text bytes) in
    let seven : length pending ≡ 7 = refl in
    absurd (omega (arith, long, parts, seven, is.long))

-- files that differ at the spare name alone have one stored set
pub same-stored : (files image : Files) → SameBut pending files image → SameStored files image
same-stored files image same d b = (
  λ stored. record { key = stored.key; short = stored.short; file = sym (same (file_name d b) (not-pending d b stored.key)) ∙ stored.file },
  λ stored. record { key = stored.key; short = stored.short; file = same (file_name d b) (not-pending d b stored.key) ∙ stored.file },
)

module _ (digest bytes : List ℕ) (is : IsDigest digest) (files image : Files) where
  abbrev name : List ℕ
  name = file_name digest bytes

  module _ (file : Option (List ℕ)) (same : SameBut pending (with_file name file files) image) where
    at-name : image name ≡ file
    at-name = same name (not-pending digest bytes is) ∙ with_file-at name file files

    at-other : (d b : List ℕ) → IsDigest d → file_name d b ≢ name → image (file_name d b) ≡ files (file_name d b)
    at-other d b key other = same (file_name d b) (not-pending d b key) ∙ with_file-other name file files (file_name d b) other

  pub stored-with : length bytes ≤ 65536 → HasNoneAlike files name bytes → SameBut pending (with_file name (Some bytes) files) image → StoredWith digest bytes files image
  stored-with short free same d b = (
    λ stored. ⊎_elim
        (λ here.
        let names = same-names d b digest bytes stored.key is here in
        let value : b ≡ bytes = some-is b bytes (sym stored.file ∙ ap image here ∙ at-name (Some bytes) same) in
        inr (names.0, value))
        (λ other. inl (record { key = stored.key; short = stored.short; file = sym (at-other (Some bytes) same d b stored.key other.0) ∙ stored.file }))
        (name-cases (file_name d b) name),
    λ either. ⊎_elim
        (λ stored. ⊎_elim
        (λ here. absurd (free b stored.short (ap files (sym here) ∙ stored.file) (same-names d b digest bytes stored.key is here).1))
        (λ other. record { key = stored.key; short = stored.short; file = at-other (Some bytes) same d b stored.key other.0 ∙ stored.file })
        (name-cases (file_name d b) name))
        (λ pair.
        let here : IsStored image digest bytes = record { key = is; short = short; file = at-name (Some bytes) same } in
        subst (λ (k : List ℕ). IsStored image k b) (sym pair.0) (subst (λ (v : List ℕ). IsStored image digest v) (sym pair.1) here))
        either,
  )

  pub stored-without : files name ≡ Some bytes → SameBut pending (with_file name None files) image → StoredWithout digest bytes files image
  stored-without has same d b = (
    λ stored. ⊎_elim
        (λ here. absurd (cc (sym stored.file ∙ ap image here ∙ at-name None same)))
        (λ other. (
          record { key = stored.key; short = stored.short; file = sym (at-other None same d b stored.key other.0) ∙ stored.file },
          λ pair. other.0 (λ i. file_name (pair.0 i) (pair.1 i)),
        ))
        (name-cases (file_name d b) name),
    λ left. ⊎_elim
        (λ here.
        let names = same-names d b digest bytes left.0.key is here in
        absurd (left.1 (names.0, some-is b bytes (sym left.0.file ∙ ap files here ∙ has))))
        (λ other. record { key = left.0.key; short = left.0.short; file = at-other None same d b left.0.key other.0 ∙ left.0.file })
        (name-cases (file_name d b) name),
  )

-- the pair that is stored already, and the one that is not
pub stored-already : (digest bytes : List ℕ) (files : Files) → IsStored files digest bytes → StoredWith digest bytes files files
stored-already digest bytes files has d b = (
  λ stored. inl stored,
  λ either. ⊎_elim (λ stored. stored) (λ pair. subst (λ (k : List ℕ). IsStored files k b) (sym pair.0) (subst (λ (v : List ℕ). IsStored files digest v) (sym pair.1) has)) either,
)

pub stored-not : (digest bytes : List ℕ) (files : Files) → (IsStored files digest bytes → ⊥) → StoredWithout digest bytes files files
stored-not digest bytes files none d b = (
  λ stored. (stored, λ pair. none (subst (λ (k : List ℕ). IsStored files k bytes) pair.0 (subst (λ (v : List ℕ). IsStored files d v) pair.1 stored))),
  λ left. left.0,
)
