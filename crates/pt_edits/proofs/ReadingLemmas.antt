-- What the readings of a key's entries say of it.
use Rattle.std.proofs.Common.{◌≡◌, ℕ, ◌<◌, List, [], ◌∷◌, ◌++◌, length, map, get_or, Option, Some, None, refl, sym, ◌∙◌, ap, subst, arith}
use Rattle.std.specs.Prelude.{All, Contains, IfSome}
use Rattle.std.specs.Ordering.{nat_cmp}
use Rattle.std.specs.declared.cmp.Ordering.TheVariants.{Less}
use Rattle.std.specs.Cmp.Lexicographic.{slice_cmp}
use Rattle.std.proofs.lemmas.List.{length-map, get_or-map, map-append}
use Rattle.std.proofs.lemmas.List.Elements.{Contains-get_or}
use Rattle.pt_disk.specs.Files.{Files}
use Rattle.pt_disk.specs.Folder.{reads}
use Rattle.pt_disk.specs.Moments.{Told, now}
use Rattle.pt_stored.specs.Digest.{file_name}
use Rattle.pt_stored.specs.Entries.{IsShown, AreEntries, AreInOrder}
use Rattle.pt_stored.specs.Stored.{IsStored}
use Rattle.pt_stored.specs.declared.entry.Entry.{Entry}
use Rattle.pt_db.specs.Reading.{AreTheEntries}
use Rattle.pt_edits.specs.Readings.{AreOfKey, AreInFileOrder}
use Rattle.pt_edits.specs.declared.reading.Reading.{Reading}

abbrev pub value_of : Entry → List ℕ
value_of entry = entry.bytes

-- ---- elements of a list's image

contains-image : {X Y : Type 0} (f : X → Y) (xs : List X) (x : X) → Contains xs x → Contains (map f xs) (f x)
contains-image f xs x (k, within, is) =
    let long = length-map xs f in
    (k, omega (arith, within, long), get_or-map f xs k x (f x) within ∙ ap f is)

image-contains : {X Y : Type 0} (f : X → Y) (xs : List X) (d : X) (y : Y) → f d ≡ y → Contains (map f xs) y → (x : X) × Contains xs x × (f x ≡ y)
image-contains f xs d y same (k, within, is) =
    let long = length-map xs f in
    let inside : k < length xs = omega (arith, within, long) in
    (get_or xs k d, Contains-get_or xs k d inside, sym (get_or-map f xs k d y inside) ∙ is)

-- a reading more, of an entry more
pub values-next : (readings : List Reading) (entries : List Entry) (reading : Reading) (entry : Entry) → map (λ reading. reading.bytes) readings ≡ map value_of entries → reading.bytes ≡ entry.bytes →
    map (λ reading. reading.bytes) (readings ++ reading ∷ []) ≡ map value_of (entries ++ entry ∷ [])
values-next readings entries reading entry same is =
    map-append (λ reading. reading.bytes) readings (reading ∷ []) ∙ (λ i. same i ++ is i ∷ []) ∙ sym (map-append value_of entries (entry ∷ []))

-- ---- of one key

module _ (digest : List ℕ) (entries : List Entry) where
  of-files : (files : Files) → AreEntries (Some digest) files entries → (b : List ℕ) →
      (Contains (map value_of entries) b → IsStored files digest b) × (IsStored files digest b → Contains (map value_of entries) b)
  of-files files are b = (
    λ has.
        let (entry, within, same) = image-contains value_of entries (record { file = []; key = []; bytes = b }) b refl has in
        let (shows, its) = (are entry).0 within in
        subst (λ (k : List ℕ). IsStored files k b) its (subst (IsStored files entry.key) same shows.stored),
    λ stored.
        let entry : Entry = record { file = file_name digest b; key = digest; bytes = b } in
        contains-image value_of entries entry ((are entry).1 (record { stored = stored; named = refl }, refl)),
  )

  module _ (readings : List Reading) (same : map (λ reading. reading.bytes) readings ≡ map value_of entries) where
    pub of-key : (told : Option Told) → AreTheEntries (Some digest) told entries → IfSome told (λ told. AreOfKey (IsStored (reads (now told))) digest readings)
    of-key None are = tt
    of-key (Some told) are = λ b.
        subst (λ (values : List (List ℕ)). (Contains values b → IsStored (reads (now told)) digest b) × (IsStored (reads (now told)) digest b → Contains values b)) (sym same)
        (of-files (reads (now told)) are b)

    module _ (shown : All IsShown entries) (keys : All (λ entry. entry.key ≡ digest) entries) where
      as-long : length readings ≡ length entries
      as-long = sym (length-map readings (λ reading. reading.bytes)) ∙ ap length same ∙ length-map entries value_of

      -- an entry's file has the name that its reading's bytes would have
      its-name : (k : ℕ) (reading : Reading) (entry : Entry) → k < length readings → (get_or entries k entry).file ≡ file_name digest (get_or readings k reading).bytes
      its-name k reading entry within =
          let inside : k < length entries = omega (arith, within, as-long) in
          let bytes : (get_or readings k reading).bytes ≡ (get_or entries k entry).bytes =
          sym (get_or-map (λ reading. reading.bytes) readings k reading [] within) ∙ ap (λ (values : List (List ℕ)). get_or values k []) same ∙ get_or-map value_of entries k entry [] inside in
          (shown k entry inside).named ∙ ap (λ (key : List ℕ). file_name key (get_or entries k entry).bytes) (keys k entry inside) ∙ ap (file_name digest) (sym bytes)

      pub in-order : AreInOrder entries → AreInFileOrder digest readings
      in-order ordered i j reading before within =
          let entry : Entry = record { file = []; key = []; bytes = [] } in
          let inside : j < length entries = omega (arith, within, as-long) in
          let first : (get_or entries i entry).file ≡ file_name digest (get_or readings i reading).bytes = its-name i reading entry (omega (arith, before, within)) in
          let second : (get_or entries j entry).file ≡ file_name digest (get_or readings j reading).bytes = its-name j reading entry within in
          subst (λ (one : List ℕ). slice_cmp nat_cmp one (file_name digest (get_or readings j reading).bytes) ≡ Less) first
          (subst (λ (other : List ℕ). slice_cmp nat_cmp (get_or entries i entry).file other ≡ Less) second (ordered i j entry before inside))
