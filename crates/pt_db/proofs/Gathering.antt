-- The entries of the wanted keys, gathered name by name.
use Rattle.std.proofs.Common.{◌≡◌, ℕ, ◌<◌, List, [], ◌∷◌, ◌++◌, length, get_or, Option, Some, None, sym, ◌∙◌, ap, subst, arith}
use Rattle.std.specs.Prelude.{Bool, IfSome, IsTrue, MatchOption, nat_eq, take}
use Rattle.std.specs.Cmp.Lexicographic.{pointwise, bytes_decides, slice_cmp}
use Rattle.std.specs.Option.{option_map}
use Rattle.std.specs.Ordering.{nat_cmp}
use Rattle.std.specs.declared.cmp.Ordering.TheVariants.{Less}
use Rattle.pt_disk.specs.Folder.{reads}
use Rattle.pt_disk.specs.Moments.{Told, now}
use Rattle.pt_disk.specs.Calls.{AreNames, AreOrdered, IsFirstPart}
use Rattle.pt_stored.specs.Digest.{IsNameOf, digest_text}
use Rattle.pt_stored.specs.Example.{IsExample, IsExampleOf}
use Rattle.pt_stored.specs.Entries.{IsWanted, IsShown}
use Rattle.pt_stored.specs.declared.entry.Entry.{Entry}
use Rattle.pt_stored.proofs.NameLemmas.{one-key, example-name}
use Rattle.pt_stored.proofs.EntryLemmas.{AreFrom, from-none, from-skip, from-push, from-all, StandIn, stand-push, before-next}
use Rattle.pt_db.specs.Reading.{AreTheEntries, IsWantedName, IsTheEntry}
use Rattle.pt_db.proofs.Reading.{whole, part-is}

module _ (wanted : Option (List ℕ)) where
  -- where the disk tells, these are the wanted entries of the files of these names
  abbrev pub Gathered : Option Told → List (List ℕ) → List Entry → Type 0
  Gathered told names entries = IfSome told (λ told. AreFrom (reads (now told)) wanted names entries)

  pub gathered-none : (told : Option Told) → Gathered told [] []
  gathered-none None = tt
  gathered-none (Some told) = from-none (reads (now told)) wanted

  pub gathered-skip : (told : Option Told) (names : List (List ℕ)) (name : List ℕ) (entries : List Entry) → Gathered told names entries → IsTheEntry wanted told name None → Gathered told (names ++ name ∷ []) entries
  gathered-skip None names name entries so_far its = tt
  gathered-skip (Some told) names name entries so_far its = from-skip (reads (now told)) wanted names name entries so_far its

  pub gathered-push : (told : Option Told) (names : List (List ℕ)) (name : List ℕ) (entries : List Entry) (entry : Entry) → Gathered told names entries → IsTheEntry wanted told name (Some entry) →
      Gathered told (names ++ name ∷ []) (entries ++ entry ∷ [])
  gathered-push None names name entries entry so_far its = tt
  gathered-push (Some told) names name entries entry so_far its =
      subst (λ (n : List ℕ). AreFrom (reads (now told)) wanted (names ++ n ∷ []) (entries ++ entry ∷ [])) its.2 (from-push (reads (now told)) wanted names entry entries so_far its.0 its.1)

  pub gathered-all : (told : Option Told) (names : List (List ℕ)) (entries : List Entry) → AreNames told names → Gathered told names entries → AreTheEntries wanted told entries
  gathered-all None names entries are so_far = tt
  gathered-all (Some told) names entries are so_far = from-all (reads (now told)) wanted names entries so_far are

  pub stand-next : (all names : List (List ℕ)) (name : List ℕ) (entries : List Entry) (entry : Entry) → AreOrdered all → names ≡ take (length names) all → length names < length all →
      name ≡ get_or all (length names) name → StandIn wanted names entries → (entry.file ≡ name) × IsShown entry × IsWanted wanted entry.key → StandIn wanted (names ++ name ∷ []) (entries ++ entry ∷ [])
  stand-next all names name entries entry ordered first more next stand is =
      subst (λ (n : List ℕ). StandIn wanted (names ++ n ∷ []) (entries ++ entry ∷ [])) is.0
      (stand-push wanted names entry entries stand is.1 is.2
      (λ n has. subst (λ (m : List ℕ). slice_cmp nat_cmp n m ≡ Less) (sym is.0) (before-next all names name ordered first more next n has)))

  -- ---- the file of one name

  -- the name of another file than an example of a wanted key
  pub its-unwanted : (told : Option Told) (name : List ℕ) → ¬ IsWantedName wanted name → IsTheEntry wanted told name None
  its-unwanted None name not = tt
  its-unwanted (Some told) name not = λ entry is want same.
      not (entry.key, digest_text entry.bytes, example-name entry.key name entry.bytes (record { key = is.stored.key; short = is.stored.short; named = sym same ∙ is.named }), want)

  pub its-absent : (told : Option Told) (name : List ℕ) → IsFirstPart told name 65537 None → IsTheEntry wanted told name None
  its-absent None name part = tt
  its-absent (Some told) name part = λ entry is want same. no_part (reads (now told) name) entry.bytes part (ap (reads (now told)) (sym same ∙ is.named) ∙ is.stored.file)
    where
      no_part : (read : Option (List ℕ)) (b : List ℕ) → None ≡ option_map (λ bytes. take 65537 bytes) read → read ≡ Some b → ⊥
      no_part None b is has = cc has
      no_part (Some bytes) b is has = cc is

  pub its-other : (told : Option Told) (name bytes : List ℕ) → IsFirstPart told name 65537 (Some bytes) → ¬ IsExample name bytes → IsTheEntry wanted told name None
  its-other None name bytes part not = tt
  its-other (Some told) name bytes part not = λ entry is want same.
      let named : name ≡ _ = sym same ∙ is.named in
      let all = part-is (reads (now told) name) bytes entry.bytes part (ap (reads (now told)) named ∙ is.stored.file) is.stored.short in
      not (entry.key, subst (λ (b : List ℕ). IsExampleOf entry.key name b) (sym all) (record { key = is.stored.key; short = is.stored.short; named = named }))

  -- an example with a wanted name has a wanted key
  pub shown-wanted : (name : List ℕ) (entry : Entry) → IsShown entry → entry.file ≡ name → IsWantedName wanted name → IsWanted wanted entry.key
  shown-wanted name entry shown file (key, value, parts, want) =
      subst (IsWanted wanted) (one-key key value entry.key (digest_text entry.bytes) parts.key_digest shown.key (sym parts.joined ∙ sym file ∙ shown.named)) want

  pub its-shown : (told : Option Told) (name bytes : List ℕ) (entry : Entry) → IsFirstPart told name 65537 (Some bytes) → IsShown entry → entry.file ≡ name → entry.bytes ≡ bytes → IsWantedName wanted name →
      IsTheEntry wanted told name (Some entry)
  its-shown None name bytes entry part shown file holds want = tt
  its-shown (Some told) name bytes entry part shown file holds want = (
    record {
      stored = record {
        key = shown.key;
        short = shown.short;
        file = ap (reads (now told)) (sym shown.named ∙ file) ∙ whole (reads (now told) name) bytes part (omega (arith, shown.short, ap length holds)) ∙ ap (λ (b : List ℕ). Some b) (sym holds);
      };
      named = shown.named;
    },
    shown-wanted name entry shown file want,
    file,
  )

  pub its-found : (told : Option Told) (name bytes : List ℕ) (found : Option Entry) → IsFirstPart told name 65537 (Some bytes) →
      MatchOption found (¬ IsExample name bytes) (λ entry. (entry.file ≡ name) × (entry.bytes ≡ bytes) × IsShown entry) → IsWantedName wanted name → IsTheEntry wanted told name found
  its-found told name bytes None part found want = its-other told name bytes part found
  its-found told name bytes (Some entry) part found want = its-shown told name bytes entry part found.2 found.0 found.1 want

  pub found-wanted : (name bytes : List ℕ) (found : Option Entry) →
      MatchOption found (¬ IsExample name bytes) (λ entry. (entry.file ≡ name) × (entry.bytes ≡ bytes) × IsShown entry) → IsWantedName wanted name →
      IfSome found (λ entry. (entry.file ≡ name) × IsShown entry × IsWanted wanted entry.key)
  found-wanted name bytes None found want = tt
  found-wanted name bytes (Some entry) found want = (found.0, found.2, shown-wanted name entry found.2 found.0 want)

-- whether the key of a name is this one
pub wanted-key : (name key value wanted : List ℕ) (same : Bool) → IsNameOf name key value → same ≡ pointwise nat_eq key wanted →
    (IsTrue same → IsWantedName (Some wanted) name) × (IsWantedName (Some wanted) name → IsTrue same)
wanted-key name key value wanted same parts tells = (
  λ is. (key, value, parts, (bytes_decides key wanted).0 (sym tells ∙ is)),
  λ (k, v, other, want). tells ∙ (bytes_decides key wanted).1 (one-key key value k v parts.key_digest other.key_digest (sym parts.joined ∙ other.joined) ∙ want),
)
