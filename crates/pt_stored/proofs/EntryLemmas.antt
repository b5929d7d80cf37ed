-- The entries of a folder, gathered name by name.
use Rattle.std.proofs.Common.{◌≡◌, ⊎_elim, ℕ, suc, zero, ◌<◌, List, [], ◌∷◌, ◌++◌, length, take, get_or, Option, Some, refl, sym, ◌∙◌, ap, subst, arith}
use Rattle.std.specs.Prelude.{◌↔◌, Contains, All, IsSome}
use Rattle.std.specs.Ordering.{nat_cmp}
use Rattle.std.specs.declared.cmp.Ordering.TheVariants.{Less}
use Rattle.std.specs.Cmp.Lexicographic.{slice_cmp}
use Rattle.std.proofs.lemmas.List.{get_or_default, get_or-take}
use Rattle.std.proofs.lemmas.List.Elements.{All-nil, All-push, Contains-get_or, Contains-append_left, Contains-append_right, Contains-append_cases}
use Rattle.std.proofs.lemmas.List.Quantifiers.{all_pairs_push}
use Rattle.pt_disk.specs.Files.{Files}
use Rattle.pt_disk.specs.Calls.{AreOrdered}
use Rattle.pt_stored.specs.Entries.{IsShown, IsEntry, IsWanted, AreEntries, AreInOrder}
use Rattle.pt_stored.specs.declared.entry.Entry.{Entry}
use Rattle.pt_stored.proofs.NameLemmas.{one-key}
use Rattle.pt_stored.proofs.SetLemmas.{some-is}

contains-one : {X : Type 0} (x y : X) → Contains (x ∷ []) y → y ≡ x
contains-one x y (zero, within, is) = sym is
contains-one x y (suc k, within, is) = absurd (omega (arith, within))

this-one : {X : Type 0} (x : X) → Contains (x ∷ []) x
this-one x = (0, omega arith, refl)

module _ (files : Files) where
  -- an entry holds what its file has
  entry-file : (entry : Entry) → IsEntry files entry → files entry.file ≡ Some entry.bytes
  entry-file entry is = ap files is.named ∙ is.stored.file

  -- a file has one entry
  pub one-entry : (one other : Entry) → IsEntry files one → IsEntry files other → one.file ≡ other.file → one ≡ other
  one-entry one other first second same =
      let key = one-key one.key _ other.key _ first.stored.key second.stored.key (sym first.named ∙ same ∙ second.named) in
      let bytes = some-is one.bytes other.bytes (sym (entry-file one first) ∙ ap files same ∙ entry-file other second) in
      λ i. record { file = same i; key = key i; bytes = bytes i }

  module _ (wanted : Option (List ℕ)) where
    -- these are the wanted entries of the files of these names
    pub record AreFrom (names : List (List ℕ)) (entries : List Entry) : Type 0 where
      pub each : (entry : Entry) → Contains entries entry ↔ (IsEntry files entry × IsWanted wanted entry.key × Contains names entry.file)

    pub from-none : AreFrom [] []
    from-none = record { each = λ entry. (λ (k, within, is). absurd (omega (arith, within)), λ all. let (k, within, is) = all.2 in absurd (omega (arith, within))) }

    -- a name more, whose file is no wanted entry
    pub from-skip : (names : List (List ℕ)) (name : List ℕ) (entries : List Entry) → AreFrom names entries →
        ((entry : Entry) → IsEntry files entry → IsWanted wanted entry.key → entry.file ≡ name → ⊥) → AreFrom (names ++ name ∷ []) entries
    from-skip names name entries from none = record {
      each = λ entry. (
        λ has. let all = (from.each entry).0 has in (all.0, all.1, Contains-append_left names (name ∷ []) entry.file all.2),
        λ all. ⊎_elim
            (λ before. (from.each entry).1 (all.0, all.1, before))
            (λ here. absurd (none entry all.0 all.1 (contains-one name entry.file here)))
            (Contains-append_cases names (name ∷ []) entry.file all.2),
      );
    }

    -- a name more, and its entry
    pub from-push : (names : List (List ℕ)) (added : Entry) (entries : List Entry) → AreFrom names entries → IsEntry files added → IsWanted wanted added.key →
        AreFrom (names ++ added.file ∷ []) (entries ++ added ∷ [])
    from-push names added entries from is want = record {
      each = λ entry. (
        λ has. ⊎_elim
            (λ before. let all = (from.each entry).0 before in (all.0, all.1, Contains-append_left names (added.file ∷ []) entry.file all.2))
            (λ here.
            let same = contains-one added entry here in
            let all : IsEntry files entry × IsWanted wanted entry.key × Contains (names ++ added.file ∷ []) entry.file =
            subst (λ (e : Entry). IsEntry files e × IsWanted wanted e.key × Contains (names ++ added.file ∷ []) e.file) (sym same)
            (is, want, Contains-append_right names (added.file ∷ []) added.file (this-one added.file)) in
            all)
            (Contains-append_cases entries (added ∷ []) entry has),
        λ all. ⊎_elim
            (λ before. Contains-append_left entries (added ∷ []) entry ((from.each entry).1 (all.0, all.1, before)))
            (λ here. Contains-append_right entries (added ∷ []) entry
            (subst (Contains (added ∷ [])) (one-entry added entry is all.0 (sym (contains-one added.file entry.file here))) (this-one added)))
            (Contains-append_cases names (added.file ∷ []) entry.file all.2),
      );
    }

    -- all names
    pub from-all : (names : List (List ℕ)) (entries : List Entry) → AreFrom names entries → ((name : List ℕ) → Contains names name ↔ IsSome (files name)) → AreEntries wanted files entries
    from-all names entries from every entry = (
      λ has. let all = (from.each entry).0 has in (all.0, all.1),
      λ all. (from.each entry).1 (all.0, all.1, (every entry.file).1 (subst IsSome (sym (entry-file entry all.0)) refl)),
    )

module _ (wanted : Option (List ℕ)) where
  -- the entries show examples of wanted keys, in files of these names and in their order
  pub record StandIn (names : List (List ℕ)) (entries : List Entry) : Type 0 where
    pub known : (entry : Entry) → Contains entries entry → Contains names entry.file
    pub ordered : AreInOrder entries
    pub shown : All IsShown entries
    pub of_wanted : All (λ entry. IsWanted wanted entry.key) entries

  pub stand-none : StandIn [] []
  stand-none = record {
    known = λ entry (k, within, is). absurd (omega (arith, within));
    ordered = λ i j d before within. absurd (omega (arith, within));
    shown = All-nil IsShown;
    of_wanted = All-nil (λ entry. IsWanted wanted entry.key);
  }

  pub stand-skip : (names : List (List ℕ)) (name : List ℕ) (entries : List Entry) → StandIn names entries → StandIn (names ++ name ∷ []) entries
  stand-skip names name entries stand = record {
    known = λ entry has. Contains-append_left names (name ∷ []) entry.file (stand.known entry has);
    ordered = stand.ordered;
    shown = stand.shown;
    of_wanted = stand.of_wanted;
  }

  -- a name more, and its entry, where all names so far stand before it
  pub stand-push : (names : List (List ℕ)) (added : Entry) (entries : List Entry) → StandIn names entries → IsShown added → IsWanted wanted added.key →
      ((n : List ℕ) → Contains names n → slice_cmp nat_cmp n added.file ≡ Less) → StandIn (names ++ added.file ∷ []) (entries ++ added ∷ [])
  stand-push names added entries stand is want before = record {
    known = λ entry has. ⊎_elim
        (λ old. Contains-append_left names (added.file ∷ []) entry.file (stand.known entry old))
        (λ here. Contains-append_right names (added.file ∷ []) entry.file
        (subst (λ (e : Entry). Contains (added.file ∷ []) e.file) (sym (contains-one added entry here)) (this-one added.file)))
        (Contains-append_cases entries (added ∷ []) entry has);
    ordered = all_pairs_push (λ (one other : Entry). slice_cmp nat_cmp one.file other.file ≡ Less) entries added stand.ordered
        (λ k d within. before (get_or entries k d).file (stand.known (get_or entries k d) (Contains-get_or entries k d within)));
    shown = All-push IsShown entries added stand.shown is;
    of_wanted = All-push (λ entry. IsWanted wanted entry.key) entries added stand.of_wanted want;
  }

-- of names in order, those so far stand before the next
pub before-next : (all so_far : List (List ℕ)) (name : List ℕ) → AreOrdered all → so_far ≡ take (length so_far) all → length so_far < length all → name ≡ get_or all (length so_far) name →
    (n : List ℕ) → Contains so_far n → slice_cmp nat_cmp n name ≡ Less
before-next all so_far name ordered first more next n (k, within, is) =
    let there : get_or all k name ≡ n =
    get_or_default all k name n (omega (arith, within, more)) ∙ sym (get_or-take (length so_far) all k n within) ∙ ap (λ (l : List (List ℕ)). get_or l k n) (sym first) ∙ is in
    subst (λ (m : List ℕ). slice_cmp nat_cmp n m ≡ Less) (sym next) (subst (λ (m : List ℕ). slice_cmp nat_cmp m (get_or all (length so_far) name) ≡ Less) there (ordered k (length so_far) name within more))
