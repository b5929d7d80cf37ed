-- Sets of stored pairs after edits.
use Rattle.std.proofs.Common.{inl, inr, ⊎_elim, ℕ, List, [], ◌∷◌, ◌++◌, sym, ◌∙◌, ap, append_assoc}
use Rattle.std.specs.Prelude.{◌↔◌}
use Rattle.std.proofs.lemmas.List.Elements.{Contains-append_left, Contains-append_right}
use Rattle.pt_disk.specs.Files.{Files, SameBut}
use Rattle.pt_stored.specs.Stored.{IsStored, pending}
use Rattle.pt_stored.proofs.SetLemmas.{same-stored}
use Rattle.pt_edits.specs.Pairs.{Pairs, PairEdit, SavePair, DeletePair, after, after_all, ChangedBy, IsAfter, IsAfterSome}

after-same : (edit : PairEdit) (S T : Pairs) → ((d b : List ℕ) → S d b ↔ T d b) → (d b : List ℕ) → after edit S d b ↔ after edit T d b
after-same (SavePair digest bytes) S T same d b = (
  λ has. ⊎_elim (λ was. inl ((same d b).0 was)) (λ pair. inr pair) has,
  λ has. ⊎_elim (λ was. inl ((same d b).1 was)) (λ pair. inr pair) has,
)
after-same (DeletePair digest bytes) S T same d b = (λ has. ((same d b).0 has.0, has.1), λ has. ((same d b).1 has.0, has.1))

-- edits of one set give one set
pub after-all-same : (edits : List PairEdit) (S T : Pairs) → ((d b : List ℕ) → S d b ↔ T d b) → (d b : List ℕ) → after_all edits S d b ↔ after_all edits T d b
after-all-same [] S T same d b = same d b
after-all-same (edit ∷ edits) S T same d b = after-all-same edits (after edit S) (after edit T) (after-same edit S T same) d b

-- some edits and then more
pub after-all-append : (one more : List PairEdit) (S : Pairs) (d b : List ℕ) → after_all (one ++ more) S d b ↔ after_all more (after_all one S) d b
after-all-append [] more S d b = (λ has. has, λ has. has)
after-all-append (edit ∷ one) more S d b = after-all-append one more (after edit S) d b

-- ---- of files

-- the files are the same but for the spare one
pub is-after-none : (old new : Files) → SameBut pending old new → IsAfter [] old new
is-after-none old new same = record { stored = same-stored old new same; files = λ name other. inl (same name other) }

changed-then : (one more : List PairEdit) (old mid new : Files) → ChangedBy one old mid → ChangedBy more mid new → ChangedBy (one ++ more) old new
changed-then one more old mid new first second name other = ⊎_elim
    (λ same. ⊎_elim
    (λ before. inl (same ∙ before))
    (λ (edit, within, is, left). inr (edit, Contains-append_left one more edit within, is, same ∙ left))
    (first name other))
    (λ (edit, within, is, left). inr (edit, Contains-append_right one more edit within, is, left))
    (second name other)

pub is-after-then : (one more : List PairEdit) (old mid new : Files) → IsAfter one old mid → IsAfter more mid new → IsAfter (one ++ more) old new
is-after-then one more old mid new first second = record {
  stored = λ d b.
      let changed = after-all-same more (IsStored mid) (after_all one (IsStored old)) first.stored d b in
      let joined = after-all-append one more (IsStored old) d b in (
        λ stored. joined.1 (changed.0 ((second.stored d b).0 stored)),
        λ left. (second.stored d b).1 (changed.1 (joined.0 left)),
      );
  files = changed-then one more old mid new first.files second.files;
}

-- the files at the start are the same
pub is-after-from : (edits : List PairEdit) (old mid new : Files) → SameBut pending old mid → IsAfter edits mid new → IsAfter edits old new
is-after-from edits old mid new same edited = is-after-then [] edits old mid new (is-after-none old mid same) edited

pub some-of-first : (one more : List PairEdit) (old image : Files) → IsAfterSome one old image → IsAfterSome (one ++ more) old image
some-of-first one more old image (made, left, parts, edited) =
    (made, left ++ more, ap (λ (edits : List PairEdit). edits ++ more) parts ∙ append_assoc made left more, edited)

pub some-of-more : (one more : List PairEdit) (old mid image : Files) → IsAfter one old mid → IsAfterSome more mid image → IsAfterSome (one ++ more) old image
some-of-more one more old mid image first (made, left, parts, edited) = (
  one ++ made,
  left,
  ap (λ (edits : List PairEdit). one ++ edits) parts ∙ sym (append_assoc one made left),
  is-after-then one made old mid image first edited,
)

pub some-from : (edits : List PairEdit) (old mid image : Files) → SameBut pending old mid → IsAfterSome edits mid image → IsAfterSome edits old image
some-from edits old mid image same = some-of-more [] edits old mid image (is-after-none old mid same)
