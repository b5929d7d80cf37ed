-- What becomes of each pair as edits are made.
use Rattle.std.proofs.Common.{◌≡◌, ◌⊎◌, inl, inr, ⊎_elim, ℕ, List, [], ◌∷◌, refl, sym, subst}
use Rattle.pt_disk.proofs.Names.{name-cases}
use Rattle.pt_stored.specs.Stored.{IsPair}
use Rattle.pt_edits.specs.Pairs.{Pairs, PairEdit, SavePair, DeletePair, after, after_all}

-- the edit is one of these
abbrev pub IsIn : PairEdit → List PairEdit → Type 0
IsIn edit [] = ⊥
IsIn edit (first ∷ edits) = (first ≡ edit) ⊎ IsIn edit edits

is-pair : (d b digest bytes : List ℕ) → IsPair digest bytes d b ⊎ ¬ IsPair digest bytes d b
is-pair d b digest bytes = ⊎_elim
    (λ key. ⊎_elim (λ value. inl (key, value)) (λ other. inr (λ pair. other.0 pair.1)) (name-cases b bytes))
    (λ other. inr (λ pair. other.0 pair.0))
    (name-cases d digest)

-- a pair that was there is there, or one of the edits deletes it
pub there-or-deleted : (edits : List PairEdit) (S : Pairs) (d b : List ℕ) → S d b → after_all edits S d b ⊎ IsIn (DeletePair d b) edits
there-or-deleted [] S d b was = inl was
there-or-deleted (SavePair digest bytes ∷ edits) S d b was = ⊎_elim (λ has. inl has) (λ deleted. inr (inr deleted)) (there-or-deleted edits (after (SavePair digest bytes) S) d b (inl was))
there-or-deleted (DeletePair digest bytes ∷ edits) S d b was = ⊎_elim
    (λ pair. inr (inl (λ i. DeletePair (sym pair.0 i) (sym pair.1 i))))
    (λ other. ⊎_elim (λ has. inl has) (λ deleted. inr (inr deleted)) (there-or-deleted edits (after (DeletePair digest bytes) S) d b (was, other)))
    (is-pair d b digest bytes)

-- a pair that is there was there, or one of the edits saved it
pub was-or-saved : (edits : List PairEdit) (S : Pairs) (d b : List ℕ) → after_all edits S d b → S d b ⊎ IsIn (SavePair d b) edits
was-or-saved [] S d b has = inl has
was-or-saved (SavePair digest bytes ∷ edits) S d b has = ⊎_elim
    (λ before. ⊎_elim (λ was. inl was) (λ pair. inr (inl (λ i. SavePair (sym pair.0 i) (sym pair.1 i)))) before)
    (λ saved. inr (inr saved))
    (was-or-saved edits (after (SavePair digest bytes) S) d b has)
was-or-saved (DeletePair digest bytes ∷ edits) S d b has = ⊎_elim (λ before. inl before.0) (λ saved. inr (inr saved)) (was-or-saved edits (after (DeletePair digest bytes) S) d b has)

-- a pair that none of the edits deletes stays
stays : (edits : List PairEdit) (S : Pairs) (d b : List ℕ) → S d b → ¬ IsIn (DeletePair d b) edits → after_all edits S d b
stays edits S d b was never = ⊎_elim (λ has. has) (λ deleted. absurd (never deleted)) (there-or-deleted edits S d b was)

-- and so does one that was saved
pub saved-stays : (edits : List PairEdit) (S : Pairs) (d b : List ℕ) → IsIn (SavePair d b) edits → ¬ IsIn (DeletePair d b) edits → after_all edits S d b
saved-stays [] S d b saved never = absurd saved
saved-stays (edit ∷ edits) S d b saved never = ⊎_elim
    (λ here. stays edits (after edit S) d b (subst (λ (e : PairEdit). after e S d b) (sym here) (inr (refl, refl))) (λ deleted. never (inr deleted)))
    (λ later. saved-stays edits (after edit S) d b later (λ deleted. never (inr deleted)))
    saved
