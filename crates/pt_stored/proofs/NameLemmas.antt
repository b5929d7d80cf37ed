-- Names of examples, and their parts.
use Rattle.std.proofs.Common.{◌≡◌, ℕ, List, ◌∷◌, ◌++◌, take, drop, sym, ◌∙◌, ap}
use Rattle.std.proofs.lemmas.List.{take_at, drop_at}
use Rattle.pt_stored.specs.Digest.{IsDigest, IsNameOf, digest_text, file_name}
use Rattle.pt_stored.specs.Example.{IsExampleOf}
use Rattle.pt_stored.proofs.Digests.{is-digest}

-- a name has one pair of digests
pub one-key : (d v e w : List ℕ) → IsDigest d → IsDigest e → d ++ 45 ∷ v ≡ e ++ 45 ∷ w → d ≡ e
one-key d v e w first second same =
    sym (take_at d (45 ∷ v) 64 first.long) ∙ ap (λ (l : List ℕ). take 64 l) same ∙ take_at e (45 ∷ w) 64 second.long

pub one-value : (d v e w : List ℕ) → IsDigest d → IsDigest e → d ++ 45 ∷ v ≡ e ++ 45 ∷ w → v ≡ w
one-value d v e w first second same =
    let rest : 45 ∷ v ≡ 45 ∷ w = sym (drop_at d (45 ∷ v) 64 first.long) ∙ ap (λ (l : List ℕ). drop 64 l) same ∙ drop_at e (45 ∷ w) 64 second.long in
    ap (λ (l : List ℕ). drop 1 l) rest

pub same-names : (d b digest bytes : List ℕ) → IsDigest d → IsDigest digest → file_name d b ≡ file_name digest bytes → (d ≡ digest) × (digest_text b ≡ digest_text bytes)
same-names d b digest bytes first second same =
    (one-key d (digest_text b) digest (digest_text bytes) first second same, one-value d (digest_text b) digest (digest_text bytes) first second same)

-- the name of an example has the form of one
pub example-name : (digest name bytes : List ℕ) → IsExampleOf digest name bytes → IsNameOf name digest (digest_text bytes)
example-name digest name bytes example = record { key_digest = example.key; value_digest = is-digest bytes; joined = example.named }

-- and its second part is the digest of what it holds
pub example-value : (name key value digest bytes : List ℕ) → IsNameOf name key value → IsExampleOf digest name bytes → value ≡ digest_text bytes
example-value name key value digest bytes parts example =
    one-value key value digest (digest_text bytes) parts.key_digest example.key (sym parts.joined ∙ example.named)
