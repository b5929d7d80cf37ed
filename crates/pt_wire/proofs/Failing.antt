-- Where reading fails, from the parts of an input to the whole.
use Rattle.std.proofs.Common.{◌≡◌, ℕ, ◌+◌, ◌≤◌, List, [], ◌∷◌, ◌++◌, length, take, drop, refl, sym, ap, subst, ◌∙◌, append_assoc, arith, inl, inr, add-one, length-append}
use Rattle.std.proofs.lemmas.Bool.{cases_lt}
use Rattle.std.proofs.lemmas.List.{take-append-drop, take-take}
use Rattle.std.proofs.Math.Seq.{take-append-add}
use Rattle.pt_wire.specs.Spelling.{Begins, FailsAt, StartsWith}

-- at the end of no bytes
pub fails_at_end : {A : Type 0} (Spells : A → List ℕ → Type 0) → Begins Spells [] → ((value : A) → Spells value [] → ⊥) → FailsAt Spells [] 0
fails_at_end Spells begun none = record { none = none; within = omega arith; begun = begun; broken = λ lt. absurd (omega arith) }

-- at the first byte
pub fails_here : {A : Type 0} (Spells : A → List ℕ → Type 0) (byte : ℕ) (bytes : List ℕ) → Begins Spells []
    → ((value : A) (rest : List ℕ) → Spells value (byte ∷ rest) → ⊥) → FailsAt Spells (byte ∷ bytes) 0
fails_here Spells byte bytes begun broken = record {
  none = λ value spelled. broken value bytes spelled;
  within = omega arith;
  begun = begun;
  broken = λ lt more. broken more.0 more.1 more.2;
}

-- behind a first byte
pub fails_behind : {A B : Type 0} (Inner : A → List ℕ → Type 0) (Outer : B → List ℕ → Type 0) (byte : ℕ) (bytes : List ℕ) (place : ℕ) (out : A → B)
    → ((value : A) (rest : List ℕ) → Inner value rest → Outer (out value) (byte ∷ rest))
    → ((value : B) (rest : List ℕ) → Outer value (byte ∷ rest) → (inner : A) × Inner inner rest)
    → FailsAt Inner bytes place → FailsAt Outer (byte ∷ bytes) (place + 1)
fails_behind Inner Outer byte bytes place out to from fails = record {
  none = λ value spelled. let inside = from value bytes spelled in fails.none inside.0 inside.1;
  within = let inside = fails.within in omega arith;
  begun = rw add-one (out fails.begun.0, fails.begun.1, to fails.begun.0 (take place bytes ++ fails.begun.1) fails.begun.2);
  broken = λ lt more.
      let more' = rw (add-one (place + 1)) at more in
      let inside = from more'.0 (take (place + 1) bytes ++ more'.1) more'.2 in
      fails.broken (omega arith) (inside.0, more'.1, inside.1);
}

-- a spelling at the front goes on behind a first byte
pub starts_behind : {A B : Type 0} (Inner : A → List ℕ → Type 0) (Outer : B → List ℕ → Type 0) (byte : ℕ) (out : A → B)
    → ((value : A) (rest : List ℕ) → Inner value rest → Outer (out value) (byte ∷ rest))
    → (value : A) (rest : List ℕ) → StartsWith Inner value rest → StartsWith Outer (out value) (byte ∷ rest)
starts_behind Inner Outer byte out to value rest (after, (front, spelled, parts)) =
    (after, (byte ∷ front, to value front spelled, ap (λ (bytes : List ℕ). byte ∷ bytes) parts))

-- a spelling that begins with a byte goes on behind it
pub starts_with_byte : {A B : Type 0} (Inner : A → List ℕ → Type 0) (Outer : B → List ℕ → Type 0) (byte : ℕ)
    → ((value : B) → Outer value [] → ⊥)
    → ((value : B) (rest : List ℕ) → Outer value (byte ∷ rest) → (inner : A) × Inner inner rest)
    → (value : B) (rest : List ℕ) → StartsWith Outer value (byte ∷ rest) → (inner : A) × StartsWith Inner inner rest
starts_with_byte Inner Outer byte empty from value rest (after, ([], spelled, parts)) = absurd (empty value spelled)
starts_with_byte Inner Outer byte empty from value rest (after, (first ∷ front, spelled, parts)) =
    let same : first ≡ byte = cc in
    let others : rest ≡ front ++ after = cc in
    let inside = from value front (subst (λ b. Outer value (b ∷ front)) same spelled) in
    (inside.0, (after, (front, inside.1, others)))

-- what is spelled begins
pub begins_spelled : {A : Type 0} (Spells : A → List ℕ → Type 0) (value : A) (bytes : List ℕ) → Spells value bytes → Begins (StartsWith Spells) []
begins_spelled Spells value bytes spelled = (value, bytes ++ [], ([], (bytes, spelled, refl)))

-- behind bytes that were read
pub fails_front : {A : Type 0} (Spells : A → List ℕ → Type 0) (front rest : List ℕ) (place : ℕ)
    → FailsAt (λ value bytes. Spells value (front ++ bytes)) rest place → FailsAt Spells (front ++ rest) (length front + place)
fails_front Spells front rest place fails = record {
  none = fails.none;
  within = let inside = fails.within in omega (arith, length-append front rest);
  begun = let begun = fails.begun in
      rw (take-append-add front rest place) (begun.0, begun.1, subst (Spells begun.0) (sym (append_assoc front (take place rest) begun.1)) begun.2);
  broken = λ lt more.
      let cut : take (length front + place + 1) (front ++ rest) ≡ front ++ take (place + 1) rest =
      ap (λ n. take n (front ++ rest)) (omega arith) ∙ take-append-add front rest (place + 1) in
      let spelled : Spells more.0 (front ++ (take (place + 1) rest ++ more.1)) =
      subst (Spells more.0) (ap (λ t. t ++ more.1) cut ∙ append_assoc front (take (place + 1) rest) more.1) more.2 in
      fails.broken (omega (arith, length-append front rest)) (more.0, more.1, spelled);
}

-- the first cells of equal lists
pub same_head : (a b : ℕ) (x y : List ℕ) → a ∷ x ≡ b ∷ y → a ≡ b
same_head a b x y e = cc

-- the front of what begins a spelling begins one
begins_front : {A : Type 0} (Spells : A → List ℕ → Type 0) (bytes : List ℕ) (m n : ℕ) → m ≤ n → Begins Spells (take n bytes) → Begins Spells (take m bytes)
begins_front Spells bytes m n le (value, rest, spelled) =
    let parts : take n bytes ≡ take m bytes ++ drop m (take n bytes) = sym (take-append-drop m (take n bytes)) ∙ ap (λ t. t ++ drop m (take n bytes)) (take-take m n bytes le) in
    (value, drop m (take n bytes) ++ rest, subst (Spells value) (ap (λ t. t ++ rest) parts ∙ append_assoc (take m bytes) (drop m (take n bytes)) rest) spelled)

-- an input fails at one place at most
pub one_place : {A : Type 0} (Spells : A → List ℕ → Type 0) (bytes : List ℕ) (a b : ℕ) → FailsAt Spells bytes a → FailsAt Spells bytes b → a ≡ b
one_place Spells bytes a b h k = elim (cases_lt a b) [
  | inl less ↦ let within = k.within in absurd (h.broken (omega arith) (begins_front Spells bytes (a + 1) b (omega arith) k.begun))
  | inr more ↦ elim (cases_lt b a) [
    | inl less ↦ let within = h.within in absurd (k.broken (omega arith) (begins_front Spells bytes (b + 1) a (omega arith) h.begun))
    | inr same ↦ omega arith
  ]
]
