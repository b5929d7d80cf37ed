-- Spellings one after the other, where none begins another.
use Rattle.std.proofs.Common.{◌≡◌, ℕ, ◌+◌, ◌-◌, ◌<◌, ◌≤◌, List, [], ◌∷◌, ◌++◌, length, take, drop, refl, sym, ap, subst, ◌∙◌, append_assoc, arith, inl, inr, add-one, length-append}
use Rattle.std.proofs.Math.Seq.{take-append-add}
use Rattle.std.proofs.lemmas.Bool.{cases_lt}
use Rattle.std.proofs.lemmas.List.{append-nil, append_cancel_left, take-append-drop, take_at, take-append-le}
use Rattle.pt_wire.specs.Spelling.{Among, Begins, Chained, FailsAt, StartsWith}

-- no spelling is empty, and none begins another
pub record IsPrefixFree {A : Type 0} (Spells : A → List ℕ → Type 0) : Type 0 where
  pub empty : (value : A) → Spells value [] → ⊥
  pub one : (v w : A) (f g x y : List ℕ) → Spells v f → Spells w g → f ++ x ≡ g ++ y → (v ≡ w) × (f ≡ g)

-- the longer of two fronts goes on from the shorter
pub longer_front : (a b x y : List ℕ) → a ++ x ≡ b ++ y → length a ≤ length b → b ≡ a ++ drop (length a) b
longer_front a b x y e le =
    let same : take (length a) b ≡ a = sym (take-append-le (length a) b y le) ∙ ap (take (length a)) (sym e) ∙ take_at a x (length a) refl in
    sym (take-append-drop (length a) b) ∙ ap (λ t. t ++ drop (length a) b) same

-- one value more at the end
pub chained_more : {A : Type 0} (Spells : A → List ℕ → Type 0) (list : List A) (value : A) (bytes front : List ℕ)
    → Chained Spells list bytes → Spells value front → Chained Spells (list ++ value ∷ []) (bytes ++ front)
chained_more Spells [] value bytes front none spelled = (front, [], spelled, refl, rw none (sym (append-nil front)))
chained_more Spells (first ∷ others) value bytes front (start, rest, one, more, parts) spelled =
    (start, rest ++ front, one, chained_more Spells others value rest front more spelled, rw parts (append_assoc start rest front))

-- one chain behind the other
pub chained_append : {A : Type 0} (Spells : A → List ℕ → Type 0) (list more : List A) (bytes rest : List ℕ)
    → Chained Spells list bytes → Chained Spells more rest → Chained Spells (list ++ more) (bytes ++ rest)
chained_append Spells [] more bytes rest none spelled = subst (λ b. Chained Spells more (b ++ rest)) (sym none) spelled
chained_append Spells (first ∷ others) more bytes rest (start, behind, one, chained, parts) spelled =
    (start, behind ++ rest, one, chained_append Spells others more behind rest chained spelled, rw parts (append_assoc start behind rest))

-- a chain of no bytes has no values
pub chained_none : {A : Type 0} (Spells : A → List ℕ → Type 0) → IsPrefixFree Spells → (list : List A) → Chained Spells list [] → list ≡ []
chained_none Spells free [] spelled = refl
chained_none Spells free (c ∷ cs) (front, others, one, more, parts) = absurd (empty front one parts) where
  empty : (front : List ℕ) → Spells c front → [] ≡ front ++ others → ⊥
  empty [] spelled e = free.empty c spelled
  empty (b ∷ bs) spelled e = cc

-- what stands behind a chain is the rest of a longer one
pub chained_rest : {A : Type 0} (Spells : A → List ℕ → Type 0) → IsPrefixFree Spells → (all list : List A) (done rest : List ℕ)
    → Chained Spells all done → Chained Spells list (done ++ rest) → (more : List A) × (list ≡ all ++ more) × Chained Spells more rest
chained_rest Spells free [] list done rest none spelled = (list, refl, subst (λ d. Chained Spells list (d ++ rest)) none spelled)
chained_rest Spells free (c ∷ cs) [] done rest (front, others, one, more, parts) spelled = absurd (no_front front one parts) where
  no_front : (front : List ℕ) → Spells c front → done ≡ front ++ others → ⊥
  no_front [] h e = free.empty c h
  no_front (b ∷ bs) h e = let cells : (b ∷ bs) ++ others ++ rest ≡ [] = ap (λ d. d ++ rest) (sym e) ∙ spelled in cc
chained_rest Spells free (c ∷ cs) (d ∷ ds) done rest (front, others, one, more, parts) (front', others', one', more', parts') =
    let whole : front ++ (others ++ rest) ≡ front' ++ others' = sym (append_assoc front others rest) ∙ ap (λ d. d ++ rest) (sym parts) ∙ parts' in
    let same = free.one c d front front' (others ++ rest) others' one one' whole in
    let behind : others ++ rest ≡ others' = append_cancel_left front' (others ++ rest) others' (ap (λ f. f ++ (others ++ rest)) (sym same.1) ∙ whole) in
    let goes_on = chained_rest Spells free cs ds others rest more (subst (Chained Spells ds) (sym behind) more') in
    (goes_on.0, ap (λ x. x ∷ ds) (sym same.0) ∙ ap (λ xs. c ∷ xs) goes_on.1, goes_on.2)

-- at most one list is spelled
pub one_chain : {A : Type 0} (Spells : A → List ℕ → Type 0) → IsPrefixFree Spells → (a b : List A) (bytes : List ℕ) → Chained Spells a bytes → Chained Spells b bytes → a ≡ b
one_chain Spells free a b bytes h k =
    let behind = chained_rest Spells free a b bytes [] h (subst (Chained Spells b) (sym (append-nil bytes)) k) in
    sym (behind.1 ∙ ap (λ t. a ++ t) (chained_none Spells free behind.0 behind.2) ∙ append-nil a)

-- bytes that spell a chain begin with its first value
pub starts_first : {A : Type 0} (Spells : A → List ℕ → Type 0) (list : List A) (byte : ℕ) (bytes : List ℕ) → Chained Spells list (byte ∷ bytes)
    → (value : A) × StartsWith Spells value (byte ∷ bytes)
starts_first Spells [] byte bytes spelled = absurd cc
starts_first Spells (c ∷ cs) byte bytes (front, others, one, more, parts) = (c, (others, (front, one, parts)))

-- a chain fails where the value behind it does
fails_after : {A : Type 0} (May : List A → Type 0) (Spells : A → List ℕ → Type 0) → IsPrefixFree Spells → (all : List A) (done : List ℕ) (byte : ℕ) (bytes : List ℕ) (place : ℕ)
    → ((value : A) → May (all ++ value ∷ [])) → Chained Spells all done → FailsAt (StartsWith Spells) (byte ∷ bytes) place
    → FailsAt (Among May (Chained Spells)) (done ++ byte ∷ bytes) (length done + place)
fails_after {A} May Spells free all done byte bytes place may chained fails = record {
  none = λ list spelled.
      let behind = chained_rest Spells free all list done (byte ∷ bytes) chained spelled.1 in
      let first = starts_first Spells behind.0 byte bytes behind.2 in
      fails.none first.0 first.1;
  within = let inside = fails.within in omega (arith, length-append done (byte ∷ bytes));
  begun = rw (take-append-add done (byte ∷ bytes) place) (begun fails.begun);
  broken = λ lt more.
      let cut : take (length done + place + 1) (done ++ byte ∷ bytes) ≡ done ++ byte ∷ take place bytes =
      ap (λ n. take n (done ++ byte ∷ bytes)) (omega arith) ∙ take-append-add done (byte ∷ bytes) (place + 1) ∙ rw (add-one place) refl in
      let spelled : Chained Spells more.0 (done ++ (byte ∷ (take place bytes ++ more.1))) =
      subst (Chained Spells more.0) (ap (λ t. t ++ more.1) cut ∙ append_assoc done (byte ∷ take place bytes) more.1) more.2.1 in
      let behind = chained_rest Spells free all more.0 done (byte ∷ (take place bytes ++ more.1)) chained spelled in
      let first = starts_first Spells behind.0 byte (take place bytes ++ more.1) behind.2 in
      fails.broken (omega (arith, length-append done (byte ∷ bytes)))
      (first.0, more.1, subst (λ n. StartsWith Spells first.0 (take n (byte ∷ bytes) ++ more.1)) (sym (add-one place)) first.1);
} where
  begun : Begins (StartsWith Spells) (take place (byte ∷ bytes)) → Begins (Among May (Chained Spells)) (done ++ take place (byte ∷ bytes))
  begun (c, more, (after, (front, one, parts))) =
      let begin = take place (byte ∷ bytes) in
      elim (cases_lt (length front) (length begin)) [
        | inl short ↦
            let goes_on : begin ≡ front ++ drop (length front) begin = longer_front front begin after more (sym parts) (omega arith) in
            let whole : byte ∷ bytes ≡ front ++ (drop (length front) begin ++ drop place (byte ∷ bytes)) =
            sym (take-append-drop place (byte ∷ bytes)) ∙ ap (λ t. t ++ drop place (byte ∷ bytes)) goes_on ∙ append_assoc front (drop (length front) begin) (drop place (byte ∷ bytes)) in
            absurd (fails.none c (drop (length front) begin ++ drop place (byte ∷ bytes), (front, one, whole)))
        | inr long ↦
            let goes_on : front ≡ begin ++ drop (length begin) front = longer_front begin front more after parts long in
            let text = ap (λ t. done ++ t) goes_on ∙ sym (append_assoc done begin (drop (length begin) front)) in
            (all ++ c ∷ [], drop (length begin) front, (may c, subst (Chained Spells (all ++ c ∷ [])) text (chained_more Spells all c done front chained one)))
      ]

-- the same, of all the bytes
pub fails_within : {A : Type 0} (May : List A → Type 0) (Spells : A → List ℕ → Type 0) → IsPrefixFree Spells → (all : List A) (done rest bytes : List ℕ) (place : ℕ)
    → ((value : A) → May (all ++ value ∷ [])) → Chained Spells all done → bytes ≡ done ++ rest → 0 < length rest → FailsAt (StartsWith Spells) rest place
    → FailsAt (Among May (Chained Spells)) bytes (length bytes - length rest + place)
fails_within May Spells free all done [] bytes place may chained parts some fails = absurd (omega arith)
fails_within May Spells free all done (byte ∷ rest) bytes place may chained parts some fails =
    let before : length bytes - length (byte ∷ rest) ≡ length done = omega (arith, ap length parts, length-append done (byte ∷ rest)) in
    subst (λ n. FailsAt (Among May (Chained Spells)) bytes (n + place)) (sym before)
    (subst (λ b. FailsAt (Among May (Chained Spells)) b (length done + place)) (sym parts) (fails_after May Spells free all done byte rest place may chained fails))

-- where every list may be spelled
pub fails_anyway : {A : Type 0} (Spells : List A → List ℕ → Type 0) (bytes : List ℕ) (place : ℕ) → FailsAt (Among (λ _. Unit {0}) Spells) bytes place → FailsAt Spells bytes place
fails_anyway Spells bytes place fails = record {
  none = λ list spelled. fails.none list (tt, spelled);
  within = fails.within;
  begun = (fails.begun.0, fails.begun.1, fails.begun.2.1);
  broken = λ lt more. fails.broken lt (more.0, more.1, (tt, more.2));
}

-- a chain that holds as many values as it may fails at the next byte
pub fails_full : {A : Type 0} (May : List A → Type 0) (Spells : A → List ℕ → Type 0) → IsPrefixFree Spells → (all : List A) (done : List ℕ) (byte : ℕ) (bytes : List ℕ)
    → May all → ((more : A) (others : List A) → May (all ++ more ∷ others) → ⊥) → Chained Spells all done
    → FailsAt (Among May (Chained Spells)) (done ++ byte ∷ bytes) (length done)
fails_full {A} May Spells free all done byte bytes may full chained = record {
  none = λ list whole. none list bytes whole.0 whole.1;
  within = omega (arith, length-append done (byte ∷ bytes));
  begun = rw (take_at done (byte ∷ bytes) (length done) refl) (all, [], (may, subst (Chained Spells all) (sym (append-nil done)) chained));
  broken = λ lt more.
      let cut : take (length done + 1) (done ++ byte ∷ bytes) ≡ done ++ byte ∷ [] = take-append-add done (byte ∷ bytes) 1 in
      none more.0 more.1 more.2.0 (subst (Chained Spells more.0) (ap (λ t. t ++ more.1) cut ∙ append_assoc done (byte ∷ []) more.1) more.2.1);
} where
  none : (list : List A) (rest : List ℕ) → May list → Chained Spells list (done ++ byte ∷ rest) → ⊥
  none list rest allowed whole =
      let behind = chained_rest Spells free all list done (byte ∷ rest) chained whole in
      more behind.0 behind.2 (subst May behind.1 allowed) where
        more : (others : List A) → Chained Spells others (byte ∷ rest) → May (all ++ others) → ⊥
        more [] spelled allowed = let nothing : byte ∷ rest ≡ [] = spelled in cc
        more (next ∷ others) spelled allowed = full next others allowed

-- the same, of all the bytes
pub fails_full_within : {A : Type 0} (May : List A → Type 0) (Spells : A → List ℕ → Type 0) → IsPrefixFree Spells → (all : List A) (done rest bytes : List ℕ)
    → May all → ((more : A) (others : List A) → May (all ++ more ∷ others) → ⊥) → Chained Spells all done → bytes ≡ done ++ rest → 0 < length rest
    → FailsAt (Among May (Chained Spells)) bytes (length bytes - length rest)
fails_full_within May Spells free all done [] bytes may full chained parts some = absurd (omega arith)
fails_full_within May Spells free all done (byte ∷ rest) bytes may full chained parts some =
    let before : length bytes - length (byte ∷ rest) ≡ length done = omega (arith, ap length parts, length-append done (byte ∷ rest)) in
    subst (FailsAt (Among May (Chained Spells)) bytes) (sym before)
    (subst (λ b. FailsAt (Among May (Chained Spells)) b (length done)) (sym parts) (fails_full May Spells free all done byte rest may full chained))
