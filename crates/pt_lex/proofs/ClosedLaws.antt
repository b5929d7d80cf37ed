-- Spellings up to a quote.
use Rattle.std.proofs.Common.{◌≡◌, ◌≢◌, ℕ, List, [], ◌∷◌, ◌++◌, refl, sym, ap, subst, ◌∙◌, append_assoc}
use Rattle.std.proofs.lemmas.List.{append_cancel_left}
use Rattle.pt_wire.specs.Spelling.{Chained, Splits}
use Rattle.pt_wire.proofs.Chains.{IsPrefixFree}
use Rattle.pt_lex.specs.Texts.{Closes}

-- no spelling begins with a quote
abbrev pub StartsElse : {A : Type 0} → (A → List ℕ → Type 0) → Type 0
StartsElse {A} Spells = (value : A) (front rest more : List ℕ) → Spells value front → front ++ rest ≡ 34 ∷ more → ⊥

tail_same : (a b : ℕ) (xs ys : List ℕ) → a ∷ xs ≡ b ∷ ys → xs ≡ ys
tail_same a b xs ys e = cc

head_same : (a b : ℕ) (xs ys : List ℕ) → a ∷ xs ≡ b ∷ ys → a ≡ b
head_same a b xs ys e = cc

-- behind what was passed the rest of the list is closed
pub closed_rest : {A : Type 0} (Spells : A → List ℕ → Type 0) → IsPrefixFree Spells → StartsElse Spells → (all list : List A) (passed rest more : List ℕ)
    → Chained Spells all passed → Closes Spells list (passed ++ rest) more → (tail : List A) × (list ≡ all ++ tail) × Closes Spells tail rest more
closed_rest Spells free else [] list passed rest more none closes = (list, refl, subst (λ p. Closes Spells list (p ++ rest) more) none closes)
closed_rest Spells free else (c ∷ cs) [] passed rest more (front, others, one, chain, parts) (inside, none, whole) =
    absurd (else c front (others ++ rest) more one (sym (append_assoc front others rest) ∙ ap (λ p. p ++ rest) (sym parts) ∙ whole ∙ ap (λ i. i ++ 34 ∷ more) none))
closed_rest Spells free else (c ∷ cs) (d ∷ ds) passed rest more (front, others, one, chain, parts) (inside, (start, behind, first, chained, pieces), whole) =
    let e : front ++ (others ++ rest) ≡ start ++ (behind ++ 34 ∷ more) =
    sym (append_assoc front others rest) ∙ ap (λ p. p ++ rest) (sym parts) ∙ whole ∙ ap (λ i. i ++ 34 ∷ more) pieces ∙ append_assoc start behind (34 ∷ more) in
    let same = free.one c d front start (others ++ rest) (behind ++ 34 ∷ more) one first e in
    let on : others ++ rest ≡ behind ++ 34 ∷ more = append_cancel_left start (others ++ rest) (behind ++ 34 ∷ more) (ap (λ f. f ++ (others ++ rest)) (sym same.1) ∙ e) in
    let goes_on = closed_rest Spells free else cs ds others rest more chain (behind, chained, on) in
    (goes_on.0, ap (λ x. x ∷ ds) (sym same.0) ∙ ap (λ xs. c ∷ xs) goes_on.1, goes_on.2)

-- nothing is closed at the end
pub closed_end : {A : Type 0} (Spells : A → List ℕ → Type 0) (list : List A) (more : List ℕ) → Closes Spells list [] more → ⊥
closed_end Spells list more ([], chain, whole) = absurd cc
closed_end Spells list more (first ∷ inside, chain, whole) = absurd cc

-- at a quote the empty list is closed alone
pub closed_quote : {A : Type 0} (Spells : A → List ℕ → Type 0) → StartsElse Spells → (list : List A) (rest more : List ℕ) → Closes Spells list (34 ∷ rest) more → (list ≡ []) × (rest ≡ more)
closed_quote Spells else [] rest more (inside, none, whole) = (refl, tail_same 34 34 rest more (whole ∙ ap (λ i. i ++ 34 ∷ more) none))
closed_quote Spells else (c ∷ cs) rest more (inside, (front, others, one, chain, parts), whole) =
    absurd (else c front (others ++ 34 ∷ more) rest one (sym (whole ∙ ap (λ i. i ++ 34 ∷ more) parts ∙ append_assoc front others (34 ∷ more))))

-- elsewhere a list that is closed begins with a spelling
pub closed_first : {A : Type 0} (Spells : A → List ℕ → Type 0) (list : List A) (first : ℕ) (rest more : List ℕ) → first ≢ 34 → Closes Spells list (first ∷ rest) more
    → (value : A) × (after : List ℕ) × Splits Spells value (first ∷ rest) after
closed_first Spells [] first rest more other (inside, none, whole) = absurd (other (head_same first 34 rest more (whole ∙ ap (λ i. i ++ 34 ∷ more) none)))
closed_first Spells (c ∷ cs) first rest more other (inside, (front, others, one, chain, parts), whole) =
    (c, others ++ 34 ∷ more, (front, one, whole ∙ ap (λ i. i ++ 34 ∷ more) parts ∙ append_assoc front others (34 ∷ more)))

-- one list is closed, at one quote
pub closed_one : {A : Type 0} (Spells : A → List ℕ → Type 0) → IsPrefixFree Spells → StartsElse Spells → (list other : List A) (text rest more : List ℕ)
    → Closes Spells list text rest → Closes Spells other text more → (list ≡ other) × (rest ≡ more)
closed_one Spells free else list other text rest more (inside, chain, whole) also =
    let behind = closed_rest Spells free else list other inside (34 ∷ rest) more chain (subst (λ t. Closes Spells other t more) whole also) in
    let last = closed_quote Spells else behind.0 rest more behind.2 in
    (sym (behind.1 ∙ ap (λ t. list ++ t) last.0 ∙ append_nil list), last.1) where
      append_nil : {A : Type 0} (xs : List A) → xs ++ [] ≡ xs
      append_nil [] = refl
      append_nil (x ∷ xs) = ap (λ t. x ∷ t) (append_nil xs)

-- what is closed behind a front that is closed with it
pub closed_within : {A : Type 0} (Spells : A → List ℕ → Type 0) (list : List A) (inside more : List ℕ) → Closes Spells list inside [] → Closes Spells list (inside ++ more) more
closed_within Spells list inside more (front, chain, whole) = (front, chain, ap (λ i. i ++ more) whole ∙ append_assoc front (34 ∷ []) more)
