-- Four things of which each two have names of their own.
use Rattle.std.proofs.Common.{ℕ, List, [], ◌∷◌, arith}
use Rattle.std.specs.Prelude.{◌≢◌}
use Rattle.std.specs.List.{AllPairs}
use Rattle.std.proofs.lemmas.List.Elements.{All-nil, All-cons}
use Rattle.std.proofs.lemmas.List.Kept.{AllPairs-cons}

-- two names are not one
abbrev pub Differ : {C : Type 0} → (C → List ℕ) → C → C → Type 0
Differ name one other = name one ≢ name other

module _ {C : Type 0} (name : C → List ℕ) where
  none : AllPairs (Differ name) []
  none i j d below within = absurd (omega (arith, within))

  pub four-names : (a b c d : C) → Differ name a b → Differ name a c → Differ name a d → Differ name b c → Differ name b d → Differ name c d →
      AllPairs (Differ name) (a ∷ b ∷ c ∷ d ∷ [])
  four-names a b c d a-b a-c a-d b-c b-d c-d =
      AllPairs-cons (Differ name) a (b ∷ c ∷ d ∷ [])
      (All-cons (Differ name a) b (c ∷ d ∷ []) a-b (All-cons (Differ name a) c (d ∷ []) a-c (All-cons (Differ name a) d [] a-d (All-nil (Differ name a)))))
      (AllPairs-cons (Differ name) b (c ∷ d ∷ [])
      (All-cons (Differ name b) c (d ∷ []) b-c (All-cons (Differ name b) d [] b-d (All-nil (Differ name b))))
      (AllPairs-cons (Differ name) c (d ∷ []) (All-cons (Differ name c) d [] c-d (All-nil (Differ name c)))
      (AllPairs-cons (Differ name) d [] (All-nil (Differ name d)) none)))
