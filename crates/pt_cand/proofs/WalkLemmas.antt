-- Lists that are passed over.
use Rattle.std.proofs.Common.{◌≡◌, ◌≤◌, ℕ, ◌+◌, ◌-◌, List, [], ◌∷◌, drop, sym, ap, ◌∙◌, arith}
use Rattle.std.proofs.lemmas.List.{drop-drop}
use Rattle.pt_cand.proofs.PairLemmas.{drop-empty}

module _ {A : Type 0} (all left : List A) (passed : ℕ) (so_far : left ≡ drop passed all) where
  -- one more list was passed over
  pub passed-more : (first : A) (rest : List A) → left ≡ first ∷ rest → rest ≡ drop (passed + 1) all
  passed-more first rest is = ap (λ l. drop 1 l) (sym is ∙ so_far) ∙ drop-drop 1 passed all

  -- there are no more
  pub passed-all : (count : ℕ) → passed ≤ count → left ≡ [] → left ≡ drop count all
  passed-all count order none =
      let sum : passed + (count - passed) ≡ count = omega (arith, order) in
      none ∙ sym (drop-empty (count - passed)) ∙ ap (λ l. drop (count - passed) l) (sym none ∙ so_far) ∙ drop-drop (count - passed) passed all ∙ ap (λ n. drop n all) sum
