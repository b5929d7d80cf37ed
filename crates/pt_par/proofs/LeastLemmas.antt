-- The least better place, from what the shares tell.
use Rattle.std.proofs.lemmas.Nat.{mod_below}
use Rattle.std.proofs.lemmas.Bool.{cases_lt}
use Rattle.std.proofs.lemmas.Option.{slice_get_within, get_or_from_slice_get}
use Rattle.pt_case.specs.Better.{IsBetter}
use Rattle.std.proofs.Common.{◌+◌, ◌%◌, length, get_or, below_more, ◌≡◌, ◌⊎◌, inl, inr, ℕ, zero, suc, ◌<◌, ◌≤◌, List, Option, Some, None, arith, ◌∙◌, sym, subst}
use Rattle.pt_choice.specs.declared.choice.Choice.{Choice}
use Rattle.pt_case.specs.Step.{Answer}
use Rattle.pt_case.specs.declared.record.Record.{Record}
use Rattle.pt_par.specs.declared.hit.Hit.{Hit}
use Rattle.pt_par.specs.Least.{IsBetterAt, IsSettled, IsHit, IsLeast, IsEarlier, MayHold, Covers}

-- where each place below a bound is settled, none of them is better
pub none-better : (step : List Choice → Answer → Type 0) (best : Record) (lists : List (List Choice)) (bound : ℕ) →
    ((place : ℕ) → place < bound → IsSettled step best lists place) →
    (place : ℕ) → place < bound → ¬ IsBetterAt step best lists place
none-better step best lists zero settled place below is = omega arith
none-better step best lists (suc bound) settled place below is =
    elim (settled place below) [
      | inl never ↦ never is
      | inr found ↦ none-better step best lists bound (λ other less. settled other (omega arith)) found.0 (omega arith) found.2
    ]

-- where each place before the hit is settled, it is the least
pub covers-least : (step : List Choice → Answer → Type 0) (best : Record) (lists : List (List Choice)) (hit : Option Hit) →
    Covers step best lists (λ place. Unit {0}) hit → IsLeast step best lists hit
covers-least step best lists None covers = λ place is.
    none-better step best lists (suc place) (λ other less. covers other tt) place (omega arith) is
covers-least step best lists (Some hit) covers = (
  covers.0,
  λ place below is.
      none-better step best lists hit.at (λ other less. covers.1 other tt less) place below is,
)

module _ (step : List Choice → Answer → Type 0) (best : Record) (lists : List (List Choice)) where
  -- a list that stands at the place and is no better settles it
  pub tried-settled : (place : ℕ) (list : List Choice) → list ≡ get_or lists place list → ¬ IsBetter step list best →
      IsSettled step best lists place
  tried-settled place list at never = inl (λ found.
      let same = at ∙ get_or_from_slice_get lists place found.0 list found.1 in
      never (subst (λ other. IsBetter step other best) (sym same) found.2))

  -- what the word says where it is below a place
  pub passed-settled : (word place : ℕ) → place < length lists → word < place → MayHold step best lists word →
      IsSettled step best lists place
  passed-settled word place within below holds = elim holds [
    | inl is ↦ let no : ⊥ = omega (arith, is) in elim no [ ]
    | inr better ↦ inr (word, below, better)
  ]

  -- one place more
  pub settled-more : (workers worker bound : ℕ) →
      ((place : ℕ) → place % workers ≡ worker → place < bound → IsSettled step best lists place) →
      (bound % workers ≡ worker → IsSettled step best lists bound) →
      (place : ℕ) → place % workers ≡ worker → place < bound + 1 → IsSettled step best lists place
  settled-more workers worker bound before this place mine below =
      below_more (λ k. k % workers ≡ worker → IsSettled step best lists k) bound (λ k less is. before k is less) this place below mine

  -- a place past the lists is settled
  pub past-settled : (place : ℕ) → length lists ≤ place → IsSettled step best lists place
  past-settled place past = inl (λ found. let within = slice_get_within lists place found.0 found.1 in omega arith)

  -- what two hits cover between them the earlier covers
  pub covers-both : (Mine Yours Ours : ℕ → Type 0) (one other hit : Option Hit) → Covers step best lists Mine one →
      Covers step best lists Yours other → ((place : ℕ) → Ours place → Mine place ⊎ Yours place) → IsEarlier one other hit →
      Covers step best lists Ours hit
  covers-both Mine Yours Ours None None hit mine yours either is = rw is (λ place ours.
      elim (either place ours) [ inl my ↦ mine place my | inr your ↦ yours place your ])
  covers-both Mine Yours Ours None (Some other) hit mine yours either is = rw is (
    yours.0,
    λ place ours below.
        elim (either place ours) [ inl my ↦ mine place my | inr your ↦ yours.1 place your below ],
  )
  covers-both Mine Yours Ours (Some one) None hit mine yours either is = rw is (
    mine.0,
    λ place ours below.
        elim (either place ours) [ inl my ↦ mine.1 place my below | inr your ↦ yours place your ],
  )
  covers-both Mine Yours Ours (Some one) (Some other) hit mine yours either is = elim is [
    | inl first ↦ rw first.1 (
      mine.0,
      λ place ours below.
          elim (either place ours) [ inl my ↦ mine.1 place my below | inr your ↦ yours.1 place your (omega (arith, first.0)) ],
    )
    | inr second ↦ rw second.1 (
      yours.0,
      λ place ours below.
          elim (either place ours) [ inl my ↦ mine.1 place my (omega (arith, second.0)) | inr your ↦ yours.1 place your below ],
    )
  ]

  -- a share more
  pub covers-more : (workers done : ℕ) (one other hit : Option Hit) → Covers step best lists (λ place. place % workers < done) one →
      Covers step best lists (λ place. place % workers ≡ done) other → IsEarlier one other hit →
      Covers step best lists (λ place. place % workers < done + 1) hit
  covers-more workers done one other hit mine yours = covers-both (λ place. place % workers < done) (λ place. place % workers ≡ done)
      (λ place. place % workers < done + 1) one other hit mine yours
      (λ place below. elim (cases_lt (place % workers) done) [ inl less ↦ inl less | inr more ↦ inr (omega arith) ])

  -- the shares of all workers together
  pub covers-all : (workers done : ℕ) (hit : Option Hit) → 1 ≤ workers → done ≡ workers → Covers step best lists (λ place. place % workers < done) hit →
      IsLeast step best lists hit
  covers-all workers done None some all covers = covers-least step best lists None (λ place every. covers place (omega (arith, mod_below place workers some)))
  covers-all workers done (Some hit) some all covers = covers-least step best lists (Some hit) (covers.0, λ place every below. covers.1 place (omega (arith, mod_below place workers some)) below)
