use Rattle.std.proofs.Common.{ap, ℕ, ◌<◌, ◌≤◌, ◌+◌, length, arith, inl, inr}
use Rattle.std.proofs.lemmas.Bool.{cases_lt}
use Rattle.pt_par.proofs.LeastLemmas.{tried-settled, passed-settled, settled-more, past-settled}
use Rattle.pt_par.proofs.search.share.Goals as goal

pub loop-place-preserved : goal.loop-place-preserved
loop-place-preserved g c =
    let never = rw c.in_default.is at c.in_ok-rec.ensures in
    settled-more _ _ _ _ _ _ c.loop-place.invariant (λ mine. tried-settled _ _ _ _ c.index-block-place.result
    (rw c.as_slice-block.ensures at c.index-block-place.is) never)

pub returns : goal.returns
returns g c place mine = elim (cases_lt place (length c.args.lists.now)) [
  | inl within ↦ c.loop-place.invariant place mine (let end = rw c.as_slice-block.ensures at c.loop-place-test.false in omega (arith, end))
  | inr past ↦ past-settled _ _ _ place past
]
