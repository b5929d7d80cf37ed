-- Runs, one after another.
use Rattle.std.proofs.Common.{◌≡◌, ℕ, ◌+◌, List, [], ◌∷◌, ◌++◌, length, refl, sym, subst, arith}
use Rattle.pt_choice.specs.declared.choice.Choice.{Choice}
use Rattle.pt_rng.specs.Supplied.{supply_of_run}
use Rattle.pt_case.specs.Step.{Answer}
use Rattle.pt_case.specs.Run.{IsRun}
use Rattle.pt_case.specs.Runs.{AreRuns}
use Rattle.pt_case.specs.declared.record.Record.{Record}

module _ (step : List Choice → Answer → Type 0) (seed : ℕ) where
  -- runs up to a number, and then runs from it on
  pub runs-append : (from mid to : ℕ) (first rest : List Record) →
      AreRuns step seed from mid first → AreRuns step seed mid to rest → AreRuns step seed from to (first ++ rest)
  runs-append from mid to [] rest is more = subst (λ n. AreRuns step seed n to rest) (sym is) more
  runs-append from mid to (rec ∷ first) rest is more = (is.0, runs-append (from + 1) mid to first rest is.1 more)

  -- one run more
  pub runs-push : (from to : ℕ) (records : List Record) (rec : Record) →
      AreRuns step seed from to records → IsRun step (supply_of_run seed to) rec → AreRuns step seed from (to + 1) (records ++ rec ∷ [])
  runs-push from to records rec is run = runs-append from to (to + 1) records (rec ∷ []) is (run, refl)

  -- there are as many as numbers
  pub runs-length : (from to : ℕ) (records : List Record) → AreRuns step seed from to records → from + length records ≡ to
  runs-length from to [] is = omega (arith, is)
  runs-length from to (rec ∷ records) is = omega (arith, runs-length (from + 1) to records is.1)
