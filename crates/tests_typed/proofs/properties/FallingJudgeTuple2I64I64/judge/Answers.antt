use Rattle.std.proofs.Common.{◌≡◌, true, false, refl, rules}
use Rattle.std.specs.Prelude.{int_lt}
use Rattle.pt_typed.proofs.ReadingLemmas.{first_pair, second_pair}
use Rattle.tests_typed.proofs.properties.FallingJudgeTuple2I64I64.judge.Goals as goal

pub returns-then-pair-clause-verdict : goal.returns-then-pair-clause-verdict
returns-then-pair-clause-verdict c =
    let rises : int_lt c.args.pair.now.0 c.args.pair.now.1 ≡ true = search rules in
    rw (first_pair, second_pair, rises) refl

pub returns-else-pair-clause-verdict : goal.returns-else-pair-clause-verdict
returns-else-pair-clause-verdict c =
    let falls : int_lt c.args.pair.now.0 c.args.pair.now.1 ≡ false = search rules in
    rw (first_pair, second_pair, falls) refl
