use Rattle.std.proofs.Common.{◌≡◌, true, false, refl, rules}
use Rattle.std.specs.Prelude.{int_lt}
use Rattle.pt_typed.proofs.ReadingLemmas.{first_pair, second_pair}
use Rattle.pt_checks.proofs.in_order.InOrderJudgeTuple2I64I64.judge.Goals as goal

pub returns-then-pair-clause-verdict : goal.returns-then-pair-clause-verdict
returns-then-pair-clause-verdict c =
    let falls : int_lt c.args.pair.now.1 c.args.pair.now.0 ≡ true = search rules in
    rw (first_pair, second_pair, falls) refl

pub returns-clause-verdict : goal.returns-clause-verdict
returns-clause-verdict c =
    let rises : int_lt c.args.pair.now.1 c.args.pair.now.0 ≡ false = search rules in
    rw (first_pair, second_pair, rises) refl
