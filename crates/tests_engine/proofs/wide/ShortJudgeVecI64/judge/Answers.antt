use Rattle.std.proofs.Common.{◌≡◌, true, false, length, refl, rules}
use Rattle.std.specs.Prelude.{nat_lt}
use Rattle.std.proofs.lemmas.List.{length-map}
use Rattle.pt_typed.proofs.ReadingLemmas.{members_list}
use Rattle.tests_engine.proofs.wide.ShortJudgeVecI64.judge.Goals as goal

pub returns-then-len-lt3-clause-verdict : goal.returns-then-len-lt3-clause-verdict
returns-then-len-lt3-clause-verdict c =
    let short : nat_lt (length c.args.list.now.items) 3 ≡ true = search rules in
    rw (members_list, length-map, short) refl

pub returns-else-len-lt3-clause-verdict : goal.returns-else-len-lt3-clause-verdict
returns-else-len-lt3-clause-verdict c =
    let long : nat_lt (length c.args.list.now.items) 3 ≡ false = search rules in
    rw (members_list, length-map, long) refl
