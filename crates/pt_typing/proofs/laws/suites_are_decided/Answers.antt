use Rattle.pt_typing.proofs.Decided.{decided}
use Rattle.pt_typing.proofs.Suites.{suite-check}
use Rattle.pt_typing.proofs.laws.suites_are_decided.Goals as goal

pub returns : goal.returns
returns c = λ known suite. decided (suite-check known suite)
