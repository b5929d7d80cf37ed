use Rattle.pt_typing.proofs.Decided.{decided}
use Rattle.pt_typing.proofs.Strats.{strat-check}
use Rattle.pt_typing.proofs.laws.strats_are_decided.Goals as goal

pub returns : goal.returns
returns c = λ scope self tree. decided (strat-check tree scope self)
