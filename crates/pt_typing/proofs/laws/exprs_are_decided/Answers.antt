use Rattle.pt_typing.proofs.Decided.{decided}
use Rattle.pt_typing.proofs.Exprs.{expr-check}
use Rattle.pt_typing.proofs.laws.exprs_are_decided.Goals as goal

pub returns : goal.returns
returns c = λ scope tree. decided (expr-check tree scope)
