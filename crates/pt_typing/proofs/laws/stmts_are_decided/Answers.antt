use Rattle.pt_typing.proofs.Decided.{decided}
use Rattle.pt_typing.proofs.Suites.{stmts-check}
use Rattle.pt_typing.proofs.laws.stmts_are_decided.Goals as goal

pub returns : goal.returns
returns c = λ context scope stmts. decided (stmts-check stmts context scope)
