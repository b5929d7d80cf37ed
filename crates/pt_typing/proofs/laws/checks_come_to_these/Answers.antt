use Rattle.pt_typing.proofs.Exprs.{expr-check}
use Rattle.pt_typing.proofs.Strats.{strat-check}
use Rattle.pt_typing.proofs.Suites.{stmts-check, suite-check}
use Rattle.pt_typing.proofs.laws.checks_come_to_these.Goals as goal

pub returns : goal.returns
returns c = record {
  exprs = λ scope tree. expr-check tree scope;
  strats = λ scope self tree. strat-check tree scope self;
  stmts = λ context scope stmts. stmts-check stmts context scope;
  suites = suite-check;
}
