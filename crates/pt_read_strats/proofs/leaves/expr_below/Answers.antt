use Rattle.std.proofs.Common.{◌≡◌, ◌-◌, suc, sym, subst, arith}
use Rattle.pt_ast.specs.Plain.{plain_expr}
use Rattle.pt_grammar.specs.ExprReading.{inner}
use Rattle.pt_taking.specs.Gives.{Gives}
use Rattle.pt_read_strats.proofs.leaves.expr_below.Goals as goal

pub returns-clause-gives : goal.returns-clause-gives
unfolding inner
returns-clause-gives c =
    let k : c.args.left ≡ suc (c.args.left - 1) = omega arith in
    subst (λ n. Gives (λ x. (plain_expr x.0, x.1.now)) c.read_expr.result ((inner n).expr c.args.tokens.now)) (sym k) c.read_expr.ensures.gives
