use Rattle.std.proofs.Common.{◌≡◌, Err, rules}
use Rattle.pt_plan.specs.Stop.{draw_stop_of}
use Rattle.pt_strat.proofs.IntegerLemmas.{integer-stopped, integer-drawn}
use Rattle.pt_strat.proofs.integers.draw_integer.Goals as goal

pub returns-in_err-drawn-clause-drew : goal.returns-in_err-drawn-clause-drew
returns-in_err-drawn-clause-drew c =
    let gave : c.from_residual.result ≡ Err (draw_stop_of c.in_err-drawn.field-0.0) = search rules in
    rw gave (integer-stopped c.args.range (search rules) (search rules) c.in_err-drawn.ensures.drew)

pub returns-clause-drew : goal.returns-clause-drew
returns-clause-drew c = integer-drawn c.args.range (search rules) (search rules) c.in_ok-drawn.ensures.drew (search rules)
