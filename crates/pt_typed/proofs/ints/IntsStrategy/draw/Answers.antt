use Rattle.std.proofs.Common.{◌≡◌, Err, rules}
use Rattle.pt_typed.specs.Fail.{fail_of}
use Rattle.pt_typed.proofs.IntsLemmas.{ints-refused, ints-drawn}
use Rattle.pt_typed.proofs.ints.IntsStrategy.draw.Goals as goal

pub returns-in_err-drawn : goal.returns-in_err-drawn
returns-in_err-drawn c =
    let gave : c.from_residual-in_err-drawn.result ≡ Err (fail_of c.in_err-drawn.field-0.0) = search rules in
    rw gave (ints-refused c.args.self.now.lo c.args.self.now.hi c.in_ok-enter.ensures.drew c.in_err-drawn.ensures.drew (search rules) (search rules))

pub returns : goal.returns
returns c =
    ints-drawn c.args.self.now.lo c.args.self.now.hi c.in_ok-enter.ensures.drew c.in_ok-drawn.ensures.drew (search rules) (search rules)
    c.leave.ensures.left (search rules)
