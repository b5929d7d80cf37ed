use Rattle.std.proofs.Common.{sym, arith}
use Rattle.pt_made.proofs.Decimals.{one_digit, two_digits, three_digits}
use Rattle.pt_made.proofs.places.width.Goals as goal

pub returns-then-k-lt10-clause-width : goal.returns-then-k-lt10-clause-width
returns-then-k-lt10-clause-width c = sym (one_digit c.args.k c.if-k-lt10.true)

pub returns-then-k-lt100-clause-width : goal.returns-then-k-lt100-clause-width
returns-then-k-lt100-clause-width c = sym (two_digits c.args.k c.if-k-lt10.false c.if-k-lt100.true)

pub returns-else-k-lt100-clause-width : goal.returns-else-k-lt100-clause-width
returns-else-k-lt100-clause-width c = sym (three_digits c.args.k c.if-k-lt100.false (omega (arith, c.requires)))
