use Rattle.std.proofs.Common.{append_assoc}
use Rattle.pt_val.proofs.HexLemmas.{digits_step}
use Rattle.pt_val.proofs.printing.+write_hex.Goals as goal

pub returns : goal.returns
returns t c =
    let step = digits_step c.args.number c.if-number-lt16.false c.ranges.number.fits in
    rw (step, ← append_assoc, ← c.in_ok-write_hex.ensures, ← c.hex_digit-2.ensures) c.push-2.ensures.ok
