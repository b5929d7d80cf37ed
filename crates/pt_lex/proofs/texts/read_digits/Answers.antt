use Rattle.std.proofs.Common.{◌≤◌, arith}
use Rattle.pt_lex.proofs.CharLaws.{small_code}
use Rattle.pt_lex.proofs.texts.read_digits.Goals as goal

pub overflow_mul-code : goal.overflow_mul-code
overflow_mul-code c =
    let i = c.loop-char.invariant in
    let few : c.loop-char.count ≤ 5 = omega (arith, i.1, c.if-count-eq-MOST_DIGITS.false) in
    omega (arith, small_code c.loop-char.code c.loop-char.count few i.2)

pub overflow_add-code : goal.overflow_add-code
overflow_add-code c =
    let i = c.loop-char.invariant in
    let few : c.loop-char.count ≤ 5 = omega (arith, i.1, c.if-count-eq-MOST_DIGITS.false) in
    omega (arith, small_code c.loop-char.code c.loop-char.count few i.2, c.from.ensures, c.in_ok-digit.ensures.small)
