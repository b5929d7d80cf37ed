use Rattle.std.proofs.Common.{sym}
use Rattle.pt_lex.proofs.ReadLaws.{mark_read, minus_read, number_read}
use Rattle.pt_lex.proofs.lexing.read_token.Goals as goal

pub returns-then-is_ascii_digit : goal.returns-then-is_ascii_digit
returns-then-is_ascii_digit c =
    number_read c.args.text.now c.in-Some.inside.now c.in-Some.first.now (c.read_number.result.0, c.read_number.result.1.now) c.in-Some.ensures.cases.0 (sym c.if-is_ascii_digit.ensures.value) c.read_number.ensures

pub returns-then-first-eq45 : goal.returns-then-first-eq45
returns-then-first-eq45 c =
    minus_read c.args.text.now c.in-Some.inside.now c.in-Some.first.now (c.read_minus.result, c.in-Some.inside.now) c.in-Some.ensures.cases.0 c.if-first-eq45.true c.read_minus.ensures

pub returns : goal.returns
returns c =
    mark_read c.args.text.now c.in-Some.inside.now c.in-Some.first.now (c.read_mark.result.0, c.read_mark.result.1.now) c.in-Some.ensures.cases.0
    (sym c.if-is_ascii_lowercase.ensures.value) (sym c.if-is_ascii_digit.ensures.value) c.if-first-eq34.false c.if-first-eq45.false c.read_mark.ensures
