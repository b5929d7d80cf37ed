use Rattle.std.proofs.Common.{length, ap, arith}
use Rattle.pt_lex.proofs.Encodings.{fewer_chars}
use Rattle.pt_lex.proofs.lexing.tokens_of.Goals as goal

pub lexed-requires : goal.lexed-requires
lexed-requires c = omega (arith, c.requires, fewer_chars c.in_ok-text.text c.args.bytes.now c.in_ok-text.ensures.text, ap length c.as_slice.ensures)
