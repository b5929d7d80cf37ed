use Rattle.pt_lex.proofs.TokenListLaws.{tokens_valid}
use Rattle.pt_lex.proofs.laws.tokens_are_utf8.Goals as goal

pub returns : goal.returns
returns c = tokens_valid
