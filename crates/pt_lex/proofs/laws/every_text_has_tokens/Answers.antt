use Rattle.pt_lex.proofs.Existence.{some_tokens}
use Rattle.pt_lex.proofs.laws.every_text_has_tokens.Goals as goal

pub returns : goal.returns
returns c = some_tokens
