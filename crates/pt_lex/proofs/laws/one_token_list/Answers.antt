use Rattle.pt_lex.proofs.TokenListLaws.{one_tokens}
use Rattle.pt_lex.proofs.laws.one_token_list.Goals as goal

pub returns : goal.returns
returns c = one_tokens
