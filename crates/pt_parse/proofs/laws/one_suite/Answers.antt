use Rattle.pt_parse.proofs.SuiteLaws.{one_suite}
use Rattle.pt_parse.proofs.laws.one_suite.Goals as goal

pub returns : goal.returns
returns c = one_suite c.one_token_list.ensures c.tokens_end_once.ensures.once c.tokens_end_once.ensures.real
