use Rattle.pt_parse.proofs.SuiteLaws.{one_first}
use Rattle.pt_parse.proofs.laws.one_first_fault.Goals as goal

pub returns : goal.returns
returns c = one_first c.one_token_list.ensures c.tokens_end_once.ensures.once c.tokens_end_once.ensures.real c.tokens_are_utf8.ensures c.one_place_not_utf8.ensures
