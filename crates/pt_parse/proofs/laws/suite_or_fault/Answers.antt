use Rattle.pt_parse.proofs.SuiteLaws.{some_answer, no_both}
use Rattle.pt_parse.proofs.laws.suite_or_fault.Goals as goal

pub returns-clause-some : goal.returns-clause-some
returns-clause-some c = λ bytes.
    some_answer c.one_token_list.ensures c.tokens_end_once.ensures.once c.tokens_end_once.ensures.real bytes (c.every_text_has_tokens.ensures bytes)

pub returns-clause-not_both : goal.returns-clause-not_both
returns-clause-not_both c = no_both c.one_token_list.ensures c.tokens_end_once.ensures.once c.tokens_end_once.ensures.real c.tokens_are_utf8.ensures
