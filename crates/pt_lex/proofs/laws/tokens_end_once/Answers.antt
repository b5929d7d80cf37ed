use Rattle.pt_lex.proofs.TokenListLaws.{tokens_few, tokens_once, tokens_real}
use Rattle.pt_lex.proofs.laws.tokens_end_once.Goals as goal

pub returns-clause-once : goal.returns-clause-once
returns-clause-once c = tokens_once

pub returns-clause-real : goal.returns-clause-real
returns-clause-real c = tokens_real

pub returns-clause-few : goal.returns-clause-few
returns-clause-few c = tokens_few
