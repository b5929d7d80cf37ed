use Rattle.pt_lex.proofs.TokenListLaws.{one_place}
use Rattle.pt_lex.proofs.laws.one_place_not_utf8.Goals as goal

pub returns : goal.returns
returns c = one_place
