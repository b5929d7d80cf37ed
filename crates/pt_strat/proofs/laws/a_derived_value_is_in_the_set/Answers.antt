use Rattle.pt_strat.proofs.MemberLaws.{derived-is-in-set}
use Rattle.pt_strat.proofs.laws.a_derived_value_is_in_the_set.Goals as goal

pub returns : goal.returns
returns c = derived-is-in-set
