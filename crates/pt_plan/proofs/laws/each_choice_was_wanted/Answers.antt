use Rattle.std.proofs.Common.{[]}
use Rattle.pt_plan.proofs.MarkLemmas.{wanted-before}
use Rattle.pt_plan.proofs.laws.each_choice_was_wanted.Goals as goal

pub returns : goal.returns
returns g c plan choices choice rest mark stands = wanted-before plan 0 [] [] choices choice rest mark stands
