use Rattle.pt_eval.proofs.TypeLaws.{values-keep-types}
use Rattle.pt_eval.proofs.laws.values_keep_types.Goals as goal

pub returns : goal.returns
returns c = values-keep-types
