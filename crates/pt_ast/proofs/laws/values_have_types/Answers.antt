use Rattle.pt_ast.proofs.ValueLaws.{has-type-is-of}
use Rattle.pt_ast.proofs.laws.values_have_types.Goals as goal

pub returns : goal.returns
returns c = has-type-is-of
