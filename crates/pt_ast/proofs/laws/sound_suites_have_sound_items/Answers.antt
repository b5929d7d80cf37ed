use Rattle.pt_ast.proofs.NumberLaws.{sound-items}
use Rattle.pt_ast.proofs.laws.sound_suites_have_sound_items.Goals as goal

pub returns : goal.returns
returns c = sound-items
