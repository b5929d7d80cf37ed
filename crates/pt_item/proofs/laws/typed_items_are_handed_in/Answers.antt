use Rattle.pt_item.proofs.ItemLemmas.{all-handed-in}
use Rattle.pt_item.proofs.laws.typed_items_are_handed_in.Goals as goal

pub returns : goal.returns
returns c = λ known suite typed. all-handed-in known suite.items typed.items
