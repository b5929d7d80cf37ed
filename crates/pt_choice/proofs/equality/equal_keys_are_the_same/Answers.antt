use Rattle.pt_choice.proofs.SameLemmas.{same_choice-decides, same_choices-decides}
use Rattle.pt_choice.proofs.equality.equal_keys_are_the_same.Goals as goal

pub returns-clause-choices : goal.returns-clause-choices
returns-clause-choices c = same_choice-decides

pub returns-clause-lists : goal.returns-clause-lists
returns-clause-lists c = same_choices-decides
