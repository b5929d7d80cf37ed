use Rattle.pt_disk.proofs.Prefixes.{after-remove, after-removed}
use Rattle.pt_disk.proofs.laws.a_delete_leaves_old_or_new.Goals as goal

pub returns-clause-removed : goal.returns-clause-removed
returns-clause-removed c = λ files image name. after-remove files name image

pub returns-clause-settled : goal.returns-clause-settled
returns-clause-settled c = λ files image name. after-removed files name image
