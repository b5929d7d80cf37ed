use Rattle.pt_disk.proofs.Prefixes.{after-put, after-sync, after-rename, after-settle}
use Rattle.pt_disk.proofs.laws.a_save_leaves_old_or_new.Goals as goal

pub returns-clause-put : goal.returns-clause-put
returns-clause-put c = λ files image spare bytes. after-put files spare spare bytes image

pub returns-clause-synced : goal.returns-clause-synced
returns-clause-synced c = λ files image spare bytes. after-sync files spare spare bytes image

pub returns-clause-renamed : goal.returns-clause-renamed
returns-clause-renamed c = λ files image spare name bytes. after-rename files spare name bytes image

pub returns-clause-settled : goal.returns-clause-settled
returns-clause-settled c = λ files image spare name bytes. after-settle files spare name bytes image
