use Rattle.pt_db.proofs.Attaching.{attaches}
use Rattle.pt_db.proofs.store.settle.Goals as goal

pub returns-clause-attached : goal.returns-clause-attached
returns-clause-attached g c = attaches _ _ _ c.settle.ensures.changes
