use Rattle.pt_disk.specs.Folder.{After}
use Rattle.pt_disk.specs.declared.change.Change.TheVariants.{Remove, Settle}
use Rattle.pt_db.proofs.Writing.{carry, erased}
use Rattle.pt_db.proofs.store.Store.erase.Goals as goal
use Rattle.std.proofs.Common.{true}

pub returns-clause-written : goal.returns-clause-written
returns-clause-written g c =
    let removed = carry g.D.Disk.tells (After (Remove c.args.name.now)) _ true _ _ _ c.remove-removed.ensures.changes c.checked.ensures.same c.in_ok-checked.ensures.ok in
    let settled = carry g.D.Disk.tells (After Settle) _ _ _ _ _ c.settle-settled.ensures.changes c.checked-2.ensures.same c.checked-2.ensures.ok in
    erased c.args.name.now _ _ _ _ removed settled
