use Rattle.std.proofs.Common.{true, false, Some}
use Rattle.pt_disk.specs.Folder.{After, after_rename}
use Rattle.pt_disk.specs.declared.change.Change.TheVariants.{Put, Sync, Settle}
use Rattle.pt_stored.specs.Stored.{pending}
use Rattle.pt_db.specs.Editing.{saved_as}
use Rattle.pt_db.proofs.Writing.{carry, gave-up, wrote, wrote-rename, after_the_rename}
use Rattle.pt_db.proofs.store.Store.write.Goals as goal

pub returns-in_err-checked-3-clause-written : goal.returns-in_err-checked-3-clause-written
returns-in_err-checked-3-clause-written g c =
    let name = c.args.name.now in
    let bytes = c.args.bytes.now in
    let put = carry g.D.Disk.tells (After (Put pending bytes)) _ true _ _ _ c.put-put.ensures.changes c.checked.ensures.same c.in_ok-checked.ensures.ok in
    let synced = carry g.D.Disk.tells (After (Sync pending)) _ true _ _ _ c.sync-synced.ensures.changes c.checked-2.ensures.same c.in_ok-checked-2.ensures.ok in
    let renamed = carry g.D.Disk.tells (after_rename pending name) _ false _ _ _ c.rename-renamed.ensures.changes c.checked-3.ensures.same c.in_err-checked-3.ensures.ok in
    gave-up name (Some bytes) (after_the_rename name bytes c.requires) (saved_as name bytes) _ _ _ c.from_residual-in_err-checked-3.ensures.0
    (wrote-rename name bytes c.requires _ _ false _ _ put synced renamed)

pub returns-clause-written : goal.returns-clause-written
returns-clause-written g c =
    let name = c.args.name.now in
    let put = carry g.D.Disk.tells (After (Put pending c.args.bytes.now)) _ true _ _ _ c.put-put.ensures.changes c.checked.ensures.same c.in_ok-checked.ensures.ok in
    let synced = carry g.D.Disk.tells (After (Sync pending)) _ true _ _ _ c.sync-synced.ensures.changes c.checked-2.ensures.same c.in_ok-checked-2.ensures.ok in
    let renamed = carry g.D.Disk.tells (after_rename pending name) _ true _ _ _ c.rename-renamed.ensures.changes c.checked-3.ensures.same c.in_ok-checked-3.ensures.ok in
    let settled = carry g.D.Disk.tells (After Settle) _ _ _ _ _ c.settle-settled.ensures.changes c.checked-4.ensures.same c.checked-4.ensures.ok in
    wrote name c.args.bytes.now c.requires _ _ _ _ _ _ put synced renamed settled
