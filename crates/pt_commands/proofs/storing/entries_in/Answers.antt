use Rattle.std.proofs.Common.{rules, refl}
use Rattle.pt_commands.proofs.Entries.{read-settled, lost-settled, lost-cause}
use Rattle.pt_commands.proofs.storing.entries_in.Goals as goal

pub returns-in-Ok-clause-settled : goal.returns-in-Ok-clause-settled
returns-in-Ok-clause-settled g c =
    read-settled g.D.Disk.faults g.D.Disk.tells c.args.disk.now c.in-Ok.store.disk.now c.list-listed.new.self.disk.now _ _ _ (search rules)
    c.in-Ok.ensures.attached c.list-listed.ensures.rests

pub returns-in-Err-clause-settled : goal.returns-in-Err-clause-settled
returns-in-Err-clause-settled g c =
    lost-settled g.D.Disk.faults g.D.Disk.tells c.args.disk.now c.in-Err._lost.disk.now _ _ _ refl (search rules) c.in-Err.ensures.failed

pub returns-in-Err-clause-cause : goal.returns-in-Err-clause-cause
returns-in-Err-clause-cause g c =
    lost-cause g.D.Disk.faults g.D.Disk.tells c.args.disk.now c.in-Err._lost.disk.now _ _ refl (search rules) c.in-Err.ensures.cause
