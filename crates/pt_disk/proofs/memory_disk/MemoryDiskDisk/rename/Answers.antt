use Rattle.std.proofs.Common.{◌≡◌, ◌∙◌, sym, false}
use Rattle.pt_disk.specs.Files.{is_name}
use Rattle.pt_disk.proofs.Memory.{makes-changed, renamed-other}
use Rattle.pt_disk.proofs.memory_disk.MemoryDiskDisk.rename.Goals as goal

pub returns-clause-changes : goal.returns-clause-changes
returns-clause-changes c =
    let test : is_name c.args.from.now c.args.to.now ≡ false = sym c.eq.ensures ∙ c.if-eq.false in
    renamed-other _ _ _ _ _ test (makes-changed _ _ _ _ (c.make-2.ensures.makes _ c.rename_of.ensures))
