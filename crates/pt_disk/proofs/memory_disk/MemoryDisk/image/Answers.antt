use Rattle.std.proofs.Common.{◌≡◌, ◌∙◌, sym, ap}
use Rattle.pt_disk.specs.Kept.{kept}
use Rattle.pt_disk.specs.Moments.{now}
use Rattle.pt_disk.specs.DiskInMemory.{DiskInMemory, folder_of, shown}
use Rattle.pt_disk.proofs.KeptLemmas.{kept-image}
use Rattle.pt_disk.proofs.Memory.{made-image, now-shown}
use Rattle.pt_disk.proofs.memory_disk.MemoryDisk.image.Goals as goal

pub returns-clause-image : goal.returns-clause-image
returns-clause-image c =
    let folder : folder_of c.as_slice.result.now c.as_slice-2.result.now ≡ now (shown c.args.self.now) =
    (λ i. folder_of (c.as_slice.ensures i) (c.as_slice-2.ensures.value i))
    ∙ ap (λ (d : DiskInMemory). folder_of d.files d.changes) c.self.view_is
    ∙ sym (now-shown c.args.self.now) in
    made-image c.of.result c.in_ok-files.files c.empty.result (now (shown c.args.self.now)) (kept c.args.keep (now (shown c.args.self.now))) c.of.ensures
    (c.in_ok-files.ensures.all ∙ ap (kept c.args.keep) folder) (kept-image c.args.keep (now (shown c.args.self.now)))
