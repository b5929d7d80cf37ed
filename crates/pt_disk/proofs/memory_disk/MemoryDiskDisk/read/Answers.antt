use Rattle.std.proofs.Common.{◌≡◌, ◌∙◌, sym, ap, subst, ℕ, List, take, Option, Some, Result, IfOk, is_err}
use Rattle.std.specs.Option.{option_map}
use Rattle.pt_disk.specs.Folder.{Folder, reads}
use Rattle.pt_disk.specs.Moments.{now}
use Rattle.pt_disk.specs.Calls.{IsFirstPart}
use Rattle.pt_disk.specs.DiskInMemory.{DiskInMemory, folder_of, shown}
use Rattle.pt_disk.specs.declared.disk.DiskStop.{DiskStop}
use Rattle.pt_disk.proofs.Memory.{begun-cause, err-of, folder-now}
use Rattle.pt_disk.proofs.memory_disk.MemoryDiskDisk.read.Goals as goal
use Rattle.pt_disk.proofs.memory_disk.MemoryDiskDisk.read.Goals.{in-Some+in_ok-of-in-Some, in-None}

pub returns-in_err-begin-clause-cause : goal.returns-in_err-begin-clause-cause
returns-in_err-begin-clause-cause c =
    begun-cause c.begin.result c.from_residual.result _ _ c.begin.ensures.cause (ap is_err c.in_err-begin.was) (err-of c.from_residual.result c.from_residual.ensures.1)

pub returns-clause-part : goal.returns-clause-part
returns-clause-part c =
    let name = c.args.name.now in
    let cap = c.args.cap in
    let folder : folder_of c.as_slice.result.now c.as_slice-2.result.now ≡ now (shown c.args.self.now) =
    (λ i. folder_of (c.as_slice.ensures i) (c.as_slice-2.ensures.value i))
    ∙ ap (λ (d : DiskInMemory). folder_of d.files d.changes) c.self.view_is
    ∙ folder-now c.begin.new.self c.args.self.now c.in_ok-begin.ensures.ok in
    let answered = λ (r : Result (Option (List ℕ)) DiskStop). IfOk r (IsFirstPart (Some (shown c.args.self.now)) name cap) in
    elim c.match-bytes_of.branch [
      | in-Some+in_ok-of-in-Some w ↦ subst answered (sym w.result-is)
          (ap (λ (part : List ℕ). Some part) (w.in_ok-of-in-Some.ensures ∙ w.first_part.ensures)
          ∙ ap (option_map (λ bytes. take cap bytes)) (w.in-Some.ensures ∙ ap (λ (f : Folder). reads f name) folder))
      | in-None w ↦ subst answered (sym w.result-is)
          (ap (option_map (λ bytes. take cap bytes)) (w.in-None.ensures ∙ ap (λ (f : Folder). reads f name) folder))
    ]
