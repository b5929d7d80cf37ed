use Rattle.std.proofs.Common.{◌∙◌, sym, ap, refl}
use Rattle.pt_disk.specs.Folder.{Folder, Stable, settled}
use Rattle.pt_disk.specs.DiskInMemory.{content_of, folder_of}
use Rattle.pt_disk.proofs.HistoryLemmas.{newest, settled-kept}
use Rattle.pt_disk.proofs.history.settled_of.Goals as goal

pub returns-in-Settle : goal.returns-in-Settle
returns-in-Settle c =
    let last = newest (Stable (content_of c.args.files.now)) _ c.in-Some.before.now _ _ c.in-Some.ensures.cases.0 c.in-Settle.is in
    c.bytes_of.ensures ∙ sym (c.loop-change.invariant ∙ ap (λ (f : Folder). settled f c.args.name.now) last)

pub loop-change-preserved : goal.loop-change-preserved
loop-change-preserved c =
    let last = newest (Stable (content_of c.args.files.now)) _ c.in-Some.before.now _ c.in-Some.change.now c.in-Some.ensures.cases.0 refl in
    let kept = settled-kept c.in-Some.change.now (folder_of c.args.files.now c.in-Some.before.now) c.in_default-change.not-Settle in
    c.loop-change.invariant ∙ ap (λ (f : Folder). settled f c.args.name.now) last ∙ (λ i. kept i c.args.name.now)
