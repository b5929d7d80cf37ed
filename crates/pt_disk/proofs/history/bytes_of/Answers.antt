use Rattle.std.proofs.Common.{◌∙◌, sym, ap, ℕ, List, Some, true, false}
use Rattle.pt_disk.specs.Folder.{Folder, Stable, reads}
use Rattle.pt_disk.specs.DiskInMemory.{content_of, folder_of}
use Rattle.pt_disk.proofs.HistoryLemmas.{newest, tested, reads-put, reads-remove, reads-to, reads-from}
use Rattle.pt_disk.proofs.history.bytes_of.Goals as goal

pub returns-then-eq : goal.returns-then-eq
returns-then-eq c =
    let last = newest (Stable (content_of c.args.files.now)) _ c.in-Some.before.now _ _ c.in-Some.ensures.cases.0 c.in-Put.is in
    let test = tested c.loop-change.sought.now _ c.in-Put.put _ true c.as_slice.ensures c.eq.ensures c.if-eq.true in
    sym (c.loop-change.invariant ∙ ap (λ (f : Folder). reads f c.loop-change.sought.now) last
    ∙ reads-put (folder_of c.args.files.now c.in-Some.before.now) c.loop-change.sought.now c.in-Put.put c.in-Put.bytes true test
    ∙ ap (λ (b : List ℕ). Some b) (sym c.as_slice-then-eq.ensures))

pub loop-change-preserved-else-eq : goal.loop-change-preserved-else-eq
loop-change-preserved-else-eq c =
    let last = newest (Stable (content_of c.args.files.now)) _ c.in-Some.before.now _ _ c.in-Some.ensures.cases.0 c.in-Put.is in
    let test = tested c.loop-change.sought.now _ c.in-Put.put _ false c.as_slice.ensures c.eq.ensures c.if-eq.false in
    c.loop-change.invariant ∙ ap (λ (f : Folder). reads f c.loop-change.sought.now) last
    ∙ reads-put (folder_of c.args.files.now c.in-Some.before.now) c.loop-change.sought.now c.in-Put.put c.in-Put.bytes false test

pub loop-change-preserved-then-eq-2 : goal.loop-change-preserved-then-eq-2
loop-change-preserved-then-eq-2 c =
    let last = newest (Stable (content_of c.args.files.now)) _ c.in-Some.before.now _ _ c.in-Some.ensures.cases.0 c.in-Rename.is in
    let test = tested c.loop-change.sought.now _ c.in-Rename.to _ true c.as_slice-in-Rename.ensures c.eq-in-Rename.ensures c.if-eq-2.true in
    c.loop-change.invariant ∙ ap (λ (f : Folder). reads f c.loop-change.sought.now) last
    ∙ reads-to (folder_of c.args.files.now c.in-Some.before.now) c.loop-change.sought.now c.in-Rename.from c.in-Rename.to test
    ∙ ap (reads (folder_of c.args.files.now c.in-Some.before.now)) (sym c.as_slice-sought.ensures)

pub returns-then-eq-3 : goal.returns-then-eq-3
returns-then-eq-3 c =
    let last = newest (Stable (content_of c.args.files.now)) _ c.in-Some.before.now _ _ c.in-Some.ensures.cases.0 c.in-Rename.is in
    let not_to = tested c.loop-change.sought.now _ c.in-Rename.to _ false c.as_slice-in-Rename.ensures c.eq-in-Rename.ensures c.if-eq-2.false in
    let test = tested c.loop-change.sought.now _ c.in-Rename.from _ true c.as_slice-else-eq-2.ensures c.eq-else-eq-2.ensures c.if-eq-3.true in
    sym (c.loop-change.invariant ∙ ap (λ (f : Folder). reads f c.loop-change.sought.now) last
    ∙ reads-from (folder_of c.args.files.now c.in-Some.before.now) c.loop-change.sought.now c.in-Rename.from c.in-Rename.to true not_to test)

pub loop-change-preserved-else-eq-3 : goal.loop-change-preserved-else-eq-3
loop-change-preserved-else-eq-3 c =
    let last = newest (Stable (content_of c.args.files.now)) _ c.in-Some.before.now _ _ c.in-Some.ensures.cases.0 c.in-Rename.is in
    let not_to = tested c.loop-change.sought.now _ c.in-Rename.to _ false c.as_slice-in-Rename.ensures c.eq-in-Rename.ensures c.if-eq-2.false in
    let test = tested c.loop-change.sought.now _ c.in-Rename.from _ false c.as_slice-else-eq-2.ensures c.eq-else-eq-2.ensures c.if-eq-3.false in
    c.loop-change.invariant ∙ ap (λ (f : Folder). reads f c.loop-change.sought.now) last
    ∙ reads-from (folder_of c.args.files.now c.in-Some.before.now) c.loop-change.sought.now c.in-Rename.from c.in-Rename.to false not_to test

pub returns-then-eq-4 : goal.returns-then-eq-4
returns-then-eq-4 c =
    let last = newest (Stable (content_of c.args.files.now)) _ c.in-Some.before.now _ _ c.in-Some.ensures.cases.0 c.in-Remove.is in
    let test = tested c.loop-change.sought.now _ c.in-Remove.removed _ true c.as_slice-in-Remove.ensures c.eq-in-Remove.ensures c.if-eq-4.true in
    sym (c.loop-change.invariant ∙ ap (λ (f : Folder). reads f c.loop-change.sought.now) last
    ∙ reads-remove (folder_of c.args.files.now c.in-Some.before.now) c.loop-change.sought.now c.in-Remove.removed true test)

pub loop-change-preserved-else-eq-4 : goal.loop-change-preserved-else-eq-4
loop-change-preserved-else-eq-4 c =
    let last = newest (Stable (content_of c.args.files.now)) _ c.in-Some.before.now _ _ c.in-Some.ensures.cases.0 c.in-Remove.is in
    let test = tested c.loop-change.sought.now _ c.in-Remove.removed _ false c.as_slice-in-Remove.ensures c.eq-in-Remove.ensures c.if-eq-4.false in
    c.loop-change.invariant ∙ ap (λ (f : Folder). reads f c.loop-change.sought.now) last
    ∙ reads-remove (folder_of c.args.files.now c.in-Some.before.now) c.loop-change.sought.now c.in-Remove.removed false test

pub loop-change-preserved-in-Sync-1 : goal.loop-change-preserved-in-Sync-1
loop-change-preserved-in-Sync-1 c =
    c.loop-change.invariant
    ∙ ap (λ (f : Folder). reads f c.loop-change.sought.now) (newest (Stable (content_of c.args.files.now)) _ c.in-Some.before.now _ _ c.in-Some.ensures.cases.0 c.in-Sync.is)

pub loop-change-preserved : goal.loop-change-preserved
loop-change-preserved c =
    c.loop-change.invariant
    ∙ ap (λ (f : Folder). reads f c.loop-change.sought.now) (newest (Stable (content_of c.args.files.now)) _ c.in-Some.before.now _ _ c.in-Some.ensures.cases.0 c.in-Settle.is)
