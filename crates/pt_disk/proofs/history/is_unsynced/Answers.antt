use Rattle.std.proofs.Common.{◌∙◌, sym, ap, true, false}
use Rattle.pt_disk.specs.Folder.{Folder, Stable, is_unsynced}
use Rattle.pt_disk.specs.DiskInMemory.{folder_after}
use Rattle.pt_disk.proofs.HistoryLemmas.{newest, tested, unsynced-put, unsynced-sync, unsynced-remove, unsynced-to, unsynced-from}
use Rattle.pt_disk.proofs.history.is_unsynced.Goals as goal

pub returns-then-eq : goal.returns-then-eq
returns-then-eq c = λ files.
    let before = folder_after (Stable files) c.in-Some.before.now in
    let last = newest (Stable files) _ c.in-Some.before.now _ _ c.in-Some.ensures.cases.0 c.in-Put.is in
    let test = tested c.loop-change.sought.now _ c.in-Put.put _ true c.as_slice.ensures c.eq.ensures c.if-eq.true in
    sym (c.loop-change.invariant files ∙ ap (λ (f : Folder). is_unsynced f c.loop-change.sought.now) last
    ∙ unsynced-put before c.loop-change.sought.now c.in-Put.put c.in-Put._bytes true test)

pub loop-change-preserved-else-eq : goal.loop-change-preserved-else-eq
loop-change-preserved-else-eq c = λ files.
    let before = folder_after (Stable files) c.in-Some.before.now in
    let last = newest (Stable files) _ c.in-Some.before.now _ _ c.in-Some.ensures.cases.0 c.in-Put.is in
    let test = tested c.loop-change.sought.now _ c.in-Put.put _ false c.as_slice.ensures c.eq.ensures c.if-eq.false in
    c.loop-change.invariant files ∙ ap (λ (f : Folder). is_unsynced f c.loop-change.sought.now) last
    ∙ unsynced-put before c.loop-change.sought.now c.in-Put.put c.in-Put._bytes false test

pub loop-change-preserved-then-eq-2 : goal.loop-change-preserved-then-eq-2
loop-change-preserved-then-eq-2 c = λ files.
    let before = folder_after (Stable files) c.in-Some.before.now in
    let last = newest (Stable files) _ c.in-Some.before.now _ _ c.in-Some.ensures.cases.0 c.in-Rename.is in
    let test = tested c.loop-change.sought.now _ c.in-Rename.to _ true c.as_slice-in-Rename.ensures c.eq-in-Rename.ensures c.if-eq-2.true in
    c.loop-change.invariant files ∙ ap (λ (f : Folder). is_unsynced f c.loop-change.sought.now) last
    ∙ unsynced-to before c.loop-change.sought.now c.in-Rename.from c.in-Rename.to test
    ∙ ap (is_unsynced before) (sym c.as_slice-sought.ensures)

pub returns-then-eq-3 : goal.returns-then-eq-3
returns-then-eq-3 c = λ files.
    let before = folder_after (Stable files) c.in-Some.before.now in
    let last = newest (Stable files) _ c.in-Some.before.now _ _ c.in-Some.ensures.cases.0 c.in-Rename.is in
    let not_to = tested c.loop-change.sought.now _ c.in-Rename.to _ false c.as_slice-in-Rename.ensures c.eq-in-Rename.ensures c.if-eq-2.false in
    let test = tested c.loop-change.sought.now _ c.in-Rename.from _ true c.as_slice-else-eq-2.ensures c.eq-else-eq-2.ensures c.if-eq-3.true in
    sym (c.loop-change.invariant files ∙ ap (λ (f : Folder). is_unsynced f c.loop-change.sought.now) last
    ∙ unsynced-from before c.loop-change.sought.now c.in-Rename.from c.in-Rename.to true not_to test)

pub loop-change-preserved-else-eq-3 : goal.loop-change-preserved-else-eq-3
loop-change-preserved-else-eq-3 c = λ files.
    let before = folder_after (Stable files) c.in-Some.before.now in
    let last = newest (Stable files) _ c.in-Some.before.now _ _ c.in-Some.ensures.cases.0 c.in-Rename.is in
    let not_to = tested c.loop-change.sought.now _ c.in-Rename.to _ false c.as_slice-in-Rename.ensures c.eq-in-Rename.ensures c.if-eq-2.false in
    let test = tested c.loop-change.sought.now _ c.in-Rename.from _ false c.as_slice-else-eq-2.ensures c.eq-else-eq-2.ensures c.if-eq-3.false in
    c.loop-change.invariant files ∙ ap (λ (f : Folder). is_unsynced f c.loop-change.sought.now) last
    ∙ unsynced-from before c.loop-change.sought.now c.in-Rename.from c.in-Rename.to false not_to test

pub returns-then-eq-4 : goal.returns-then-eq-4
returns-then-eq-4 c = λ files.
    let before = folder_after (Stable files) c.in-Some.before.now in
    let last = newest (Stable files) _ c.in-Some.before.now _ _ c.in-Some.ensures.cases.0 c.in-Sync.is in
    let test = tested c.loop-change.sought.now _ c.in-Sync.synced _ true c.as_slice-in-Sync.ensures c.eq-in-Sync.ensures c.if-eq-4.true in
    sym (c.loop-change.invariant files ∙ ap (λ (f : Folder). is_unsynced f c.loop-change.sought.now) last
    ∙ unsynced-sync before c.loop-change.sought.now c.in-Sync.synced true test)

pub loop-change-preserved-else-eq-4 : goal.loop-change-preserved-else-eq-4
loop-change-preserved-else-eq-4 c = λ files.
    let before = folder_after (Stable files) c.in-Some.before.now in
    let last = newest (Stable files) _ c.in-Some.before.now _ _ c.in-Some.ensures.cases.0 c.in-Sync.is in
    let test = tested c.loop-change.sought.now _ c.in-Sync.synced _ false c.as_slice-in-Sync.ensures c.eq-in-Sync.ensures c.if-eq-4.false in
    c.loop-change.invariant files ∙ ap (λ (f : Folder). is_unsynced f c.loop-change.sought.now) last
    ∙ unsynced-sync before c.loop-change.sought.now c.in-Sync.synced false test

pub returns-then-eq-5 : goal.returns-then-eq-5
returns-then-eq-5 c = λ files.
    let before = folder_after (Stable files) c.in-Some.before.now in
    let last = newest (Stable files) _ c.in-Some.before.now _ _ c.in-Some.ensures.cases.0 c.in-Remove.is in
    let test = tested c.loop-change.sought.now _ c.in-Remove.removed _ true c.as_slice-in-Remove.ensures c.eq-in-Remove.ensures c.if-eq-5.true in
    sym (c.loop-change.invariant files ∙ ap (λ (f : Folder). is_unsynced f c.loop-change.sought.now) last
    ∙ unsynced-remove before c.loop-change.sought.now c.in-Remove.removed true test)

pub loop-change-preserved-else-eq-5 : goal.loop-change-preserved-else-eq-5
loop-change-preserved-else-eq-5 c = λ files.
    let before = folder_after (Stable files) c.in-Some.before.now in
    let last = newest (Stable files) _ c.in-Some.before.now _ _ c.in-Some.ensures.cases.0 c.in-Remove.is in
    let test = tested c.loop-change.sought.now _ c.in-Remove.removed _ false c.as_slice-in-Remove.ensures c.eq-in-Remove.ensures c.if-eq-5.false in
    c.loop-change.invariant files ∙ ap (λ (f : Folder). is_unsynced f c.loop-change.sought.now) last
    ∙ unsynced-remove before c.loop-change.sought.now c.in-Remove.removed false test

pub loop-change-preserved : goal.loop-change-preserved
loop-change-preserved c = λ files.
    c.loop-change.invariant files
    ∙ ap (λ (f : Folder). is_unsynced f c.loop-change.sought.now) (newest (Stable files) _ c.in-Some.before.now _ _ c.in-Some.ensures.cases.0 c.in-Settle.is)
