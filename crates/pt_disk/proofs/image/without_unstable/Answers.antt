use Rattle.std.proofs.Common.{◌≡◌, ◌∙◌, sym, ap, ℕ, List, Some, None, true, false}
use Rattle.std.specs.Prelude.{◌&&◌}
use Rattle.std.specs.Option.{option_copied}
use Rattle.pt_disk.specs.Folder.{Folder, Stable, is_unsynced, reads}
use Rattle.pt_disk.specs.Kept.{left_of, without_unstable}
use Rattle.pt_disk.specs.DiskInMemory.{content_of, folder_of}
use Rattle.pt_disk.proofs.HistoryLemmas.{newest, tested, kept-put, kept-sync, kept-sync-other, kept-sync-stable, kept-settle}
use Rattle.pt_disk.proofs.image.without_unstable.Goals as goal
use Rattle.pt_disk.proofs.image.without_unstable.Goals.{
  else-eq-via-else-eq,
  else-eq-via-then-eq+in-None-1,
  else-eq-2-via-then-eq-2+else-is_unsynced,
  else-eq-2-via-else-eq-2,
  in_default-via-in-None-1,
  in_default-via-in-Some-bytes+in-None-1,
}

pub returns-in-Put : goal.returns-in-Put
returns-in-Put c =
    let name = c.args.name.now in
    let before = folder_of c.args.files.now c.in-Some.before.now in
    let last = newest (Stable (content_of c.args.files.now)) _ c.in-Some.before.now _ _ c.in-Some.ensures.cases.0 c.in-Put.is in
    let test = tested name _ c.in-Put.put _ true c.as_slice.ensures c.eq.ensures c.if-eq.true in
    sym (c.loop-change.invariant ∙ ap (λ (f : Folder). without_unstable c.args.keep f name) last
    ∙ kept-put c.args.keep before name c.in-Put.put c.in-Put.bytes true test
    ∙ ap (λ (b : List ℕ). left_of c.args.keep (without_unstable c.args.keep before name) (Some b)) (sym c.as_slice-in-Put.ensures)
    ∙ c.in-Some-part_of.ensures.part (without_unstable c.args.keep before name))

pub loop-change-preserved-else-eq : goal.loop-change-preserved-else-eq
loop-change-preserved-else-eq c =
    let name = c.args.name.now in
    let before = folder_of c.args.files.now c.in-Some.before.now in
    let last = newest (Stable (content_of c.args.files.now)) _ c.in-Some.before.now _ _ c.in-Some.ensures.cases.0 c.in-Put.is in
    c.loop-change.invariant ∙ ap (λ (f : Folder). without_unstable c.args.keep f name) last ∙ elim c.else-eq.branch [
      | else-eq-via-else-eq w ↦
          kept-put c.args.keep before name c.in-Put.put c.in-Put.bytes false (tested name _ c.in-Put.put _ false c.as_slice.ensures c.eq.ensures w.if-eq.false)
      | else-eq-via-then-eq+in-None-1 w ↦
          kept-put c.args.keep before name c.in-Put.put c.in-Put.bytes true (tested name _ c.in-Put.put _ true c.as_slice.ensures c.eq.ensures w.if-eq.true)
          ∙ ap (λ (b : List ℕ). left_of c.args.keep (without_unstable c.args.keep before name) (Some b)) (sym w.as_slice-in-Put.ensures)
          ∙ w.part_of.ensures.old (cc) (without_unstable c.args.keep before name)
    ]

pub returns-then-is_unsynced : goal.returns-then-is_unsynced
returns-then-is_unsynced c =
    let name = c.args.name.now in
    let before = folder_of c.args.files.now c.in-Some.before.now in
    let last = newest (Stable (content_of c.args.files.now)) _ c.in-Some.before.now _ _ c.in-Some.ensures.cases.0 c.in-Sync.is in
    let same = tested name _ c.in-Sync.synced _ true c.as_slice-in-Sync.ensures c.eq-in-Sync.ensures c.if-eq-2.true in
    let unsynced : is_unsynced before name ≡ true = sym (c.is_unsynced.ensures (content_of c.args.files.now)) ∙ c.if-is_unsynced.true in
    c.settled_of.ensures ∙ sym (c.loop-change.invariant ∙ ap (λ (f : Folder). without_unstable c.args.keep f name) last
    ∙ kept-sync c.args.keep before name c.in-Sync.synced true (λ i. same i && unsynced i))

pub loop-change-preserved-else-eq-2 : goal.loop-change-preserved-else-eq-2
loop-change-preserved-else-eq-2 c =
    let name = c.args.name.now in
    let before = folder_of c.args.files.now c.in-Some.before.now in
    let last = newest (Stable (content_of c.args.files.now)) _ c.in-Some.before.now _ _ c.in-Some.ensures.cases.0 c.in-Sync.is in
    c.loop-change.invariant ∙ ap (λ (f : Folder). without_unstable c.args.keep f name) last ∙ elim c.else-eq-2.branch [
      | else-eq-2-via-then-eq-2+else-is_unsynced w ↦
          kept-sync-stable c.args.keep before name c.in-Sync.synced (sym (w.is_unsynced.ensures (content_of c.args.files.now)) ∙ w.if-is_unsynced.false)
      | else-eq-2-via-else-eq-2 w ↦
          kept-sync-other c.args.keep before name c.in-Sync.synced (tested name _ c.in-Sync.synced _ false c.as_slice-in-Sync.ensures c.eq-in-Sync.ensures w.if-eq-2.false)
    ]

pub loop-change-preserved-in-Rename-1 : goal.loop-change-preserved-in-Rename-1
loop-change-preserved-in-Rename-1 c =
    c.loop-change.invariant
    ∙ ap (λ (f : Folder). without_unstable c.args.keep f c.args.name.now) (newest (Stable (content_of c.args.files.now)) _ c.in-Some.before.now _ _ c.in-Some.ensures.cases.0 c.in-Rename.is)

pub loop-change-preserved-in-Remove-1 : goal.loop-change-preserved-in-Remove-1
loop-change-preserved-in-Remove-1 c =
    c.loop-change.invariant
    ∙ ap (λ (f : Folder). without_unstable c.args.keep f c.args.name.now) (newest (Stable (content_of c.args.files.now)) _ c.in-Some.before.now _ _ c.in-Some.ensures.cases.0 c.in-Remove.is)

pub returns-then-not-is_unsynced : goal.returns-then-not-is_unsynced
returns-then-not-is_unsynced c =
    let name = c.args.name.now in
    let before = folder_of c.args.files.now c.in-Some.before.now in
    let last = newest (Stable (content_of c.args.files.now)) _ c.in-Some.before.now _ _ c.in-Some.ensures.cases.0 c.in-Settle.is in
    let stable : is_unsynced before name ≡ false = sym (c.is_unsynced-in-Settle.ensures (content_of c.args.files.now)) ∙ c.if-not-is_unsynced.true in
    c.bytes_of-bytes.ensures ∙ sym (c.loop-change.invariant ∙ ap (λ (f : Folder). without_unstable c.args.keep f name) last
    ∙ kept-settle c.args.keep before name false stable)

pub returns-in-Settle : goal.returns-in-Settle
returns-in-Settle c =
    let name = c.args.name.now in
    let before = folder_of c.args.files.now c.in-Some.before.now in
    let last = newest (Stable (content_of c.args.files.now)) _ c.in-Some.before.now _ _ c.in-Some.ensures.cases.0 c.in-Settle.is in
    let unsynced : is_unsynced before name ≡ true = sym (c.is_unsynced-in-Settle.ensures (content_of c.args.files.now)) ∙ c.if-not-is_unsynced.false in
    let there : reads before name ≡ Some c.in-Some-bytes.put.now = sym c.in-Some-bytes.ensures in
    sym (c.loop-change.invariant ∙ ap (λ (f : Folder). without_unstable c.args.keep f name) last
    ∙ kept-settle c.args.keep before name true unsynced
    ∙ ap (left_of c.args.keep (without_unstable c.args.keep before name)) there
    ∙ c.in-Some-part_of-2.ensures.part (without_unstable c.args.keep before name))

pub loop-change-preserved : goal.loop-change-preserved
loop-change-preserved c =
    let name = c.args.name.now in
    let before = folder_of c.args.files.now c.in-Some.before.now in
    let last = newest (Stable (content_of c.args.files.now)) _ c.in-Some.before.now _ _ c.in-Some.ensures.cases.0 c.in-Settle.is in
    let unsynced : is_unsynced before name ≡ true = sym (c.is_unsynced-in-Settle.ensures (content_of c.args.files.now)) ∙ c.if-not-is_unsynced.false in
    c.loop-change.invariant ∙ ap (λ (f : Folder). without_unstable c.args.keep f name) last
    ∙ kept-settle c.args.keep before name true unsynced ∙ elim c.in_default.branch [
      | in_default-via-in-None-1 w ↦
          let none : c.bytes_of-bytes.result ≡ None = cc in
          ap (left_of c.args.keep (without_unstable c.args.keep before name)) (sym c.bytes_of-bytes.ensures ∙ ap option_copied none)
      | in_default-via-in-Some-bytes+in-None-1 w ↦
          ap (left_of c.args.keep (without_unstable c.args.keep before name)) (sym w.in-Some-bytes.ensures)
          ∙ w.part_of-in-Settle.ensures.old (cc) (without_unstable c.args.keep before name)
    ]
