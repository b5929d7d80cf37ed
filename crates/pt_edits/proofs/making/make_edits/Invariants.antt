use Rattle.std.proofs.Common.{◌≡◌, true, false, map, take}
use Rattle.pt_disk.specs.Moments.{BothTell}
use Rattle.pt_stored.specs.Digest.{digest_text}
use Rattle.pt_edits.specs.Made.{Made}
use Rattle.pt_edits.specs.Pairs.{under}
use Rattle.pt_edits.proofs.making.make_edits.Given as goal

-- the edits so far are made, with no fault
abbrev pub invariant-loop-edit : goal.invariant-loop-edit
invariant-loop-edit g l = record {
  reference : l.store.disk.ghost_name ≡ l.fn.store.disk.ghost_name;
  made : BothTell (Made (map (under (digest_text l.key)) (take l.edit-index l.edit-items)) true) (g.D.Disk.tells l.fn.store.disk.now) (g.D.Disk.tells l.store.disk.now);
  quiet : g.D.Disk.faults l.store.disk.now ≡ g.D.Disk.faults l.fn.store.disk.now;
  lives : l.store.dead ≡ false;
}
