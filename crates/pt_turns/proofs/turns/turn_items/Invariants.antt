use Rattle.std.proofs.Common.{◌≡◌, false}
use Rattle.pt_turns.specs.Scene.{scene}
use Rattle.pt_turns.proofs.EndedLemmas.{SoFar}
use Rattle.pt_turns.proofs.turns.turn_items.Given as goal

-- the items so far had their turns, and their blocks are written
abbrev pub invariant-loop-item : goal.invariant-loop-item
invariant-loop-item g l =
    let old = l.fn.store.disk.now in
    let new = l.store.disk.now in
    record {
      so : SoFar g.C.Check.name g.C.Check.step l.checks l.seed l.items l.item-index l.findings
          (scene (g.D.Disk.faults old) (g.D.Disk.tells old) (g.K.Sink.shows l.fn.sink)) (scene (g.D.Disk.faults new) (g.D.Disk.tells new) (g.K.Sink.shows l.sink));
      alive : l.store.dead ≡ false;
      same_reference : l.store.disk.ghost_name ≡ l.fn.store.disk.ghost_name;
    }
