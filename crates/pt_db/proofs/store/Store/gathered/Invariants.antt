use Rattle.std.proofs.Common.{◌≡◌}
use Rattle.std.specs.Option.{option_copied}
use Rattle.pt_disk.specs.Calls.{Rests}
use Rattle.pt_stored.proofs.EntryLemmas.{StandIn}
use Rattle.pt_db.proofs.Gathering.{Gathered}
use Rattle.pt_db.proofs.store.Store.gathered.Given as goal

-- the entries of the names so far, and a store and a disk that are as they were
abbrev pub invariant-loop-name : goal.invariant-loop-name
invariant-loop-name g l = record {
  reference : l.self.disk.ghost_name ≡ l.fn.self.disk.ghost_name;
  rests : Rests (g.D.Disk.tells l.fn.self.disk.now) (g.D.Disk.tells l.self.disk.now);
  quiet : g.D.Disk.faults l.self.disk.now ≡ g.D.Disk.faults l.fn.self.disk.now;
  lives : l.self.dead ≡ l.fn.self.dead;
  found : Gathered (option_copied l.wanted) (g.D.Disk.tells l.fn.self.disk.now) l.yielded l.entries;
  stand : StandIn (option_copied l.wanted) l.yielded l.entries;
}
