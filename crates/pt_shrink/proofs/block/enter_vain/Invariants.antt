use Rattle.std.proofs.Common.{◌≡◌, ◌++◌, ◌-◌, ◌≤◌, ℕ, take, drop, length}
use Rattle.pt_case.specs.declared.record.Record.{Record}
use Rattle.pt_found.specs.Trail.{lists_of}
use Rattle.pt_shrink.specs.Progress.{IsAt}
use Rattle.pt_shrink.specs.Block.{strangers_in}
use Rattle.pt_shrink.proofs.block.enter_vain.Given as goal

-- the lists before the place are entered
abbrev pub invariant-loop-place : goal.invariant-loop-place
invariant-loop-place g l =
    (lists_of l.log.trail ≡ lists_of l.fn.log.trail ++ take l.place l.block.lists)
    × (strangers_in (drop l.place l.block.marks) ≤ l.log.allowed)
    × ((budget : ℕ) (first : Record) → length l.block.lists ≤ budget - length l.fn.log.trail →
    IsAt (g.C.Check.step l.check) budget first l.best l.fn.log → IsAt (g.C.Check.step l.check) budget first l.best l.log)
