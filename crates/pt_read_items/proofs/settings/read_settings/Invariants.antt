use Rattle.std.proofs.Common.{◌≤◌, length}
use Rattle.pt_read_items.specs.Settings.{plain_allowed}
use Rattle.pt_read_items.proofs.Settled.{Settling}
use Rattle.pt_read_items.proofs.settings.read_settings.Given as goal

abbrev pub decreases-loop-allowed : goal.decreases-loop-allowed
decreases-loop-allowed l = length l.rest

abbrev pub invariant-loop-allowed : goal.invariant-loop-allowed
invariant-loop-allowed l = record {
  settling : Settling l.steps l.tokens l.settings (plain_allowed l.allowed) l.rest;
  shorter : length l.rest ≤ length l.tokens;
}
