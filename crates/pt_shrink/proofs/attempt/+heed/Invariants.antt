use Rattle.std.proofs.Common.{◌-◌, length}
use Rattle.pt_shrink.proofs.attempt.+heed.Given as goal

abbrev pub decreases-heed : goal.decreases-heed
decreases-heed g l = l.budget - length l.log.now.trail
