use Rattle.std.proofs.Common.{◌≡◌, List, ◌++◌, length}
use Rattle.std.specs.List.{Contains}
use Rattle.pt_choice.specs.declared.choice.Choice.{Choice}
use Rattle.pt_cand.specs.Candidates.{candidates_of}
use Rattle.pt_shrink.specs.Progress.{GoesOn}
use Rattle.pt_shrink.specs.Sweep.{AllTried}
use Rattle.pt_shrink.proofs.sweep.sweep_pass.Given as goal

abbrev pub invariant-loop-list : goal.invariant-loop-list
invariant-loop-list g l =
    ((done : List (List Choice)) × (candidates_of l.fn.pass l.best ≡ done ++ l.walk) × AllTried (Contains done) l.log)
    × GoesOn (g.C.Check.step l.check) l.budget l.best l.fn.log l.best l.log

abbrev pub decreases-loop-list : goal.decreases-loop-list
decreases-loop-list g l = length l.walk
