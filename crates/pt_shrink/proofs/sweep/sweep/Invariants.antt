use Rattle.std.proofs.Common.{◌≡◌, take}
use Rattle.std.specs.List.{Contains}
use Rattle.pt_cand.specs.declared.pass.Pass.{Pass}
use Rattle.pt_cand.specs.declared.pass.TheConstants.{PASSES}
use Rattle.pt_cand.specs.Candidates.{candidates_of}
use Rattle.pt_shrink.specs.Progress.{GoesOn}
use Rattle.pt_shrink.specs.Sweep.{AllTried}
use Rattle.pt_shrink.proofs.sweep.sweep.Given as goal

abbrev pub invariant-loop-pass : goal.invariant-loop-pass
invariant-loop-pass g l =
    (l.pass-items ≡ PASSES)
    × ((pass : Pass) → Contains (take l.pass-index l.pass-items) pass → AllTried (Contains (candidates_of pass l.best)) l.log)
    × GoesOn (g.C.Check.step l.check) l.budget l.best l.fn.log l.best l.log
