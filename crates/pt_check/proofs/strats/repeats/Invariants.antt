use Rattle.std.proofs.Common.{◌≡◌, drop}
use Rattle.pt_typing.specs.StratChecks.{repeats}
use Rattle.pt_check.proofs.strats.repeats.Given as goal

-- none of the characters so far stands there twice
abbrev pub invariant-loop-place : goal.invariant-loop-place
invariant-loop-place l = repeats l.chars ≡ repeats (drop l.place l.chars)
