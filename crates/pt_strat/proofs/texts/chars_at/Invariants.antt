use Rattle.std.proofs.Common.{◌≡◌, take}
use Rattle.pt_strat.specs.Parts.{chars_at}
use Rattle.pt_strat.proofs.texts.chars_at.Given as goal

abbrev pub invariant-loop-place : goal.invariant-loop-place
invariant-loop-place l = l.chars ≡ chars_at l.alphabet (take l.place-index l.places)
