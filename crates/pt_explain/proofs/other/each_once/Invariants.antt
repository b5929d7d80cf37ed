use Rattle.std.proofs.Common.{◌≡◌, ◌≤◌, [], ◌∷◌, ◌++◌, take, drop, length}
use Rattle.pt_choice.specs.Same.{same_choice}
use Rattle.pt_cand.specs.Each.{each_once}
use Rattle.pt_explain.proofs.other.each_once.Given as goal

-- what is taken, with what is still to come, is the whole list
abbrev pub invariant-loop-i : goal.invariant-loop-i
invariant-loop-i l = record {
  whole : l.members ++ each_once same_choice (l.choice ∷ take l.i l.stated) (drop l.i l.stated) ≡ each_once same_choice (l.choice ∷ []) l.stated;
  few : length l.members ≤ l.i;
}
