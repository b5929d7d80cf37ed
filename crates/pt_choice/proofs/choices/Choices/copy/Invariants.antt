use Rattle.std.proofs.Common.{◌≡◌, take}
use Rattle.pt_choice.proofs.choices.Choices.copy.Given as goal

-- the choices so far are copied
abbrev pub invariant-loop-choice : goal.invariant-loop-choice
invariant-loop-choice l = l.items.items ≡ take l.choice-index l.choice-items
