use Rattle.std.proofs.Common.{◌≡◌, take, vec_len}
use Rattle.pt_explain.proofs.effect.replaced.Given as goal

-- the choices so far are copied
abbrev pub invariant-loop-choice : goal.invariant-loop-choice
invariant-loop-choice l = (l.list.items ≡ take l.choice-index l.choices) × (vec_len l.list ≡ l.choice-index)
