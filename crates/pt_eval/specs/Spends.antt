-- What a walk over an expression answers, and what it leaves of what may be spent.
use Rattle.std.specs.Prelude.{◌≡◌, ℕ, ◌+◌, ◌<◌, ◌≤◌, Result, Ok, Err}
use Rattle.pt_case.specs.declared.ending.Origin.{Origin}
use Rattle.pt_eval.specs.declared.stop.EvalStop.{EvalStop}
use Rattle.pt_eval.specs.declared.stop.EvalStop.TheVariants as eval
use Rattle.pt_eval.specs.declared.stop.WalkStop.{WalkStop}
use Rattle.pt_eval.specs.declared.stop.WalkStop.TheVariants.{Fault, Exceeded, NoMemory}

-- why a walk stops where the making of a value does
abbrev pub walk_stop : EvalStop → WalkStop
walk_stop (eval.Fault origin) = Fault origin
walk_stop eval.NoMemory = NoMemory

-- Where so much may be spent, a value or fault of this cost is answered and paid for, or it costs more.
abbrev pub Spends : {A : Type 0} → Result A Origin → ℕ → ℕ → ℕ → Result A WalkStop → Type 0
Spends value cost old new (Ok given) = (value ≡ Ok given) × (old ≡ new + cost)
Spends value cost old new (Err (Fault origin)) = (value ≡ Err origin) × (cost ≤ old)
Spends value cost old new (Err Exceeded) = old < cost
Spends value cost old new (Err NoMemory) = Unit {0}
