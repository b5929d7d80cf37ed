use Rattle.std.proofs.Common.{◌≡◌, map, drop}
use Rattle.pt_ast.specs.Plain.{plain_invariant}
use Rattle.pt_typing.specs.SuiteChecks.{condition, in_order}
use Rattle.pt_check.proofs.machines.check_invariants.Given as goal

-- the invariants so far are right
abbrev pub invariant-loop-invariant : goal.invariant-loop-invariant
invariant-loop-invariant l = (l.checker ≡ l.fn.checker)
    × (in_order (λ invariant. condition l.fn.checker.scope invariant.cond) (map plain_invariant l.invariants)
    ≡ in_order (λ invariant. condition l.fn.checker.scope invariant.cond) (map plain_invariant (drop l.invariant-index l.invariants)))
