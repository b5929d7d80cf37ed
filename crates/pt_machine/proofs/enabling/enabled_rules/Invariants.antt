use Rattle.std.proofs.Common.{◌≡◌, drop, map}
use Rattle.pt_ast.specs.Plain.{plain_rule}
use Rattle.pt_machine.specs.Enabled.{enabled_rules}
use Rattle.pt_machine.proofs.EnabledLemmas.{behind}
use Rattle.pt_machine.proofs.enabling.enabled_rules.Given as goal

-- those that were found, before those that are left
abbrev pub invariant-loop-rule : goal.invariant-loop-rule
invariant-loop-rule l =
    enabled_rules (map plain_rule l.rules) l.world
    ≡ behind (map (λ rule. plain_rule rule.now) l.found.items) (enabled_rules (map plain_rule (drop l.rule-index l.rules)) l.world)
