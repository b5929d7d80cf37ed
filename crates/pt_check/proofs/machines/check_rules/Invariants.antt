use Rattle.std.proofs.Common.{◌≡◌, [], map, drop}
use Rattle.pt_ast.specs.Plain.{plain_rule}
use Rattle.pt_typing.specs.SuiteChecks.{each_named, checked_rule}
use Rattle.pt_check.specs.Known.{with_target}
use Rattle.pt_check.proofs.machines.check_rules.Given as goal

-- the rules so far are right, and their names were met
abbrev pub invariant-loop-rule : goal.invariant-loop-rule
invariant-loop-rule l = (l.checker ≡ with_target l.fn.checker l.checker.context.target)
    × (each_named (λ rule. rule.name) (checked_rule l.fn.checker.scope l.fn.checker.context.bundles) [] (map plain_rule l.rules)
    ≡ each_named (λ rule. rule.name) (checked_rule l.fn.checker.scope l.fn.checker.context.bundles) l.seen (map plain_rule (drop l.rule-index l.rules)))
