use Rattle.std.proofs.Common.{◌≡◌, ◌≤◌, ◌+◌, map, drop, length}
use Rattle.pt_rules.specs.Machine.{enabled_rules}
use Rattle.pt_rules.proofs.run.count_enabled.Given as goal

-- those counted, and those among the rest, are all that are enabled
abbrev pub invariant-loop-rule : goal.invariant-loop-rule
invariant-loop-rule g l =
    (l.count + length (enabled_rules (drop l.rule-index (map g.R.Rule.meaning l.rules)) l.state)
    ≡ length (enabled_rules (map g.R.Rule.meaning l.rules) l.state))
    × (l.count ≤ l.rule-index)
