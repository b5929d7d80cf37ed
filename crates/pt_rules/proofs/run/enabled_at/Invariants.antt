use Rattle.std.proofs.Common.{◌≡◌, map, drop}
use Rattle.std.specs.Prelude.{slice_get}
use Rattle.pt_rules.specs.Machine.{enabled_rules}
use Rattle.pt_rules.proofs.run.enabled_at.Given as goal

-- it stands among the rest, behind as many as are left
abbrev pub invariant-loop-rule : goal.invariant-loop-rule
invariant-loop-rule g l =
    slice_get (enabled_rules (drop l.rule-index (map g.R.Rule.meaning l.rules)) l.state) l.before
    ≡ slice_get (enabled_rules (map g.R.Rule.meaning l.rules) l.state) l.number
