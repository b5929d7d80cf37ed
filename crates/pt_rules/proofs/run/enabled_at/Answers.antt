use Rattle.std.proofs.Common.{◌≡◌, suc, ◌+◌, ◌-◌, map, drop, refl, sym, ◌∙◌, ap, arith}
use Rattle.std.specs.Prelude.{slice_get}
use Rattle.pt_rules.specs.Machine.{enabled_rules}
use Rattle.pt_rules.proofs.EnabledLemmas.{first-next, later-next, later-past, enabled-end}
use Rattle.pt_rules.proofs.run.enabled_at.Goals as goal
use Rattle.pt_rules.proofs.run.enabled_at.Goals.{then-enabled+else-before-eq0, else-enabled}

pub loop-rule-init : goal.loop-rule-init
loop-rule-init g c = refl

pub returns-then-before-eq0 : goal.returns-then-before-eq0
returns-then-before-eq0 g c =
    let on = sym c.enabled-enabled.ensures ∙ c.if-enabled.true in
    sym (first-next g.R.Rule.meaning c.args.state.now c.args.rules.now c.loop-rule.rule-index c.rule-item.result c.loop-rule-test.true c.rule-item.is
    c.loop-rule.before on c.if-before-eq0.true) ∙ c.loop-rule.invariant

pub loop-rule-preserved : goal.loop-rule-preserved
loop-rule-preserved g c = elim c.if-enabled.branch [
  | then-enabled+else-before-eq0 w ↦
      let on = sym c.enabled-enabled.ensures ∙ w.if-enabled.true in
      let some = w.if-before-eq0.false in
      let one : c.loop-rule.before ≡ suc (c.loop-rule.before - 1) = omega (arith, some) in
      ap (λ before. slice_get (enabled_rules (drop (c.loop-rule.rule-index + 1) (map g.R.Rule.meaning c.args.rules.now)) c.args.state.now) before) w.before-is
      ∙ sym (later-next g.R.Rule.meaning c.args.state.now c.args.rules.now c.loop-rule.rule-index c.rule-item.result c.loop-rule-test.true c.rule-item.is
      c.loop-rule.before (c.loop-rule.before - 1) on one) ∙ c.loop-rule.invariant
  | else-enabled w ↦
      let off = sym c.enabled-enabled.ensures ∙ w.if-enabled.false in
      ap (λ before. slice_get (enabled_rules (drop (c.loop-rule.rule-index + 1) (map g.R.Rule.meaning c.args.rules.now)) c.args.state.now) before) w.before-is
      ∙ sym (later-past g.R.Rule.meaning c.args.state.now c.args.rules.now c.loop-rule.rule-index c.rule-item.result c.loop-rule-test.true c.rule-item.is
      c.loop-rule.before off) ∙ c.loop-rule.invariant
]

pub returns : goal.returns
returns g c =
    ap (λ rules. slice_get rules c.loop-rule.before)
    (sym (enabled-end g.R.Rule.meaning c.args.state.now c.args.rules.now c.loop-rule.rule-index c.loop-rule-test.false)) ∙ c.loop-rule.invariant
