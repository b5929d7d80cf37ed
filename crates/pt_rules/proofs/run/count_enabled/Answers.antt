use Rattle.std.proofs.Common.{sym, ◌∙◌, arith}
use Rattle.pt_rules.proofs.EnabledLemmas.{count-next, count-past, count-end}
use Rattle.pt_rules.proofs.run.count_enabled.Goals as goal
use Rattle.pt_rules.proofs.run.count_enabled.Goals.{then-counts, else-counts}

pub loop-rule-preserved : goal.loop-rule-preserved
loop-rule-preserved g c = elim c.if-counts.branch [
  | then-counts w ↦
      let on = sym c.enabled-counts.ensures ∙ w.if-counts.true in
      let more = count-next g.R.Rule.meaning c.args.state.now c.args.rules.now c.loop-rule.rule-index c.rule-item.result c.loop-rule-test.true c.rule-item.is on in
      (omega (arith, more, w.count-is, c.loop-rule.invariant.0), omega (arith, w.count-is, c.loop-rule.invariant.1))
  | else-counts w ↦
      let off = sym c.enabled-counts.ensures ∙ w.if-counts.false in
      let same = count-past g.R.Rule.meaning c.args.state.now c.args.rules.now c.loop-rule.rule-index c.rule-item.result c.loop-rule-test.true c.rule-item.is off in
      (omega (arith, same, w.count-is, c.loop-rule.invariant.0), omega (arith, w.count-is, c.loop-rule.invariant.1))
]

pub returns : goal.returns
returns g c =
    let none = count-end g.R.Rule.meaning c.args.state.now c.args.rules.now c.loop-rule.rule-index c.loop-rule-test.false in
    omega (arith, none, c.loop-rule.invariant.0)
