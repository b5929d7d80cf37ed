use Rattle.std.proofs.Common.{◌∙◌, sym}
use Rattle.pt_cand.specs.Edit.{changed}
use Rattle.pt_cand.proofs.LowerLemmas.{list-new, list-end}
use Rattle.pt_cand.proofs.lower_octets.next_change.Goals as goal

pub returns-then-not-is_repeat : goal.returns-then-not-is_repeat
returns-then-not-is_repeat c =
    list-new c.args.octets.now c.args.looked c.loop-number.number (changed c.numbered.result c.args.octets.now) c.loop-number.invariant c.loop-number-test.true
    (sym c.is_repeat.ensures ∙ c.if-not-is_repeat.true) c.numbered.ensures.made

pub returns : goal.returns
returns c = list-end c.args.octets.now c.args.looked c.loop-number.number c.loop-number.invariant c.loop-number-test.false
