use Rattle.std.proofs.Common.{◌∙◌, sym}
use Rattle.pt_cand.specs.Edit.{changed}
use Rattle.pt_cand.proofs.LowerLemmas.{list-repeat, list-none, list-no_repeat}
use Rattle.pt_cand.proofs.lower_octets.is_repeat.Goals as goal

pub returns-then-are_same : goal.returns-then-are_same
returns-then-are_same c =
    sym (list-repeat c.args.octets.now (changed c.numbered-change.result c.args.octets.now) c.args.number c.loop-earlier.earlier (changed c.numbered.result c.args.octets.now)
    c.numbered-change.ensures.made c.numbered.ensures.made c.loop-earlier-test.true c.requires.within (sym c.are_same.ensures ∙ c.if-are_same.true))

pub loop-earlier-preserved : goal.loop-earlier-preserved
loop-earlier-preserved c =
    list-none c.args.octets.now (changed c.numbered-change.result c.args.octets.now) c.args.number c.loop-earlier.earlier (changed c.numbered.result c.args.octets.now)
    c.numbered.ensures.made c.loop-earlier-test.true c.requires.within c.loop-earlier.invariant (sym c.are_same.ensures ∙ c.if-are_same.false)

pub returns : goal.returns
returns c =
    sym (list-no_repeat c.args.octets.now (changed c.numbered-change.result c.args.octets.now) c.args.number c.loop-earlier.earlier
    c.numbered-change.ensures.made c.loop-earlier-test.false c.loop-earlier.auto.earlier-end c.loop-earlier.invariant)
