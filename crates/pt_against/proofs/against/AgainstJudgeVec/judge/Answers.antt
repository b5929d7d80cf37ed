use Rattle.std.proofs.Common.{◌≡◌, map, Some, None, sym, ◌∙◌, ap, rules}
use Rattle.pt_typed.proofs.ReadingLemmas.{members_list}
use Rattle.pt_against.specs.Compared.{compared, or_failed, verdict_on}
use Rattle.pt_against.proofs.CommandLemmas.{given-next, given-all}
use Rattle.pt_against.proofs.against.AgainstJudgeVec.judge.Goals as goal

pub returns-in-Some-clause-verdict : goal.returns-in-Some-clause-verdict
returns-in-Some-clause-verdict g c =
    let pairing = g.T.Beside.pairing c.args.self.now.pair in
    let same = g.T.Answer.PartialEq.eq in
    let left = given-next pairing same g.C.ToVal.val c.args.commands.now.items c.loop-command.command-index c.command-item.result c.loop-command.thing c.give.new.thing
    c.loop-command.model c.give.new.model c.in_ok-point.field-0 (rw c.deref-command-items.ensures.value at c.loop-command-test.true) (rw c.deref-command-items.ensures.value at c.command-item.is) c.loop-command.invariant c.in_ok-point.ensures in
    rw c.in-Some.is at left ∙ ap (verdict_on pairing same) (sym (members_list (map g.C.ToVal.val c.args.commands.now.items)))

pub loop-command-preserved : goal.loop-command-preserved
loop-command-preserved g c =
    let pairing = g.T.Beside.pairing c.args.self.now.pair in
    let same = g.T.Answer.PartialEq.eq in
    let alike : c.in_ok-point.field-0 ≡ None = search rules in
    let left = given-next pairing same g.C.ToVal.val c.args.commands.now.items c.loop-command.command-index c.command-item.result c.loop-command.thing c.give.new.thing
    c.loop-command.model c.give.new.model c.in_ok-point.field-0 (rw c.deref-command-items.ensures.value at c.loop-command-test.true) (rw c.deref-command-items.ensures.value at c.command-item.is) c.loop-command.invariant c.in_ok-point.ensures in
    rw alike at left

pub returns-clause-verdict : goal.returns-clause-verdict
returns-clause-verdict g c =
    let pairing = g.T.Beside.pairing c.args.self.now.pair in
    let same = g.T.Answer.PartialEq.eq in
    given-all pairing same g.C.ToVal.val c.args.commands.now.items c.loop-command.command-index c.loop-command.thing c.loop-command.model (rw c.deref-command-items.ensures.value at c.loop-command-test.false) c.loop-command.invariant
    ∙ ap (verdict_on pairing same) (sym (members_list (map g.C.ToVal.val c.args.commands.now.items)))
