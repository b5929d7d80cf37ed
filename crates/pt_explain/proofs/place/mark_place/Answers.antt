use Rattle.std.proofs.Common.{ap, ◌∙◌}
use Rattle.pt_explain.specs.Others.{others}
use Rattle.pt_explain.proofs.TallyLemmas.{place-bound, place-free, place-untried}
use Rattle.pt_explain.proofs.place.mark_place.Goals as goal

pub returns-in-Some : goal.returns-in-Some
returns-in-Some g c = λ given at.
    let same = c.given_at-given.ensures.is given at in (
      place-bound (g.C.Check.step c.args.check.now) c.args.best.now c.args.place given c.as_slice-member-items.result.now
          (c.as_slice-member-items.ensures ∙ c.in_ok-members.ensures.list ∙ ap others same) c.loop-member.member-index c.loop-member.tally c.loop-member.invariant.tally
          c.member-item.result c.in-Some.by c.loop-member-test.true c.member-item.is (rw c.in-Some.is at (c.in_ok-by.ensures.goes_on _ c.loop-member.invariant.tally)),
      c.in_ok-copy.ensures.same ∙ same,
    )

pub returns-in-Some-first : goal.returns-in-Some-first
returns-in-Some-first g c = λ given at.
    let same = c.given_at-given.ensures.is given at in
    place-free (g.C.Check.step c.args.check.now) c.args.best.now c.args.place given c.as_slice-member-items.result.now
    (c.as_slice-member-items.ensures ∙ c.in_ok-members.ensures.list ∙ ap others same) c.loop-member.member-index c.loop-member.tally c.loop-member.invariant.tally
    c.in-Some-first.choice c.loop-member-test.false c.in-Some-first.is

pub returns : goal.returns
returns g c = λ given at.
    let same = c.given_at-given.ensures.is given at in (
      place-untried (g.C.Check.step c.args.check.now) c.args.best.now c.args.place given c.as_slice-member-items.result.now
          (c.as_slice-member-items.ensures ∙ c.in_ok-members.ensures.list ∙ ap others same) c.loop-member.member-index c.loop-member.tally c.loop-member.invariant.tally
          c.loop-member-test.false c.in-None.is,
      c.in_ok-copy-in-None.ensures.same ∙ same,
    )
