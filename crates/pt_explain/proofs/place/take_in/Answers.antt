use Rattle.std.proofs.Common.{◌+◌, Some, refl}
use Rattle.pt_explain.proofs.TallyLemmas.{tally-repaired, tally-alike}
use Rattle.pt_explain.proofs.place.take_in.Goals as goal

pub returns-in-Repaired-clause-goes_on : goal.returns-in-Repaired-clause-goes_on
returns-in-Repaired-clause-goes_on g c = λ members was.
    tally-repaired (g.C.Check.step c.args.check.now) c.args.best.now c.args.place members c.args.member.now c.args.tally.now was
    (rw c.in-Repaired.is at c.in_ok-try_other.ensures)

pub returns-in_ok-first-in-Alike-clause-goes_on : goal.returns-in_ok-first-in-Alike-clause-goes_on
returns-in_ok-first-in-Alike-clause-goes_on g c = λ members was.
    tally-alike (g.C.Check.step c.args.check.now) c.args.best.now c.args.place members c.args.member.now c.args.tally.now
    (record { tried = c.args.tally.now.tried + 1; first = Some c.in_ok-first-in-Alike.first }) c.in_ok-first-in-Alike.first was
    (rw c.in-Alike.is at c.in_ok-try_other.ensures) c.in_ok-first-in-Alike.ensures refl refl
