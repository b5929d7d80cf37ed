use Rattle.std.proofs.Common.{◌++◌, ◌∷◌, [], arith, refl, false}
use Rattle.pt_cand.specs.Candidates.{candidates_of}
use Rattle.pt_shrink.specs.declared.attempt.Outcome.TheVariants.{Accepted, Vain, Full}
use Rattle.pt_shrink.proofs.ProgressLemmas.{on-trans}
use Rattle.pt_shrink.proofs.SweepLemmas.{handed, handed-among, handed-more, tried-more, told, on-outcome}
use Rattle.pt_shrink.proofs.sweep.sweep_pass.Goals as goal

pub attempt-requires-clause-known : goal.attempt-requires-clause-known
attempt-requires-clause-known g c = λ borrowed lives candidate. (
  c.args.pass,
  handed-among (candidates_of c.args.pass c.args.best.now) c.loop-list.invariant.0.0 c.loop-list.walk c.next_list.new.self c.in-Some.list c.loop-list.invariant.0.1
      (handed c.loop-list.walk c.next_list.new.self c.in_ok-list.field-0 c.in-Some.list c.in-Some.is c.in_ok-list.ensures),
)

pub returns-in-Accepted-clause-goes_on : goal.returns-in-Accepted-clause-goes_on
returns-in-Accepted-clause-goes_on g c =
    on-trans (g.C.Check.step c.args.check.now) c.args.budget c.args.best.now c.args.best.now c.in-Accepted.gain.rec c.args.log.now c.loop-list.log c.attempt.new.log c.loop-list.invariant.1
    (on-outcome (g.C.Check.step c.args.check.now) c.args.budget c.args.best.now c.loop-list.log c.attempt.new.log c.in_ok-gain.field-0 (Accepted c.in-Accepted.gain) c.in-Accepted.is c.in_ok-gain.ensures.goes_on)

pub returns-in-Accepted-clause-sweeps : goal.returns-in-Accepted-clause-sweeps
returns-in-Accepted-clause-sweeps g c =
    let tells = told c.args.budget c.in-Some.list false c.loop-list.log c.attempt.new.log c.in_ok-gain.field-0 (Accepted c.in-Accepted.gain) c.in-Accepted.is c.in_ok-gain.ensures.tells in
    let before = c.loop-list.invariant.1.grows.longer in
    omega (arith, tells, before)

pub returns-in-Full-clause-goes_on : goal.returns-in-Full-clause-goes_on
returns-in-Full-clause-goes_on g c =
    on-trans (g.C.Check.step c.args.check.now) c.args.budget c.args.best.now c.args.best.now c.args.best.now c.args.log.now c.loop-list.log c.attempt.new.log c.loop-list.invariant.1
    (on-outcome (g.C.Check.step c.args.check.now) c.args.budget c.args.best.now c.loop-list.log c.attempt.new.log c.in_ok-gain.field-0 Full c.in-Full.is c.in_ok-gain.ensures.goes_on)

pub returns-in-Full-clause-sweeps : goal.returns-in-Full-clause-sweeps
returns-in-Full-clause-sweeps g c =
    let tells = told c.args.budget c.in-Some.list false c.loop-list.log c.attempt.new.log c.in_ok-gain.field-0 Full c.in-Full.is c.in_ok-gain.ensures.tells in (
      tells.0,
      (
        c.in-Some.list,
        handed-among (candidates_of c.args.pass c.args.best.now) c.loop-list.invariant.0.0 c.loop-list.walk c.next_list.new.self c.in-Some.list c.loop-list.invariant.0.1
            (handed c.loop-list.walk c.next_list.new.self c.in_ok-list.field-0 c.in-Some.list c.in-Some.is c.in_ok-list.ensures),
        tells.1,
      ),
    )

pub loop-list-preserved : goal.loop-list-preserved
loop-list-preserved g c =
    let tells = told c.args.budget c.in-Some.list false c.loop-list.log c.attempt.new.log c.in_ok-gain.field-0 Vain c.in-Vain.is c.in_ok-gain.ensures.tells in
    let on = on-outcome (g.C.Check.step c.args.check.now) c.args.budget c.args.best.now c.loop-list.log c.attempt.new.log c.in_ok-gain.field-0 Vain c.in-Vain.is c.in_ok-gain.ensures.goes_on in
    let first_ = handed c.loop-list.walk c.next_list.new.self c.in_ok-list.field-0 c.in-Some.list c.in-Some.is c.in_ok-list.ensures in (
      (
        c.loop-list.invariant.0.0 ++ c.in-Some.list ∷ [],
        handed-more (candidates_of c.args.pass c.args.best.now) c.loop-list.invariant.0.0 c.loop-list.walk c.next_list.new.self c.in-Some.list c.loop-list.invariant.0.1 first_,
        tried-more c.args.budget c.loop-list.invariant.0.0 c.in-Some.list c.loop-list.log c.attempt.new.log c.loop-list.invariant.0.2 on.grows (tells refl),
      ),
      on-trans (g.C.Check.step c.args.check.now) c.args.budget c.args.best.now c.args.best.now c.args.best.now c.args.log.now c.loop-list.log c.attempt.new.log c.loop-list.invariant.1 on,
    )
