use Rattle.std.proofs.Common.{None, arith, refl}
use Rattle.pt_found.proofs.VainLemmas.{leads-vain}
use Rattle.pt_shrink.specs.declared.sweep.Swept.TheVariants.{Improved, Done, Spent}
use Rattle.pt_shrink.proofs.ProgressLemmas.{at-legal}
use Rattle.pt_shrink.proofs.SweepLemmas.{swept, on-swept}
use Rattle.pt_shrink.proofs.reducer.shrink.Goals as goal

pub loop-log-preserved : goal.loop-log-preserved
loop-log-preserved g c =
    let rounds = c.in_ok-best.ensures in
    let on = on-swept (g.C.Check.step c.args.check.now) c.args.budget _ _ c.sweep.new.log c.in_ok-rec.field-0 (Improved c.in-Improved.rec) c.in-Improved.is c.in_ok-rec.ensures.goes_on in
    let at = on.reached c.args.first (rounds.reached c.args.first c.loop-log.invariant.1) in
    let sweeps = swept c.args.budget _ _ c.sweep.new.log c.in_ok-rec.field-0 (Improved c.in-Improved.rec) c.in-Improved.is c.in_ok-rec.ensures.sweeps in
    (on.fails (rounds.fails c.loop-log.invariant.0), at)

pub loop-log-smaller : goal.loop-log-smaller
loop-log-smaller g c =
    let rounds = c.in_ok-best.ensures in
    let on = on-swept (g.C.Check.step c.args.check.now) c.args.budget _ _ c.sweep.new.log c.in_ok-rec.field-0 (Improved c.in-Improved.rec) c.in-Improved.is c.in_ok-rec.ensures.goes_on in
    let at = on.reached c.args.first (rounds.reached c.args.first c.loop-log.invariant.1) in
    let sweeps = swept c.args.budget _ _ c.sweep.new.log c.in_ok-rec.field-0 (Improved c.in-Improved.rec) c.in-Improved.is c.in_ok-rec.ensures.sweeps in
    let before = rounds.grows.longer in
    let within = on.grows.within sweeps in
    omega (arith, sweeps, before, within)

pub returns-in-Done-clause-legal : goal.returns-in-Done-clause-legal
returns-in-Done-clause-legal g c =
    let rounds = c.in_ok-best.ensures in
    let on = on-swept (g.C.Check.step c.args.check.now) c.args.budget _ _ c.sweep.new.log c.in_ok-rec.field-0 Done c.in-Done.is c.in_ok-rec.ensures.goes_on in
    let at = on.reached c.args.first (rounds.reached c.args.first c.loop-log.invariant.1) in
    let sweeps = swept c.args.budget _ _ c.sweep.new.log c.in_ok-rec.field-0 Done c.in-Done.is c.in_ok-rec.ensures.sweeps in
    at-legal (g.C.Check.step c.args.check.now) c.args.budget c.args.first _ c.sweep.new.log at

pub returns-in-Done-clause-leaps : goal.returns-in-Done-clause-leaps
returns-in-Done-clause-leaps g c =
    let rounds = c.in_ok-best.ensures in
    let on = on-swept (g.C.Check.step c.args.check.now) c.args.budget _ _ c.sweep.new.log c.in_ok-rec.field-0 Done c.in-Done.is c.in_ok-rec.ensures.goes_on in
    let at = on.reached c.args.first (rounds.reached c.args.first c.loop-log.invariant.1) in
    let sweeps = swept c.args.budget _ _ c.sweep.new.log c.in_ok-rec.field-0 Done c.in-Done.is c.in_ok-rec.ensures.sweeps in
    (at None).leaps

pub returns-in-Done-clause-minimal : goal.returns-in-Done-clause-minimal
returns-in-Done-clause-minimal g c = λ not_spent list candidate.
    let rounds = c.in_ok-best.ensures in
    let on = on-swept (g.C.Check.step c.args.check.now) c.args.budget _ _ c.sweep.new.log c.in_ok-rec.field-0 Done c.in-Done.is c.in_ok-rec.ensures.goes_on in
    let at = on.reached c.args.first (rounds.reached c.args.first c.loop-log.invariant.1) in
    let sweeps = swept c.args.budget _ _ c.sweep.new.log c.in_ok-rec.field-0 Done c.in-Done.is c.in_ok-rec.ensures.sweeps in
    leads-vain (g.C.Check.step c.args.check.now) c.args.first c.sweep.new.log.trail (at None).strangers _ (at None).leads list (sweeps list candidate)

pub returns-in-Spent-clause-legal : goal.returns-in-Spent-clause-legal
returns-in-Spent-clause-legal g c =
    let rounds = c.in_ok-best.ensures in
    let on = on-swept (g.C.Check.step c.args.check.now) c.args.budget _ _ c.sweep.new.log c.in_ok-rec.field-0 Spent c.in-Spent.is c.in_ok-rec.ensures.goes_on in
    let at = on.reached c.args.first (rounds.reached c.args.first c.loop-log.invariant.1) in
    let sweeps = swept c.args.budget _ _ c.sweep.new.log c.in_ok-rec.field-0 Spent c.in-Spent.is c.in_ok-rec.ensures.sweeps in
    at-legal (g.C.Check.step c.args.check.now) c.args.budget c.args.first _ c.sweep.new.log at

pub returns-in-Spent-clause-leaps : goal.returns-in-Spent-clause-leaps
returns-in-Spent-clause-leaps g c =
    let rounds = c.in_ok-best.ensures in
    let on = on-swept (g.C.Check.step c.args.check.now) c.args.budget _ _ c.sweep.new.log c.in_ok-rec.field-0 Spent c.in-Spent.is c.in_ok-rec.ensures.goes_on in
    let at = on.reached c.args.first (rounds.reached c.args.first c.loop-log.invariant.1) in
    let sweeps = swept c.args.budget _ _ c.sweep.new.log c.in_ok-rec.field-0 Spent c.in-Spent.is c.in_ok-rec.ensures.sweeps in
    (at None).leaps

pub returns-in-Spent-clause-spent : goal.returns-in-Spent-clause-spent
returns-in-Spent-clause-spent g c =
    let rounds = c.in_ok-best.ensures in
    let on = on-swept (g.C.Check.step c.args.check.now) c.args.budget _ _ c.sweep.new.log c.in_ok-rec.field-0 Spent c.in-Spent.is c.in_ok-rec.ensures.goes_on in
    let at = on.reached c.args.first (rounds.reached c.args.first c.loop-log.invariant.1) in
    let sweeps = swept c.args.budget _ _ c.sweep.new.log c.in_ok-rec.field-0 Spent c.in-Spent.is c.in_ok-rec.ensures.sweeps in
    let short = (at None).short in
    let full = sweeps.0 in
    (λ spent. (omega (arith, short, full), sweeps.1), λ spent. refl)
