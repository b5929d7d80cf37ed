use Rattle.pt_rng.specs.Supplied.{supply_of_run}
use Rattle.pt_case.specs.Source.{Fresh}
use Rattle.pt_case.proofs.RecordLemmas.{record-again}
use Rattle.pt_case.proofs.laws.a_run_replays_to_itself.Goals as goal

pub returns : goal.returns
returns g c = λ seed run rec is. record-again (g.C.Check.step c.args.check.now) (Fresh (supply_of_run seed run)) rec is
