use Rattle.pt_rng.specs.Supplied.{supply_of_run}
use Rattle.pt_case.specs.Source.{Fresh}
use Rattle.pt_case.proofs.RecordLemmas.{record-once}
use Rattle.pt_case.proofs.laws.a_run_has_one_record.Goals as goal

pub returns : goal.returns
returns g c = λ seed run one other is also. record-once (g.C.Check.step c.args.check.now) (Fresh (supply_of_run seed run)) one other is also
