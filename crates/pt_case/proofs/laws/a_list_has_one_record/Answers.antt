use Rattle.pt_case.specs.Source.{Listed}
use Rattle.pt_case.proofs.RecordLemmas.{record-once}
use Rattle.pt_case.proofs.laws.a_list_has_one_record.Goals as goal

pub returns : goal.returns
returns g c = λ list one other is also. record-once (g.C.Check.step c.args.check.now) (Listed list) one other is also
