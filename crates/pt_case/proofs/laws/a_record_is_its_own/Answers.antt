use Rattle.pt_case.specs.Source.{Listed}
use Rattle.pt_case.proofs.RecordLemmas.{record-again}
use Rattle.pt_case.proofs.laws.a_record_is_its_own.Goals as goal

pub returns : goal.returns
returns g c = λ list rec is. record-again (g.C.Check.step c.args.check.now) (Listed list) rec is
