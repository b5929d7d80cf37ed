use Rattle.std.proofs.Common.{[]}
use Rattle.pt_prop.specs.Noted.{IsNoted}
use Rattle.pt_prop.specs.Property.{property_plan}
use Rattle.pt_prop.proofs.RecordLemmas.{record-notes}
use Rattle.pt_prop.proofs.NotedLaws.{notes-property}
use Rattle.pt_prop.proofs.laws.a_property_notes_what_it_draws.Goals as goal

pub returns : goal.returns
returns c = λ stmts source rec is. record-notes (λ passed. IsNoted passed stmts []) (property_plan stmts) (notes-property stmts) source rec is
