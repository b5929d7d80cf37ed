use Rattle.pt_prop.proofs.RecordLemmas.{record-notes}
use Rattle.pt_machine.specs.Machine.{machine_plan}
use Rattle.pt_machine.specs.Noted.{AreMachineNotes}
use Rattle.pt_machine.proofs.NotedLaws.{notes-machine}
use Rattle.pt_machine.proofs.laws.a_machine_notes_its_steps.Goals as goal

pub returns : goal.returns
returns c = λ machine steps source rec is.
    record-notes (λ passed. AreMachineNotes passed machine steps) (machine_plan machine steps) (notes-machine machine steps) source rec is
