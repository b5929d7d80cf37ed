use Rattle.pt_wire.specs.Stored.{Stored}
use Rattle.pt_wire.proofs.Answers.{answer_for, answer_writable}
use Rattle.pt_wire.proofs.Limited.{stored_limits}
use Rattle.pt_wire.proofs.StoredLists.{one_stored}
use Rattle.pt_wire.proofs.decoding.decode.Goals as goal

pub returns-in-Ok-clause-only : goal.returns-in-Ok-clause-only
returns-in-Ok-clause-only c = answer_for Stored c.args.bytes.now c.read_list.result (λ a b. one_stored a b c.args.bytes.now) c.read_list.ensures

pub returns-in-Ok-clause-writable : goal.returns-in-Ok-clause-writable
returns-in-Ok-clause-writable c = answer_writable Stored c.args.bytes.now c.read_list.result (λ list. stored_limits list c.args.bytes.now) c.read_list.ensures
