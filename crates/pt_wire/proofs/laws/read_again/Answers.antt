use Rattle.pt_wire.specs.Printed.{Printed}
use Rattle.pt_wire.specs.Stored.{Stored, StoredChoice, StoredOne}
use Rattle.pt_wire.proofs.Answers.{answer_for, answer_again}
use Rattle.pt_wire.proofs.Chains.{one_chain}
use Rattle.pt_wire.proofs.PrintedLists.{one_printed}
use Rattle.pt_wire.proofs.StoredChoices.{choices_free}
use Rattle.pt_wire.proofs.StoredLists.{one_stored}
use Rattle.pt_wire.proofs.laws.read_again.Goals as goal

pub returns-clause-stored : goal.returns-clause-stored
returns-clause-stored c = λ list bytes answer writable spelled reads.
    answer_again list answer writable.few (answer_for Stored bytes answer (λ a b. one_stored a b bytes) reads list spelled)

pub returns-clause-old : goal.returns-clause-old
returns-clause-old c = λ list bytes answer writable spelled reads.
    answer_again list answer writable.few (answer_for StoredOne bytes answer (λ a b. one_chain StoredChoice choices_free a b bytes) reads list spelled)

pub returns-clause-printed : goal.returns-clause-printed
returns-clause-printed c = λ list text answer writable spelled reads.
    answer_again list answer writable.few (answer_for Printed text answer (λ a b. one_printed a b text) reads list spelled)
