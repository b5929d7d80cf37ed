use Rattle.pt_wire.specs.Stored.{StoredChoice}
use Rattle.pt_wire.proofs.Chains.{one_chain}
use Rattle.pt_wire.proofs.PrintedLists.{one_printed}
use Rattle.pt_wire.proofs.StoredChoices.{choices_free}
use Rattle.pt_wire.proofs.StoredLists.{one_stored, one_unpacked}
use Rattle.pt_wire.proofs.laws.one_list.Goals as goal

pub returns-clause-stored : goal.returns-clause-stored
returns-clause-stored c = one_stored

pub returns-clause-old : goal.returns-clause-old
returns-clause-old c = one_chain StoredChoice choices_free

pub returns-clause-unpacked : goal.returns-clause-unpacked
returns-clause-unpacked c = one_unpacked

pub returns-clause-printed : goal.returns-clause-printed
returns-clause-printed c = one_printed
