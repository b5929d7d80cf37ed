use Rattle.pt_wire.specs.Printed.{Printed}
use Rattle.pt_wire.specs.Stored.{Stored, StoredOne}
use Rattle.pt_wire.proofs.Failing.{one_place}
use Rattle.pt_wire.proofs.laws.one_place.Goals as goal

pub returns-clause-stored : goal.returns-clause-stored
returns-clause-stored c = one_place Stored

pub returns-clause-old : goal.returns-clause-old
returns-clause-old c = one_place StoredOne

pub returns-clause-printed : goal.returns-clause-printed
returns-clause-printed c = one_place Printed
