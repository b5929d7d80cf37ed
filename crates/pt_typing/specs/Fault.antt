-- What may be wrong with the names and types of a suite.
use Rattle.pt_val.specs.declared.place.Place.{Place}

pub data Fault : Type 0 where
  Unknown : Place → Fault  -- a name that is not in scope, or a `self` that stands for nothing
  Twice : Place → Fault  -- a name that is taken, or an alphabet that has a character twice
  Wrong : Place → Fault  -- a part that is not of the type that is needed there
  UnknownCheck : Place → Fault  -- a check that is not among those handed in
