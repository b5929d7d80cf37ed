-- How one part of a check follows another: each goes on where what came before is right, and the first fault is the answer.
use Rattle.std.specs.Prelude.{Option, Some, None, Result, Ok, Err}
use Rattle.pt_val.specs.declared.place.Place.{Place}
use Rattle.pt_typing.specs.Fault.{Fault, Unknown, Twice, Wrong}

-- one part, and then what follows from it
abbrev pub after : {A B : Type 0} → Result A Fault → (A → Result B Fault) → Result B Fault
after (Ok value) next = next value
after (Err fault) next = Err fault

-- one part of which nothing is needed, and then the next
abbrev pub next_to : {A : Type 0} → Result (Unit {0}) Fault → Result A Fault → Result A Fault
next_to (Ok _) next = next
next_to (Err fault) next = Err fault

-- a part of which nothing is needed, and the value that the whole has
abbrev pub giving : {A : Type 0} → Result (Unit {0}) Fault → A → Result A Fault
giving (Ok _) value = Ok value
giving (Err fault) value = Err fault

-- a part, and what is made of it
abbrev pub made_of : {A B : Type 0} → (A → B) → Result A Fault → Result B Fault
made_of make (Ok value) = Ok (make value)
made_of make (Err fault) = Err fault

-- what is found at a name
abbrev pub known : {A : Type 0} → Place → Option A → Result A Fault
known at None = Err (Unknown at)
known at (Some value) = Ok value

-- nothing may be found at a name that is given
abbrev pub vacant : {A : Type 0} → Place → Option A → Result (Unit {0}) Fault
vacant at None = Ok tt
vacant at (Some value) = Err (Twice at)

-- what serves at a place
abbrev pub right : {A : Type 0} → Place → Option A → Result A Fault
right at None = Err (Wrong at)
right at (Some value) = Ok value
