-- What a reader of the code answers, beside a reading function on lists of tokens.
use Rattle.std.specs.Prelude.{◌≡◌, Bool, true, Option, List, Result, Ok, Err}
use Rattle.pt_val.specs.declared.place.Place.{Place}
use Rattle.pt_token.specs.declared.token.Token.{Token}
use Rattle.pt_token.specs.declared.token.Kind.{Kind}
use Rattle.pt_grammar.specs.declared.sort.Sort.{Sort}
use Rattle.pt_grammar.specs.declared.sort.Sort.TheVariants as sort
use Rattle.pt_grammar.specs.Reading.{Fault, at, one_at, goes_on, sort_here}
use Rattle.pt_grammar.specs.ExprReading.{operator_at}
use Rattle.pt_taking.specs.declared.stop.Stop.{Stop}
use Rattle.pt_taking.specs.declared.stop.Stop.TheVariants as stop

-- the fault that was read, unless memory ran out
abbrev pub Fails : {Y : Type 0} → Stop → Result Y Fault → Type 0
Fails (stop.At which rest) read = read ≡ Err (at which rest.now)
Fails stop.NoMemory read = Unit {0}

-- what was answered, seen by a view, is what was read, unless memory ran out
abbrev pub Gives : {X Y : Type 0} → (X → Y) → Result X Stop → Result Y Fault → Type 0
Gives view (Ok x) read = read ≡ Ok (view x)
Gives view (Err e) read = Fails e read

-- the fault of a part too many, by what was answered at its first token alone
abbrev pub Refuses : {X : Type 0} → Result X Stop → Sort → Type 0
Refuses (Ok x) which = which ≡ sort.OutOfRange
Refuses (Err (stop.At first rest)) which = which ≡ sort_here first rest.now
Refuses (Err stop.NoMemory) which = ⊥

-- no level is left at these tokens
abbrev pub TooDeepAt : List Token → Stop → Type 0
TooDeepAt tokens (stop.At which rest) = (which ≡ sort.TooDeep) × (rest.now ≡ tokens)
TooDeepAt tokens stop.NoMemory = ⊥

-- the terminal stands first, with this behind it
abbrev pub Stands : (Kind → Bool) → List Token → List Token → Type 0
Stands is tokens rest = (goes_on is tokens ≡ true) × (one_at is tokens ≡ Ok (tt, rest))

-- the operator stands first, with its place and with this behind it
abbrev pub Operates : {A : Type 0} → (Kind → Option A) → (Kind → Bool) → List Token → Place × A → List Token → Type 0
Operates operator begins tokens found rest = (goes_on begins tokens ≡ true) × (operator_at operator tokens ≡ Ok (found, rest))
