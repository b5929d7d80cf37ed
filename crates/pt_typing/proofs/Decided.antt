-- What is checked is decided.
use Rattle.std.proofs.Common.{◌≡◌, Result, Ok, Err, refl, inl, inr}
use Rattle.std.specs.Prelude.{◌⊎◌}
use Rattle.pt_typing.specs.Fault.{Fault}
use Rattle.pt_typing.specs.Laws.{IsCheck, IsDecided}

comes-to : {A : Type 0} (Holds : A → Type 0) (Faulty : Fault → Type 0) (check : Result A Fault) → IsCheck Holds Faulty check → ((value : A) × Holds value) ⊎ ((fault : Fault) × Faulty fault)
comes-to Holds Faulty (Ok value) given = inl (value, given.comes value refl)
comes-to Holds Faulty (Err fault) given = inr (fault, given.stops fault refl)

never-both : {A : Type 0} (check : Result A Fault) (value : A) (fault : Fault) → check ≡ Ok value → ¬ (check ≡ Err fault)
never-both check value fault right wrong = cc

one-answer : {A : Type 0} (check : Result A Fault) (fault other : Fault) → check ≡ Err fault → check ≡ Err other → fault ≡ other
one-answer check fault other left right = cc

pub decided : {A : Type 0} {Holds : A → Type 0} {Faulty : Fault → Type 0} {check : Result A Fault} → IsCheck Holds Faulty check → IsDecided Holds Faulty
decided {Holds = Holds} {Faulty = Faulty} {check = check} given = record {
  one_or_other = comes-to Holds Faulty check given;
  not_both = λ value fault right bad. never-both check value fault (given.serves value right) (given.faults fault bad);
  one_fault = λ fault other left right. one-answer check fault other (given.faults fault left) (given.faults other right);
}
