-- What a check comes to that is made of checks.
use Rattle.std.proofs.Common.{◌≡◌, Bool, true, false, Option, Some, None, Result, Ok, Err, refl, sym, ◌∙◌, ap, inl, inr}
use Rattle.std.specs.Prelude.{◌⊎◌, if◌then◌else◌}
use Rattle.pt_val.specs.declared.place.Place.{Place}
use Rattle.pt_typing.specs.Fault.{Fault, Unknown, Twice, Wrong}
use Rattle.pt_typing.specs.Steps.{after, next_to, giving, made_of, known, vacant, right}
use Rattle.pt_typing.specs.Laws.{IsCheck}

-- what is found is exactly what this holds of
pub record Finds {A : Type 0} (Fits : A → Type 0) (found : Option A) : Type 0 where
  pub gives : (value : A) → found ≡ Some value → Fits value
  pub takes : (value : A) → Fits value → found ≡ Some value

pub ok-check : {A : Type 0} (made : A) → IsCheck (λ value. value ≡ made) (λ fault. ⊥) (Ok made)
ok-check made = record {
  comes = λ value is. cc;
  serves = λ value is. ap Ok (sym is);
  stops = λ fault is. cc;
  faults = λ fault bad. absurd bad;
}

pub err-check : {A : Type 0} (why : Fault) → IsCheck {A = A} (λ value. ⊥) (λ fault. fault ≡ why) (Err why)
err-check why = record {
  comes = λ value is. cc;
  serves = λ value bad. absurd bad;
  stops = λ fault is. cc;
  faults = λ fault is. ap Err (sym is);
}

-- what holds of the value said another way
pub means : {A : Type 0} {P R : A → Type 0} {Q : Fault → Type 0} {check : Result A Fault} → IsCheck P Q check →
    ((value : A) → P value → R value) → ((value : A) → R value → P value) → IsCheck R Q check
means given there back = record {
  comes = λ value is. there value (given.comes value is);
  serves = λ value is. given.serves value (back value is);
  stops = given.stops;
  faults = given.faults;
}

-- what holds of the fault said another way
pub blames : {A : Type 0} {P : A → Type 0} {Q S : Fault → Type 0} {check : Result A Fault} → IsCheck P Q check →
    ((fault : Fault) → Q fault → S fault) → ((fault : Fault) → S fault → Q fault) → IsCheck P S check
blames given there back = record {
  comes = given.comes;
  serves = given.serves;
  stops = λ fault is. there fault (given.stops fault is);
  faults = λ fault is. given.faults fault (back fault is);
}

after-comes : {A B : Type 0} (P : A → Type 0) (Q : Fault → Type 0) (R : A → B → Type 0) (S : A → Fault → Type 0) (check : Result A Fault) (next : A → Result B Fault) → IsCheck P Q check →
    ((value : A) → P value → IsCheck (R value) (S value) (next value)) → (made : B) → after check next ≡ Ok made → (value : A) × P value × R value made
after-comes P Q R S (Ok found) next given go made is = (found, given.comes found refl, (go found (given.comes found refl)).comes made is)
after-comes P Q R S (Err why) next given go made is = cc

after-stops : {A B : Type 0} (P : A → Type 0) (Q : Fault → Type 0) (R : A → B → Type 0) (S : A → Fault → Type 0) (check : Result A Fault) (next : A → Result B Fault) → IsCheck P Q check →
    ((value : A) → P value → IsCheck (R value) (S value) (next value)) → (fault : Fault) → after check next ≡ Err fault → Q fault ⊎ ((value : A) × P value × S value fault)
after-stops P Q R S (Ok found) next given go fault is = inr (found, given.comes found refl, (go found (given.comes found refl)).stops fault is)
after-stops P Q R S (Err why) next given go fault is = inl (given.stops fault cc)

after-faults : {A B : Type 0} (P : A → Type 0) (Q : Fault → Type 0) (R : A → B → Type 0) (S : A → Fault → Type 0) (check : Result A Fault) (next : A → Result B Fault) → IsCheck P Q check →
    ((value : A) → P value → IsCheck (R value) (S value) (next value)) → (fault : Fault) → Q fault ⊎ ((value : A) × P value × S value fault) → after check next ≡ Err fault
after-faults P Q R S check next given go fault (inl bad) = ap (λ c. after c next) (given.faults fault bad)
after-faults P Q R S check next given go fault (inr (value, so, bad)) = ap (λ c. after c next) (given.serves value so) ∙ (go value so).faults fault bad

pub after-check : {A B : Type 0} {P : A → Type 0} {Q : Fault → Type 0} {R : A → B → Type 0} {S : A → Fault → Type 0} {check : Result A Fault} {next : A → Result B Fault} → IsCheck P Q check →
    ((value : A) → P value → IsCheck (R value) (S value) (next value)) →
    IsCheck (λ made. (value : A) × P value × R value made) (λ fault. Q fault ⊎ ((value : A) × P value × S value fault)) (after check next)
after-check {P = P} {Q = Q} {R = R} {S = S} {check = check} {next = next} given go = record {
  comes = after-comes P Q R S check next given go;
  serves = λ made is. ap (λ c. after c next) (given.serves is.0 is.1) ∙ (go is.0 is.1).serves made is.2;
  stops = after-stops P Q R S check next given go;
  faults = after-faults P Q R S check next given go;
}

next-comes : {B : Type 0} (P : Type 0) (Q : Fault → Type 0) (R : B → Type 0) (S : Fault → Type 0) (check : Result (Unit {0}) Fault) (next : Result B Fault) → IsCheck (λ _. P) Q check →
    (P → IsCheck R S next) → (made : B) → next_to check next ≡ Ok made → P × R made
next-comes P Q R S (Ok tt) next given go made is = (given.comes tt refl, (go (given.comes tt refl)).comes made is)
next-comes P Q R S (Err why) next given go made is = cc

next-stops : {B : Type 0} (P : Type 0) (Q : Fault → Type 0) (R : B → Type 0) (S : Fault → Type 0) (check : Result (Unit {0}) Fault) (next : Result B Fault) → IsCheck (λ _. P) Q check →
    (P → IsCheck R S next) → (fault : Fault) → next_to check next ≡ Err fault → Q fault ⊎ (P × S fault)
next-stops P Q R S (Ok tt) next given go fault is = inr (given.comes tt refl, (go (given.comes tt refl)).stops fault is)
next-stops P Q R S (Err why) next given go fault is = inl (given.stops fault cc)

next-faults : {B : Type 0} (P : Type 0) (Q : Fault → Type 0) (R : B → Type 0) (S : Fault → Type 0) (check : Result (Unit {0}) Fault) (next : Result B Fault) → IsCheck (λ _. P) Q check →
    (P → IsCheck R S next) → (fault : Fault) → Q fault ⊎ (P × S fault) → next_to check next ≡ Err fault
next-faults P Q R S check next given go fault (inl bad) = ap (λ c. next_to c next) (given.faults fault bad)
next-faults P Q R S check next given go fault (inr (so, bad)) = ap (λ c. next_to c next) (given.serves tt so) ∙ (go so).faults fault bad

pub next-check : {B : Type 0} {P : Type 0} {Q : Fault → Type 0} {R : B → Type 0} {S : Fault → Type 0} {check : Result (Unit {0}) Fault} {next : Result B Fault} → IsCheck (λ _. P) Q check →
    (P → IsCheck R S next) → IsCheck (λ made. P × R made) (λ fault. Q fault ⊎ (P × S fault)) (next_to check next)
next-check {P = P} {Q = Q} {R = R} {S = S} {check = check} {next = next} given go = record {
  comes = next-comes P Q R S check next given go;
  serves = λ made is. ap (λ c. next_to c next) (given.serves tt is.0) ∙ (go is.0).serves made is.1;
  stops = next-stops P Q R S check next given go;
  faults = next-faults P Q R S check next given go;
}

giving-comes : {A : Type 0} (P : Type 0) (Q : Fault → Type 0) (check : Result (Unit {0}) Fault) (made : A) → IsCheck (λ _. P) Q check → (value : A) → giving check made ≡ Ok value → P × (value ≡ made)
giving-comes P Q (Ok tt) made given value is = (given.comes tt refl, cc)
giving-comes P Q (Err why) made given value is = cc

giving-stops : {A : Type 0} (P : Type 0) (Q : Fault → Type 0) (check : Result (Unit {0}) Fault) (made : A) → IsCheck (λ _. P) Q check → (fault : Fault) → giving check made ≡ Err fault → Q fault
giving-stops P Q (Ok tt) made given fault is = cc
giving-stops P Q (Err why) made given fault is = given.stops fault cc

pub giving-check : {A : Type 0} {P : Type 0} {Q : Fault → Type 0} {check : Result (Unit {0}) Fault} (made : A) → IsCheck (λ _. P) Q check →
    IsCheck (λ value. P × (value ≡ made)) Q (giving check made)
giving-check {P = P} {Q = Q} {check = check} made given = record {
  comes = giving-comes P Q check made given;
  serves = λ value is. ap (λ c. giving c made) (given.serves tt is.0) ∙ ap Ok (sym is.1);
  stops = giving-stops P Q check made given;
  faults = λ fault bad. ap (λ c. giving c made) (given.faults fault bad);
}

made-comes : {A B : Type 0} (P : A → Type 0) (Q : Fault → Type 0) (make : A → B) (check : Result A Fault) → IsCheck P Q check → (value : B) → made_of make check ≡ Ok value → (part : A) × P part × (value ≡ make part)
made-comes P Q make (Ok part) given value is = (part, given.comes part refl, cc)
made-comes P Q make (Err why) given value is = cc

made-stops : {A B : Type 0} (P : A → Type 0) (Q : Fault → Type 0) (make : A → B) (check : Result A Fault) → IsCheck P Q check → (fault : Fault) → made_of make check ≡ Err fault → Q fault
made-stops P Q make (Ok part) given fault is = cc
made-stops P Q make (Err why) given fault is = given.stops fault cc

pub made-check : {A B : Type 0} {P : A → Type 0} {Q : Fault → Type 0} {check : Result A Fault} (make : A → B) → IsCheck P Q check →
    IsCheck (λ value. (part : A) × P part × (value ≡ make part)) Q (made_of make check)
made-check {P = P} {Q = Q} {check = check} make given = record {
  comes = made-comes P Q make check given;
  serves = λ value is. ap (made_of make) (given.serves is.0 is.1) ∙ ap Ok (sym is.2);
  stops = made-stops P Q make check given;
  faults = λ fault bad. ap (made_of make) (given.faults fault bad);
}

pub known-check : {A : Type 0} (at : Place) (found : Option A) → IsCheck (λ value. found ≡ Some value) (λ fault. (found ≡ None) × (fault ≡ Unknown at)) (known at found)
known-check at None = record {
  comes = λ value is. cc;
  serves = λ value is. cc;
  stops = λ fault is. (refl, cc);
  faults = λ fault bad. ap Err (sym bad.1);
}
known-check at (Some here) = record {
  comes = λ value is. cc;
  serves = λ value is. cc;
  stops = λ fault is. cc;
  faults = λ fault bad. let no : Some here ≡ None = bad.0 in cc;
}

pub vacant-check : {A : Type 0} (at : Place) (found : Option A) → IsCheck (λ _. found ≡ None) (λ fault. (¬ (found ≡ None)) × (fault ≡ Twice at)) (vacant at found)
vacant-check at None = record {
  comes = λ value is. refl;
  serves = λ value is. refl;
  stops = λ fault is. cc;
  faults = λ fault bad. absurd (bad.0 refl);
}
vacant-check at (Some here) = record {
  comes = λ value is. cc;
  serves = λ value is. cc;
  stops = λ fault is. ((λ no. cc), cc);
  faults = λ fault bad. ap Err (sym bad.1);
}

pub right-check : {A : Type 0} {Fits : A → Type 0} (at : Place) (found : Option A) → Finds Fits found →
    IsCheck Fits (λ fault. (¬ ((value : A) × Fits value)) × (fault ≡ Wrong at)) (right at found)
right-check at None finds = record {
  comes = λ value is. cc;
  serves = λ value is. let no : None ≡ Some value = finds.takes value is in cc;
  stops = λ fault is. ((λ fits. let no : None ≡ Some fits.0 = finds.takes fits.0 fits.1 in cc), cc);
  faults = λ fault bad. ap Err (sym bad.1);
}
right-check at (Some here) finds = record {
  comes = λ value is. finds.gives value cc;
  serves = λ value is. let same : Some here ≡ Some value = finds.takes value is in cc;
  stops = λ fault is. cc;
  faults = λ fault bad. absurd (bad.0 (here, finds.gives here refl));
}

-- a test that has to fail
pub unless-check : (test : Bool) (why : Fault) (Holds Fails : Type 0) → (test ≡ true → Fails) → (test ≡ false → Holds) → (Holds → ¬ Fails) →
    IsCheck {A = Unit {0}} (λ _. Holds) (λ fault. Fails × (fault ≡ why)) (if test then Err why else Ok tt)
unless-check true why Holds Fails on off apart = record {
  comes = λ value is. cc;
  serves = λ value holds. absurd (apart holds (on refl));
  stops = λ fault is. (on refl, cc);
  faults = λ fault bad. ap Err (sym bad.1);
}
unless-check false why Holds Fails on off apart = record {
  comes = λ value is. off refl;
  serves = λ value holds. refl;
  stops = λ fault is. cc;
  faults = λ fault bad. absurd (apart (off refl) bad.0);
}

-- a test that has to hold
pub if-check : (test : Bool) (why : Fault) (Holds Fails : Type 0) → (test ≡ true → Holds) → (test ≡ false → Fails) → (Holds → ¬ Fails) →
    IsCheck {A = Unit {0}} (λ _. Holds) (λ fault. Fails × (fault ≡ why)) (if test then Ok tt else Err why)
if-check true why Holds Fails on off apart = record {
  comes = λ value is. on refl;
  serves = λ value holds. refl;
  stops = λ fault is. cc;
  faults = λ fault bad. absurd (apart (on refl) bad.0);
}
if-check false why Holds Fails on off apart = record {
  comes = λ value is. cc;
  serves = λ value holds. absurd (apart holds (off refl));
  stops = λ fault is. (off refl, cc);
  faults = λ fault bad. ap Err (sym bad.1);
}
