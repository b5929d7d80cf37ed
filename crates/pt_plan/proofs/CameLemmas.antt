-- How plans follow one another, and what comes of them.
use Rattle.std.proofs.Common.{◌≡◌, Result, Ok, Err, inl, inr, refl, sym, ap, subst}
use Rattle.pt_case.specs.State.{State, after_leave, after_note}
use Rattle.pt_plan.specs.Halt.{Halt, Rejection, Fault, Refusal}
use Rattle.pt_plan.specs.Plan.{Plan, Gives, Rejects, Faults, Asks, Enters, Leaves, Notes, and_then}
use Rattle.pt_plan.specs.Came.{Came}

-- what comes of a plan that comes to a value comes of what follows
pub came-then : {A B : Type 0} (plan : Plan A) (next : A → Plan B) (old mid new : State) (value : A) (outcome : Result B Halt) →
    Came plan old mid (Ok value) → Came (next value) mid new outcome → Came (and_then plan next) old new outcome
came-then (Gives given) next old mid new value outcome first later =
    let same : given ≡ value = cc in
    let at : old ≡ mid = sym first.1 in
    subst (λ s. Came (next given) s new outcome) (sym at) (subst (λ v. Came (next v) mid new outcome) (sym same) later)
came-then Rejects next old mid new value outcome first later = let e = first.0 in cc
came-then (Faults origin) next old mid new value outcome first later = let e = first.0 in cc
came-then (Asks kind more) next old mid new value outcome first later = elim first [
  | inl h ↦ inl (h.0, h.1, h.2, came-then (more h.0) next h.1 mid new value outcome h.3 later)
  | inr h ↦ let e = h.0 in cc
]
came-then (Enters label more) next old mid new value outcome first later = elim first [
  | inl h ↦ inl (h.0, h.1, came-then more next h.0 mid new value outcome h.2 later)
  | inr h ↦ let e = h.0 in cc
]
came-then (Leaves more) next old mid new value outcome first later = came-then more next (after_leave old) mid new value outcome first later
came-then (Notes note more) next old mid new value outcome first later = came-then more next (after_note old note) mid new value outcome first later

-- a plan that comes to no value ends what would have followed
pub came-halted : {A B : Type 0} (plan : Plan A) (next : A → Plan B) (old new : State) (why : Halt) →
    Came plan old new (Err why) → Came (and_then plan next) old new (Err why)
came-halted (Gives given) next old new why first = let e = first.0 in cc
came-halted Rejects next old new why first =
    let same : why ≡ Rejection = (let e = first.0 in cc) in (ap (λ means. Err means) same, first.1)
came-halted (Faults origin) next old new why first =
    let same : why ≡ Fault origin = (let e = first.0 in cc) in (ap (λ means. Err means) same, first.1)
came-halted (Asks kind more) next old new why first = elim first [
  | inl h ↦ inl (h.0, h.1, h.2, came-halted (more h.0) next h.1 new why h.3)
  | inr h ↦ let same : why ≡ Refusal = (let e = h.0 in cc) in inr (ap (λ means. Err means) same, h.1, h.2)
]
came-halted (Enters label more) next old new why first = elim first [
  | inl h ↦ inl (h.0, h.1, came-halted more next h.0 new why h.2)
  | inr h ↦ let same : why ≡ Refusal = (let e = h.0 in cc) in inr (ap (λ means. Err means) same, h.1, h.2)
]
came-halted (Leaves more) next old new why first = came-halted more next (after_leave old) new why first
came-halted (Notes note more) next old new why first = came-halted more next (after_note old note) new why first

-- three plans one after another
pub and_then-and_then : {A B C : Type 0} (plan : Plan A) (next : A → Plan B) (last : B → Plan C) →
    and_then (and_then plan next) last ≡ and_then plan (λ value. and_then (next value) last)
and_then-and_then (Gives value) next last = refl
and_then-and_then Rejects next last = refl
and_then-and_then (Faults origin) next last = refl
and_then-and_then (Asks kind more) next last = ap (λ f. Asks kind f) (λ i choice. and_then-and_then (more choice) next last i)
and_then-and_then (Enters label more) next last = ap (λ p. Enters label p) (and_then-and_then more next last)
and_then-and_then (Leaves more) next last = ap (λ p. Leaves p) (and_then-and_then more next last)
and_then-and_then (Notes note more) next last = ap (λ p. Notes note p) (and_then-and_then more next last)

-- a plan, and then its own value
pub and_then-gives : {A : Type 0} (plan : Plan A) → and_then plan (λ value. Gives value) ≡ plan
and_then-gives (Gives value) = refl
and_then-gives Rejects = refl
and_then-gives (Faults origin) = refl
and_then-gives (Asks kind more) = ap (λ f. Asks kind f) (λ i choice. and_then-gives (more choice) i)
and_then-gives (Enters label more) = ap (λ p. Enters label p) (and_then-gives more)
and_then-gives (Leaves more) = ap (λ p. Leaves p) (and_then-gives more)
and_then-gives (Notes note more) = ap (λ p. Notes note p) (and_then-gives more)
