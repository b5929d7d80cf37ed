-- What holds on every way through a plan by choices that are admitted.
use Rattle.std.specs.Prelude.{◌≡◌, ℕ, zero, suc, true}
use Rattle.pt_choice.specs.Kind.{admits}
use Rattle.pt_choice.specs.declared.choice.Choice.{Choice}
use Rattle.pt_plan.specs.Plan.{Plan, Gives, Rejects, Faults, Asks, Enters, Leaves, Notes}

-- each value that the plan comes to is one of these
abbrev pub GivesOnly : {A : Type 0} → (A → Type 0) → Plan A → Type 0
GivesOnly Is (Gives value) = Is value
GivesOnly Is Rejects = Unit {0}
GivesOnly Is (Faults origin) = Unit {0}
GivesOnly Is (Asks kind next) = (choice : Choice) → admits kind choice ≡ true → GivesOnly Is (next choice)
GivesOnly Is (Enters label next) = GivesOnly Is next
GivesOnly Is (Leaves next) = GivesOnly Is next
GivesOnly Is (Notes note next) = GivesOnly Is next

-- Where so many of its own spans are open, it leaves none but its own, and has left each of them where it gives a value.
abbrev pub IsBalancedAt : {A : Type 0} → ℕ → Plan A → Type 0
IsBalancedAt depth (Gives value) = depth ≡ 0
IsBalancedAt depth Rejects = Unit {0}
IsBalancedAt depth (Faults origin) = Unit {0}
IsBalancedAt depth (Asks kind next) = (choice : Choice) → admits kind choice ≡ true → IsBalancedAt depth (next choice)
IsBalancedAt depth (Enters label next) = IsBalancedAt (suc depth) next
IsBalancedAt zero (Leaves next) = ⊥
IsBalancedAt (suc depth) (Leaves next) = IsBalancedAt depth next
IsBalancedAt depth (Notes note next) = IsBalancedAt depth next

-- the plan leaves only spans that it entered, and has left each of them where it gives a value
abbrev pub IsBalanced : {A : Type 0} → Plan A → Type 0
IsBalanced plan = IsBalancedAt 0 plan

-- the plan notes nothing
abbrev pub NotesNothing : {A : Type 0} → Plan A → Type 0
NotesNothing (Gives value) = Unit {0}
NotesNothing Rejects = Unit {0}
NotesNothing (Faults origin) = Unit {0}
NotesNothing (Asks kind next) = (choice : Choice) → admits kind choice ≡ true → NotesNothing (next choice)
NotesNothing (Enters label next) = NotesNothing next
NotesNothing (Leaves next) = NotesNothing next
NotesNothing (Notes note next) = ⊥
