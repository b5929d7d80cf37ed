-- What the answers of a reader say of each other.
use Rattle.std.proofs.Common.{◌≡◌, ℕ, ◌<◌, ◌≤◌, List, length, Result, Ok, Err, MatchResult, IfOk, All, ◌⊎◌, inl, inr, refl, ap, sym, subst, arith}
use Rattle.pt_choice.specs.declared.choice.Choice.{Choice}
use Rattle.pt_wire.specs.declared.fault.WireFault.{WireFault}
use Rattle.pt_wire.specs.declared.fault.WireFault.TheVariants as fault
use Rattle.pt_choice.specs.Limits.{IsInLimits}
use Rattle.pt_wire.specs.Limits.{IsWritable}
use Rattle.pt_wire.specs.Answer.{Reads, IsAnswerFor}

-- where at most one list is spelled, the answer is the one for that list
pub answer_for : (Spells : List Choice → List ℕ → Type 0) (bytes : List ℕ) (answer : Result (List Choice) WireFault)
    → ((a b : List Choice) → Spells a bytes → Spells b bytes → a ≡ b) → Reads Spells bytes answer → (list : List Choice) → Spells list bytes → IsAnswerFor list answer
answer_for Spells bytes (Ok found) one (spelled, few) list h =
    let same = one found list spelled h in
    (same, subst (λ (l : List Choice). length l ≤ 256) same few)
answer_for Spells bytes (Err fault.TooLong) one (long, spelled, many) list h = subst (λ (l : List Choice). 256 < length l) (one long list spelled h) many
answer_for Spells bytes (Err (fault.NotSpelling place)) one fails list h = fails.none list h
answer_for Spells bytes (Err fault.NoMemory) one free list h = tt

-- all that was gathered is what the bytes spell
pub reads_gathered : (Spells : List Choice → List ℕ → Type 0) (bytes : List ℕ) (all : List Choice) (answer : Result (List Choice) WireFault) → Spells all bytes
    → MatchResult answer (λ list. (list ≡ all) × (length all ≤ 256)) (λ why. (why ≡ fault.TooLong) × (256 < length all)) → Reads Spells bytes answer
reads_gathered Spells bytes all (Ok list) spelled (same, few) = (subst (λ l. Spells l bytes) (sym same) spelled, subst (λ (l : List Choice). length l ≤ 256) (sym same) few)
reads_gathered Spells bytes all (Err fault.TooLong) spelled (same, many) = (all, spelled, many)
reads_gathered Spells bytes all (Err (fault.NotSpelling place)) spelled (same, many) = absurd cc
reads_gathered Spells bytes all (Err fault.NoMemory) spelled gathered = tt

-- of a list that may be written the answer is that list
pub answer_again : (list : List Choice) (answer : Result (List Choice) WireFault) → length list ≤ 256 → IsAnswerFor list answer → (answer ≡ Ok list) ⊎ (answer ≡ Err fault.NoMemory)
answer_again list (Ok found) few (same, small) = inl (ap (λ l. Ok l) same)
answer_again list (Err fault.TooLong) few many = absurd (omega arith)
answer_again list (Err (fault.NotSpelling place)) few never = absurd never
answer_again list (Err fault.NoMemory) few free = inr refl

-- an answer is a list that may be written, where what is spelled is
pub answer_writable : (Spells : List Choice → List ℕ → Type 0) (bytes : List ℕ) (answer : Result (List Choice) WireFault)
    → ((list : List Choice) → Spells list bytes → All IsInLimits list) → Reads Spells bytes answer → IfOk answer IsWritable
answer_writable Spells bytes (Ok list) limits (spelled, few) = record { few = few; each = limits list spelled }
answer_writable Spells bytes (Err why) limits reads = tt
