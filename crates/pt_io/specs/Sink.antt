-- What a write to a sink does.
use Rattle.std.specs.Prelude.{◌≡◌, ℕ, ◌<◌, ◌≤◌, List, ◌++◌, length, take, Option, Result, IfOk, OnOk, OnErr}
use Rattle.std.specs.Option.{option_map}
use Rattle.pt_io.specs.declared.files.IoFailed.{IoFailed}
use Rattle.pt_choice.specs.Faults.{Rose}

-- what a sink shows: how many of its calls failed, and the bytes that it was given, where it tells them
pub record Written : Type 0 where
  pub faults : ℕ
  pub bytes : Option (List ℕ)

-- where the bytes are told, they grew by this piece
abbrev pub Appends : Option (List ℕ) → List ℕ → Option (List ℕ) → Type 0
Appends old piece new = new ≡ option_map (λ bytes. bytes ++ piece) old

-- where the bytes are told, they grew by a first part of this piece
abbrev pub AppendsPart : Option (List ℕ) → List ℕ → Option (List ℕ) → Type 0
AppendsPart old piece new = (n : ℕ) × Appends old (take n piece) new

-- The first bytes of the piece were written, or the call failed and wrote none.
pub record Wrote (old : Written) (from : List ℕ) (result : Result ℕ IoFailed) (new : Written) : Type 0 where
  pub later : old.faults ≤ new.faults
  pub within : IfOk result (λ n. n ≤ length from)
  pub some : IfOk result (λ n. 0 < length from → 0 < n)
  pub written : IfOk result (λ n. Appends old.bytes (take n from) new.bytes)
  pub kept : OnErr result (new.bytes ≡ old.bytes)
  pub quiet : OnOk result (new.faults ≡ old.faults)
  pub cause : OnErr result (Rose old.faults new.faults)
