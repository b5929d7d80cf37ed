-- What the calls of an object of files do.
use Rattle.std.specs.Prelude.{◌≡◌, ℕ, ◌<◌, ◌≤◌, Bool, true, false, List, [], ◌++◌, length, take, drop, Option, Some, None, IsSome, IfSome, IsSomeAnd, is_some, Result, IsOk, IfOk, OnOk, OnErr}
use Rattle.pt_io.specs.declared.files.IoFailed.{IoFailed}
use Rattle.pt_choice.specs.Faults.{Rose, next_count}

-- What an object of files shows: how many of its calls failed; how many times a file was chosen; the content of each
-- name that is there, where it tells its files; what is left to read of the chosen file, where it tells that; and
-- whether it never fails a read.
pub record Shown : Type 0 where
  pub faults : ℕ
  pub chosen : ℕ
  pub named : Option (List ℕ → Option (List ℕ))
  pub left : Option (List ℕ)
  pub steady : Bool

-- the files are the same, what is told is told as before, and no fault is forgotten
pub record IsSame (old new : Shown) : Type 0 where
  pub named : new.named ≡ old.named
  pub told : is_some new.left ≡ is_some old.left
  pub steady : new.steady ≡ old.steady
  pub later : old.faults ≤ new.faults

-- where the files are told, there is one of this name, and this holds of its bytes
abbrev pub HasBytes : Shown → List ℕ → (List ℕ → Type 0) → Type 0
HasBytes files name P = IfSome files.named (λ content. IsSomeAnd (content name) P)

-- where the files are told, there is none of this name
abbrev pub HasNone : Shown → List ℕ → Type 0
HasNone files name = IfSome files.named (λ content. content name ≡ None)

-- The file of this name was chosen, or the call failed.
pub record Chose (old : Shown) (name : List ℕ) (ok : Bool) (new : Shown) : Type 0 where
  pub same : IsSame old new
  pub once : new.chosen ≡ next_count old.chosen
  -- the whole file is left, and there is one
  pub whole : ok ≡ true → IfSome old.named (λ content. IsSome (content name) × (new.left ≡ content name))
  pub nothing : ok ≡ false → IfSome new.left (λ left. left ≡ [])
  pub quiet : ok ≡ true → new.faults ≡ old.faults
  pub cause : ok ≡ false → Rose old.faults new.faults
  -- a steady object fails only where the name is absent
  pub absent : ok ≡ false → old.steady ≡ true → HasNone old name

-- The first bytes of what was left were moved into the buffer, or the call failed.
pub record Moved (old : Shown) (before : List ℕ) (result : Result ℕ IoFailed) (after : List ℕ) (new : Shown) : Type 0 where
  pub same : IsSame old new
  -- no other file was chosen
  pub none : new.chosen ≡ old.chosen
  pub within : IfOk result (λ n. n ≤ length before)
  pub moved : IfOk result (λ n. IfSome old.left (λ left.
      (n ≤ length left) × (after ≡ take n left ++ drop n before) × (new.left ≡ Some (drop n left))))
  -- it stops only at the end of the file
  pub some : IfOk result (λ n. IfSome old.left (λ left. 0 < length before → 0 < length left → 0 < n))
  pub kept : OnErr result (new.left ≡ old.left)
  pub quiet : OnOk result (new.faults ≡ old.faults)
  pub cause : OnErr result (Rose old.faults new.faults)
  pub steady : old.steady ≡ true → IsOk result
