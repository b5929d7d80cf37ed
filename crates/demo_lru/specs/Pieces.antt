-- The check `pieces`: bytes are gathered piece by piece, and are to be read back from their hex text.
use Rattle.std.specs.Prelude.{◌≡◌, ℕ, Bool, true, false, List, [], ◌∷◌, ◌++◌, codes, if◌then◌else◌}
use Rattle.pt_val.specs.declared.val.Val.{Val}
use Rattle.pt_val.specs.declared.val.Val.TheVariants as val
use Rattle.pt_case.specs.declared.ending.Origin.TheVariants.{Point}
use Rattle.pt_case.specs.declared.note.Note.{Note}
use Rattle.pt_plan.specs.Plan.{Plan, Gives, Faults, Notes, and_then}
use Rattle.pt_rules.specs.Meaning.{Meaning}
use Rattle.pt_typed.specs.Plans.{blobs_plan}
use Rattle.pt_typed.specs.Reading.{bytes_of}
use Rattle.demo_lru.specs.Hexed.{is_read_back}

abbrev pub pieces_name : List ℕ
pieces_name = codes "pieces"

abbrev pub append_name : List ℕ
append_name = codes "append"

abbrev pub clear_name : List ℕ
clear_name = codes "clear"

abbrev pub piece_word : List ℕ
piece_word = codes "piece"

-- a piece as it is shown
abbrev pub piece_note : Val → Note
piece_note piece = record { name = piece_word; val = piece }

-- bytes that are not read back fail at point 1
abbrev pub whole_plan : List ℕ → Plan Val
whole_plan whole = if is_read_back whole then Gives (val.Bytes whole) else Faults (Point 1)

-- a piece of up to 4 bytes is drawn, shown and put behind the others
abbrev pub append_plan : Val → Plan Val
append_plan state = and_then (blobs_plan 0 4) (λ piece. Notes (piece_note piece) (whole_plan (bytes_of state ++ bytes_of piece)))

-- the bytes are forgotten
abbrev pub clear_plan : Val → Plan Val
clear_plan state = Gives (val.Bytes [])

-- there are some
abbrev pub is_some_byte : List ℕ → Bool
is_some_byte [] = false
is_some_byte (byte ∷ bytes) = true

abbrev pub is_filled : Val → Bool
is_filled state = is_some_byte (bytes_of state)

abbrev pub append_meaning : Meaning
append_meaning = record { name = append_name; enabled = λ state. true; step = append_plan }

abbrev pub clear_meaning : Meaning
clear_meaning = record { name = clear_name; enabled = is_filled; step = clear_plan }

-- a machine of these two rules that makes at most 10 steps from no bytes
pub record IsPieces (name : List ℕ) (rules : List Meaning) (steps : ℕ) (start : Val) : Type 0 where
  pub named : name ≡ pieces_name
  pub ruled : rules ≡ append_meaning ∷ clear_meaning ∷ []
  pub stepped : steps ≡ 10
  pub started : start ≡ val.Bytes []
