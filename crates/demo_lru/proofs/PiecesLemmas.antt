-- A step of `append` leaves its own spans, and what the machine says.
use Rattle.std.proofs.Common.{ℕ, Bool, true, false, List, ◌++◌, refl}
use Rattle.std.specs.Prelude.{if◌then◌else◌}
use Rattle.pt_val.specs.declared.val.Val.{Val}
use Rattle.pt_val.specs.declared.val.Val.TheVariants as val
use Rattle.pt_case.specs.declared.ending.Origin.TheVariants.{Point}
use Rattle.pt_plan.specs.Every.{IsBalanced}
use Rattle.pt_plan.specs.Plan.{Gives, Faults, Notes}
use Rattle.pt_plan.proofs.EveryLemmas.{balanced-and_then}
use Rattle.pt_typed.specs.Laws.{blobs-lawful}
use Rattle.pt_typed.specs.Plans.{blobs_plan}
use Rattle.pt_typed.specs.Reading.{bytes_of}
use Rattle.demo_lru.specs.Hexed.{is_read_back}
use Rattle.demo_lru.specs.Pieces.{piece_note, whole_plan, append_plan}

either-balanced : (same : Bool) (whole : List ℕ) → IsBalanced (if same then Gives (val.Bytes whole) else Faults (Point 1))
either-balanced true whole = refl
either-balanced false whole = tt

pub append-balanced : (state : Val) → IsBalanced (append_plan state)
append-balanced state =
    balanced-and_then (blobs_plan 0 4) (λ piece. Notes (piece_note piece) (whole_plan (bytes_of state ++ bytes_of piece))) (blobs-lawful 0 4).balanced
    (λ piece. either-balanced (is_read_back (bytes_of state ++ bytes_of piece)) (bytes_of state ++ bytes_of piece))
