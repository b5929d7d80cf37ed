-- A nonzero integer moved toward zero by 1, and a later region left out.
use Rattle.std.specs.Prelude.{ℕ, Bool, nat_lt, if◌then◌else◌, unsigned_abs, List, [], ◌∷◌, ◌++◌, map, length}
use Rattle.std.specs.List.{filter}
use Rattle.pt_choice.specs.declared.choice.Choice.{Choice}
use Rattle.pt_choice.specs.declared.choice.Choice.TheVariants as choice
use Rattle.pt_case.specs.declared.span.Span.{Span}
use Rattle.pt_cand.specs.Each.{at_each}
use Rattle.pt_cand.specs.Region.{regions, without}
use Rattle.pt_cand.specs.Lower.{nearer}

abbrev pub begins_after : ℕ → Span → Bool
begins_after place span = nat_lt place span.from

-- where the choice is a nonzero integer, it is made one less, and each of these regions that begins after it left out
abbrev pub less_without : List Span → List Choice → Choice → List Choice → List (List Choice)
less_without spans front (choice.Int value) back =
    map (without (front ++ choice.Int (nearer value 1) ∷ back)) (if nat_lt 0 (unsigned_abs value) then filter (begins_after (length front)) spans else [])
less_without spans front other back = []

abbrev pub lower_delete : List Choice → List Span → List (List Choice)
lower_delete choices spans = at_each (less_without (regions spans)) [] choices
