-- A span replaced by one inside it.
use Rattle.std.specs.Prelude.{ℕ, ◌+◌, ◌-◌, Bool, false, ◌&&◌, nat_eq, nat_lt, if◌then◌else◌, Option, Some, None, List, [], ◌∷◌, ◌++◌, map, length}
use Rattle.std.specs.List.{filter, list_any}
use Rattle.pt_choice.specs.declared.choice.Choice.{Choice}
use Rattle.pt_case.specs.declared.span.Span.{Span}
use Rattle.pt_cand.specs.Each.{at_each}
use Rattle.pt_cand.specs.Region.{before, inside, after}

-- this is one of the numbers
abbrev pub is_among : List ℕ → Option ℕ → Bool
is_among numbers None = false
is_among numbers (Some number) = list_any (nat_eq number) numbers

-- those of the spans that are below one of these numbers by their parents; the spans are numbered from here on
abbrev pub below : List ℕ → ℕ → List Span → List Span
below known number [] = []
below known number (span ∷ later) =
    if is_among known span.parent then span ∷ below (known ++ number ∷ []) (number + 1) later else below known (number + 1) later

-- of the same label, and with fewer choices
abbrev pub may_replace : Span → Span → Bool
may_replace outer inner = nat_eq inner.label outer.label && nat_lt (inner.to - inner.from) (outer.to - outer.from)

-- the outer region replaced by the inner one
abbrev pub descended : List Choice → Span → Span → List Choice
descended choices outer inner = before outer choices ++ inside inner choices ++ after outer choices

-- what is made of a span and those after it
abbrev pub descend_at : List Choice → List Span → Span → List Span → List (List Choice)
descend_at choices earlier outer later =
    map (descended choices outer) (filter (may_replace outer) (below (length earlier ∷ []) (length earlier + 1) later))

abbrev pub descend : List Choice → List Span → List (List Choice)
descend choices spans = at_each (descend_at choices) [] spans
