-- Spans as regions of the choices.
use Rattle.std.specs.Prelude.{Bool, nat_eq, nat_lt, ◌&&◌, List, [], ◌++◌, take, drop}
use Rattle.std.specs.List.{filter}
use Rattle.pt_choice.specs.declared.choice.Choice.{Choice}
use Rattle.pt_case.specs.declared.span.Span.{Span}
use Rattle.pt_cand.specs.Each.{each_once}

-- there is a choice in it
abbrev pub is_region : Span → Bool
is_region span = nat_lt span.from span.to

-- they begin and end at the same places
abbrev pub same_ends : Span → Span → Bool
same_ends one other = nat_eq one.from other.from && nat_eq one.to other.to

-- the nonempty spans after these, each two ends once
abbrev pub regions_after : List Span → List Span → List Span
regions_after earlier spans = filter is_region (each_once same_ends earlier spans)

-- the nonempty spans in order, but for those with the two ends of an earlier one
abbrev pub regions : List Span → List Span
regions spans = regions_after [] spans

-- the choices of a span, those before it, and those after it
abbrev pub inside : Span → List Choice → List Choice
inside span choices = drop span.from (take span.to choices)

abbrev pub before : Span → List Choice → List Choice
before span choices = take span.from choices

abbrev pub after : Span → List Choice → List Choice
after span choices = drop span.to choices

-- the choices with those of a span left out
abbrev pub without : List Choice → Span → List Choice
without choices span = before span choices ++ after span choices
