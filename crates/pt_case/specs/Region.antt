-- Spans, while a case runs and as a record shows them.
use Rattle.std.specs.Prelude.{ℕ, suc, Bool, Option, Some, None, unwrap_or, is_none, is_some, List, [], ◌∷◌, map, if◌then◌else◌}
use Rattle.std.specs.Option.{option_or, option_map}
use Rattle.pt_case.specs.declared.span.Span.{Span}
use Rattle.pt_case.specs.declared.region.Region.{Region}

-- the span was not left yet
abbrev pub is_open : Region → Bool
is_open region = is_none region.to

-- the span, which ends here where it is still open
abbrev pub ended : ℕ → Region → Span
ended here region = record { label = region.label; from = region.from; to = unwrap_or region.to here; parent = region.parent }

-- the spans, of which the open ones end here
abbrev pub spans_at : ℕ → List Region → List Span
spans_at here regions = map (ended here) regions

-- the number of the innermost open span, which is the last open one
abbrev pub innermost : List Region → Option ℕ
innermost [] = None
innermost (region ∷ regions) = option_or (option_map suc (innermost regions)) (if is_open region then Some 0 else None)

-- the innermost open span ends here
abbrev pub leave_innermost : ℕ → List Region → List Region
leave_innermost here [] = []
leave_innermost here (region ∷ regions) =
    if is_some (innermost regions) then region ∷ leave_innermost here regions else record region { to = Some here } ∷ regions
