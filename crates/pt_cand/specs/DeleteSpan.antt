-- Each region left out.
use Rattle.std.specs.Prelude.{List, map}
use Rattle.pt_choice.specs.declared.choice.Choice.{Choice}
use Rattle.pt_case.specs.declared.span.Span.{Span}
use Rattle.pt_cand.specs.Region.{regions, without}

abbrev pub delete_span : List Choice → List Span → List (List Choice)
delete_span choices spans = map (without choices) (regions spans)
