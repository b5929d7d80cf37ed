-- Spans as the tests write them.
use Rattle.std.specs.Prelude.{ℕ, Option}
use Rattle.pt_case.specs.declared.span.Span.{Span}

-- a span of these fields
abbrev pub span : ℕ → ℕ → ℕ → Option ℕ → Span
span label from to parent = record { label = label; from = from; to = to; parent = parent }
