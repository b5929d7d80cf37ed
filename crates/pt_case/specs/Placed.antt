-- Which spans stand in a record.
use Rattle.std.specs.Prelude.{◌≡◌, ℕ, ◌<◌, ◌≤◌, Some, List, slice_get}
use Rattle.pt_case.specs.declared.span.Span.{Span}

-- the span of this number begins before it ends, ends among so many choices, and has an earlier parent
pub record IsPlaced (number count : ℕ) (span : Span) : Type 0 where
  pub begins : span.from ≤ span.to
  pub ends : span.to ≤ count
  pub earlier : (parent : ℕ) → span.parent ≡ Some parent → parent < number

-- each span is placed so
abbrev pub ArePlaced : ℕ → List Span → Type 0
ArePlaced count spans = (number : ℕ) (span : Span) → slice_get spans number ≡ Some span → IsPlaced number count span
