-- What every case keeps.
use Rattle.std.specs.Prelude.{◌≡◌, ℕ, ◌≤◌, true, Option, Some, List, length, take, slice_get, All}
use Rattle.pt_choice.specs.declared.choice.Choice.{Choice}
use Rattle.pt_case.specs.declared.region.Region.{Region}
use Rattle.pt_choice.specs.Limits.{IsInLimits}
use Rattle.pt_case.specs.Placed.{ArePlaced}
use Rattle.pt_case.specs.Region.{is_open, innermost, spans_at}

-- the parent of an open span is the innermost of those open before it
abbrev pub AreNested : List Region → Type 0
AreNested regions = (number : ℕ) (region : Region) → slice_get regions number ≡ Some region →
    is_open region ≡ true → region.parent ≡ innermost (take number regions)

-- The choices and the spans would make a record, and the innermost open span is known.
pub record IsKept (choices : List Choice) (regions : List Region) (open_now : Option ℕ) : Type 0 where
  pub few_choices : length choices ≤ 256
  pub in_limits : All IsInLimits choices
  pub few_regions : length regions ≤ 1024
  pub placed : ArePlaced (length choices) (spans_at (length choices) regions)
  pub known : open_now ≡ innermost regions
  pub nested : AreNested regions
