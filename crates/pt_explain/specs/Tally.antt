-- What the code has of a place while its members are tried.
use Rattle.std.specs.Prelude.{◌≡◌, ◌≢◌, ℕ, ◌≤◌, MatchOption, Some, List, length, slice_get}
use Rattle.pt_choice.specs.declared.choice.Choice.{Choice}
use Rattle.pt_case.specs.Step.{Answer}
use Rattle.pt_case.specs.declared.record.Record.{Record}
use Rattle.pt_explain.specs.declared.effect.Effect.{Effect}
use Rattle.pt_explain.specs.declared.effect.Effect.TheVariants as effect
use Rattle.pt_explain.specs.declared.mark.Mark.{Mark}
use Rattle.pt_explain.specs.declared.place.Tally.{Tally}
use Rattle.pt_explain.specs.declared.place.Marked.{Marked}
use Rattle.pt_explain.specs.Others.{others}
use Rattle.pt_explain.specs.Replaced.{IsMoved, IsUnmoved, IsRepaired, FailsAlike, Differs}
use Rattle.pt_explain.specs.Mark.{AllAlike, IsMark}
use Rattle.pt_explain.specs.Together.{IsFirst, StandsAt}

-- what one member comes to
abbrev pub HasEffect : (List Choice → Answer → Type 0) → Record → ℕ → Choice → Effect → Type 0
HasEffect step best place member effect.Repaired = IsRepaired step best place member
HasEffect step best place member effect.Alike = FailsAlike step best place member
HasEffect step best place member (effect.Differs choice) = Differs step best place member choice

-- all of these were tried and none differs, so many count, and the first that does is known
pub record IsTally (step : List Choice → Answer → Type 0) (best : Record) (place : ℕ) (members : List Choice) (tally : Tally) : Type 0 where
  pub alike : AllAlike step best place members tally.tried
  pub first : MatchOption tally.first (tally.tried ≡ 0) (λ member. (1 ≤ tally.tried) × IsFirst step best place members member)

-- the place is marked, and this choice stands there when all free ones are replaced
abbrev pub IsMarked : (List Choice → Answer → Type 0) → Record → ℕ → Choice → Marked → Type 0
IsMarked step best place given marked = IsMark step best place (others given) marked.mark × StandsAt step best place given marked.mark marked.choice

-- what a record shows of its choice at the place
abbrev pub Shows : Record → ℕ → Record → Effect → Type 0
Shows best place rec effect.Repaired = IsUnmoved best place rec
Shows best place rec effect.Alike = (choice : Choice) × IsMoved best place rec choice × (rec.ending ≡ best.ending)
Shows best place rec (effect.Differs choice) = IsMoved best place rec choice × (rec.ending ≢ best.ending)

-- so many places are marked, and these choices stand there when all free ones are replaced
pub record AreMarked (step : List Choice → Answer → Type 0) (best : Record) (count : ℕ) (marks : List Mark) (list : List Choice) : Type 0 where
  pub as_many : length marks ≡ count
  pub as_long : length list ≡ count
  pub marked : (place : ℕ) (given : Choice) (mark : Mark) → slice_get best.choices place ≡ Some given → slice_get marks place ≡ Some mark →
      IsMark step best place (others given) mark
  pub stands : (place : ℕ) (given : Choice) (mark : Mark) (choice : Choice) → slice_get best.choices place ≡ Some given →
      slice_get marks place ≡ Some mark → slice_get list place ≡ Some choice → StandsAt step best place given mark choice
