-- What comes of another choice at one place of a failing record.
use Rattle.std.specs.Prelude.{◌≡◌, ◌≢◌, ℕ, Some, List, slice_get, slice_set}
use Rattle.pt_choice.specs.declared.choice.Choice.{Choice}
use Rattle.pt_case.specs.Step.{Answer}
use Rattle.pt_case.specs.Run.{IsRecord}
use Rattle.pt_case.specs.declared.record.Record.{Record}

-- the record has this other choice at the place
pub record IsMoved (best : Record) (place : ℕ) (rec : Record) (choice : Choice) : Type 0 where
  pub there : slice_get rec.choices place ≡ Some choice
  pub other : slice_get best.choices place ≢ Some choice

-- the record has no other choice at the place
abbrev pub IsUnmoved : Record → ℕ → Record → Type 0
IsUnmoved best place rec = (choice : Choice) → slice_get rec.choices place ≡ Some choice → slice_get best.choices place ≡ Some choice

-- The member counts: with it at the place, the choices leave this record, which has this other choice there.
pub record Counts (step : List Choice → Answer → Type 0) (best : Record) (place : ℕ) (member : Choice) (rec : Record) (choice : Choice) : Type 0 where
  pub is : IsRecord step (slice_set best.choices place member) rec
  pub moved : IsMoved best place rec choice

-- It does not count: the record has no other choice there, since the member was made to fit.
pub record IsRepaired (step : List Choice → Answer → Type 0) (best : Record) (place : ℕ) (member : Choice) : Type 0 where
  pub rec : Record
  pub is : IsRecord step (slice_set best.choices place member) rec
  pub unmoved : IsUnmoved best place rec

-- it counts, and its record fails with the same origin
pub record FailsAlike (step : List Choice → Answer → Type 0) (best : Record) (place : ℕ) (member : Choice) : Type 0 where
  pub rec : Record
  pub choice : Choice
  pub counts : Counts step best place member rec choice
  pub alike : rec.ending ≡ best.ending

-- it counts with this choice, and its record does not fail with the same origin
pub record Differs (step : List Choice → Answer → Type 0) (best : Record) (place : ℕ) (member choice : Choice) : Type 0 where
  pub rec : Record
  pub counts : Counts step best place member rec choice
  pub unlike : rec.ending ≢ best.ending
