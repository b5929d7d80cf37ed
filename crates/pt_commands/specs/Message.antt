-- What a call of the program has to say but for the report on a suite's items, and what it writes then.
use Rattle.std.specs.Prelude.{◌≡◌, ◌≤◌, ◌⊎◌, ℕ, All, Contains, List, [], ◌∷◌, length, Option, Some, None, IfSome, if◌then◌else◌, ⊤}
use Rattle.pt_case.specs.Ending.{is_failure}
use Rattle.pt_case.specs.declared.record.Record.{Record}
use Rattle.pt_choice.specs.Faults.{Rose}
use Rattle.pt_io.specs.Sink.{Written, Appends, AppendsPart}
use Rattle.pt_report.specs.Explaining.{IsPrintable}
use Rattle.pt_report.specs.Listing.{IsListing}
use Rattle.pt_report.specs.Refusals.{refusal_text}
use Rattle.pt_report.specs.Report.{IsReplay}
use Rattle.pt_report.specs.declared.refusal.Refusal.{Refusal}
use Rattle.pt_report.specs.declared.refusal.Refusal.TheVariants as refusal
use Rattle.pt_commands.specs.declared.finish.Finish.{Finish}
use Rattle.pt_commands.specs.declared.message.Message.{Message}
use Rattle.pt_commands.specs.declared.message.Message.TheVariants.{Refused, Replayed, Listed, Marked}
use Rattle.pt_commands.specs.Explaining.{IsExplaining}

abbrev pub refusal_status : Refusal → ℕ
refusal_status refusal.Usage = 2
refusal_status (refusal.Suite at which) = 3
refusal_status refusal.Read = 4
refusal_status refusal.Database = 6
refusal_status refusal.Clash = 8
refusal_status refusal.TooLarge = 9
refusal_status refusal.UnknownItem = 10

-- the values that are listed have no more bytes than a value may have, and the marks are one for each choice and can be printed
abbrev pub IsTellable : Message → Type 0
IsTellable (Refused refusal) = ⊤
IsTellable (Replayed item rec) = ⊤
IsTellable (Listed entries) = All (λ entry. length entry.bytes ≤ 65536) entries
IsTellable (Marked item rec explained) =
    IfSome explained (λ e. (length e.marks ≡ length rec.choices) × All IsPrintable e.marks)

-- this is the text of the message
abbrev pub IsText : Message → List ℕ → Type 0
IsText (Refused refusal) text = text ≡ refusal_text refusal
IsText (Replayed item rec) text = IsReplay item rec text
IsText (Listed entries) text = IsListing entries text
IsText (Marked item rec explained) text = IsExplaining item rec explained text

-- the record that a replay was asked for, if one was
abbrev pub replayed_of : Message → Option Record
replayed_of (Refused refusal) = None
replayed_of (Replayed item rec) = Some rec
replayed_of (Listed entries) = None
replayed_of (Marked item rec explained) = None

abbrev pub status_of : Message → ℕ
status_of (Refused refusal) = refusal_status refusal
status_of (Replayed item rec) = if is_failure rec.ending then 1 else 0
status_of (Listed entries) = 0
status_of (Marked item rec explained) = if is_failure rec.ending then 1 else 0

-- a call ends with one of these statuses, and no other
abbrev pub IsStatus : ℕ → Type 0
IsStatus status = Contains (0 ∷ 1 ∷ 2 ∷ 3 ∷ 4 ∷ 5 ∷ 6 ∷ 8 ∷ 9 ∷ 10 ∷ []) status

-- the message was written whole, with its status, and no call of the sink failed
pub record TellsAll (message : Message) (text : List ℕ) (finish : Finish) (old new : Written) : Type 0 where
  pub quiet : new.faults ≡ old.faults
  pub status : finish.status ≡ status_of message
  pub replayed : finish.replayed ≡ replayed_of message
  pub written : Appends old.bytes text new.bytes

-- the sink failed after a first part of the message
pub record TellsPart (text : List ℕ) (finish : Finish) (old new : Written) : Type 0 where
  pub status : finish.status ≡ 5
  pub replayed : finish.replayed ≡ None
  pub cause : Rose old.faults new.faults
  pub written : AppendsPart old.bytes text new.bytes

-- What is left of a call that has this message.
pub record Tells (message : Message) (finish : Finish) (old new : Written) : Type 0 where
  pub findings : finish.findings ≡ []
  pub clash : finish.clash ≡ None
  pub text : List ℕ
  pub is_text : IsText message text
  pub told : TellsAll message text finish old new ⊎ TellsPart text finish old new
