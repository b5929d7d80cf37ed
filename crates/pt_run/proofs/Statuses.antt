-- The statuses that a call ends with.
use Rattle.std.proofs.Common.{◌≡◌, ◌⊎◌, inl, inr, ℕ, Bool, true, false, List, refl, sym, subst, lit<, arith, if◌then◌else◌}
use Rattle.std.specs.Prelude.{◌↔◌, Option, Some, None, IsSome}
use Rattle.pt_choice.specs.Faults.{Rose}
use Rattle.pt_choice.specs.declared.choice.Choice.{Choice}
use Rattle.pt_ast.specs.Trees.{ItemTree, SuiteTree}
use Rattle.pt_case.specs.Ending.{is_failure}
use Rattle.pt_case.specs.Step.{Answer}
use Rattle.pt_edits.specs.declared.stop.TwoValues.{TwoValues}
use Rattle.pt_io.specs.Files.{Shown}
use Rattle.pt_io.specs.Sink.{Written, Appends, AppendsPart}
use Rattle.pt_report.specs.Report.{summary}
use Rattle.pt_report.specs.declared.refusal.Refusal.{Refusal}
use Rattle.pt_report.specs.declared.refusal.Refusal.TheVariants as refusal
use Rattle.pt_turns.specs.Finishes as turns
use Rattle.pt_turns.specs.Scene.{DiskShown, Scene}
use Rattle.pt_commands.specs.declared.finish.Finish.{Finish}
use Rattle.pt_commands.specs.declared.message.Message.{Message}
use Rattle.pt_commands.specs.declared.message.Message.TheVariants.{Refused, Replayed, Listed, Marked}
use Rattle.pt_commands.specs.Ends.{Lists}
use Rattle.pt_run.specs.Ends.{Ends, Explains, OnSuite, Says, reported_of}
use Rattle.pt_commands.specs.Message.{IsStatus, Tells, TellsAll, TellsPart, refusal_status, status_of}
use Rattle.pt_run.specs.Outside.{Outside}
use Rattle.pt_run.specs.Suite.{IsTurnedDown}
use Rattle.pt_commands.specs.Words.{Asked, Run, Replay, Stored, Make, Explain}

-- one of the statuses, but that of a clash
abbrev IsPlain : ℕ → Type 0
IsPlain status = IsStatus status × (status ≡ 8 → ⊥)

-- the status of a clash with its two values, or a plain one with none
abbrev pub EndsAs : Finish → Type 0
EndsAs finish =
    ((finish.clash ≡ None) × IsPlain finish.status) ⊎ ((two : TwoValues) × (finish.clash ≡ Some two) × (finish.status ≡ 8))

is_0 : IsPlain 0
is_0 = ((0, lit< tt, refl), λ is. absurd (omega (arith, is)))

is_1 : IsPlain 1
is_1 = ((1, lit< tt, refl), λ is. absurd (omega (arith, is)))

is_2 : IsPlain 2
is_2 = ((2, lit< tt, refl), λ is. absurd (omega (arith, is)))

is_3 : IsPlain 3
is_3 = ((3, lit< tt, refl), λ is. absurd (omega (arith, is)))

is_4 : IsPlain 4
is_4 = ((4, lit< tt, refl), λ is. absurd (omega (arith, is)))

is_5 : IsPlain 5
is_5 = ((5, lit< tt, refl), λ is. absurd (omega (arith, is)))

is_6 : IsPlain 6
is_6 = ((6, lit< tt, refl), λ is. absurd (omega (arith, is)))

is_9 : IsPlain 9
is_9 = ((8, lit< tt, refl), λ is. absurd (omega (arith, is)))

is_10 : IsPlain 10
is_10 = ((9, lit< tt, refl), λ is. absurd (omega (arith, is)))

of_passed : (passed : Bool) → IsPlain (if passed then 0 else 1)
of_passed true = is_0
of_passed false = is_1

of_failed : (failed : Bool) → IsPlain (if failed then 1 else 0)
of_failed true = is_1
of_failed false = is_0

-- a status that is a plain one is plain
plain : (status other : ℕ) → status ≡ other → IsPlain other → IsPlain status
plain status other is here = subst (λ (s : ℕ). IsPlain s) (sym is) here

-- why no suite was taken has a status
turned_down : (known : List (List ℕ)) (old new : Shown) (file : List ℕ) (said : Refusal) → IsTurnedDown known old new file said → IsPlain (refusal_status said)
turned_down known old new file refusal.Usage is = absurd is
turned_down known old new file (refusal.Suite at which) is = is_3
turned_down known old new file refusal.Read is = is_4
turned_down known old new file refusal.Database is = absurd is
turned_down known old new file refusal.Clash is = absurd is
turned_down known old new file refusal.TooLarge is = is_9
turned_down known old new file refusal.UnknownItem is = absurd is

-- what is told has the status of its message, or that of a failed output
told_as : (message : Message) (finish : Finish) (old new : Written) → IsPlain (status_of message) → Tells message finish old new → EndsAs finish
told_as message finish old new status tells = inl (tells.clash, of_told tells.told)
  where
    of_told : TellsAll message tells.text finish old new ⊎ TellsPart tells.text finish old new → IsPlain finish.status
    of_told (inl all) = plain finish.status (status_of message) all.status status
    of_told (inr part) = plain finish.status 5 part.status is_5

pub usage_as : (finish : Finish) (old new : Written) → Tells (Refused refusal.Usage) finish old new → EndsAs finish
usage_as finish old new tells = told_as (Refused refusal.Usage) finish old new is_2 tells

listed_status : (old new : DiskShown) (message : Message) → Lists old new message → IsPlain (status_of message)
listed_status old new (Listed entries) lists = is_0
listed_status old new (Replayed shown rec) lists = absurd lists
listed_status old new (Marked shown rec explained) lists = absurd lists
listed_status old new (Refused refusal.Usage) lists = absurd lists
listed_status old new (Refused (refusal.Suite at which)) lists = absurd lists
listed_status old new (Refused refusal.Read) lists = absurd lists
listed_status old new (Refused refusal.Database) lists = is_6
listed_status old new (Refused refusal.Clash) lists = absurd lists
listed_status old new (Refused refusal.TooLarge) lists = absurd lists
listed_status old new (Refused refusal.UnknownItem) lists = absurd lists

module _ {C : Type 0} (name : C → List ℕ) (step : C → List Choice → Answer → Type 0) (checks : List C) where
  said_status : (suite : SuiteTree) (wanted : List ℕ) (list : List Choice) (message : Message) → Says name step checks suite wanted list message →
      IsPlain (status_of message)
  said_status suite wanted list (Replayed shown rec) says = of_failed (is_failure rec.ending)
  said_status suite wanted list (Listed entries) says = absurd says
  said_status suite wanted list (Marked shown rec explained) says = absurd says
  said_status suite wanted list (Refused refusal.UnknownItem) says = is_10
  said_status suite wanted list (Refused refusal.Usage) says = absurd says
  said_status suite wanted list (Refused (refusal.Suite at which)) says = absurd says
  said_status suite wanted list (Refused refusal.Read) says = absurd says
  said_status suite wanted list (Refused refusal.Database) says = absurd says
  said_status suite wanted list (Refused refusal.Clash) says = absurd says
  said_status suite wanted list (Refused refusal.TooLarge) says = absurd says

  marked_status : (suite : SuiteTree) (wanted : List ℕ) (list : List Choice) (message : Message) → Explains name step checks suite wanted list message →
      IsPlain (status_of message)
  marked_status suite wanted list (Marked shown rec explained) says = of_failed (is_failure rec.ending)
  marked_status suite wanted list (Replayed shown rec) says = absurd says
  marked_status suite wanted list (Listed entries) says = absurd says
  marked_status suite wanted list (Refused refusal.UnknownItem) says = is_10
  marked_status suite wanted list (Refused refusal.Usage) says = absurd says
  marked_status suite wanted list (Refused (refusal.Suite at which)) says = absurd says
  marked_status suite wanted list (Refused refusal.Read) says = absurd says
  marked_status suite wanted list (Refused refusal.Database) says = absurd says
  marked_status suite wanted list (Refused refusal.Clash) says = absurd says
  marked_status suite wanted list (Refused refusal.TooLarge) says = absurd says

  run_as : (seed : ℕ) (items : List ItemTree) (finish : Finish) (old new : Scene) →
      turns.Finishes name step checks seed items (reported_of finish) old new → EndsAs finish
  run_as seed items finish old new (inl whole) =
      inl (whole.no_clash, plain finish.status (turns.status_of finish.findings) whole.ends (of_passed (turns.all_passed finish.findings)))
  run_as seed items finish old new (inr (inl unstored)) = inl (unstored.no_clash, plain finish.status 6 unstored.ends is_6)
  run_as seed items finish old new (inr (inr (inl clashed))) = inr (clashed.two, clashed.shown, clashed.ends)
  run_as seed items finish old new (inr (inr (inr unwritten))) = inl (unwritten.no_clash, plain finish.status 5 unwritten.ends is_5)

  on_suite_as : (file : List ℕ) (Does : SuiteTree → Type 0) (before after : Outside) (finish : Finish) →
      ((suite : SuiteTree) → Does suite → EndsAs finish) → OnSuite name step checks file Does before after finish → EndsAs finish
  on_suite_as file Does before after finish follows (inl (suite, taken, does)) = follows suite does
  on_suite_as file Does before after finish follows (inr (said, turned, tells, same)) =
      told_as (Refused said) finish before.sink after.sink (turned_down _ before.files after.files file said turned) tells

  pub ends_as : (asked : Asked) (before after : Outside) (finish : Finish) → Ends name step checks asked before after finish → EndsAs finish
  ends_as (Run file seed workers) before after finish ends =
      on_suite_as file _ before after finish (λ suite does. run_as seed suite.items finish _ _ does.0) ends
  ends_as (Replay file wanted list) before after finish ends =
      on_suite_as file _ before after finish (λ suite does.
      told_as does.0 finish before.sink after.sink (said_status suite wanted list does.0 does.1) does.2) ends
  ends_as (Explain file wanted list) before after finish ends =
      on_suite_as file _ before after finish (λ suite does.
      told_as does.0 finish before.sink after.sink (marked_status suite wanted list does.0 does.1) does.2) ends
  ends_as Stored before after finish (message, lists, tells) =
      told_as message finish before.sink after.sink (listed_status before.disk after.disk message lists) tells
  ends_as (Make seed count) before after finish sums = inl (sums.clash, of_told sums.told)
    where
      of_told : ((finish.status ≡ turns.status_of finish.findings) × Appends before.sink.bytes (summary finish.findings) after.sink.bytes × (after.sink.faults ≡ before.sink.faults))
          ⊎ ((finish.status ≡ 5) × AppendsPart before.sink.bytes (summary finish.findings) after.sink.bytes × Rose before.sink.faults after.sink.faults) → IsPlain finish.status
      of_told (inl (status, written, quiet)) = plain finish.status (turns.status_of finish.findings) status (of_passed (turns.all_passed finish.findings))
      of_told (inr (status, written, cause)) = plain finish.status 5 status is_5

-- so its status is one of them
pub status_from : (finish : Finish) → EndsAs finish → IsStatus finish.status
status_from finish (inl (none, (is, other))) = is
status_from finish (inr (two, shown, is)) = subst (λ (s : ℕ). IsStatus s) (sym is) (7, lit< tt, refl)

not_some : {A : Type 0} (value : Option A) → value ≡ None → IsSome value → ⊥
not_some None is some = absurd (let none : false ≡ true = some in cc)
not_some (Some it) is some = absurd (let none : Some it ≡ None = is in cc)

-- and it shows two values with that of a clash alone
pub clash_from : (finish : Finish) → EndsAs finish → IsSome finish.clash ↔ (finish.status ≡ 8)
clash_from finish (inl (none, (is, other))) = (λ some. absurd (not_some finish.clash none some), λ same. absurd (other same))
clash_from finish (inr (two, shown, is)) = (λ some. is, λ same. subst (λ (c : Option TwoValues). IsSome c) (sym shown) refl)
