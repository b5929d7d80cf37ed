-- What the file of a suite comes to.
use Rattle.std.specs.Prelude.{◌≡◌, ◌≢◌, ◌⊎◌, ℕ, true, Option, Some, None, List, AllPairs}
use Rattle.pt_ast.specs.Plain.{plain_suite}
use Rattle.pt_ast.specs.Sound.{IsSound}
use Rattle.pt_ast.specs.Trees.{SuiteTree}
use Rattle.pt_parse.specs.Suites.{Reads, HasFault}
use Rattle.pt_parse.specs.declared.fault.SuiteFault.{SuiteFault}
use Rattle.pt_parse.specs.declared.fault.SuiteFault.TheVariants as text
use Rattle.pt_typing.specs.Fault.{Fault, Unknown, Twice, Wrong, UnknownCheck}
use Rattle.pt_typing.specs.SuiteFaults.{FaultInSuite}
use Rattle.pt_choice.specs.Faults.{Rose}
use Rattle.pt_io.specs.Files.{Shown, HasBytes, HasNone}
use Rattle.pt_io.specs.Reading.{IsWithinLimit, IsPastLimit}
use Rattle.pt_report.specs.declared.refusal.Refusal.{Refusal}
use Rattle.pt_report.specs.declared.refusal.Refusal.TheVariants as refusal
use Rattle.pt_report.specs.declared.refusal.Word.TheVariants as word
use Rattle.pt_run.specs.declared.loading.Loaded.{Loaded}
use Rattle.pt_run.specs.declared.loading.Loaded.TheVariants.{Taken, Refused}

-- no two of the checks have one name, so that the check that an item asks for is one
abbrev pub HaveOwnNames : {C : Type 0} → (C → List ℕ) → List C → Type 0
HaveOwnNames name checks = AllPairs (λ one other. name one ≢ name other) checks

-- what is said of a fault of a text
abbrev pub text_refusal : SuiteFault → Option Refusal
text_refusal (text.NotUtf8 at) = Some (refusal.Suite at word.NotUtf8)
text_refusal (text.Syntax at) = Some (refusal.Suite at word.Syntax)
text_refusal (text.TooDeep at) = Some (refusal.Suite at word.TooDeep)
text_refusal (text.OutOfRange at) = Some (refusal.Suite at word.OutOfRange)
text_refusal text.NoMemory = None

-- what is said of a fault of names and types
abbrev pub type_refusal : Fault → Refusal
type_refusal (Unknown at) = refusal.Suite at word.Unknown
type_refusal (Twice at) = refusal.Suite at word.Twice
type_refusal (Wrong at) = refusal.Suite at word.Wrong
type_refusal (UnknownCheck at) = refusal.Suite at word.UnknownCheck

-- the text spells no suite, and this is said of its first fault
abbrev pub IsUnread : List ℕ → Refusal → Type 0
IsUnread bytes said = (fault : SuiteFault) × HasFault bytes fault × (text_refusal fault ≡ Some said)

-- the text spells a suite that is not well typed, where checks of these names are handed in, and this is said of its first fault
abbrev pub IsUntyped : List (List ℕ) → List ℕ → Refusal → Type 0
IsUntyped known bytes said =
    (suite : SuiteTree) × (fault : Fault) × Reads bytes suite × FaultInSuite known suite fault × (type_refusal fault ≡ said)

-- the text is that of no suite that can be taken, and this is said of its first fault
abbrev pub IsFaulty : List (List ℕ) → List ℕ → Refusal → Type 0
IsFaulty known bytes said = IsUnread bytes said ⊎ IsUntyped known bytes said

-- the text is that of this suite, which is sound
abbrev pub IsRight : List (List ℕ) → List ℕ → SuiteTree → Type 0
IsRight known bytes suite = Reads bytes suite × IsSound known suite

-- what a text comes to: its suite, or what is said of its first fault
abbrev pub ComesTo : List (List ℕ) → List ℕ → Loaded → Type 0
ComesTo known bytes (Taken suite) = IsRight known bytes (plain_suite suite)
ComesTo known bytes (Refused said) = IsFaulty known bytes said

-- The file was read with no fault: it is the text of this suite, which is sound where checks of these names are handed in.
pub record IsTaken (known : List (List ℕ)) (old new : Shown) (file : List ℕ) (suite : SuiteTree) : Type 0 where
  pub quiet : new.faults ≡ old.faults
  pub read : HasBytes old file (λ bytes. IsWithinLimit bytes × Reads bytes suite)
  pub sound : IsSound known suite

-- No suite was taken, and this is said of it.
abbrev pub IsTurnedDown : List (List ℕ) → Shown → Shown → List ℕ → Refusal → Type 0
-- a call of the files failed, and where they are steady they do not have the file
IsTurnedDown known old new file refusal.Read = Rose old.faults new.faults × (old.steady ≡ true → HasNone old file)
IsTurnedDown known old new file refusal.TooLarge = (new.faults ≡ old.faults) × HasBytes old file IsPastLimit
IsTurnedDown known old new file (refusal.Suite at which) =
    (new.faults ≡ old.faults) × HasBytes old file (λ bytes. IsWithinLimit bytes × IsFaulty known bytes (refusal.Suite at which))
IsTurnedDown known old new file other = ⊥

-- what loading the file came to
abbrev pub IsLoaded : List (List ℕ) → Shown → Shown → List ℕ → Loaded → Type 0
IsLoaded known old new file (Taken suite) = IsTaken known old new file (plain_suite suite)
IsLoaded known old new file (Refused said) = IsTurnedDown known old new file said
