-- What a command needs, and what is left of one that found no memory.
use Rattle.std.proofs.Common.{◌≡◌, ◌⊎◌, inl, inr, ℕ, List, Result, Ok, Err, OnErr, subst, Global}
use Rattle.std.specs.Prelude.{String, map}
use Rattle.pt_choice.specs.declared.choice.Choice.{Choice}
use Rattle.pt_ast.specs.Trees.{SuiteTree}
use Rattle.pt_case.specs.Step.{Answer}
use Rattle.pt_turns.specs.Finishes.{StoppedShort}
use Rattle.pt_commands.specs.Command.{asked_by}
use Rattle.pt_run.specs.Ends.{EndsShort}
use Rattle.pt_run.specs.Outside.{Outside, scene_of}
use Rattle.pt_run.specs.Suite.{IsTaken}
use Rattle.pt_commands.specs.Words.{Asks, AsksRun}
use Rattle.pt_commands.specs.declared.command.Command.{Command}

-- the words ask for what the command that was found asks for
pub asks_of : (words : List (String Global)) (command other : Command) → command ≡ other → Asks words (asked_by command) → Asks words (asked_by other)
asks_of words command other same asks = subst (λ (c : Command). Asks words (asked_by c)) same asks

-- two things hold after an error, if one does and the other holds anyway
pub err-both : {T E : Type 0} (result : Result T E) (P Q X : Type 0) → OnErr result P → Q → OnErr result ((P × Q) ⊎ X)
err-both (Ok value) P Q X holds also = tt
err-both (Err error) P Q X holds also = inl (holds, also)

-- what holds after an error where the folder was settled
pub err-settled : {T E : Type 0} (result : Result T E) (A S N B Q X : Type 0) → S → OnErr result N → OnErr result B → OnErr result Q →
    OnErr result (A ⊎ ((S × N × B × Q) ⊎ X))
err-settled (Ok value) A S N B Q X asks nothing settled quiet = tt
err-settled (Err error) A S N B Q X asks nothing settled quiet = inr (inl (asks, nothing, settled, quiet))

module _ {C : Type 0} (name : C → List ℕ) (step : C → List Choice → Answer → Type 0) (checks : List C) where
  -- what a run leaves of a call
  pub run-short : {T E : Type 0} (result : Result T E) (words : List (String Global)) (before after : Outside) (A B : Type 0) (file : List ℕ) (seed workers : ℕ) →
      AsksRun words file seed workers →
      OnErr result (A ⊎ ((suite : SuiteTree) × IsTaken (map name checks) before.files after.files file suite
      × StoppedShort name step checks seed suite.items (scene_of before) (scene_of after))) →
      OnErr result (A ⊎ (B ⊎ EndsShort name step checks words before after))
  run-short (Ok value) words before after A B file seed workers asks short = tt
  run-short (Err error) words before after A B file seed workers asks (inl still) = inl still
  run-short (Err error) words before after A B file seed workers asks (inr (suite, taken, stopped)) = inr (inr (record {
    file = file;
    seed = seed;
    workers = workers;
    asks = asks;
    suite = suite;
    taken = taken;
    stopped = stopped;
  }))
