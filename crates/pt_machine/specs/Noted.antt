-- What the steps of a machine note. It shares with what they do only in which world a run begins, when a rule is enabled, and how names,
-- states and bundles change.
use Rattle.std.specs.Prelude.{◌≡◌, ◌⊎◌, ℕ, zero, suc, Bool, true, false, Ok, List, [], ◌∷◌, codes}
use Rattle.std.specs.List.{All, Contains}
use Rattle.pt_val.specs.declared.val.Val.TheVariants as val
use Rattle.pt_case.specs.declared.note.Note.{Note}
use Rattle.pt_ast.specs.Trees.{InvariantTree, RuleTree, MachineTree}
use Rattle.pt_strat.specs.declared.world.World.{World}
use Rattle.pt_prop.specs.Noted.{Holds, AreNoted}
use Rattle.pt_machine.specs.World.{first_world}
use Rattle.pt_machine.specs.Enabled.{is_enabled}
use Rattle.pt_machine.specs.Machine.{left_by}

-- the invariants are true in this world
abbrev pub HoldIn : List InvariantTree → World → Type 0
HoldIn invariants world = All (λ invariant. Holds invariant.cond world.env) invariants

-- the rule is one of these and is enabled in this world
abbrev pub IsEnabledOf : List RuleTree → World → RuleTree → Type 0
IsEnabledOf rules world rule = Contains rules rule × (is_enabled rule world ≡ Ok true)

-- the note tells a step by this rule
abbrev pub TellsStep : RuleTree → Note → Type 0
TellsStep rule note = (note.name ≡ codes "step") × (note.val ≡ val.Text rule.name.name)

-- The statements of a step from the one world came to the other: the invariants are true in what stays of it, and these are notes of what is
-- done from there. A run that does not pass may end before that.
abbrev pub AreNotesAfter : Bool → List InvariantTree → (World → List Note → Type 0) → World → World → List Note → Type 0
AreNotesAfter passed invariants Rest before after notes =
    ((passed ≡ false) × (notes ≡ [])) ⊎ (HoldIn invariants (left_by before after) × Rest (left_by before after) notes)

-- These are notes of at most so many steps from this world: first that of a rule that is enabled in it, then those of its statements, and
-- then those of what is done after them.
abbrev pub AreStepNotes : Bool → MachineTree → ℕ → World → List Note → Type 0
AreStepNotes passed machine steps world [] = Unit {0}
AreStepNotes passed machine zero world (note ∷ notes) = ⊥
AreStepNotes passed machine (suc steps) world (note ∷ notes) =
    (rule : RuleTree) × IsEnabledOf machine.rules world rule × TellsStep rule note
    × AreNoted passed rule.into rule.stmts (AreNotesAfter passed machine.invariants (AreStepNotes passed machine steps) world) world notes

-- These are notes of a run of at most so many steps, which begins in the first world. One that does not pass may end before that.
abbrev pub AreMachineNotes : Bool → MachineTree → ℕ → List Note → Type 0
AreMachineNotes passed machine steps notes =
    ((passed ≡ false) × (notes ≡ [])) ⊎ ((world : World) × (first_world machine ≡ Ok world) × AreStepNotes passed machine steps world notes)
