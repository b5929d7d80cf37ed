-- What a machine does.
use Rattle.std.specs.Prelude.{ℕ, zero, suc, Bool, true, false, Option, Some, None, List, [], ◌∷◌, length, slice_get, take, codes, if◌then◌else◌}
use Rattle.pt_val.specs.declared.val.Val.TheVariants as val
use Rattle.pt_case.specs.declared.ending.Ending.{Ending}
use Rattle.pt_case.specs.declared.ending.Ending.TheVariants.{Pass}
use Rattle.pt_case.specs.declared.note.Note.{Note}
use Rattle.pt_ast.specs.Trees.{InvariantTree, RuleTree, MachineTree, BodyTree, Check_of, Property_of, Machine_of}
use Rattle.pt_plan.specs.Asked.{asked_flag}
use Rattle.pt_plan.specs.Plan.{Plan, Gives, Notes, and_then, within}
use Rattle.pt_strat.specs.declared.world.World.{World}
use Rattle.pt_strat.specs.Labels.{node_label, part_label}
use Rattle.pt_strat.specs.Parts.{by_value, given, place_plan}
use Rattle.pt_strat.specs.Statement.{world_of, body_plan}
use Rattle.pt_machine.specs.World.{held, first_world}
use Rattle.pt_machine.specs.Enabled.{enabled_rules}

-- the item is a machine
abbrev pub is_machine : BodyTree → Bool
is_machine Check_of = false
is_machine (Property_of stmts) = false
is_machine (Machine_of machine) = true

abbrev pub step_word : List ℕ
step_word = codes "step"

-- a rule's name as it is shown before its step
abbrev pub step_note : List ℕ → Note
step_note name = record { name = step_word; val = val.Text name }

-- what a rule's statements leave: the states and the bundles, and no name that they bound
abbrev pub left_by : World → World → World
left_by before after = world_of (take (length before.env) after.env) after.bundles

-- the world, where the invariants are true in it
abbrev pub checked : List InvariantTree → World → Plan World
checked invariants world = by_value (held invariants world.env) (λ _. Gives world)

-- a step by this rule: it is noted, its statements are run, and the invariants are to be true after them
abbrev pub step_plan : List InvariantTree → RuleTree → World → Plan World
step_plan invariants rule world =
    Notes (step_note rule.name.name) (and_then (body_plan rule.into rule.stmts world) (λ after. checked invariants (left_by world after)))

-- a step by one of these rules
abbrev pub chosen_step : List InvariantTree → List RuleTree → World → Plan (Option World)
chosen_step invariants rules world = and_then (place_plan (length rules)) (λ place.
    and_then (given (slice_get rules place)) (λ rule. and_then (step_plan invariants rule world) (λ next. Gives (Some next))))

-- where the answer is yes
abbrev pub step_if : List InvariantTree → List RuleTree → World → Bool → Plan (Option World)
step_if invariants rules world more = if more then chosen_step invariants rules world else Gives None

-- one more step of one of these rules, if there is one, in a part of its own with the question before it; there is none where no rule is
abbrev pub part_plan : MachineTree → World → List RuleTree → Plan (Option World)
part_plan machine world [] = Gives None
part_plan machine world (first ∷ others) =
    within (part_label machine.num) (and_then (asked_flag 14) (step_if machine.invariants (first ∷ others) world))

abbrev pub turn_plan : MachineTree → World → Plan (Option World)
turn_plan machine world = by_value (enabled_rules machine.rules world) (part_plan machine world)

-- what follows a step; without one the run passes
abbrev pub or_passed : (World → Plan Ending) → Option World → Plan Ending
or_passed next None = Gives Pass
or_passed next (Some world) = next world

-- at most so many steps from a world
abbrev pub steps_plan : MachineTree → ℕ → World → Plan Ending
steps_plan machine zero world = Gives Pass
steps_plan machine (suc steps) world = and_then (turn_plan machine world) (or_passed (λ next. steps_plan machine steps next))

-- a run in the machine's span: from the world in which it begins, at most so many steps
abbrev pub machine_plan : MachineTree → ℕ → Plan Ending
machine_plan machine steps = within (node_label machine.num) (by_value (first_world machine) (steps_plan machine steps))
