-- How steps are made, and follow one another.
use Rattle.std.proofs.Common.{◌≡◌, ℕ, suc, ◌+◌, ◌-◌, ◌<◌, ◌≤◌, Bool, true, Option, Some, None, Ok, Err, List, [], ◌∷◌, length, take, refl, sym, ◌∙◌, ap, arith}
use Rattle.std.specs.Prelude.{slice_get}
use Rattle.pt_case.specs.declared.ending.Ending.{Ending}
use Rattle.pt_case.specs.declared.ending.Ending.TheVariants.{Pass}
use Rattle.pt_case.specs.State.{State, after_leave}
use Rattle.pt_ast.specs.declared.binding.Binding.{Binding}
use Rattle.pt_ast.specs.Trees.{InvariantTree, RuleTree, MachineTree}
use Rattle.pt_plan.specs.declared.stop.DrawStop.{DrawStop}
use Rattle.pt_plan.specs.Asked.{asked_flag}
use Rattle.pt_plan.specs.Halt.{case_halt}
use Rattle.pt_plan.specs.Stop.{draw_halt}
use Rattle.pt_plan.specs.Plan.{Plan, Gives, Enters, Leaves, Notes, and_then, within}
use Rattle.pt_plan.specs.Came.{Drew}
use Rattle.pt_plan.proofs.DrewLemmas.{Leads, leads-new, leads-is, leads-call, leads-entered, leads-left, leads-noted, drew-call, drew-ended}
use Rattle.pt_strat.specs.declared.world.World.{World}
use Rattle.pt_strat.specs.Labels.{node_label, part_label}
use Rattle.pt_strat.specs.Parts.{by_value, given, place_plan}
use Rattle.pt_strat.specs.Statement.{world_of, body_plan}
use Rattle.pt_strat.specs.Valued.{Valued}
use Rattle.pt_strat.proofs.ValueLemmas.{leads-value, drew-value}
use Rattle.pt_machine.specs.World.{held, first_world}
use Rattle.pt_machine.specs.Enabled.{enabled_rules}
use Rattle.pt_machine.specs.Machine.{step_note, left_by, checked, step_plan, step_if, part_plan, turn_plan, or_passed, steps_plan, machine_plan}

-- what follows a step's statements
abbrev after-body : List InvariantTree → World → World → Plan World
after-body invariants world after = checked invariants (left_by world after)

-- a step: after its note
module _ (invariants : List InvariantTree) (rule : RuleTree) (world : World) {old : State} where
  module _ {mid : State} (noted : Drew {A = Unit {0}} draw_halt (Notes (step_note rule.name.name) (Gives tt)) old mid (Ok tt)) where
    step-begun : Leads (step_plan invariants rule world) old (and_then (body_plan rule.into rule.stmts world) (after-body invariants world)) mid
    step-begun = leads-noted noted (leads-new (step_plan invariants rule world) old)

    pub step-failed : {new : State} {why : DrawStop} → Drew draw_halt (body_plan rule.into rule.stmts world) mid new (Err why) →
        Drew draw_halt (step_plan invariants rule world) old new (Err why)
    step-failed drew = drew-call drew (after-body invariants world) step-begun

    -- after its statements
    module _ {new : State} (after : World) (env : List Binding) (ran : Drew draw_halt (body_plan rule.into rule.stmts world) mid new (Ok after))
        (left : env ≡ take (length world.env) after.env) where
      step-left : Leads (step_plan invariants rule world) old (checked invariants (world_of env after.bundles)) new
      step-left = leads-is (leads-call ran (after-body invariants world) step-begun) (ap (λ e. checked invariants (world_of e after.bundles)) (sym left))

      pub step-broken : {why : DrawStop} → Valued {A = Unit {0}} (held invariants env) (Err why) → Drew draw_halt (step_plan invariants rule world) old new (Err why)
      step-broken is = drew-value (held invariants env) is (λ (u : Unit {0}). Gives (world_of env after.bundles)) step-left

      pub step-held : Valued {A = Unit {0}} (held invariants env) (Ok tt) → Drew draw_halt (step_plan invariants rule world) old new (Ok (world_of env after.bundles))
      step-held is = drew-ended (leads-value (held invariants env) is (λ (u : Unit {0}). Gives (world_of env after.bundles)) step-left)

-- a step by the rule of this number
abbrev by-place : List InvariantTree → List RuleTree → World → ℕ → Plan (Option World)
by-place invariants rules world place = and_then (given (slice_get rules place)) (λ rule. and_then (step_plan invariants rule world) (λ next. Gives (Some next)))

-- a step by one of some rules
module _ (invariants : List InvariantTree) (rules : List RuleTree) (world : World) {old : State} where
  module _ (more : Bool) (is : more ≡ true) (count : ℕ) (many : count ≡ length rules) where
    choice-due : Leads (step_if invariants rules world more) old (and_then (place_plan count) (by-place invariants rules world)) old
    choice-due = leads-is (leads-new (step_if invariants rules world more) old)
        (ap (step_if invariants rules world) is ∙ ap (λ n. and_then (place_plan n) (by-place invariants rules world)) (sym many))

    module _ {mid : State} (place : ℕ) (drew : Drew draw_halt (place_plan count) old mid (Ok place)) (rule : RuleTree) (at : slice_get rules place ≡ Some rule) where
      step-due : Leads (step_if invariants rules world more) old (and_then (step_plan invariants rule world) (λ next. Gives (Some next))) mid
      step-due = leads-is (leads-call drew (by-place invariants rules world) choice-due)
          (ap (λ one. and_then (given one) (λ rule. and_then (step_plan invariants rule world) (λ next. Gives (Some next)))) at)

      pub chosen-failed : {new : State} {why : DrawStop} → Drew draw_halt (step_plan invariants rule world) mid new (Err why) →
          Drew draw_halt (step_if invariants rules world more) old new (Err why)
      chosen-failed failed = drew-call failed (λ next. Gives (Some next)) step-due

      pub chosen-made : {new : State} {next : World} → Drew draw_halt (step_plan invariants rule world) mid new (Ok next) →
          Drew draw_halt (step_if invariants rules world more) old new (Ok (Some next))
      chosen-made made = drew-ended (leads-call made (λ next. Gives (Some next)) step-due)

-- a turn, where these rules are enabled
part-some : (machine : MachineTree) (world : World) (rules : List RuleTree) → 1 ≤ length rules →
    part_plan machine world rules ≡ within (part_label machine.num) (and_then (asked_flag 14) (step_if machine.invariants rules world))
part-some machine world [] some = absurd (omega (arith, some))
part-some machine world (first ∷ others) some = refl

module _ (machine : MachineTree) (world : World) (rules : List RuleTree) {old : State} (are : Valued (enabled_rules machine.rules world) (Ok rules)) where
  turn-by : Leads (turn_plan machine world) old (part_plan machine world rules) old
  turn-by = leads-value (enabled_rules machine.rules world) are (part_plan machine world) (leads-new (turn_plan machine world) old)

  module _ (some : 1 ≤ length rules) {label : ℕ} (is : label ≡ part_label machine.num) where
    part-due : Leads (turn_plan machine world) old (within label (and_then (asked_flag 14) (step_if machine.invariants rules world))) old
    part-due = leads-is turn-by
        (part-some machine world rules some ∙ ap (λ l. within l (and_then (asked_flag 14) (step_if machine.invariants rules world))) (sym is))

    module _ {mid : State} (entered : Drew {A = Unit {0}} case_halt (Enters label (Gives tt)) old mid (Ok tt)) where
      abbrev asked-then : Bool → Plan (Option World)
      asked-then more = and_then (step_if machine.invariants rules world more) (λ next. Leaves (Gives next))

      turn-asked : Leads (turn_plan machine world) old (and_then (asked_flag 14) asked-then) mid
      turn-asked = leads-entered entered part-due

      module _ {after : State} (more : Bool) (drew : Drew case_halt (asked_flag 14) mid after (Ok more)) where
        turn-if : Leads (turn_plan machine world) old (asked-then more) after
        turn-if = leads-call drew asked-then turn-asked

        pub turn-failed : {new : State} {why : DrawStop} → Drew draw_halt (step_if machine.invariants rules world more) after new (Err why) →
            Drew draw_halt (turn_plan machine world) old new (Err why)
        turn-failed failed = drew-call failed (λ next. Leaves (Gives next)) turn-if

        pub turn-ended : {late new : State} {next : Option World} → Drew draw_halt (step_if machine.invariants rules world more) after late (Ok next) →
            new ≡ after_leave late → Drew draw_halt (turn_plan machine world) old new (Ok next)
        turn-ended made left = drew-ended (leads-left left (leads-call made (λ next. Leaves (Gives next)) turn-if))

-- while turns are left, a step is next
pub next-turn : {plan : Plan Ending} {old now : State} (machine : MachineTree) (world : World) (turns turn : ℕ) → turn < turns →
    Leads plan old (steps_plan machine (turns - turn) world) now →
    Leads plan old (and_then (turn_plan machine world) (or_passed (λ next. steps_plan machine (turns - (turn + 1)) next))) now
next-turn machine world turns turn left way =
    let one : turns - turn ≡ suc (turns - (turn + 1)) = omega (arith, left) in leads-is way (ap (λ count. steps_plan machine count world) one)

-- what follows a step that was made, and a run without one
pub turn-on : {plan : Plan Ending} {old now new : State} (machine : MachineTree) (turns : ℕ) (world next : World) →
    Leads plan old (and_then (turn_plan machine world) (or_passed (λ next. steps_plan machine turns next))) now →
    Drew draw_halt (turn_plan machine world) now new (Ok (Some next)) → Leads plan old (steps_plan machine turns next) new
turn-on machine turns world next way drew = leads-call drew (or_passed (λ next. steps_plan machine turns next)) way

pub turn-off : {plan : Plan Ending} {old now new : State} (machine : MachineTree) (turns : ℕ) (world : World) →
    Leads plan old (and_then (turn_plan machine world) (or_passed (λ next. steps_plan machine turns next))) now →
    Drew draw_halt (turn_plan machine world) now new (Ok None) → Drew draw_halt plan old new (Ok Pass)
turn-off machine turns world way drew = drew-ended (leads-call drew (or_passed (λ next. steps_plan machine turns next)) way)

-- in the span of a run, where it began
module _ (machine : MachineTree) (steps : ℕ) (world : World) (is : Valued (first_world machine) (Ok world)) {label : ℕ} (same : label ≡ node_label machine.num)
    {old mid : State} (entered : Drew {A = Unit {0}} case_halt (Enters label (Gives tt)) old mid (Ok tt)) where
  run-begun : Leads (machine_plan machine steps) old (and_then (steps_plan machine steps world) (λ ending. Leaves (Gives ending))) mid
  run-begun = leads-is (leads-entered (rw same at entered) (leads-new (machine_plan machine steps) old))
      (ap (λ found. and_then (by_value found (steps_plan machine steps)) (λ ending. Leaves (Gives ending))) is.answers)

  pub run-failed : {new : State} {why : DrawStop} → Drew draw_halt (steps_plan machine steps world) mid new (Err why) →
      Drew draw_halt (machine_plan machine steps) old new (Err why)
  run-failed failed = drew-call failed (λ ending. Leaves (Gives ending)) run-begun

  pub run-ended : {late new : State} {ending : Ending} → Drew draw_halt (steps_plan machine steps world) mid late (Ok ending) → new ≡ after_leave late →
      Drew draw_halt (machine_plan machine steps) old new (Ok ending)
  run-ended ended left = drew-ended (leads-left left (leads-call ended (λ ending. Leaves (Gives ending)) run-begun))
