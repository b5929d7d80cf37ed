-- What the steps of a machine note.
use Rattle.std.proofs.Common.{◌≡◌, ℕ, zero, suc, Bool, true, false, Option, Some, None, Result, Ok, Err, List, [], ◌∷◌, inl, inr, refl, sym, subst, arith}
use Rattle.std.specs.Prelude.{slice_get, if◌then◌else◌}
use Rattle.std.specs.List.{All}
use Rattle.std.proofs.lemmas.List.Elements.{All-nil, All-cons, All-head, All-tail, All-weaker}
use Rattle.pt_val.specs.declared.val.Val.{Val}
use Rattle.pt_case.specs.declared.ending.Ending.{Ending}
use Rattle.pt_case.specs.declared.ending.What.TheVariants as what
use Rattle.pt_case.specs.declared.ending.Origin.{Origin}
use Rattle.pt_case.specs.declared.ending.Origin.TheVariants.{Suite}
use Rattle.pt_case.specs.declared.note.Note.{Note}
use Rattle.pt_ast.specs.declared.binding.Binding.{Binding}
use Rattle.pt_ast.specs.Trees.{InvariantTree, RuleTree, MachineTree}
use Rattle.pt_eval.specs.Parts.{truth_of}
use Rattle.pt_eval.specs.Value.{evaluated}
use Rattle.pt_plan.specs.Asked.{asked_flag, flag_in, integer_in}
use Rattle.pt_plan.specs.Plan.{Plan, Gives, Rejects, Faults, Asks, Enters, Leaves, Notes, and_then}
use Rattle.pt_plan.proofs.CameLemmas.{and_then-and_then}
use Rattle.pt_strat.specs.declared.world.World.{World}
use Rattle.pt_strat.specs.Bounds.{count_of}
use Rattle.pt_strat.specs.Parts.{by_value, given}
use Rattle.pt_strat.specs.Statement.{body_plan}
use Rattle.pt_prop.specs.Noted.{Holds, AreNoted}
use Rattle.pt_prop.proofs.NotesLemmas.{NotesOnly, notes-wider}
use Rattle.pt_prop.proofs.NotedLaws.{notes-body}
use Rattle.pt_machine.specs.World.{on_ok, held, first_world}
use Rattle.pt_machine.specs.Enabled.{is_enabled, enabled_rules}
use Rattle.pt_machine.specs.Machine.{step_note, left_by, checked, step_plan, step_if, part_plan, turn_plan, or_passed, steps_plan, machine_plan}
use Rattle.pt_machine.specs.Noted.{IsEnabledOf, AreNotesAfter, AreStepNotes, AreMachineNotes}

-- invariants that are held are true
all-true : (invariants : List InvariantTree) (env : List Binding) (none : Unit {0}) → held invariants env ≡ Ok none →
    All (λ invariant. Holds invariant.cond env) invariants
all-true [] env none is = All-nil (λ (invariant : InvariantTree). Holds invariant.cond env)
all-true (invariant ∷ others) env none is = at (all-true others env none) (evaluated invariant.cond env) refl is
  where
    first-true : (held others env ≡ Ok none → All (λ (i : InvariantTree). Holds i.cond env) others) → (truth : Val) → evaluated invariant.cond env ≡ Ok truth →
        (is_true : Bool) → truth_of truth ≡ is_true → (if is_true then held others env else Err (Suite what.Invariant invariant.at)) ≡ Ok none →
        All (λ (i : InvariantTree). Holds i.cond env) (invariant ∷ others)
    first-true rest truth found true holds later = All-cons (λ (i : InvariantTree). Holds i.cond env) invariant others (truth, found, holds) (rest later)
    first-true rest truth found false holds later = cc

    at : (held others env ≡ Ok none → All (λ (i : InvariantTree). Holds i.cond env) others) → (found : Result Val Origin) → evaluated invariant.cond env ≡ found →
        on_ok found (λ truth. if truth_of truth then held others env else Err (Suite what.Invariant invariant.at)) ≡ Ok none →
        All (λ (i : InvariantTree). Holds i.cond env) (invariant ∷ others)
    at rest (Ok truth) found later = first-true rest truth found (truth_of truth) refl later
    at rest (Err origin) found later = cc

-- one of some rules is one of more
of-more : (first : RuleTree) (others : List RuleTree) (world : World) (rule : RuleTree) → IsEnabledOf others world rule → IsEnabledOf (first ∷ others) world rule
of-more first others world rule is = ((suc is.0.0, omega (arith, is.0.1), is.0.2), is.1)

-- the rules that are found are enabled
all-enabled : (rules : List RuleTree) (world : World) (found : List RuleTree) → enabled_rules rules world ≡ Ok found → All (IsEnabledOf rules world) found
all-enabled [] world found is = let none : [] ≡ found = cc in subst (All (IsEnabledOf [] world)) none (All-nil (IsEnabledOf [] world))
all-enabled (rule ∷ others) world found is =
    at (λ later is. All-weaker (IsEnabledOf others world) (IsEnabledOf (rule ∷ others) world) (of-more rule others world) later (all-enabled others world later is))
    (is_enabled rule world) (enabled_rules others world) refl refl is
  where
    at : ((later : List RuleTree) → enabled_rules others world ≡ Ok later → All (IsEnabledOf (rule ∷ others) world) later) →
        (first : Result Bool Origin) (rest : Result (List RuleTree) Origin) → is_enabled rule world ≡ first → enabled_rules others world ≡ rest →
        on_ok first (λ enabled. on_ok rest (λ later. Ok (if enabled then rule ∷ later else later))) ≡ Ok found → All (IsEnabledOf (rule ∷ others) world) found
    at behind (Err origin) rest first-is rest-is is = cc
    at behind (Ok true) (Err origin) first-is rest-is is = cc
    at behind (Ok false) (Err origin) first-is rest-is is = cc
    at behind (Ok true) (Ok later) first-is rest-is is =
        let same : rule ∷ later ≡ found = cc in subst (All (IsEnabledOf (rule ∷ others) world)) same
        (All-cons (IsEnabledOf (rule ∷ others) world) rule later ((0, omega arith, refl), first-is) (behind later rest-is))
    at behind (Ok false) (Ok later) first-is rest-is is =
        let same : later ≡ found = cc in subst (All (IsEnabledOf (rule ∷ others) world)) same (behind later rest-is)

-- what all of a list are, one by its number is
at-place : {A : Type 0} (Is : A → Type 0) (items : List A) (place : ℕ) (item : A) → All Is items → slice_get items place ≡ Some item → Is item
at-place Is [] place item all is = cc
at-place Is (first ∷ rest) zero item all is = let same : first ≡ item = cc in subst Is same (All-head Is first rest all)
at-place Is (first ∷ rest) (suc place) item all is = at-place Is rest place item (All-tail Is first rest all) is

-- two plans, and then what follows
notes-along : {A B : Type 0} (Are : Bool → List Note → Type 0) (plan : Plan A) (more : A → Plan B) (next : B → Plan Ending) →
    NotesOnly Are (and_then plan (λ value. and_then (more value) next)) → NotesOnly Are (and_then (and_then plan more) next)
notes-along Are plan more next only = subst (NotesOnly Are) (sym (and_then-and_then plan more next)) only

-- a span that is left at the end
notes-left : (Are : Bool → List Note → Type 0) (plan : Plan Ending) → NotesOnly Are plan → NotesOnly Are (and_then plan (λ ending. Leaves (Gives ending)))
notes-left Are (Gives ending) only = only
notes-left Are Rejects only = only
notes-left Are (Faults origin) only = only
notes-left Are (Asks kind more) only = (only.0, λ choice admitted. notes-left Are (more choice) (only.1 choice admitted))
notes-left Are (Enters label more) only = (only.0, notes-left Are more only.1)
notes-left Are (Leaves more) only = notes-left Are more only
notes-left Are (Notes note more) only = notes-left (λ passed rest. Are passed (note ∷ rest)) more only

-- one step from a world, and then what follows from there
module _ (machine : MachineTree) (steps : ℕ) (next : World → Plan Ending)
    (later : (after : World) → NotesOnly (λ passed. AreStepNotes passed machine steps after) (next after)) (world : World) where
  abbrev FromHere : Bool → List Note → Type 0
  FromHere passed notes = AreStepNotes passed machine (suc steps) world notes

  abbrev FromThere : Bool → World → List Note → Type 0
  FromThere passed after notes = AreNotesAfter passed machine.invariants (AreStepNotes passed machine steps) world after notes

  -- the invariants after it
  notes-checked : (after : World) → NotesOnly (λ passed. FromThere passed after) (and_then (checked machine.invariants (left_by world after)) (λ made. Leaves (next made)))
  notes-checked after = at (held machine.invariants (left_by world after).env) refl
    where
      at : (found : Result (Unit {0}) Origin) → held machine.invariants (left_by world after).env ≡ found →
          NotesOnly (λ passed. FromThere passed after) (and_then (by_value found (λ _. Gives (left_by world after))) (λ made. Leaves (next made)))
      at (Ok none) is = notes-wider (λ passed. AreStepNotes passed machine steps (left_by world after)) (λ passed. FromThere passed after) (next (left_by world after))
          (λ passed rest are. inr (all-true machine.invariants (left_by world after).env none is, are)) (later (left_by world after))
      at (Err origin) is = inl (refl, refl)

  -- what follows the answer
  abbrev on-made : Option World → Plan Ending
  on-made made = Leaves (or_passed next made)

  -- what follows the statements of a rule
  abbrev after-body : World → Plan World
  after-body after = checked machine.invariants (left_by world after)

  abbrev FromBody : RuleTree → Bool → List Note → Type 0
  FromBody rule passed notes = AreNoted passed rule.into rule.stmts (FromThere passed) world notes

  -- a step by this rule
  notes-step : (rule : RuleTree) → IsEnabledOf machine.rules world rule →
      NotesOnly FromHere (and_then (and_then (step_plan machine.invariants rule world) (λ made. Gives (Some made))) on-made)
  notes-step rule is =
      let body = body_plan rule.into rule.stmts world in
      notes-wider (FromBody rule) (λ passed rest. FromHere passed (step_note rule.name.name ∷ rest))
      (and_then (and_then (and_then body after-body) (λ made. Gives (Some made))) on-made) (λ passed rest are. (rule, is, (refl, refl), are))
      (notes-along (FromBody rule) (and_then body after-body) (λ made. Gives (Some made)) on-made
      (notes-along (FromBody rule) body after-body (λ made. Leaves (next made))
      (notes-body rule.into rule.stmts FromThere world (λ after. and_then (after-body after) (λ made. Leaves (next made))) notes-checked)))

  -- a step by the rule that was found, if any
  notes-found : (found : Option RuleTree) → ((rule : RuleTree) → found ≡ Some rule → IsEnabledOf machine.rules world rule) →
      NotesOnly FromHere (and_then (and_then (given found) (λ rule. and_then (step_plan machine.invariants rule world) (λ made. Gives (Some made)))) on-made)
  notes-found None are = tt
  notes-found (Some rule) are = notes-step rule (are rule refl)

  -- a step by one of some rules, where the answer is yes
  notes-if : (rules : List RuleTree) → All (IsEnabledOf machine.rules world) rules → (more : Bool) →
      NotesOnly FromHere (and_then (step_if machine.invariants rules world more) on-made)
  notes-if rules all false = tt
  notes-if rules all true = (
    tt,
    λ choice admitted. notes-found (slice_get rules (count_of (integer_in choice)))
        (λ rule is. at-place (IsEnabledOf machine.rules world) rules (count_of (integer_in choice)) rule all is),
  )

  -- one more step of one of these rules, if there is one
  notes-part : (rules : List RuleTree) → All (IsEnabledOf machine.rules world) rules → NotesOnly FromHere (and_then (part_plan machine world rules) (or_passed next))
  notes-part [] all = tt
  notes-part (first ∷ others) all = (
    tt,
    notes-along FromHere (and_then (asked_flag 14) (step_if machine.invariants (first ∷ others) world))
        (λ made. Leaves (Gives made)) (or_passed next) (tt, λ choice admitted. notes-if (first ∷ others) all (flag_in choice)),
  )

  notes-turn : NotesOnly FromHere (and_then (turn_plan machine world) (or_passed next))
  notes-turn = at (enabled_rules machine.rules world) refl
    where
      at : (found : Result (List RuleTree) Origin) → enabled_rules machine.rules world ≡ found →
          NotesOnly FromHere (and_then (by_value found (part_plan machine world)) (or_passed next))
      at (Ok rules) is = notes-part rules (all-enabled machine.rules world rules is)
      at (Err origin) is = tt

-- at most so many steps
notes-steps : (machine : MachineTree) (steps : ℕ) (world : World) → NotesOnly (λ passed. AreStepNotes passed machine steps world) (steps_plan machine steps world)
notes-steps machine zero world = tt
notes-steps machine (suc steps) world = notes-turn machine steps (steps_plan machine steps) (notes-steps machine steps) world

-- a whole run
pub notes-machine : (machine : MachineTree) (steps : ℕ) → NotesOnly (λ passed. AreMachineNotes passed machine steps) (machine_plan machine steps)
notes-machine machine steps = (inl (refl, refl), at (first_world machine) refl)
  where
    at : (found : Result World Origin) → first_world machine ≡ found →
        NotesOnly (λ passed. AreMachineNotes passed machine steps) (and_then (by_value found (steps_plan machine steps)) (λ ending. Leaves (Gives ending)))
    at (Ok world) is = notes-wider (λ passed. AreStepNotes passed machine steps world) (λ passed. AreMachineNotes passed machine steps) (and_then (steps_plan machine steps world) (λ ending. Leaves (Gives ending)))
        (λ passed rest are. inr (world, is, are))
        (notes-left (λ passed. AreStepNotes passed machine steps world) (steps_plan machine steps world) (notes-steps machine steps world))
    at (Err origin) is = inl (refl, refl)
