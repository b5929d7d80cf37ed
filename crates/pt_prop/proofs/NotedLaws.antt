-- What statements note.
use Rattle.std.proofs.Common.{◌≡◌, ℕ, zero, suc, Bool, true, false, Option, Some, None, Result, Ok, Err, List, [], ◌∷◌, inl, inr, refl, sym, subst, arith}
use Rattle.std.specs.Prelude.{◌⊎◌, slice_get, if◌then◌else◌}
use Rattle.std.specs.List.{Contains}
use Rattle.pt_val.specs.declared.val.Val.{Val}
use Rattle.pt_case.specs.declared.ending.Ending.{Ending}
use Rattle.pt_case.specs.declared.ending.Ending.TheVariants.{Pass}
use Rattle.pt_case.specs.declared.ending.Origin.{Origin}
use Rattle.pt_case.specs.declared.ending.Origin.TheVariants.{Suite}
use Rattle.pt_case.specs.declared.ending.What.TheVariants as what
use Rattle.pt_case.specs.declared.note.Note.{Note}
use Rattle.pt_ast.specs.declared.binding.Binding.{Binding}
use Rattle.pt_ast.specs.declared.ident.Ident.{Ident}
use Rattle.pt_ast.specs.Trees.{StmtTree, Draw_of, Let_of, Assume_of, Assert_of, Pick_of, Set_of, Give_of}
use Rattle.pt_eval.specs.Env.{with_value}
use Rattle.pt_eval.specs.Parts.{truth_of}
use Rattle.pt_eval.specs.Value.{evaluated}
use Rattle.pt_plan.specs.Plan.{Plan, Gives, Rejects, Faults, Leaves, and_then, within}
use Rattle.pt_plan.specs.Asked.{integer_in}
use Rattle.pt_plan.specs.Every.{GivesOnly, NotesNothing}
use Rattle.pt_plan.proofs.CameLemmas.{and_then-and_then}
use Rattle.pt_plan.proofs.EveryLemmas.{gives-then, silent-within}
use Rattle.pt_strat.specs.declared.world.World.{World}
use Rattle.pt_strat.specs.Labels.{node_label}
use Rattle.pt_strat.specs.Bounds.{count_of}
use Rattle.pt_strat.specs.Bundles.{entries_of, given_into}
use Rattle.pt_strat.specs.Parts.{by_value, given, item_plan}
use Rattle.pt_strat.specs.Strategy.{plan_of}
use Rattle.pt_strat.specs.Member.{IsOneOf}
use Rattle.pt_strat.specs.Statement.{world_of, with_name, shown, stmt_plan, body_plan}
use Rattle.pt_strat.proofs.MemberLaws.{gives-its-own}
use Rattle.pt_strat.proofs.QuietLaws.{stays-silent, quiet-item}
use Rattle.pt_prop.specs.Property.{property_plan}
use Rattle.pt_prop.specs.Noted.{IsNotedBy, AreNoted, IsNoted}
use Rattle.pt_prop.proofs.NotesLemmas.{NotesOnly, notes-then, notes-wider}

-- an entry by its number is one of the entries
found-in : (entries : List Val) (number : ℕ) → GivesOnly (Contains entries) (given (slice_get entries number))
found-in [] number = tt
found-in (first ∷ rest) zero = (0, omega arith, refl)
found-in (first ∷ rest) (suc number) = behind (slice_get rest number) (found-in rest number)
  where
    behind : (found : Option Val) → GivesOnly (Contains rest) (given found) → GivesOnly (Contains (first ∷ rest)) (given found)
    behind (Some value) is = (suc is.0, omega (arith, is.1), is.2)
    behind None is = tt

picked-in : (label : ℕ) (entries : List Val) → GivesOnly (Contains entries) (within label (item_plan entries))
picked-in label entries = gives-then (Contains entries) (Contains entries) (item_plan entries) (λ value. Leaves (Gives value))
    (λ answer admitted. found-in entries (count_of (integer_in answer))) (λ value is. is)

module _ (Are : Bool → List Note → Type 0) (none : Are false []) (Rest : Bool → World → List Note → Type 0) (world : World) (next : World → Plan Ending)
    (later : (after : World) → NotesOnly (λ passed. Rest passed after) (next after)) where
  -- a value that is shown
  notes-shown : (Has : Val → Type 0) (name : List ℕ) (plan : Plan Val) → NotesNothing plan → GivesOnly Has plan →
      ((value : Val) → Has value → (passed : Bool) (rest : List Note) → Rest passed (with_name name value world) rest →
      Are passed (record { name = name; val = value } ∷ rest)) → NotesOnly Are (and_then (and_then plan (shown name world)) next)
  notes-shown Has name plan silent only wider =
      subst (NotesOnly Are) (sym (and_then-and_then plan (shown name world) next))
      (notes-then Are Has plan (λ value. and_then (shown name world value) next) none silent only (λ value is.
      notes-wider (λ passed. Rest passed (with_name name value world)) (λ passed rest. Are passed (record { name = name; val = value } ∷ rest))
      (next (with_name name value world)) (wider value is) (later (with_name name value world))))

  -- a world that the value of an expression leads to
  notes-valued : (found : Result Val Origin) (after : Val → World) →
      ((value : Val) → found ≡ Ok value → (passed : Bool) (rest : List Note) → Rest passed (after value) rest → Are passed rest) →
      NotesOnly Are (and_then (by_value found (λ value. Gives (after value))) next)
  notes-valued (Ok value) after wider = notes-wider (λ passed. Rest passed (after value)) Are (next (after value)) (wider value refl) (later (after value))
  notes-valued (Err origin) after wider = none

  -- a condition, which ends the run where it is not true
  notes-held : (found : Result Val Origin) (other : Plan World) → NotesOnly Are (and_then other next) →
      ((truth : Val) → found ≡ Ok truth → truth_of truth ≡ true → (passed : Bool) (rest : List Note) → Rest passed world rest → Are passed rest) →
      NotesOnly Are (and_then (by_value found (λ truth. if truth_of truth then Gives world else other)) next)
  notes-held (Err origin) other fails wider = none
  notes-held (Ok truth) other fails wider = at (truth_of truth) refl
    where
      at : (holds : Bool) → truth_of truth ≡ holds → NotesOnly Are (and_then (if holds then Gives world else other) next)
      at true holds = notes-wider (λ passed. Rest passed world) Are (next world) (wider truth refl holds) (later world)
      at false holds = fails

-- these are notes of a statement and of what is done after it, or of nothing
abbrev FromStmt : Option Ident → StmtTree → (Bool → World → List Note → Type 0) → World → Bool → List Note → Type 0
FromStmt into stmt Rest world passed notes = ((passed ≡ false) × (notes ≡ [])) ⊎ IsNotedBy into stmt (Rest passed) world notes

-- a statement, and then what notes the rest
notes-stmt : (into : Option Ident) (stmt : StmtTree) (Rest : Bool → World → List Note → Type 0) (world : World) (next : World → Plan Ending) →
    ((after : World) → NotesOnly (λ passed. Rest passed after) (next after)) → NotesOnly (FromStmt into stmt Rest world) (and_then (stmt_plan into stmt world) next)
notes-stmt into (Draw_of at given strat) Rest world next later =
    notes-shown (FromStmt into (Draw_of at given strat) Rest world) (inl (refl, refl)) Rest world next later (IsOneOf strat world.env) given.name
    (plan_of strat Rejects world.env) (stays-silent strat world.env) (gives-its-own strat world.env) (λ value is passed rest are. inr (refl, is, are))
notes-stmt into (Let_of at given expr) Rest world next later =
    notes-valued (FromStmt into (Let_of at given expr) Rest world) (inl (refl, refl)) Rest world next later (evaluated expr world.env)
    (λ value. with_name given.name value world) (λ value is passed rest are. inr (value, is, are))
notes-stmt into (Assume_of at cond) Rest world next later =
    notes-held (FromStmt into (Assume_of at cond) Rest world) (inl (refl, refl)) Rest world next later (evaluated cond world.env)
    Rejects (inl (refl, refl)) (λ truth is holds passed rest are. inr ((truth, is, holds), are))
notes-stmt into (Assert_of at cond) Rest world next later =
    notes-held (FromStmt into (Assert_of at cond) Rest world) (inl (refl, refl)) Rest world next later (evaluated cond world.env)
    (Faults (Suite what.Assert at)) (inl (refl, refl)) (λ truth is holds passed rest are. inr ((truth, is, holds), are))
notes-stmt into (Pick_of at num given bundle) Rest world next later =
    let entries = entries_of bundle.name world.bundles in
    notes-shown (FromStmt into (Pick_of at num given bundle) Rest world) (inl (refl, refl)) Rest world next later (Contains entries) given.name
    (within (node_label num) (item_plan entries)) (silent-within (node_label num) (item_plan entries) (quiet-item entries).silent) (picked-in (node_label num) entries)
    (λ value is passed rest are. inr (refl, is, are))
notes-stmt into (Set_of at state expr) Rest world next later =
    notes-valued (FromStmt into (Set_of at state expr) Rest world) (inl (refl, refl)) Rest world next later (evaluated expr world.env)
    (λ value. world_of (with_value state.name value world.env) world.bundles) (λ value is passed rest are. inr (value, is, are))
notes-stmt into (Give_of at expr) Rest world next later =
    notes-valued (FromStmt into (Give_of at expr) Rest world) (inl (refl, refl)) Rest world next later (evaluated expr world.env)
    (λ value. world_of world.env (given_into into value world.bundles)) (λ value is passed rest are. inr (value, is, are))

-- statements in order, and then what notes the rest
pub notes-body : (into : Option Ident) (stmts : List StmtTree) (Rest : Bool → World → List Note → Type 0) (world : World) (next : World → Plan Ending) →
    ((after : World) → NotesOnly (λ passed. Rest passed after) (next after)) →
    NotesOnly (λ passed. AreNoted passed into stmts (Rest passed) world) (and_then (body_plan into stmts world) next)
notes-body into [] Rest world next later = later world
notes-body into (stmt ∷ stmts) Rest world next later =
    subst (NotesOnly (λ passed. AreNoted passed into (stmt ∷ stmts) (Rest passed) world)) (sym (and_then-and_then (stmt_plan into stmt world) (body_plan into stmts) next))
    (notes-stmt into stmt (λ passed. AreNoted passed into stmts (Rest passed)) world (λ after. and_then (body_plan into stmts after) next)
    (λ after. notes-body into stmts Rest after next later))

-- a property notes nothing after its last statement
pub notes-property : (stmts : List StmtTree) → NotesOnly (λ passed. IsNoted passed stmts []) (property_plan stmts)
notes-property stmts =
    subst (NotesOnly (λ passed. IsNoted passed stmts []))
    (sym (and_then-and_then (body_plan None stmts (world_of [] [])) (λ (world : World). Gives world.env) (λ (names : List Binding). Gives Pass)))
    (notes-body None stmts (λ passed world rest. rest ≡ []) (world_of [] []) (λ world. Gives Pass) (λ after. refl))
