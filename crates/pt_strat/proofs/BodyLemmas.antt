-- How statements are run.
use Rattle.std.proofs.Common.{◌≡◌, ℕ, zero, suc, ◌+◌, ◌<◌, ◌≤◌, Option, None, Result, Ok, Err, List, [], ◌∷◌, ◌++◌, length, drop, take, get_or, map, refl, sym, ◌∙◌, ap, subst, add-one, drop-cons, append_assoc, append-nil}
use Rattle.std.specs.List.{All}
use Rattle.std.proofs.Math.Seq.{take-append_seam}
use Rattle.std.proofs.lemmas.List.{length-map}
use Rattle.std.proofs.lemmas.List.Elements.{All-get_or}
use Rattle.pt_case.specs.State.{State}
use Rattle.pt_ast.specs.declared.binding.Binding.{Binding}
use Rattle.pt_ast.specs.declared.ident.Ident.{Ident}
use Rattle.pt_ast.specs.declared.stmt.Stmt.{Stmt}
use Rattle.pt_ast.specs.Trees.{StmtTree}
use Rattle.pt_ast.specs.declared.stmt.StmtKind.{StmtKind}
use Rattle.pt_ast.specs.Plain.{plain_kind, plain_stmt}
use Rattle.pt_ast.specs.Bounds.{IsPlainStmt}
use Rattle.pt_plan.specs.declared.stop.DrawStop.{DrawStop}
use Rattle.pt_plan.specs.Stop.{draw_halt}
use Rattle.pt_plan.specs.Plan.{Plan, Gives, and_then}
use Rattle.pt_plan.specs.Came.{Drew}
use Rattle.pt_plan.proofs.DrewLemmas.{Leads, leads-new, leads-is, leads-call, drew-call, drew-ended}
use Rattle.pt_strat.specs.declared.bundles.Bundle.{Bundle}
use Rattle.pt_strat.specs.declared.world.World.{World}
use Rattle.pt_strat.specs.Statement.{world_of, stmt_plan, body_plan, names_plan, leaving, Extends}
use Rattle.pt_strat.proofs.PartLemmas.{drop-all}

pub extends-none : (env : List Binding) → Extends env env
extends-none env = ([], sym (append-nil env))

pub extends-one : (env : List Binding) (one : Binding) → Extends env (env ++ one ∷ [])
extends-one env one = (one ∷ [], refl)

pub extends-more : (first second third : List Binding) → Extends first second → Extends second third → Extends first third
extends-more first second third one other = (one.0 ++ other.0, other.1 ∙ ap (λ e. e ++ other.0) one.1 ∙ append_assoc first one.0 other.0)

-- what was bound is unbound again
pub extends-cut : (outer : ℕ) (old new : List Binding) → outer ≡ length old → Extends old new → take outer new ≡ old
extends-cut outer old new same is = rw (same, is.1) (take-append_seam old is.0)

-- of the statements that are left the first is next
pub stmts-next : (stmts : List Stmt) (index : ℕ) (stmt : Stmt) → index < length stmts → stmt ≡ get_or stmts index stmt →
    map plain_stmt (drop index stmts) ≡ plain_stmt stmt ∷ map plain_stmt (drop (index + 1) stmts)
stmts-next stmts index stmt within is =
    let first : drop index stmts ≡ stmt ∷ drop (index + 1) stmts = drop-cons stmts index stmt within ∙ rw (← is, add-one) refl in ap (map plain_stmt) first

module _ {whole : Plan World} {old now : State} (into : Option Ident) (stmt : StmtTree) (rest left : List StmtTree) (world : World) (one : left ≡ stmt ∷ rest)
    (way : Leads whole old (body_plan into left world) now) where
  at-stmt : Leads whole old (and_then (stmt_plan into stmt world) (body_plan into rest)) now
  at-stmt = leads-is way (ap (λ stmts. body_plan into stmts world) one)

  pub body-failed : {new : State} {why : DrawStop} → Drew draw_halt (stmt_plan into stmt world) now new (Err why) → Drew draw_halt whole old new (Err why)
  body-failed drew = drew-call drew (body_plan into rest) at-stmt

  pub body-went : {new : State} (after : World) → Drew draw_halt (stmt_plan into stmt world) now new (Ok after) → Leads whole old (body_plan into rest after) new
  body-went after drew = leads-call drew (body_plan into rest) at-stmt

-- no statement is left
pub body-ended : {whole : Plan World} {old now : State} (into : Option Ident) (stmts : List Stmt) (index : ℕ) (world : World) → length stmts ≤ index →
    Leads whole old (body_plan into (map plain_stmt (drop index stmts)) world) now → Drew draw_halt whole old now (Ok world)
body-ended into stmts index world all way = drew-ended (leads-is way (ap (λ rest. body_plan into (map plain_stmt rest) world) (drop-all stmts index all)))

-- a property's statements are a rule's with no bundles
pub names-left : (stmts : List StmtTree) (env left : List Binding) (bundles : List Bundle) {old new : State} (result : Result (Unit {0}) DrawStop) →
    Drew draw_halt (body_plan None stmts (world_of env [])) old new (leaving (world_of left bundles) result) → (last : List Binding) →
    ((value : Unit {0}) → result ≡ Ok value → last ≡ left) → Drew draw_halt (names_plan stmts env) old new (leaving last result)
names-left stmts env left bundles {old = old} (Ok value) drew last same =
    rw (same value refl) (drew-ended (leads-call drew (λ (world : World). Gives world.env) (leads-new (names_plan stmts env) old)))
names-left stmts env left bundles {old = old} (Err why) drew last same = drew-call drew (λ (world : World). Gives world.env) (leads-new (names_plan stmts env) old)

-- what holds of all statements holds of each
mapped : (stmts : List Stmt) (index : ℕ) (stmt : Stmt) → get_or (map plain_stmt stmts) index (plain_stmt stmt) ≡ plain_stmt (get_or stmts index stmt)
mapped [] index stmt = refl
mapped (first ∷ others) zero stmt = refl
mapped (first ∷ others) (suc index) stmt = mapped others index stmt

pub plain-at : (stmts : List Stmt) (index : ℕ) (stmt : Stmt) → index < length stmts → stmt ≡ get_or stmts index stmt → All IsPlainStmt (map plain_stmt stmts) →
    IsPlainStmt (plain_stmt stmt)
plain-at stmts index stmt within is all =
    let many : index < length (map plain_stmt stmts) = rw (length-map stmts plain_stmt) within in
    subst IsPlainStmt (mapped stmts index stmt ∙ ap plain_stmt (sym is)) (All-get_or IsPlainStmt (map plain_stmt stmts) index (plain_stmt stmt) many all)

-- a statement of this kind
pub stmt-at : (into : Option Ident) (s : Stmt) (kind : StmtKind) (world : World) {old new : State} {result : Result World DrawStop} → s.kind ≡ kind →
    Drew draw_halt (stmt_plan into (plain_kind s.at kind) world) old new result → Drew draw_halt (stmt_plan into (plain_stmt s) world) old new result
stmt-at into s kind world {old = old} {new = new} {result = result} is drew =
    subst (λ k. Drew draw_halt (stmt_plan into (plain_kind s.at k) world) old new result) (sym is) drew
