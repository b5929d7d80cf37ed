-- How the check of a machine goes on.
use Rattle.std.proofs.Common.{◌≡◌, ℕ, suc, ◌+◌, ◌<◌, Bool, true, false, cond, Option, Some, Result, Ok, Err, List, [], ◌∷◌, ◌++◌, length, map, take, drop, get_or, refl, sym, ◌∙◌, ap, append_assoc, add-one}
use Rattle.std.specs.Prelude.{◌==◌, ◌||◌, if◌then◌else◌}
use Rattle.std.specs.Cmp.Lexicographic.{pointwise}
use Rattle.std.specs.List.{list_any}
use Rattle.std.proofs.Math.Seq.{take-suc, take-append_seam}
use Rattle.std.proofs.lemmas.List.{append-nil, map-append}
use Rattle.pt_val.specs.declared.place.Place.{Place}
use Rattle.pt_ast.specs.declared.ident.Ident.{Ident}
use Rattle.pt_ast.specs.declared.suite.BundleDecl.{BundleDecl}
use Rattle.pt_ast.specs.declared.suite.StateDecl.{StateDecl}
use Rattle.pt_ast.specs.Types.{TypeTree}
use Rattle.pt_ast.specs.Trees.{BundleTree, StmtTree, Draw_of, Let_of, Assume_of, Assert_of, Pick_of, Set_of, Give_of}
use Rattle.pt_ast.specs.Plain.{plain_expr, plain_state, plain_bundle}
use Rattle.pt_ast.specs.Names.{Scope, type_in, with_name}
use Rattle.pt_ast.specs.Suites.{Context, Binds, BindAll}
use Rattle.pt_typing.specs.Fault.{Fault, Twice}
use Rattle.pt_typing.specs.Steps.{after, next_to, vacant}
use Rattle.pt_typing.specs.ExprChecks.{free, checked}
use Rattle.pt_typing.specs.SuiteChecks.{bound_by_all, declared, fresh, each_named}
use Rattle.pt_typing.proofs.Suites.{stmts-check}
use Rattle.pt_check.proofs.Turns.{first-left}

-- states
state-step : (vacant : Result (Unit {0}) Fault) (check : Result TypeTree Fault) (make : TypeTree → Scope) (rest : Scope → Result Scope Fault) →
    next_to vacant (after check (λ type. rest (make type))) ≡ after (next_to vacant (after check (λ type. Ok (make type)))) rest
state-step (Ok _) (Ok type) make rest = refl
state-step (Ok _) (Err fault) make rest = refl
state-step (Err fault) check make rest = refl

pub state-turn : (scope : Scope) (states : List StateDecl) (index : ℕ) (state : StateDecl) → index < length states → state ≡ get_or states index state →
    declared scope (map plain_state (drop index states)) ≡ after (declared scope (plain_state state ∷ [])) (λ s. declared s (map plain_state (drop (index + 1) states)))
state-turn scope states index state within is =
    ap (λ ss. declared scope (map plain_state ss)) (first-left states index state within is)
    ∙ state-step (free scope state.name) (checked scope (plain_expr state.init)) (with_name scope state.name) (λ s. declared s (map plain_state (drop (index + 1) states)))

-- a name is met where it is found among those before
either-way : (found any : Bool) (at : Place) (type : TypeTree) (rest : Option TypeTree) → (if any then Err (Twice at) else Ok tt) ≡ vacant at rest →
    (if found || any then Err (Twice at) else Ok tt) ≡ vacant at (cond found (Some type) rest)
either-way true any at type rest is = refl
either-way false any at type rest is = is

any-lookup : (at : Place) (name : List ℕ) (bundles : List BundleTree) →
    (if list_any (pointwise ◌==◌ name) (map (λ bundle. bundle.name.name) bundles) then Err (Twice at) else Ok tt)
    ≡ vacant at (type_in name (map (λ bundle. (bundle.name.name, bundle.type)) bundles))
any-lookup at name [] = refl
any-lookup at name (first ∷ others) =
    either-way (pointwise ◌==◌ name first.name.name) (list_any (pointwise ◌==◌ name) (map (λ bundle. bundle.name.name) others)) at first.type
    (type_in name (map (λ bundle. (bundle.name.name, bundle.type)) others)) (any-lookup at name others)

pub fresh-vacant : (given : Ident) (bundles : List BundleTree) →
    fresh (map (λ bundle. bundle.name.name) bundles) given ≡ vacant given.at (type_in given.name (map (λ bundle. (bundle.name.name, bundle.type)) bundles))
fresh-vacant given bundles = any-lookup given.at given.name bundles

pub bundle-turn : (seen : List (List ℕ)) (bundles : List BundleDecl) (index : ℕ) (bundle : BundleDecl) → index < length bundles → bundle ≡ get_or bundles index bundle →
    each_named (λ b. b.name) (λ b. Ok tt) seen (map plain_bundle (drop index bundles))
    ≡ next_to (fresh seen bundle.name) (each_named (λ b. b.name) (λ b. Ok tt) (seen ++ bundle.name.name ∷ []) (map plain_bundle (drop (index + 1) bundles)))
bundle-turn seen bundles index bundle within is = ap (λ bs. each_named (λ b. b.name) (λ b. Ok tt) seen (map plain_bundle bs)) (first-left bundles index bundle within is)

-- so many, and one more
one-more : {A : Type 0} (list : List A) (index : ℕ) (one : A) → index < length list → one ≡ get_or list index one → take (index + 1) list ≡ take index list ++ one ∷ []
one-more list index one within is =
    let more : take (suc index) list ≡ take index list ++ (get_or list index one ∷ []) = take-suc list index one within in
    rw add-one (more ∙ ap (λ x. take index list ++ x ∷ []) (sym is))

pub bundles-more : {A : Type 0} (make : BundleTree → A) (bundles : List BundleDecl) (index : ℕ) (bundle : BundleDecl) → index < length bundles → bundle ≡ get_or bundles index bundle →
    map make (map plain_bundle (take (index + 1) bundles)) ≡ map make (map plain_bundle (take index bundles)) ++ make (plain_bundle bundle) ∷ []
bundles-more make bundles index bundle within is =
    ap (λ bs. map make (map plain_bundle bs)) (one-more bundles index bundle within is) ∙ ap (map make) (map-append plain_bundle (take index bundles) (bundle ∷ []))
    ∙ map-append make (map plain_bundle (take index bundles)) (plain_bundle bundle ∷ [])

-- statements add names behind those that are there
binds-extend : (context : Context) (scope : Scope) (stmt : StmtTree) (next : Scope) → Binds context scope stmt next → (more : Scope) × (next ≡ scope ++ more)
binds-extend context scope (Draw_of at given strat) next is = ((given.name, is.0) ∷ [], is.3)
binds-extend context scope (Let_of at given value) next is = ((given.name, is.0) ∷ [], is.3)
binds-extend context scope (Assume_of at cond) next is = ([], is.1 ∙ sym (append-nil scope))
binds-extend context scope (Assert_of at cond) next is = ([], is.1 ∙ sym (append-nil scope))
binds-extend context scope (Pick_of at num given bundle) next is = ((given.name, is.0) ∷ [], is.3)
binds-extend context scope (Set_of at state value) next is = ([], is.3 ∙ sym (append-nil scope))
binds-extend context scope (Give_of at value) next is = ([], is.3 ∙ sym (append-nil scope))

all-extend : (context : Context) (stmts : List StmtTree) (scope last : Scope) → BindAll context scope stmts last → (more : Scope) × (last ≡ scope ++ more)
all-extend context [] scope last is = ([], is ∙ sym (append-nil scope))
all-extend context (first ∷ others) scope last is =
    let here = binds-extend context scope first is.0 is.1 in
    let there = all-extend context others is.0 last is.2 in
    (here.0 ++ there.0, there.1 ∙ ap (λ s. s ++ there.0) here.1 ∙ append_assoc scope here.0 there.0)

pub cut-back : (context : Context) (scope : Scope) (stmts : List StmtTree) (last : Scope) → bound_by_all context scope stmts ≡ Ok last → take (length scope) last ≡ scope
cut-back context scope stmts last is =
    let more = all-extend context stmts scope last ((stmts-check stmts context scope).comes last is) in
    ap (take (length scope)) more.1 ∙ take-append_seam scope more.0
