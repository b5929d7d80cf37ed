-- How the check of an expression goes on.
use Rattle.std.proofs.Common.{◌≡◌, ℕ, zero, suc, ◌+◌, ◌<◌, ◌≤◌, true, false, Option, Result, Ok, Err, List, [], ◌∷◌, length, drop, get_or, refl, sym, ◌∙◌, ap, subst, add-one, drop-cons, arith}
use Rattle.std.specs.Prelude.{if◌then◌else◌}
use Rattle.pt_val.specs.declared.place.Place.{Place}
use Rattle.pt_ast.specs.declared.expr.Expr.{Expr}
use Rattle.pt_ast.specs.declared.expr.Func.{Func}
use Rattle.pt_ast.specs.declared.expr.Func.TheVariants.{Len, Has, Sum, Cat, Rev, Leaf, Node, Label, Kids, Labels}
use Rattle.pt_ast.specs.Types.{TypeTree, List_type, Tuple_type, TypeTrees, no_type, more_type}
use Rattle.pt_ast.specs.Trees.{Call_of, List_of, no_expr, more_expr, place_of}
use Rattle.pt_ast.specs.Plain.{plain_expr, plain_exprs}
use Rattle.pt_ast.specs.Names.{Scope}
use Rattle.pt_typing.specs.Fault.{Fault, Wrong}
use Rattle.pt_typing.specs.Steps.{after, next_to, giving, made_of, right}
use Rattle.pt_typing.specs.Served.{takes_one, given_alone, second_needed, given_both}
use Rattle.pt_typing.specs.ExprChecks.{needs, takes, checked, all_of, each_of}
use Rattle.pt_check.specs.declared.fault.TypeFault.{TypeFault}
use Rattle.pt_check.specs.Says.{Blames, Says, fits}
use Rattle.pt_check.specs.Known.{Known, top, holding, given_known}
use Rattle.pt_check.proofs.Tuples.{gather}

-- a fault is handed on
pub hands-on : {A B : Type 0} (due : Result A Fault) (value : A) (result : Result B TypeFault) (why : TypeFault) → result ≡ Err why → Blames due why → Says due value result
hands-on due value result why is bad = subst (Says due value) (sym is) bad

pub blames-same : {A : Type 0} (due other : Result A Fault) (why : TypeFault) → due ≡ other → Blames other why → Blames due why
blames-same due other why same bad fault is = same ∙ bad fault is

pub blames-after : {A B : Type 0} (part : Result A Fault) (next : A → Result B Fault) (why : TypeFault) → Blames part why → Blames (after part next) why
blames-after part next why bad fault is = ap (λ p. after p next) (bad fault is)

pub blames-giving : {A : Type 0} (part : Result (Unit {0}) Fault) (value : A) (why : TypeFault) → Blames part why → Blames (giving part value) why
blames-giving part value why bad fault is = ap (λ p. giving p value) (bad fault is)

pub blames-next : {A : Type 0} (part : Result (Unit {0}) Fault) (next : Result A Fault) (why : TypeFault) → Blames part why → Blames (next_to part next) why
blames-next part next why bad fault is = ap (λ p. next_to p next) (bad fault is)

-- a value of which nothing is kept
pub made-says : {A B : Type 0} (due : Result A Fault) (value : A) (result : Result B TypeFault) → Says due value result → Says (made_of (λ _. tt {0}) due) (tt {0}) result
made-says due value (Ok _) said = ap (made_of (λ _. tt {0})) said
made-says due value (Err why) said = λ fault is. ap (made_of (λ _. tt {0})) (said fault is)

-- what is taken of a part that stands here
pub takes-fault : {A : Type 0} (take : TypeTree → Option A) (place at : Place) (check : Result TypeTree Fault) (found : TypeTree) (why : TypeFault) → place ≡ at → check ≡ Ok found →
    Blames (right at (take found)) why → Blames (takes take place check) why
takes-fault take place at check found why same is bad fault blamed =
    ap (λ c. after c (λ type. right place (take type))) is ∙ ap (λ p. right p (take found)) same ∙ bad fault blamed

pub takes-right : {A : Type 0} (take : TypeTree → Option A) (place at : Place) (check : Result TypeTree Fault) (found : TypeTree) (value : A) → place ≡ at → check ≡ Ok found →
    right at (take found) ≡ Ok value → takes take place check ≡ Ok value
takes-right take place at check found value same is good =
    ap (λ c. after c (λ type. right place (take type))) is ∙ ap (λ p. right p (take found)) same ∙ good

pub needs-fault : (type : TypeTree) (place at : Place) (check : Result TypeTree Fault) (found : TypeTree) (why : TypeFault) → place ≡ at → check ≡ Ok found →
    Blames (fits at found type) why → Blames (needs type place check) why
needs-fault type place at check found why same is bad fault blamed =
    ap (λ c. after c (λ t. fits place t type)) is ∙ ap (λ p. fits p found type) same ∙ bad fault blamed

pub needs-right : (type : TypeTree) (place at : Place) (check : Result TypeTree Fault) (found : TypeTree) → place ≡ at → check ≡ Ok found → fits at found type ≡ Ok tt →
    needs type place check ≡ Ok tt
needs-right type place at check found same is good = ap (λ c. after c (λ t. fits place t type)) is ∙ ap (λ p. fits p found type) same ∙ good

-- calls
one-part : (parts : List Expr) (only : Expr) → length parts ≡ 1 → only ≡ get_or parts 0 only → plain_exprs parts ≡ more_expr (plain_expr only) no_expr
one-part [] only long is = cc
one-part (first ∷ []) only long is = ap (λ e. more_expr (plain_expr e) no_expr) (sym is)
one-part (first ∷ second ∷ others) only long is = absurd (omega (arith, long))

two-parts : (parts : List Expr) (one other : Expr) → length parts ≡ 2 → one ≡ get_or parts 0 one → other ≡ get_or parts 1 other →
    plain_exprs parts ≡ more_expr (plain_expr one) (more_expr (plain_expr other) no_expr)
two-parts [] one other long is second_is = cc
two-parts (first ∷ []) one other long is second_is = absurd (omega (arith, long))
two-parts (first ∷ second ∷ []) one other long is second_is =
    ap (λ e. more_expr (plain_expr e) (more_expr (plain_expr second) no_expr)) (sym is) ∙ ap (λ e. more_expr (plain_expr one) (more_expr (plain_expr e) no_expr)) (sym second_is)
two-parts (first ∷ second ∷ third ∷ others) one other long is second_is = absurd (omega (arith, long))

pub wrong-alone : (scope : Scope) (at : Place) (func : Func) (parts : List Expr) → takes_one func ≡ true → (length parts ≡ 1 → ⊥) → checked scope (Call_of at func (plain_exprs parts)) ≡ Err (Wrong at)
wrong-alone scope at func [] alone other = refl
wrong-alone scope at func (first ∷ []) alone other = absurd (other refl)
wrong-alone scope at func (first ∷ second ∷ []) alone other =
    ap (λ one. if one then Err (Wrong at) else after (takes (second_needed func) (place_of (plain_expr first)) (checked scope (plain_expr first)))
    (λ needed. giving (needs needed (place_of (plain_expr second)) (checked scope (plain_expr second))) (given_both func needed))) alone
wrong-alone scope at func (first ∷ second ∷ third ∷ others) alone other = refl

pub wrong-both : (scope : Scope) (at : Place) (func : Func) (parts : List Expr) → takes_one func ≡ false → (length parts ≡ 2 → ⊥) → checked scope (Call_of at func (plain_exprs parts)) ≡ Err (Wrong at)
wrong-both scope at func [] alone other = refl
wrong-both scope at func (first ∷ []) alone other =
    ap (λ one. if one then takes (given_alone func) (place_of (plain_expr first)) (checked scope (plain_expr first)) else Err (Wrong at)) alone
wrong-both scope at func (first ∷ second ∷ []) alone other = absurd (other refl)
wrong-both scope at func (first ∷ second ∷ third ∷ others) alone other = refl

pub alone-due : (scope : Scope) (at : Place) (func : Func) (parts : List Expr) (only : Expr) → takes_one func ≡ true → length parts ≡ 1 → only ≡ get_or parts 0 only →
    checked scope (Call_of at func (plain_exprs parts)) ≡ takes (given_alone func) (place_of (plain_expr only)) (checked scope (plain_expr only))
alone-due scope at func parts only alone long is =
    ap (λ ps. checked scope (Call_of at func ps)) (one-part parts only long is)
    ∙ ap (λ one. if one then takes (given_alone func) (place_of (plain_expr only)) (checked scope (plain_expr only)) else Err (Wrong at)) alone

pub both-due : (scope : Scope) (at : Place) (func : Func) (parts : List Expr) (first second : Expr) → takes_one func ≡ false → length parts ≡ 2 → first ≡ get_or parts 0 first →
    second ≡ get_or parts 1 second → checked scope (Call_of at func (plain_exprs parts)) ≡ after (takes (second_needed func) (place_of (plain_expr first)) (checked scope (plain_expr first)))
    (λ needed. giving (needs needed (place_of (plain_expr second)) (checked scope (plain_expr second))) (given_both func needed))
both-due scope at func parts first second alone long first_is second_is =
    ap (λ ps. checked scope (Call_of at func ps)) (two-parts parts first second long first_is second_is)
    ∙ ap (λ one. if one then Err (Wrong at) else after (takes (second_needed func) (place_of (plain_expr first)) (checked scope (plain_expr first)))
    (λ needed. giving (needs needed (place_of (plain_expr second)) (checked scope (plain_expr second))) (given_both func needed))) alone

pub given-top : (func : Func) (known : Known) (type : TypeTree) → top (given_known func (holding known type)) ≡ given_both func type
given-top Len known type = refl
given-top Has known type = refl
given-top Sum known type = refl
given-top Cat known type = refl
given-top Rev known type = refl
given-top Leaf known type = refl
given-top Node known type = refl
given-top Label known type = refl
given-top Kids known type = refl
given-top Labels known type = refl

-- a list from one place on
pub first-left : {A : Type 0} (list : List A) (index : ℕ) (one : A) → index < length list → one ≡ get_or list index one → drop index list ≡ one ∷ drop (index + 1) list
first-left list index one within is = drop-cons list index one within ∙ rw (← is, add-one) refl

pub none-left : {A : Type 0} (list : List A) (index : ℕ) → length list ≤ index → drop index list ≡ []
none-left [] zero done = refl
none-left [] (suc index) done = refl
none-left (first ∷ others) zero done = absurd (omega (arith, done))
none-left (first ∷ others) (suc index) done = none-left others index (omega (arith, done))

-- parts of types of their own
pub made-more : (found : List TypeTree) (type : TypeTree) (rest : Result TypeTrees Fault) → made_of (gather found) (made_of (more_type type) rest) ≡ made_of (gather (type ∷ found)) rest
made-more found type (Ok types) = refl
made-more found type (Err fault) = refl

pub made-none : (rest : Result TypeTrees Fault) → rest ≡ made_of (gather []) rest
made-none (Ok types) = refl
made-none (Err fault) = refl

pub each-turn : (scope : Scope) (found : List TypeTree) (parts : List Expr) (index : ℕ) (part : Expr) (type : TypeTree) → index < length parts → part ≡ get_or parts index part →
    checked scope (plain_expr part) ≡ Ok type →
    made_of (gather found) (each_of scope (plain_exprs (drop index parts))) ≡ made_of (gather (type ∷ found)) (each_of scope (plain_exprs (drop (index + 1) parts)))
each-turn scope found parts index part type within is typed =
    let rest = each_of scope (plain_exprs (drop (index + 1) parts)) in
    ap (λ ps. made_of (gather found) (each_of scope (plain_exprs ps))) (first-left parts index part within is)
    ∙ ap (λ check. made_of (gather found) (after check (λ t. made_of (more_type t) rest))) typed ∙ made-more found type rest

pub each-done : (scope : Scope) (found : List TypeTree) (parts : List Expr) (index : ℕ) → length parts ≤ index →
    made_of Tuple_type (made_of (gather found) (each_of scope (plain_exprs (drop index parts)))) ≡ Ok (Tuple_type (gather found no_type))
each-done scope found parts index done = ap (λ ps. made_of Tuple_type (made_of (gather found) (each_of scope (plain_exprs ps)))) (none-left parts index done)

-- parts of one type
pub next-after : {A : Type 0} (part : Result (Unit {0}) Fault) (next : Result A Fault) → next_to part next ≡ after part (λ _. next)
next-after (Ok _) next = refl
next-after (Err fault) next = refl

pub list-begins : (scope : Scope) (at : Place) (parts : List Expr) (first : Expr) → 0 < length parts → first ≡ get_or parts 0 first →
    checked scope (List_of at (plain_exprs parts)) ≡ after (checked scope (plain_expr first)) (λ member. giving (all_of scope member (plain_exprs (drop 1 parts))) (List_type member))
list-begins scope at [] first some is = absurd (omega (arith, some))
list-begins scope at (one ∷ others) first some is =
    ap (λ e. after (checked scope (plain_expr e)) (λ member. giving (all_of scope member (plain_exprs others)) (List_type member))) (sym is)

pub all-turn : (scope : Scope) (type : TypeTree) (parts : List Expr) (index : ℕ) (part : Expr) → index < length parts → part ≡ get_or parts index part →
    all_of scope type (plain_exprs (drop index parts)) ≡ after (needs type (place_of (plain_expr part)) (checked scope (plain_expr part))) (λ _. all_of scope type (plain_exprs (drop (index + 1) parts)))
all-turn scope type parts index part within is =
    ap (λ ps. all_of scope type (plain_exprs ps)) (first-left parts index part within is)
    ∙ next-after (needs type (place_of (plain_expr part)) (checked scope (plain_expr part))) (all_of scope type (plain_exprs (drop (index + 1) parts)))

pub all-done : (scope : Scope) (type : TypeTree) (parts : List Expr) (index : ℕ) → length parts ≤ index → all_of scope type (plain_exprs (drop index parts)) ≡ Ok tt
all-done scope type parts index done = ap (λ ps. all_of scope type (plain_exprs ps)) (none-left parts index done)
