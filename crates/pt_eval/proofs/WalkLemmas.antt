-- How a walk over an expression goes on.
use Rattle.std.proofs.Common.{◌≡◌, ℕ, suc, ◌+◌, ◌<◌, ◌≤◌, Bool, true, false, Result, Ok, Err, List, [], ◌∷◌, ◌++◌, length, take, drop, get_or, refl, sym, subst, pos, ◌⊎◌, inl, inr, ⊎_elim, ◌∙◌, ap, arith, add-one, drop-cons, append_assoc}
use Rattle.std.specs.Prelude.{if◌then◌else◌}
use Rattle.std.proofs.Math.Bool.{beq}
use Rattle.std.proofs.Math.Seq.{take-append_seam}
use Rattle.pt_val.specs.declared.val.Val.{Val}
use Rattle.pt_val.specs.declared.val.Val.TheVariants as val
use Rattle.pt_val.specs.Size.{size_of}
use Rattle.pt_val.specs.declared.place.Place.{Place}
use Rattle.pt_case.specs.declared.ending.Origin.{Origin}
use Rattle.pt_ast.specs.declared.binding.Binding.{Binding}
use Rattle.pt_ast.specs.declared.expr.Expr.{Expr}
use Rattle.pt_ast.specs.declared.expr.Func.{Func}
use Rattle.pt_ast.specs.declared.expr.Func.TheVariants.{Len}
use Rattle.pt_ast.specs.declared.expr.PostTail.{PostTail}
use Rattle.pt_ast.specs.declared.expr.Tail.{Tail}
use Rattle.pt_ast.specs.Plain.{plain_expr, plain_exprs, plain_tail, plain_tails, plain_post, plain_posts}
use Rattle.pt_ast.specs.Trees.{ExprTree, ExprTrees, TailTrees, PostTrees}
use Rattle.pt_eval.specs.declared.stop.WalkStop.{WalkStop}
use Rattle.pt_eval.specs.declared.stop.WalkStop.TheVariants as stop
use Rattle.pt_eval.specs.Env.{bound}
use Rattle.pt_eval.specs.Parts.{truth_of}
use Rattle.pt_eval.specs.Steps.{after, costs_after, counted, each_gives, each_costs, seek_gives, seek_costs}
use Rattle.pt_eval.specs.Calls.{call_value}
use Rattle.pt_eval.specs.Value.{value_of, values_of, sought_value, tail_value, chain_value, post_value, posts_value, begun, cost_of, costs_of, sought_cost, tail_cost, chain_cost, post_cost, posts_cost}
use Rattle.pt_eval.specs.Spends.{Spends}

-- one part after another
pub spends-then : {A B : Type 0} (value : Result A Origin) (cost : ℕ) (next : A → Result B Origin) (rest : A → ℕ) (old mid new : ℕ) (given : A) (result : Result B WalkStop) →
    Spends value cost old mid (Ok given) → Spends (next given) (rest given) mid new result →
    Spends (after value next) (cost + costs_after value rest) old new result
spends-then value cost next rest old mid new given (Ok other) first later =
    rw first.0 (later.0, omega (arith, first.1, later.1))
spends-then value cost next rest old mid new given (Err (stop.Fault origin)) first later = rw first.0 (later.0, omega (arith, first.1, later.1))
spends-then value cost next rest old mid new given (Err stop.Exceeded) first later = rw first.0 (omega (arith, first.1, later))
spends-then value cost next rest old mid new given (Err stop.NoMemory) first later = tt

-- what is made of a part's value is paid for
pub spends-own : {A : Type 0} (value : Result A Origin) (cost : ℕ) (next : A → Result Val Origin) (old mid new : ℕ) (given : A) (result : Result Val WalkStop) →
    Spends value cost old mid (Ok given) → Spends (next given) (counted (next given)) mid new result →
    Spends (after value next) (cost + counted (after value next)) old new result
spends-own value cost next old mid new given (Ok other) first later = rw first.0 (later.0, omega (arith, first.1, later.1))
spends-own value cost next old mid new given (Err (stop.Fault origin)) first later = rw first.0 (later.0, omega (arith, first.1, later.1))
spends-own value cost next old mid new given (Err stop.Exceeded) first later = rw first.0 (omega (arith, first.1, later))
spends-own value cost next old mid new given (Err stop.NoMemory) first later = tt

-- a part has no value, and so has the whole
pub spends-none : {A B : Type 0} (value : Result A Origin) (cost : ℕ) (next : A → Result B Origin) (rest : Result B Origin → ℕ) (old new : ℕ) (why : WalkStop) →
    ((origin : Origin) → rest (Err origin) ≡ 0) → Spends value cost old new (Err why) → Spends (after value next) (cost + rest (after value next)) old new (Err why)
spends-none value cost next rest old new (stop.Fault origin) nothing first = rw (first.0, nothing origin) (refl, omega (arith, first.1))
spends-none value cost next rest old new stop.Exceeded nothing first = let less : old < cost = first in omega arith
spends-none value cost next rest old new stop.NoMemory nothing first = tt

-- a value made inside what follows from a part is paid for
pub spends-inside : {A : Type 0} (value : Result A Origin) (cost : ℕ) (next : A → Result Val Origin) (inner : A → ℕ) (old mid new : ℕ) (given : A) (result : Result Val WalkStop) →
    Spends value cost old mid (Ok given) → Spends (next given) (inner given + counted (next given)) mid new result →
    Spends (after value next) (cost + costs_after value inner + counted (after value next)) old new result
spends-inside value cost next inner old mid new given (Ok other) first later = rw first.0 (later.0, omega (arith, first.1, later.1))
spends-inside value cost next inner old mid new given (Err (stop.Fault origin)) first later = rw first.0 (later.0, omega (arith, first.1, later.1))
spends-inside value cost next inner old mid new given (Err stop.Exceeded) first later = rw first.0 (omega (arith, first.1, later))
spends-inside value cost next inner old mid new given (Err stop.NoMemory) first later = tt

-- the first of what is left, and the rest
pub first-left : {A : Type 0} (items : List A) (index : ℕ) (item : A) → index < length items → item ≡ get_or items index item →
    drop index items ≡ item ∷ drop (index + 1) items
first-left items index item within is = drop-cons items index item within ∙ rw (← is, add-one) refl

-- an operator of a chain
pub tail-turn : (tails : List Tail) (index : ℕ) (tail : Tail) (env : List Binding) (so_far value : Val) → index < length tails →
    tail ≡ get_or tails index tail → tail_value (plain_tail tail) env so_far ≡ Ok value →
    (chain_value (plain_tails (drop index tails)) env so_far ≡ chain_value (plain_tails (drop (index + 1) tails)) env value)
    × (chain_cost (plain_tails (drop index tails)) env so_far ≡ tail_cost (plain_tail tail) env so_far + chain_cost (plain_tails (drop (index + 1) tails)) env value)
tail-turn tails index tail env so_far value within is given =
    let first = first-left tails index tail within is in
    let rest : TailTrees = plain_tails (drop (index + 1) tails) in (
      ap (λ ts. chain_value (plain_tails ts) env so_far) first ∙ ap (λ r. after r (chain_value rest env)) given,
      ap (λ ts. chain_cost (plain_tails ts) env so_far) first ∙ ap (λ r. tail_cost (plain_tail tail) env so_far + costs_after r (chain_cost rest env)) given,
    )

-- an index or a part
pub post-turn : (posts : List PostTail) (index : ℕ) (post : PostTail) (env : List Binding) (so_far value : Val) → index < length posts →
    post ≡ get_or posts index post → post_value (plain_post post) env so_far ≡ Ok value →
    (posts_value (plain_posts (drop index posts)) env so_far ≡ posts_value (plain_posts (drop (index + 1) posts)) env value)
    × (posts_cost (plain_posts (drop index posts)) env so_far ≡ post_cost (plain_post post) env so_far + posts_cost (plain_posts (drop (index + 1) posts)) env value)
post-turn posts index post env so_far value within is given =
    let first = first-left posts index post within is in
    let rest : PostTrees = plain_posts (drop (index + 1) posts) in (
      ap (λ ps. posts_value (plain_posts ps) env so_far) first ∙ ap (λ r. after r (posts_value rest env)) given,
      ap (λ ps. posts_cost (plain_posts ps) env so_far) first ∙ ap (λ r. post_cost (plain_post post) env so_far + costs_after r (posts_cost rest env)) given,
    )

after_after : (values : List Val) (value : Val) (rest : Result (List Val) Origin) →
    after (after rest (λ vs. Ok (value ∷ vs))) (λ vs. Ok (values ++ vs)) ≡ after rest (λ vs. Ok ((values ++ value ∷ []) ++ vs))
after_after values value (Ok vs) = ap (λ xs. Ok xs) (rw append_assoc refl)
after_after values value (Err origin) = refl

-- one of several expressions
pub all-turn : (parts : List Expr) (index : ℕ) (part : Expr) (env : List Binding) (values : List Val) (value : Val) → index < length parts →
    part ≡ get_or parts index part → value_of (plain_expr part) env ≡ Ok value →
    (after (values_of (plain_exprs (drop index parts)) env) (λ rest. Ok (values ++ rest))
    ≡ after (values_of (plain_exprs (drop (index + 1) parts)) env) (λ rest. Ok ((values ++ value ∷ []) ++ rest)))
    × (costs_of (plain_exprs (drop index parts)) env ≡ cost_of (plain_expr part) env + costs_of (plain_exprs (drop (index + 1) parts)) env)
all-turn parts index part env values value within is given =
    let first = first-left parts index part within is in
    let rest = values_of (plain_exprs (drop (index + 1) parts)) env in
    let more = costs_of (plain_exprs (drop (index + 1) parts)) env in (
      ap (λ ps. after (values_of (plain_exprs ps) env) (λ rest. Ok (values ++ rest))) first
          ∙ ap (λ r. after (after r (λ v. after rest (λ vs. Ok (v ∷ vs)))) (λ rest. Ok (values ++ rest))) given ∙ after_after values value rest,
      ap (λ ps. costs_of (plain_exprs ps) env) first ∙ ap (λ r. cost_of (plain_expr part) env + costs_after r (λ v. more)) given,
    )

-- a part at which what is sought is, or is not
pub sought-turn : (parts : List Expr) (index : ℕ) (part : Expr) (env : List Binding) (sought met : Bool) (value : Val) → index < length parts →
    part ≡ get_or parts index part → value_of (plain_expr part) env ≡ Ok value → beq (truth_of value) sought ≡ met →
    (sought_value sought (plain_exprs (drop index parts)) env ≡ (if met then Ok (val.Bool sought) else sought_value sought (plain_exprs (drop (index + 1) parts)) env))
    × (sought_cost sought (plain_exprs (drop index parts)) env ≡ cost_of (plain_expr part) env
    + (if met then 0 else begun (plain_exprs (drop (index + 1) parts)) + sought_cost sought (plain_exprs (drop (index + 1) parts)) env))
sought-turn parts index part env sought met value within is given meets =
    let first = first-left parts index part within is in
    let rest : ExprTrees = plain_exprs (drop (index + 1) parts) in (
      ap (λ ps. sought_value sought (plain_exprs ps) env) first
          ∙ ap (λ r. after r (λ v. if beq (truth_of v) sought then Ok (val.Bool sought) else sought_value sought rest env)) given
          ∙ ap (λ b. if b then Ok (val.Bool sought) else sought_value sought rest env) meets,
      ap (λ ps. sought_cost sought (plain_exprs ps) env) first
          ∙ ap (λ r. cost_of (plain_expr part) env + costs_after r (λ v. if beq (truth_of v) sought then 0 else begun rest + sought_cost sought rest env)) given
          ∙ ap (λ b. cost_of (plain_expr part) env + (if b then 0 else begun rest + sought_cost sought rest env)) meets,
    )

-- a right side is begun
pub begun-here : (parts : List Expr) (index : ℕ) (part : Expr) → index < length parts → part ≡ get_or parts index part → begun (plain_exprs (drop index parts)) ≡ 2
begun-here parts index part within is = ap (λ ps. begun (plain_exprs ps)) (first-left parts index part within is)

-- a member of a list
pub each-turn : (body : ExprTree) (name : List ℕ) (env inside : List Binding) (members : List Val) (index : ℕ) (member : Val) (values : List Val) (value : Val) →
    index < length members → member ≡ get_or members index member → inside ≡ env ++ bound name member ∷ [] → value_of body inside ≡ Ok value →
    (after (each_gives (value_of body) name env (drop index members)) (λ rest. Ok (values ++ rest))
    ≡ after (each_gives (value_of body) name env (drop (index + 1) members)) (λ rest. Ok ((values ++ value ∷ []) ++ rest)))
    × (each_costs (value_of body) (cost_of body) name env (drop index members) ≡ cost_of body inside + each_costs (value_of body) (cost_of body) name env (drop (index + 1) members))
each-turn body name env inside members index member values value within is env_is given =
    let first = first-left members index member within is in
    let rest = each_gives (value_of body) name env (drop (index + 1) members) in
    let more = each_costs (value_of body) (cost_of body) name env (drop (index + 1) members) in
    let now : value_of body (env ++ bound name member ∷ []) ≡ Ok value = rw (← env_is) given in (
      ap (λ ms. after (each_gives (value_of body) name env ms) (λ rest. Ok (values ++ rest))) first
          ∙ ap (λ r. after (after r (λ v. after rest (λ vs. Ok (v ∷ vs)))) (λ rest. Ok (values ++ rest))) now ∙ after_after values value rest,
      ap (λ ms. each_costs (value_of body) (cost_of body) name env ms) first
          ∙ ap (λ r. cost_of body (env ++ bound name member ∷ []) + costs_after r (λ v. more)) now ∙ ap (λ i. cost_of body i + more) (sym env_is),
    )

-- a member at which what is sought is, or is not
pub seek-turn : (body : ExprTree) (name : List ℕ) (env inside : List Binding) (members : List Val) (index : ℕ) (member : Val) (sought met : Bool) (value : Val) →
    index < length members → member ≡ get_or members index member → inside ≡ env ++ bound name member ∷ [] → value_of body inside ≡ Ok value →
    beq (truth_of value) sought ≡ met →
    (seek_gives sought (value_of body) name env (drop index members)
    ≡ (if met then Ok (val.Bool sought) else seek_gives sought (value_of body) name env (drop (index + 1) members)))
    × (seek_costs sought (value_of body) (cost_of body) name env (drop index members)
    ≡ cost_of body inside + (if met then 0 else seek_costs sought (value_of body) (cost_of body) name env (drop (index + 1) members)))
seek-turn body name env inside members index member sought met value within is env_is given meets =
    let first = first-left members index member within is in
    let rest = seek_gives sought (value_of body) name env (drop (index + 1) members) in
    let more = seek_costs sought (value_of body) (cost_of body) name env (drop (index + 1) members) in
    let now : value_of body (env ++ bound name member ∷ []) ≡ Ok value = rw (← env_is) given in (
      ap (λ ms. seek_gives sought (value_of body) name env ms) first
          ∙ ap (λ r. after r (λ v. if beq (truth_of v) sought then Ok (val.Bool sought) else rest)) now
          ∙ ap (λ b. if b then Ok (val.Bool sought) else rest) meets,
      ap (λ ms. seek_costs sought (value_of body) (cost_of body) name env ms) first
          ∙ ap (λ r. cost_of body (env ++ bound name member ∷ []) + costs_after r (λ v. if beq (truth_of v) sought then 0 else more)) now
          ∙ ap (λ b. cost_of body (env ++ bound name member ∷ []) + (if b then 0 else more)) meets
          ∙ ap (λ i. cost_of body i + (if met then 0 else more)) (sym env_is),
    )

-- the locals, and one more name behind them
pub inside-is : (env locals inner : List Binding) (one : Binding) → inner ≡ locals ++ one ∷ [] → env ++ inner ≡ (env ++ locals) ++ one ∷ []
inside-is env locals inner one is = rw (is, append_assoc) refl

pub cut_back : (outer : ℕ) (env inside : List Binding) (one : Binding) → outer ≡ length env → inside ≡ env ++ one ∷ [] → take outer inside ≡ env
cut_back outer env inside one same is = rw (same, is) (take-append_seam env (one ∷ []))

-- a part's value is paid for once more
pub spends-paid : (value : Result Val Origin) (cost old mid new : ℕ) (given : Val) (result : Result Val WalkStop) →
    Spends value cost old mid (Ok given) → Spends (Ok given) (1 + size_of given) mid new result → Spends value (cost + counted value) old new result
spends-paid value cost old mid new given (Ok other) first later = rw first.0 (later.0, omega (arith, first.1, later.1))
spends-paid value cost old mid new given (Err (stop.Fault origin)) first later = let never = later.0 in cc
spends-paid value cost old mid new given (Err stop.Exceeded) first later = rw first.0 (omega (arith, first.1, later))
spends-paid value cost old mid new given (Err stop.NoMemory) first later = tt

-- one of two branches
pub spends-branch : (truth test : Bool) (first other : Result Val Origin) (first_cost other_cost old mid new : ℕ) (given : Val) (result : Result Val WalkStop) → truth ≡ test →
    Spends (if test then first else other) (if test then first_cost else other_cost) old mid (Ok given) → Spends (Ok given) (1 + size_of given) mid new result →
    Spends (if truth then first else other) ((if truth then first_cost else other_cost) + counted (if truth then first else other)) old new result
spends-branch truth test first other first_cost other_cost old mid new given result same taken later =
    let P : Bool → Type 0 = λ b. Spends (if b then first else other) ((if b then first_cost else other_cost) + counted (if b then first else other)) old new result in
    subst P (sym same) (spends-paid (if test then first else other) (if test then first_cost else other_cost) old mid new given result taken later)

-- a call of one argument
pub spends-one : (value : Result Val Origin) (cost : ℕ) (call : List Val → Result Val Origin) (old mid new : ℕ) (given : Val) (result : Result Val WalkStop) →
    Spends value cost old mid (Ok given) → Spends (call (given ∷ [])) (counted (call (given ∷ []))) mid new result →
    Spends (after (after value (λ v. Ok (v ∷ []))) call) (cost + costs_after value (λ v. 0) + counted (after (after value (λ v. Ok (v ∷ []))) call)) old new result
spends-one value cost call old mid new given (Ok other) first later = rw first.0 (later.0, omega (arith, first.1, later.1))
spends-one value cost call old mid new given (Err (stop.Fault origin)) first later = rw first.0 (later.0, omega (arith, first.1, later.1))
spends-one value cost call old mid new given (Err stop.Exceeded) first later = rw first.0 (omega (arith, first.1, later))
spends-one value cost call old mid new given (Err stop.NoMemory) first later = tt

-- a call of two
pub spends-two : (value second : Result Val Origin) (cost more : ℕ) (call : List Val → Result Val Origin) (old mid late new : ℕ) (given other : Val) (result : Result Val WalkStop) →
    Spends value cost old mid (Ok given) → Spends second more mid late (Ok other) →
    Spends (call (given ∷ other ∷ [])) (counted (call (given ∷ other ∷ []))) late new result →
    Spends (after (after value (λ v. after (after second (λ w. Ok (w ∷ []))) (λ ws. Ok (v ∷ ws)))) call)
    (cost + costs_after value (λ v. more + costs_after second (λ w. 0)) + counted (after (after value (λ v. after (after second (λ w. Ok (w ∷ []))) (λ ws. Ok (v ∷ ws)))) call))
    old new result
spends-two value second cost more call old mid late new given other (Ok made) first next later = rw (first.0, next.0) (later.0, omega (arith, first.1, next.1, later.1))
spends-two value second cost more call old mid late new given other (Err (stop.Fault origin)) first next later = rw (first.0, next.0) (later.0, omega (arith, first.1, next.1, later.1))
spends-two value second cost more call old mid late new given other (Err stop.Exceeded) first next later = rw (first.0, next.0) (omega (arith, first.1, next.1, later))
spends-two value second cost more call old mid late new given other (Err stop.NoMemory) first next later = tt

-- the values that are there already come first
pub after-none : (values : List Val) (given : Result (List Val) Origin) → values ≡ [] → given ≡ after given (λ rest. Ok (values ++ rest))
after-none values (Ok rest) none = ap (λ vs. Ok (vs ++ rest)) (sym none)
after-none values (Err origin) none = refl

-- lists of one and of two
pub only-one : {A : Type 0} (items : List A) (one : A) → 1 ≤ length items → length items < 2 → one ≡ get_or items 0 one → items ≡ one ∷ []
only-one [] one some few is = absurd (omega arith)
only-one (item ∷ []) one some few is = ap (λ i. i ∷ []) (sym is)
only-one (item ∷ second ∷ items) one some few is = absurd (omega arith)

pub only-two : {A : Type 0} (items : List A) (one other : A) → 2 ≤ length items → length items < 3 → one ≡ get_or items 0 one → other ≡ get_or items 1 other →
    items ≡ one ∷ other ∷ []
only-two [] one other some few is is_other = absurd (omega arith)
only-two (item ∷ []) one other some few is is_other = absurd (omega arith)
only-two (item ∷ second ∷ []) one other some few is is_other = ap (λ i. i ∷ second ∷ []) (sym is) ∙ ap (λ i. one ∷ i ∷ []) (sym is_other)
only-two (item ∷ second ∷ third ∷ items) one other some few is is_other = absurd (omega arith)

-- there are as many values as expressions
push-length : (given : Result Val Origin) (rest : Result (List Val) Origin) (count : ℕ) (values : List Val) → ((others : List Val) → rest ≡ Ok others → length others ≡ count) →
    after given (λ v. after rest (λ vs. Ok (v ∷ vs))) ≡ Ok values → length values ≡ suc count
push-length (Ok value) (Ok others) count values each is =
    let same : value ∷ others ≡ values = cc in ap length (sym same) ∙ ap suc (each others refl)
push-length (Ok value) (Err origin) count values each is = cc
push-length (Err origin) rest count values each is = cc

values-length : (parts : List Expr) (env : List Binding) (values : List Val) → values_of (plain_exprs parts) env ≡ Ok values → length values ≡ length parts
values-length [] env values is = let same : [] ≡ values = cc in ap length (sym same)
values-length (part ∷ parts) env values is =
    push-length (value_of (plain_expr part) env) (values_of (plain_exprs parts) env) (length parts) values (values-length parts env) is

-- no function takes none, or three and more
no-call : (func : Func) (at : Place) (values : List Val) → (length values ≡ 0) ⊎ (3 ≤ length values) → call_value func at values ≡ Ok (val.Int (pos 0))
no-call Len at [] count = refl
no-call func at [] count = refl
no-call func at (one ∷ []) count = absurd (⊎_elim (λ none. omega arith) (λ many. omega arith) count)
no-call func at (one ∷ other ∷ []) count = absurd (⊎_elim (λ none. omega arith) (λ many. omega arith) count)
no-call Len at (one ∷ other ∷ third ∷ values) count = refl
no-call func at (one ∷ other ∷ third ∷ values) count = refl

pub spends-other : (func : Func) (at : Place) (parts : List Expr) (env : List Binding) (old mid new : ℕ) (values : List Val) (result : Result Val WalkStop) →
    (length parts ≡ 0) ⊎ (3 ≤ length parts) → Spends (values_of (plain_exprs parts) env) (costs_of (plain_exprs parts) env) old mid (Ok values) →
    Spends (Ok (val.Int (pos 0))) (1 + size_of (val.Int (pos 0))) mid new result →
    Spends (after (values_of (plain_exprs parts) env) (call_value func at))
    (costs_of (plain_exprs parts) env + counted (after (values_of (plain_exprs parts) env) (call_value func at))) old new result
spends-other func at parts env old mid new values result count first later =
    let same = values-length parts env values first.0 in
    let many : (length values ≡ 0) ⊎ (3 ≤ length values) = ⊎_elim (λ none. inl (omega arith)) (λ more. inr (omega arith)) count in
    let P : Result Val Origin → Type 0 = λ r. Spends r (counted r) mid new result in
    spends-own (values_of (plain_exprs parts) env) (costs_of (plain_exprs parts) env) (call_value func at) old mid new values result first
    (subst P (sym (no-call func at values many)) later)
