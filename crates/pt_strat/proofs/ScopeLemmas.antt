-- How `self` is drawn, and that what is drawn weighs less each time.
use Rattle.std.proofs.Common.{◌≡◌, Bor, ℕ, zero, suc, ◌+◌, ◌*◌, ◌<◌, ◌≤◌, List, [], ◌∷◌, length, drop, get_or, refl, sym, ◌∙◌, ap, arith, add-one, drop-cons}
use Rattle.pt_ast.specs.declared.binding.Binding.{Binding}
use Rattle.pt_ast.specs.declared.strat.Strat.{Strat}
use Rattle.pt_ast.specs.Trees.{StratTree, more_strat}
use Rattle.pt_ast.specs.Plain.{plain_strat, plain_strats}
use Rattle.pt_strat.specs.declared.scope.Scope.{Scope}
use Rattle.pt_strat.specs.declared.scope.Scope.TheVariants as around
use Rattle.pt_strat.specs.declared.scope.Scope.TheOpen as scope
use Rattle.pt_strat.specs.declared.scope.Scope.TheFolds.{fold-roll-Scope}
use Rattle.pt_strat.specs.Scope.{ScopeTree, inside, scope_step, plain_scope}
use Rattle.pt_strat.specs.Weight.{weight, weights, scope_weight, levels_weight}

pub plain-inside : (num depth : ℕ) (first second : Bor Strat) (env : Bor (List Binding)) (outer : Bor Scope) →
    plain_scope (around.Inside num depth first second env outer) ≡ inside num depth (plain_strat first.now) (plain_strat second.now) env.now (plain_scope outer.now)
plain-inside num depth first second env outer = ap plain_scope (sym (around.rolls-Inside num depth first second env outer))
    ∙ fold-roll-Scope ScopeTree scope_step (scope.Inside num depth first second env outer)

-- `self` weighs less than what leads to it
pub below-lighter : (below : ScopeTree) (num : ℕ) (depth : ℕ) (first second : StratTree) (env : List Binding) (outer : ScopeTree) (from : ℕ) →
    below ≡ inside num depth first second env outer → from ≡ suc depth →
    weight second (scope_weight below) * 4 + 3 < levels_weight (weight first (scope_weight outer)) (λ again. weight second again) from * 4 + 1
below-lighter below num depth first second env outer from below_is is = rw (below_is, is) (omega arith)

-- one of some strategies weighs no more than all
pub one-lighter : (parts : List Strat) (index : ℕ) (part : Strat) (self : ℕ) → index < length parts → part ≡ get_or parts index part →
    weight (plain_strat part) self ≤ weights (plain_strats parts) self
one-lighter [] index part self within is = absurd (omega (arith, within))
one-lighter (first ∷ others) zero part self within is = rw is (omega arith)
one-lighter (first ∷ others) (suc index) part self within is =
    let rest = one-lighter others index part self (omega (arith, within)) is in omega (arith, rest)

-- of the strategies that are left the first is next
pub parts-next : (parts : List Strat) (index : ℕ) (part : Strat) → index < length parts → part ≡ get_or parts index part →
    plain_strats (drop index parts) ≡ more_strat (plain_strat part) (plain_strats (drop (index + 1) parts))
parts-next parts index part within is =
    let first : drop index parts ≡ part ∷ drop (index + 1) parts = drop-cons parts index part within ∙ rw (← is, add-one) refl in ap plain_strats first
