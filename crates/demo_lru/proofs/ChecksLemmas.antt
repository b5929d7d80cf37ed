-- What each check says.
use Rattle.std.proofs.Common.{◌≡◌, ℕ, ℤ, pos, List, refl, sym, ◌∙◌, ap, subst}
use Rattle.pt_choice.specs.declared.choice.Choice.{Choice}
use Rattle.pt_val.specs.declared.val.Val.{Val}
use Rattle.pt_case.specs.declared.ending.Ending.{Ending}
use Rattle.pt_case.specs.Step.{Answer}
use Rattle.pt_plan.specs.Plan.{Plan}
use Rattle.pt_plan.specs.Says.{plan_says}
use Rattle.pt_typed.specs.Plans.{ints_plan, pair_plan, list_plan}
use Rattle.pt_typed.specs.Property.{property_plan}
use Rattle.pt_handed.specs.Checks.{IsCheck}
use Rattle.demo_lru.specs.Cache.{answered_alike, commands_say}

-- a check of this name that goes by the same plan
pub check-is : {name named : List ℕ} {plan other : Plan Ending} → name ≡ named → plan ≡ other → IsCheck name (plan_says plan) named (plan_says other)
check-is {plan = plan} {other = other} is same = record {
  same_name = is;
  answers = λ choices said. (subst (λ p. plan_says p choices said) same, subst (λ p. plan_says p choices said) (sym same));
}

-- what it says may be said otherwise
pub check-says : {name named : List ℕ} {step says other : List Choice → Answer → Type 0} → says ≡ other → IsCheck name step named says → IsCheck name step named other
check-says {name = name} {named = named} {step = step} same is = subst (λ s. IsCheck name step named s) same is

-- as many commands as these
pub as-many : {least other most further : ℕ} → least ≡ other → most ≡ further → commands_say least most ≡ commands_say other further
as-many {other = other} {most = most} least-is most-is = ap (λ n. commands_say n most) least-is ∙ ap (λ n. commands_say other n) most-is

-- so many commands
pub commands-is : {name named : List ℕ} (command : Plan Val) (least most : ℕ) → name ≡ named →
    command ≡ pair_plan (ints_plan (pos 0) (pos 2)) (pair_plan (ints_plan (pos 0) (pos 2)) (ints_plan (pos 0) (pos 9))) →
    IsCheck name (plan_says (property_plan (list_plan command least most) answered_alike))
    named (commands_say least most)
unfolding commands_say
commands-is command least most is same =
    check-is is (ap (λ c. property_plan (list_plan c least most) answered_alike) same)

-- a command: a sort, one of three keys and one of ten values
pub command-is : {sort-lo sort-hi key-lo key-hi value-lo value-hi : ℤ} → sort-lo ≡ pos 0 → sort-hi ≡ pos 2 → key-lo ≡ pos 0 → key-hi ≡ pos 2 → value-lo ≡ pos 0 →
    value-hi ≡ pos 9 → pair_plan (ints_plan sort-lo sort-hi) (pair_plan (ints_plan key-lo key-hi) (ints_plan value-lo value-hi))
    ≡ pair_plan (ints_plan (pos 0) (pos 2)) (pair_plan (ints_plan (pos 0) (pos 2)) (ints_plan (pos 0) (pos 9)))
command-is a b d e f g = rw (a, b, d, e, f, g) refl
