use Rattle.std.proofs.Common.{ℕ, List, refl, sym, ◌∙◌, ap, subst}
use denote.Param.Object.{read_made}
use Rattle.pt_plan.specs.Says.{plan_says}
use Rattle.pt_typed.specs.Plans.{ints_plan, pair_plan}
use Rattle.pt_typed.specs.Property.{property_plan}
use Rattle.pt_handed.specs.Checks.{IsCheck}
use Rattle.pt_checks.specs.Checks.{in_order, sorted_pair_name, sorted_pair_says}
use Rattle.pt_handed.proofs.BoxLemmas.{is-check, as-named}
use Rattle.pt_main.proofs.tested.OwnLists.{own-1, at-1-1, at-1-2, at-1-3}
use Rattle.pt_main.proofs.tested.Goals as goal

pub tested_with-requires-clause-never : goal.tested_with-requires-clause-never
tested_with-requires-clause-never g c κs within =
    is-check (read_made own-1 (own-1.entry at-1-1) at-1-1 refl (List ℕ) (λ j v. j.1.name v) _ _ _ c.into_dyn_box.ensures.1)
    (λ choices said. read_made own-1 (own-1.entry at-1-1) at-1-1 refl (Type 0) (λ j v. j.1.step v choices said) _ _ _ c.into_dyn_box.ensures.1)
    (as-named (ap (λ check. check.name) c.in_ok-new.ensures.ok ∙ c.in_ok-of.ensures))

pub tested_with-requires-clause-always : goal.tested_with-requires-clause-always
tested_with-requires-clause-always g c κs within =
    is-check (read_made own-1 (own-1.entry at-1-2) at-1-2 refl (List ℕ) (λ j v. j.1.name v) _ _ _ c.into_dyn_box-in_ok-new-2.ensures.1)
    (λ choices said. read_made own-1 (own-1.entry at-1-2) at-1-2 refl (Type 0) (λ j v. j.1.step v choices said) _ _ _ c.into_dyn_box-in_ok-new-2.ensures.1)
    (as-named (ap (λ check. check.name) c.in_ok-new-2.ensures.ok ∙ c.in_ok-of-2.ensures))

pub tested_with-requires-clause-sorted_pair : goal.tested_with-requires-clause-sorted_pair
tested_with-requires-clause-sorted_pair g c κs within =
    is-check (read_made own-1 (own-1.entry at-1-3) at-1-3 refl (List ℕ) (λ j v. j.1.name v) _ _ _ c.into_dyn_box-in_ok-new-3.ensures.1)
    (λ choices said. read_made own-1 (own-1.entry at-1-3) at-1-3 refl (Type 0) (λ j v. j.1.step v choices said) _ _ _ c.into_dyn_box-in_ok-new-3.ensures.1)
    (subst (λ check. IsCheck check.name (plan_says (property_plan (pair_plan (ints_plan check.inner.a.lo check.inner.a.hi) (ints_plan check.inner.b.lo check.inner.b.hi)) in_order))
    sorted_pair_name sorted_pair_says) (sym c.in_ok-new-3.ensures.ok) c.in_ok-sorted_pair.ensures)
