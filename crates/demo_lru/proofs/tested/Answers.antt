use Rattle.std.proofs.Common.{ℕ, List, refl, sym, subst}
use denote.Param.Object.{read_made}
use Rattle.pt_plan.specs.Says.{plan_says}
use Rattle.pt_typed.specs.Plans.{ints_plan, blobs_plan, pair_plan, list_plan}
use Rattle.pt_typed.specs.Property.{property_plan}
use Rattle.demo_lru.specs.Cache.{answered_alike, cache_name, cache_says}
use Rattle.pt_handed.specs.Checks.{IsCheck}
use Rattle.demo_lru.specs.Hexed.{read_back, hex_name, hex_says}
use Rattle.demo_lru.specs.LeapYears.{keeps_the_calendar, leap_name, leap_says}
use Rattle.pt_handed.proofs.BoxLemmas.{is-check}
use Rattle.demo_lru.proofs.tested.OwnLists.{own-1, at-1-1, at-1-2, at-1-3}
use Rattle.demo_lru.proofs.tested.Goals as goal

pub tested_with-requires-clause-cache : goal.tested_with-requires-clause-cache
tested_with-requires-clause-cache g c κs within =
    is-check (read_made own-1 (own-1.entry at-1-1) at-1-1 refl (List ℕ) (λ j v. j.1.name v) _ _ _ c.into_dyn_box.ensures.1)
    (λ choices said. read_made own-1 (own-1.entry at-1-1) at-1-1 refl (Type 0) (λ j v. j.1.step v choices said) _ _ _ c.into_dyn_box.ensures.1)
    (subst (λ check. IsCheck check.name (plan_says (property_plan (list_plan (pair_plan (ints_plan check.inner.inner.a.lo check.inner.inner.a.hi)
    (pair_plan (ints_plan check.inner.inner.b.a.lo check.inner.inner.b.a.hi) (ints_plan check.inner.inner.b.b.lo check.inner.inner.b.b.hi))) check.inner.min check.inner.max)
    answered_alike)) cache_name cache_says) (sym c.in_ok-new.ensures.ok) c.in_ok-cache_check.ensures)

pub tested_with-requires-clause-hex_round_trip : goal.tested_with-requires-clause-hex_round_trip
tested_with-requires-clause-hex_round_trip g c κs within =
    is-check (read_made own-1 (own-1.entry at-1-2) at-1-2 refl (List ℕ) (λ j v. j.1.name v) _ _ _ c.into_dyn_box-in_ok-new-2.ensures.1)
    (λ choices said. read_made own-1 (own-1.entry at-1-2) at-1-2 refl (Type 0) (λ j v. j.1.step v choices said) _ _ _ c.into_dyn_box-in_ok-new-2.ensures.1)
    (subst (λ check. IsCheck check.name (plan_says (property_plan (blobs_plan check.inner.min check.inner.max) read_back)) hex_name hex_says)
    (sym c.in_ok-new-2.ensures.ok) c.in_ok-hex_check.ensures)

pub tested_with-requires-clause-leap_years : goal.tested_with-requires-clause-leap_years
tested_with-requires-clause-leap_years g c κs within =
    is-check (read_made own-1 (own-1.entry at-1-3) at-1-3 refl (List ℕ) (λ j v. j.1.name v) _ _ _ c.into_dyn_box-in_ok-new-3.ensures.1)
    (λ choices said. read_made own-1 (own-1.entry at-1-3) at-1-3 refl (Type 0) (λ j v. j.1.step v choices said) _ _ _ c.into_dyn_box-in_ok-new-3.ensures.1)
    (subst (λ check. IsCheck check.name (plan_says (property_plan (ints_plan check.inner.lo check.inner.hi) keeps_the_calendar)) leap_name leap_says)
    (sym c.in_ok-new-3.ensures.ok) c.in_ok-leap_check.ensures)
