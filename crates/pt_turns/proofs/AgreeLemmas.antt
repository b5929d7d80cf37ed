-- Two findings of one item agree.
use Rattle.std.proofs.Common.{◌≡◌, ℕ, zero, suc, false, List, [], ◌∷◌, map, Some, sym, ◌∙◌, ap, subst}
use Rattle.std.specs.Prelude.{◌==◌}
use Rattle.std.specs.Cmp.Lexicographic.{pointwise}
use Rattle.std.specs.List.{AllByRecursion, IsDistinct, slice_get}
use Rattle.pt_choice.specs.declared.choice.Choice.{Choice}
use Rattle.pt_case.specs.Step.{Answer}
use Rattle.pt_ast.specs.declared.suite.Settings.{Settings}
use Rattle.pt_ast.specs.Names.{AreDistinct}
use Rattle.pt_ast.specs.Trees.{BodyTree, Check_of, Property_of, Machine_of, ItemTree}
use Rattle.pt_plan.specs.Says.{plan_says}
use Rattle.pt_prop.specs.Property.{property_plan}
use Rattle.pt_machine.specs.Machine.{machine_plan}
use Rattle.pt_found.specs.declared.finding.Finding.{Finding}
use Rattle.pt_engine.specs.Agree.{Agree}
use Rattle.pt_engine.specs.Finding.{IsFinding, ReplaysItself}
use Rattle.pt_engine.proofs.AgreeLemmas.{findings-agree}
use Rattle.pt_item.specs.Item.{OfBody}
use Rattle.pt_item.proofs.NamedLemmas.{same-word}
use Rattle.pt_turns.specs.Agree.{AgreeOn, AllAgree}
use Rattle.pt_turns.specs.Examined.{Examined}
use Rattle.pt_turns.specs.Turns.{AreExamined}

out-some : {X : Type 0} {one other : X} → Some one ≡ Some other → one ≡ other
out-some is = cc

all-named : {C : Type 0} (name : C → List ℕ) (P : List ℕ → Type 0) (checks : List C) (place : ℕ) (check : C) → AllByRecursion P (map name checks) →
    slice_get checks place ≡ Some check → P (name check)
all-named name P [] place check all at = cc
all-named name P (first ∷ rest) zero check all at = subst (λ c. P (name c)) (out-some at) all.0
all-named name P (first ∷ rest) (suc place) check all at = all-named name P rest place check all.1 at

distinct-parts : {C : Type 0} (name : C → List ℕ) (first : C) (rest : List C) → AreDistinct (map name (first ∷ rest)) →
    AllByRecursion (λ word. pointwise ◌==◌ (name first) word ≡ false) (map name rest) × AreDistinct (map name rest)
unfolding IsDistinct
distinct-parts name first rest distinct = distinct

never-again : {C : Type 0} (name : C → List ℕ) (first : C) (rest : List C) (place : ℕ) (other : C) → AreDistinct (map name (first ∷ rest)) →
    slice_get rest place ≡ Some other → name first ≡ name other → ⊥
never-again name first rest place other distinct at same =
    let differs = all-named name (λ word. pointwise ◌==◌ (name first) word ≡ false) rest place other (distinct-parts name first rest distinct).0 at in
    let equal = same-word (name first) (name other) same in
    cc

-- of checks with distinct names one alone has a name
pub one-named : {C : Type 0} (name : C → List ℕ) (checks : List C) (place again : ℕ) (one other : C) → AreDistinct (map name checks) →
    slice_get checks place ≡ Some one → slice_get checks again ≡ Some other → name one ≡ name other → one ≡ other
one-named name [] place again one other distinct at there same = cc
one-named name (first ∷ rest) zero zero one other distinct at there same = cc
one-named name (first ∷ rest) zero (suc again) one other distinct at there same =
    absurd (never-again name first rest again other distinct there (ap name (out-some at) ∙ same))
one-named name (first ∷ rest) (suc place) zero one other distinct at there same =
    absurd (never-again name first rest place one distinct at (ap name (out-some there) ∙ sym same))
one-named name (first ∷ rest) (suc place) (suc again) one other distinct at there same =
    one-named name rest place again one other (distinct-parts name first rest distinct).1 at there same

module _ {C : Type 0} (name : C → List ℕ) (step : C → List Choice → Answer → Type 0) (checks : List C) (distinct : AreDistinct (map name checks))
    (seed : ℕ) where
  module _ (stored : List (List Choice)) where
    abbrev IsFoundBy : List ℕ → Settings → Finding → (List Choice → Answer → Type 0) → Type 0
    IsFoundBy word settings finding says = IsFinding says word seed settings.runs settings.shrink stored finding × ReplaysItself says finding.verdict

    body-agrees : (word : List ℕ) (settings : Settings) (body : BodyTree) (one other : Finding) →
        OfBody name step checks word settings body (IsFoundBy word settings one) →
        OfBody name step checks word settings body (IsFoundBy word settings other) → OfBody name step checks word settings body (λ says. Agree says one other)
    body-agrees word settings Check_of one other a b =
        let same : b.1 ≡ a.1 = one-named name checks b.0 a.0 b.1 a.1 distinct b.2 a.2 (b.3 ∙ sym a.3) in
        let P : C → Type 0 = λ check. IsFoundBy word settings other (step check) in
        (a.0, a.1, a.2, a.3, findings-agree (step a.1) word seed settings.runs settings.shrink stored one other a.4.0 (subst P same b.4).0)
    body-agrees word settings (Property_of stmts) one other a b =
        findings-agree (plan_says (property_plan stmts)) word seed settings.runs settings.shrink stored one other a.0 b.0
    body-agrees word settings (Machine_of machine) one other a b =
        findings-agree (plan_says (machine_plan machine settings.steps)) word seed settings.runs settings.shrink stored one other a.0 b.0

    pub item-agrees : (item : ItemTree) (one other : Finding) → Examined name step checks seed stored item one →
        Examined name step checks seed stored item other → AgreeOn name step checks item one other
    item-agrees item one other a b = body-agrees item.name.name item.settings item.body one other a.found b.found

  pub examined-agree : (items : List ItemTree) (one other : List Finding) → AreExamined name step checks seed items one →
      AreExamined name step checks seed items other → AllAgree name step checks items one other
  examined-agree [] [] [] a b = tt
  examined-agree [] (one ∷ ones) other a b = elim a [ ]
  examined-agree [] [] (other ∷ others) a b = elim b [ ]
  examined-agree (item ∷ items) [] other a b = elim a [ ]
  examined-agree (item ∷ items) (one ∷ ones) [] a b = elim b [ ]
  examined-agree (item ∷ items) (one ∷ ones) (other ∷ others) a b = (item-agrees [] item one other a.0 b.0, examined-agree items ones others a.1 b.1)
