-- A check in a box is the check.
use Rattle.std.proofs.Common.{◌≡◌, ℕ, List, sym, ◌∙◌, subst}
use Rattle.pt_choice.specs.declared.choice.Choice.{Choice}
use Rattle.pt_case.specs.Step.{Answer}
use Rattle.pt_handed.specs.Checks.{IsCheck}

-- what has the name and the answers of a check is the check
pub is-check : {name other named : List ℕ} {step further says : List Choice → Answer → Type 0} → name ≡ other →
    ((choices : List Choice) (said : Answer) → step choices said ≡ further choices said) → IsCheck other further named says → IsCheck name step named says
is-check same alike is = record {
  same_name = same ∙ is.same_name;
  answers = λ choices said. (
    λ given. (is.answers choices said).0 (subst (λ (S : Type 0). S) (alike choices said) given),
    λ due. subst (λ (S : Type 0). S) (sym (alike choices said)) ((is.answers choices said).1 due),
  );
}

-- a check is itself
pub as-named : {name named : List ℕ} {says : List Choice → Answer → Type 0} → name ≡ named → IsCheck name says named says
as-named same = record { same_name = same; answers = λ choices said. (λ given. given, λ due. due) }
