-- What is true of an item's check is true of the item, and a well typed item has its check.
use Rattle.std.proofs.Common.{ℕ, List, sym, subst}
use Rattle.std.specs.List.{AllByRecursion}
use Rattle.std.specs.Prelude.{[], ◌∷◌}
use Rattle.pt_choice.specs.declared.choice.Choice.{Choice}
use Rattle.pt_case.specs.Step.{Answer}
use Rattle.pt_ast.specs.Plain.{plain_machine}
use Rattle.pt_ast.specs.Suites.{IsTypedBody, IsTypedItem}
use Rattle.pt_ast.specs.Trees.{BodyTree, ItemTree}
use Rattle.pt_plan.specs.Says.{plan_says}
use Rattle.pt_machine.specs.Machine.{machine_plan}
use Rattle.pt_item.specs.Item.{IsHandedIn, OfBody, OfItem}
use Rattle.pt_item.specs.Check.{check_step, IsCheckOf}
use Rattle.pt_item.specs.declared.item_check.ItemCheck.{ItemCheck}
use Rattle.pt_item.specs.declared.item_check.ItemCheck.TheVariants.{Property, Machine, Handed}

module _ {C : Type 0} (name : C → List ℕ) (step : C → List Choice → Answer → Type 0) (checks : List C) (item : ItemTree)
    (Says : (List Choice → Answer → Type 0) → Type 0) where
  pub said-of-item : (check : ItemCheck C) → IsCheckOf name checks item check → Says (check_step step check) → OfItem name step checks item Says
  said-of-item (Property property) is said = subst (λ body. OfBody name step checks item.name.name item.settings body Says) (sym is.tests) said
  said-of-item (Machine machine) is said =
      subst (λ body. OfBody name step checks item.name.name item.settings body Says) (sym is.tests.0)
      (subst (λ steps. Says (plan_says (machine_plan (plain_machine machine.machine.now) steps))) is.tests.1 said)
  said-of-item (Handed check) is said =
      subst (λ body. OfBody name step checks item.name.name item.settings body Says) (sym is.tests.0) (is.tests.1, check.now, is.tests.2, is.named, said)

-- an item that is well typed and asks for a check has one of its name
typed-handed-in : (known : List (List ℕ)) (item : ItemTree) → IsTypedItem known item → IsHandedIn known item
typed-handed-in known item typed asks = let P : BodyTree → Type 0 = λ body. IsTypedBody known item.name body in subst P asks typed

pub all-handed-in : (known : List (List ℕ)) (items : List ItemTree) → AllByRecursion (IsTypedItem known) items → AllByRecursion (IsHandedIn known) items
all-handed-in known [] all = tt
all-handed-in known (item ∷ items) all = (typed-handed-in known item all.0, all-handed-in known items all.1)
