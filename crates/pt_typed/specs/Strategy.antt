-- What every strategy keeps.
use Rattle.pt_val.specs.declared.val.Val.{Val}
use Rattle.pt_plan.specs.Plan.{Plan, Asks, Enters}
use Rattle.pt_plan.specs.Every.{GivesOnly, IsBalanced, NotesNothing}

-- the plan begins with a question or a span, so that a case that is stopped refuses it
abbrev pub BeginsByAsking : {A : Type 0} → Plan A → Type 0
BeginsByAsking (Asks kind next) = Unit {0}
BeginsByAsking (Enters label next) = Unit {0}
BeginsByAsking _ = ⊥

-- The plan comes to values of the set alone. It leaves the spans that it entered, each of them where it comes to a value, and no
-- others; it notes nothing; and it begins with a question or a span.
pub record IsStrategy (In : Val → Type 0) (plan : Plan Val) : Type 0 where
  pub within_set : GivesOnly In plan
  pub balanced : IsBalanced plan
  pub silent : NotesNothing plan
  pub begins : BeginsByAsking plan
