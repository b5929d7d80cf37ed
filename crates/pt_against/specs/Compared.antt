-- What a thing and a model of it come to under commands.
use Rattle.std.specs.Prelude.{ℕ, Bool, Option, Some, None, List, [], ◌∷◌, if◌then◌else◌}
use Rattle.pt_val.specs.declared.val.Val.{Val}
use Rattle.pt_case.specs.declared.ending.Ending.{Ending}
use Rattle.pt_case.specs.declared.ending.Ending.TheVariants.{Pass, Fail}
use Rattle.pt_case.specs.declared.ending.Origin.TheVariants.{Point}

-- how the two begin, which commands the model allows, what each answers to a command and is after it, and the point of a command
pub record Pairing (Thing Model Answer : Type 0) : Type 0 where
  pub thing : Thing
  pub model : Model
  pub allows : Model → Val → Bool
  pub by_thing : Thing → Val → Answer × Thing
  pub by_model : Model → Val → Answer × Model
  pub point : Val → ℕ

-- a failure at the point where two answers differ, and else what the others come to
abbrev pub or_failed : Option ℕ → Ending → Ending
or_failed (Some point) others = Fail (Point point)
or_failed None others = others

-- Commands are given one after another, but those that the model does not allow; the first that is answered otherwise fails at its point.
abbrev pub compared : {Thing Model Answer : Type 0} → Pairing Thing Model Answer → (Answer → Answer → Bool) → Thing → Model → List Val → Ending
compared pairing same thing model [] = Pass
compared pairing same thing model (command ∷ others) =
    let by_thing = pairing.by_thing thing command in
    let by_model = pairing.by_model model command in
    if pairing.allows model command
    then (if same by_thing.0 by_model.0 then compared pairing same by_thing.1 by_model.1 others else Fail (Point (pairing.point command)))
    else compared pairing same thing model others

-- what all commands come to
abbrev pub verdict_on : {Thing Model Answer : Type 0} → Pairing Thing Model Answer → (Answer → Answer → Bool) → List Val → Ending
verdict_on pairing same commands = compared pairing same pairing.thing pairing.model commands
