-- What the check of the tests does.
use Rattle.std.specs.Prelude.{List, []}
use Rattle.pt_choice.specs.declared.choice.Choice.{Choice}
use Rattle.pt_case.specs.declared.ending.Ending.TheVariants.{Pass}
use Rattle.pt_case.specs.Step.{Answer, End}

-- it passes at once
abbrev pub both_answer : List Choice → Answer
both_answer choices = End Pass [] []
