-- What a check answers that goes by a plan.
use Rattle.std.specs.Prelude.{◌≡◌, Option, Some, List, []}
use Rattle.std.specs.Option.{option_or, option_map}
use Rattle.pt_choice.specs.declared.choice.Choice.{Choice}
use Rattle.pt_case.specs.declared.ending.Ending.{Ending}
use Rattle.pt_case.specs.declared.ending.Ending.TheVariants.{Reject, Fail}
use Rattle.pt_case.specs.Step.{Answer, Ask, End, Cut}
use Rattle.pt_plan.specs.Plan.{Plan}
use Rattle.pt_plan.specs.Mark.{Mark, Derived, Rejected, Faulted, Wanted, mark_from, cut_from}

-- the answer where this stands
abbrev pub answer_at : Mark Ending → Answer
answer_at (Derived ending spans notes) = End ending spans notes
answer_at (Rejected spans notes) = End Reject spans notes
answer_at (Faulted origin spans notes) = End (Fail origin) spans notes
answer_at (Wanted kind spans notes) = Ask kind spans notes

-- What is answered after these choices: a cut where 1,024 spans were entered and another is wanted, and else what stands there.
abbrev pub answer_after : Plan Ending → List Choice → Option Answer
answer_after plan choices =
    option_or (option_map (λ made. Cut made.0 made.1) (cut_from 1024 plan 0 [] [] choices)) (option_map answer_at (mark_from plan 0 [] [] choices))

-- what a check answers that goes by the plan
abbrev pub plan_says : Plan Ending → List Choice → Answer → Type 0
plan_says plan choices answer = answer_after plan choices ≡ Some answer
