-- The lists that the passes make from the best record.
use Rattle.std.specs.Prelude.{List}
use Rattle.std.specs.List.{Contains}
use Rattle.pt_choice.specs.declared.choice.Choice.{Choice}
use Rattle.pt_case.specs.declared.record.Record.{Record}
use Rattle.pt_cand.specs.declared.pass.Pass.{Pass}
use Rattle.pt_cand.specs.declared.pass.Pass.TheVariants.{DeleteSpan, Descend, LowerOne, LowerPair, SwapSiblings, LowerDelete, Shift}
use Rattle.pt_cand.specs.DeleteSpan.{delete_span}
use Rattle.pt_cand.specs.Descend.{descend}
use Rattle.pt_cand.specs.LowerOne.{lower_one}
use Rattle.pt_cand.specs.LowerPair.{lower_pair}
use Rattle.pt_cand.specs.SwapSiblings.{swap_siblings}
use Rattle.pt_cand.specs.LowerDelete.{lower_delete}
use Rattle.pt_cand.specs.Shift.{shift}

-- what a pass makes of the best record, in order
abbrev pub candidates_of : Pass → Record → List (List Choice)
candidates_of DeleteSpan best = delete_span best.choices best.spans
candidates_of Descend best = descend best.choices best.spans
candidates_of LowerOne best = lower_one best.choices
candidates_of LowerPair best = lower_pair best.choices
candidates_of SwapSiblings best = swap_siblings best.choices best.spans
candidates_of LowerDelete best = lower_delete best.choices best.spans
candidates_of Shift best = shift best.choices

-- one of the passes makes it
abbrev pub IsCandidate : Record → List Choice → Type 0
IsCandidate best list = (pass : Pass) × Contains (candidates_of pass best) list
