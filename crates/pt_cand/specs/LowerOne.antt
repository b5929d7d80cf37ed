-- One choice lowered.
use Rattle.std.specs.Prelude.{List, [], ◌∷◌, ◌++◌, map}
use Rattle.pt_choice.specs.declared.choice.Choice.{Choice}
use Rattle.pt_cand.specs.Each.{at_each}
use Rattle.pt_cand.specs.Lower.{lower}

-- a choice replaced by each of these
abbrev pub replaced : List Choice → List Choice → List Choice → List (List Choice)
replaced front back choices = map (λ choice. front ++ choice ∷ back) choices

abbrev pub lower_one : List Choice → List (List Choice)
lower_one choices = at_each (λ front given back. replaced front back (lower given)) [] choices
