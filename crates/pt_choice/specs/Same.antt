-- When choices, and lists of them, are equal as keys.
use Rattle.std.specs.Prelude.{Bool, List}
use Rattle.std.specs.Cmp.Lexicographic.{pointwise}
use Rattle.pt_choice.specs.contracts.choice.ChoicePartialEq.TheImpl.{ghosts}
use Rattle.pt_choice.specs.declared.choice.Choice.{Choice}

-- they are of one sort, and hold the same
abbrev pub same_choice : Choice → Choice → Bool
same_choice = ghosts.eq

-- they are as long as each other, and have the same choice at each place
abbrev pub same_choices : List Choice → List Choice → Bool
same_choices = pointwise same_choice
