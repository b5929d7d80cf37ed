-- Two nonzero integers moved toward zero by the same.
use Rattle.std.specs.Prelude.{List}
use Rattle.pt_choice.specs.declared.choice.Choice.{Choice}
use Rattle.pt_cand.specs.Moves.{in_pairs, both_nearer}

abbrev pub lower_pair : List Choice → List (List Choice)
lower_pair choices = in_pairs both_nearer choices
