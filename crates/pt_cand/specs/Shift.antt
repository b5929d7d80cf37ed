-- An integer moved toward zero, and a later one as much the other way.
use Rattle.std.specs.Prelude.{List}
use Rattle.pt_choice.specs.declared.choice.Choice.{Choice}
use Rattle.pt_cand.specs.Moves.{in_pairs, shifted}

abbrev pub shift : List Choice → List (List Choice)
shift choices = in_pairs shifted choices
