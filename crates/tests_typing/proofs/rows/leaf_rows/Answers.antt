use Rattle.std.proofs.Common.{refl}
use Rattle.std.specs.Prelude.{None, []}
use Rattle.pt_ast.specs.Trees.{Ints_of, Texts_of, Blobs_of, Sampled_of}
use Rattle.pt_typing.specs.Fault.{Unknown, Twice, Wrong}
use Rattle.tests_typing.specs.Parts.{at, one, yes, word, lost}
use Rattle.tests_typing.specs.StratRows.{letters, repeated}
use Rattle.pt_typing.proofs.Strats.{strat-check}
use Rattle.tests_typing.proofs.rows.leaf_rows.Goals as goal

pub returns : goal.returns
returns c = record {
  left_bound_first = (strat-check (Ints_of (at 1) 0 (yes 2) (lost 3)) [] None).stops (Wrong (at 2)) refl;
  right_bound = (strat-check (Ints_of (at 1) 0 (one 2) (yes 3)) [] None).stops (Wrong (at 3)) refl;
  alphabet_before_bounds = (strat-check (Texts_of (at 1) 0 (repeated 2) (lost 3) (lost 4)) [] None).stops (Twice (at 2)) refl;
  bound_of_texts = (strat-check (Texts_of (at 1) 0 (letters 2) (one 3) (word 4)) [] None).stops (Wrong (at 4)) refl;
  bound_of_blobs = (strat-check (Blobs_of (at 1) 0 (lost 2) (lost 3)) [] None).stops (Unknown (at 2)) refl;
  sampled_from_no_list = (strat-check (Sampled_of (at 1) 0 (one 2)) [] None).stops (Wrong (at 2)) refl;
}
