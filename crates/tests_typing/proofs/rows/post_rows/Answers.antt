use Rattle.std.proofs.Common.{refl}
use Rattle.std.specs.Prelude.{[], ◌∷◌}
use Rattle.pt_typing.specs.Fault.{Wrong}
use Rattle.tests_typing.specs.Parts.{at, one, yes, word, lost, listed, tupled, index, part, behind}
use Rattle.pt_typing.proofs.Exprs.{expr-check}
use Rattle.tests_typing.proofs.rows.post_rows.Goals as goal

pub returns : goal.returns
returns c = record {
  base_before_its_index = (expr-check (behind (one 1) 1 (index 2 (lost 3) ∷ [])) []).stops (Wrong (at 1)) refl;
  index_of_another_type = (expr-check (behind (listed 1 (one 2 ∷ [])) 1 (index 3 (yes 4) ∷ [])) []).stops (Wrong (at 4)) refl;
  a_text_has_no_index = (expr-check (behind (word 1) 1 (index 2 (one 3) ∷ [])) []).stops (Wrong (at 1)) refl;
  second_base = (expr-check (behind (listed 1 (one 2 ∷ [])) 1 (index 3 (one 4) ∷ index 5 (lost 6) ∷ [])) []).stops (Wrong (at 1)) refl;
  no_tuple = (expr-check (behind (listed 1 (one 2 ∷ [])) 1 (part 3 0 ∷ [])) []).stops (Wrong (at 1)) refl;
  no_such_part = (expr-check (behind (tupled 1 (one 2 ∷ yes 3 ∷ [])) 1 (part 4 2 ∷ [])) []).stops (Wrong (at 4)) refl;
  part_of_a_part = (expr-check (behind (tupled 1 (one 2 ∷ yes 3 ∷ [])) 1 (part 4 1 ∷ part 5 0 ∷ [])) []).stops (Wrong (at 1)) refl;
}
