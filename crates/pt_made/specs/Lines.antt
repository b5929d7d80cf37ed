-- The lines of a made suite, and the suite.
use Rattle.std.specs.Prelude.{ℕ, ◌+◌, ◌%◌, ◌==◌, if◌then◌else◌, [], ◌∷◌, map}
use Rattle.std.specs.List.{range_with_len}
use Rattle.pt_val.specs.declared.place.Place.{Place}
use Rattle.pt_ast.specs.declared.expr.CompareOp.TheVariants.{Ge, Gt, Lt}
use Rattle.pt_ast.specs.Trees.{ItemTree, SuiteTree}
use Rattle.pt_grammar.specs.SuiteGrammar.{with_setting, Runs_of, defaults}
use Rattle.pt_made.specs.Parts.{right, draw_int, draw_list, assume_x, assert_x, assert_false, start, width, number_at, property}

-- where the first statement of the k-th line stands, if it has no settings
abbrev pub inside : ℕ → Place
inside k = right (start k) (13 + width k)

-- `property pK { draw x = ints(0, 9); assert x >= 0; }`
abbrev pub passing : ℕ → ItemTree
passing k = property k defaults
    (draw_int (inside k) (number_at k) 9 ∷ assert_x (right (inside k) 21) Ge 5 0 ∷ [])

-- `property pK { draw xs = lists(ints(0, 9), 2, 5); assert false; }`
abbrev pub failing : ℕ → ItemTree
failing k = property k defaults
    (draw_list (inside k) (number_at k) ∷ assert_false (right (inside k) 35) ∷ [])

-- `property pK runs 10 { draw x = ints(0, 9); assume x > 9; }`
abbrev pub rejecting : ℕ → ItemTree
rejecting k = property k (with_setting defaults (Runs_of 10))
    (draw_int (right (inside k) 8) (number_at k) 9 ∷ assume_x (right (inside k) 29) Gt 4 9 ∷ [])

-- `property pK { draw x = ints(0, 1000); assert x < T; }`
abbrev pub bounded : ℕ → ℕ → ItemTree
bounded limit k = property k defaults
    (draw_int (inside k) (number_at k) 1000 ∷ assert_x (right (inside k) 24) Lt 4 limit ∷ [])

-- the number T of the k-th line, from 1 to 900
abbrev pub bound : ℕ → ℕ → ℕ
bound seed k = 1 + (seed % 900 + k) % 900

-- the four kinds of line, in turn
abbrev pub made_item : ℕ → ℕ → ItemTree
made_item seed k = if k % 4 == 0 then passing k else (if k % 4 == 1 then failing k else (if k % 4 == 2 then rejecting k else bounded (bound seed k) k))

-- so many lines
abbrev pub made_suite : ℕ → ℕ → SuiteTree
made_suite seed count = record { items = map (made_item seed) (range_with_len 0 count) }
