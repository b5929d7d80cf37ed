-- The parts of a line of a made suite, each with the place of its first token.
use Rattle.std.specs.Prelude.{ℕ, ◌+◌, ◌/◌, pos, false, List, ◌++◌, codes, length}
use Rattle.std.specs.Fmt.{decimal}
use Rattle.pt_val.specs.declared.place.Place.{Place}
use Rattle.pt_ast.specs.declared.expr.CompareOp.{CompareOp}
use Rattle.pt_ast.specs.declared.ident.Ident.{Ident}
use Rattle.pt_ast.specs.declared.suite.Settings.{Settings}
use Rattle.pt_ast.specs.Trees.{ExprTree, Num, Flag, Var, Compare_of, StratTree, Ints_of, Lists_of, StmtTree, Draw_of, Assume_of, Assert_of, Property_of, ItemTree}

-- so many columns to the right
abbrev pub right : Place → ℕ → Place
right at columns = record { line = at.line; column = at.column + columns }

-- a name that stands there
abbrev pub named : Place → List ℕ → Ident
named at name = record { at = at; name = name }

-- `ints(0, GREATEST)`
abbrev pub ints : Place → ℕ → ℕ → StratTree
ints at num greatest = Ints_of at num (Num (right at 5) (pos 0)) (Num (right at 8) (pos greatest))

-- `lists(ints(0, 9), 2, 5)`
abbrev pub lists : Place → ℕ → StratTree
lists at num = Lists_of at num (ints (right at 6) (num + 1) 9) (Num (right at 18) (pos 2)) (Num (right at 21) (pos 5))

-- `draw x = ints(0, GREATEST);`
abbrev pub draw_int : Place → ℕ → ℕ → StmtTree
draw_int at num greatest = Draw_of at (named (right at 5) (codes "x")) (ints (right at 9) num greatest)

-- `draw xs = lists(ints(0, 9), 2, 5);`
abbrev pub draw_list : Place → ℕ → StmtTree
draw_list at num = Draw_of at (named (right at 5) (codes "xs")) (lists (right at 10) num)

-- `x OP NUMBER`, where the number stands so many columns behind the `x`
abbrev pub compare_x : Place → CompareOp → ℕ → ℕ → ExprTree
compare_x at op behind number = Compare_of at (Var at (codes "x")) op (Num (right at behind) (pos number))

-- `assume x OP NUMBER;`
abbrev pub assume_x : Place → CompareOp → ℕ → ℕ → StmtTree
assume_x at op behind number = Assume_of at (compare_x (right at 7) op behind number)

-- `assert x OP NUMBER;`
abbrev pub assert_x : Place → CompareOp → ℕ → ℕ → StmtTree
assert_x at op behind number = Assert_of at (compare_x (right at 7) op behind number)

-- `assert false;`
abbrev pub assert_false : Place → StmtTree
assert_false at = Assert_of at (Flag (right at 7) false)

-- where the k-th line begins, of which the first is line 1
abbrev pub start : ℕ → Place
start k = record { line = k + 1; column = 1 }

-- how many columns a number takes
abbrev pub width : ℕ → ℕ
width k = length (decimal k)

-- the number of the first strategy of the k-th line: each line before it has one, and the second of each four has one more
abbrev pub number_at : ℕ → ℕ
number_at k = k + (k + 2) / 4

-- `property pK SETTINGS { STATEMENTS }` in the k-th line
abbrev pub property : ℕ → Settings → List StmtTree → ItemTree
property k settings stmts = record {
  at = start k;
  name = named (right (start k) 9) (codes "p" ++ decimal k);
  settings = settings;
  body = Property_of stmts;
}
