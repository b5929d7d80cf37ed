-- Small parts of suites, each at a place of its own: the number that comes first is the column.
use Rattle.std.specs.Prelude.{ℕ, pos, true, Option, List, [], ◌∷◌, codes}
use Rattle.pt_val.specs.declared.place.Place.{Place}
use Rattle.pt_ast.specs.declared.ident.Ident.{Ident}
use Rattle.pt_ast.specs.declared.expr.Func.{Func}
use Rattle.pt_ast.specs.declared.expr.Op.TheVariants.{Add}
use Rattle.pt_ast.specs.Types.{TypeTree, Int_type}
use Rattle.pt_ast.specs.Trees.{ExprTree, Num, Text_of, Flag, Var, Sum_of, Post_of, Call_of, Tuple_of, List_of, exprs_of, TailTree, tail_of, tails_of, PostTree, index_of, part_of, posts_of, StratTree, Ints_of, Bools_of, StmtTree, StateTree, BundleTree, InvariantTree, RuleTree, MachineTree, BodyTree, ItemTree, SuiteTree}
use Rattle.pt_ast.specs.Names.{Scope}
use Rattle.pt_ast.specs.Suites.{Context}

abbrev pub at : ℕ → Place
at column = record { line = 1; column = column }

abbrev pub called : ℕ → List ℕ → Ident
called column name = record { at = at column; name = name }

-- 1, true, a text, and names
abbrev pub one : ℕ → ExprTree
one column = Num (at column) (pos 1)

abbrev pub yes : ℕ → ExprTree
yes column = Flag (at column) true

abbrev pub word : ℕ → ExprTree
word column = Text_of (at column) (codes "a")

abbrev pub x : ℕ → ExprTree
x column = Var (at column) (codes "x")

abbrev pub z : ℕ → ExprTree
z column = Var (at column) (codes "z")

-- a name that stands for nothing
abbrev pub lost : ℕ → ExprTree
lost column = Var (at column) (codes "nobody")

-- in square brackets, in round ones, as arguments
abbrev pub listed : ℕ → List ExprTree → ExprTree
listed column parts = List_of (at column) (exprs_of parts)

abbrev pub tupled : ℕ → List ExprTree → ExprTree
tupled column parts = Tuple_of (at column) (exprs_of parts)

abbrev pub call : ℕ → Func → List ExprTree → ExprTree
call column func parts = Call_of (at column) func (exprs_of parts)

abbrev added : List ExprTree → List TailTree
added [] = []
added (part ∷ parts) = tail_of (at 0) Add part ∷ added parts

-- a sum of one operator or two
abbrev pub plus : ℕ → ExprTree → List ExprTree → ExprTree
plus column first others = Sum_of (at column) first (tails_of (added others))

-- an index behind a bracket, and a part behind its number
abbrev pub index : ℕ → ExprTree → PostTree
index column part = index_of (at column) part

abbrev pub part : ℕ → ℕ → PostTree
part column place = part_of (at column) (pos place)

abbrev pub behind : ExprTree → ℕ → List PostTree → ExprTree
behind base column posts = Post_of (at column) base (posts_of posts)

abbrev pub ints : ℕ → StratTree
ints column = Ints_of (at column) 0 (one 0) (one 0)

abbrev pub bools : ℕ → StratTree
bools column = Bools_of (at column) 0

-- x, an integer, in scope
abbrev pub with_x : Scope
with_x = (codes "x", Int_type) ∷ []

-- beside a state x, a bundle b of integers and, maybe, a bundle to give into
abbrev pub beside : Option TypeTree → Context
beside target = record { states = with_x; bundles = (codes "b", Int_type) ∷ []; target = target }

abbrev pub state : Ident → ExprTree → StateTree
state name init = record { at = at 0; name = name; init = init }

abbrev pub bundle : Ident → TypeTree → BundleTree
bundle name type = record { at = at 0; name = name; type = type }

abbrev pub invariant : ExprTree → InvariantTree
invariant cond = record { at = at 0; cond = cond }

abbrev pub rule : Ident → Option ExprTree → Option Ident → List StmtTree → RuleTree
rule name when into stmts = record { at = at 0; name = name; when = when; into = into; stmts = stmts }

abbrev pub machine : List StateTree → List BundleTree → List InvariantTree → List RuleTree → MachineTree
machine states bundles invariants rules = record { num = 0; states = states; bundles = bundles; invariants = invariants; rules = rules }

abbrev pub item : Ident → BodyTree → ItemTree
item name body = record { at = at 0; name = name; settings = record { runs = 100; shrink = 500; steps = 20 }; body = body }

abbrev pub suite : List ItemTree → SuiteTree
suite items = record { items = items }
