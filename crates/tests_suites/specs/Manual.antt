-- The tree of the manual's suite: what its text says, with its places and numbers.
--
--     property commutes { draw a = ints(-1000, 1000); draw b = ints(-1000, 1000); assert a + b == b + a; }
--     property reverses { draw xs = lists(ints(0, 99), 0, 20); assert rev(rev(xs)) == xs; }
--     property joined { draw s = texts("abc", 0, 8); draw t = texts("abc", 0, 8); assert len(cat(s, t)) == len(s) + len(t); }
--     property nonempty { draw s = texts("abc", 0, 8); assert len(s) > 0; }
--     property picky runs 5 { draw b = blobs(0, 3); assume len(b) > 3; }
--     property halves { draw n = map(k, ints(0, 50), k * 2); assert n % 2 == 0; }
--     machine purse { state coins = 0; bundle paid : int; invariant coins >= 0;
--       rule pay into paid { draw n = ints(1, 9); set coins = coins + n; give n; }
--       rule refund when coins > 0 { pick n from paid; set coins = if n <= coins then coins - n else coins; } }
--     check never runs 5
use Rattle.std.specs.Prelude.{ℕ, pos, negsuc, Some, None, List, [], ◌∷◌, codes}
use Rattle.pt_val.specs.declared.place.Place.{Place}
use Rattle.pt_ast.specs.declared.ident.Ident.{Ident}
use Rattle.pt_ast.specs.declared.expr.CompareOp.TheVariants.{Eq, Le, Gt, Ge}
use Rattle.pt_ast.specs.declared.expr.Func.TheVariants.{Len, Cat, Rev}
use Rattle.pt_ast.specs.declared.expr.Op.TheVariants.{Add, Sub, Mul, Rem}
use Rattle.pt_ast.specs.declared.suite.Settings.{Settings}
use Rattle.pt_ast.specs.Types.{Int_type}
use Rattle.pt_ast.specs.Trees.{ExprTree, StratTree, Num, Var, If_of, Compare_of, Sum_of, Prod_of, Call_of, exprs_of, tail_of, tails_of, Ints_of, Texts_of, Blobs_of, Lists_of, Map_of, StmtTree, Draw_of, Assume_of, Assert_of, Pick_of, Set_of, Give_of, RuleTree, MachineTree, BodyTree, Check_of, Property_of, Machine_of, ItemTree, SuiteTree}
use Rattle.pt_ast.specs.Sound.{IsSound}

abbrev pub place : ℕ → ℕ → Place
place line column = record { line = line; column = column }

abbrev pub ident_at : ℕ → ℕ → List ℕ → Ident
ident_at line column name = record { at = place line column; name = name }

-- so many runs, and the other settings by default
abbrev pub settings_of : ℕ → Settings
settings_of runs = record { runs = runs; shrink = 500; steps = 20 }

abbrev pub item_at : ℕ → Ident → ℕ → BodyTree → ItemTree
item_at line name runs body = record { at = place line 1; name = name; settings = settings_of runs; body = body }

abbrev pub commutes_cond : ExprTree
commutes_cond = Compare_of (place 5 10) (Sum_of (place 5 10) (Var (place 5 10) (codes "a")) (tails_of (tail_of (place 5 12) Add (Var (place 5 14) (codes "b")) ∷ []))) Eq (Sum_of (place 5 19) (Var (place 5 19) (codes "b")) (tails_of (tail_of (place 5 21) Add (Var (place 5 23) (codes "a")) ∷ [])))

abbrev pub commutes : List StmtTree
commutes =
    Draw_of (place 3 3) (ident_at 3 8 (codes "a")) (Ints_of (place 3 12) 0 (Num (place 3 17) (negsuc 999)) (Num (place 3 24) (pos 1000))) ∷
    Draw_of (place 4 3) (ident_at 4 8 (codes "b")) (Ints_of (place 4 12) 1 (Num (place 4 17) (negsuc 999)) (Num (place 4 24) (pos 1000))) ∷
    Assert_of (place 5 3) commutes_cond ∷ []

abbrev pub reverses_cond : ExprTree
reverses_cond = Compare_of (place 9 10) (Call_of (place 9 10) Rev (exprs_of ((Call_of (place 9 14) Rev (exprs_of ((Var (place 9 18) (codes "xs")) ∷ []))) ∷ []))) Eq (Var (place 9 26) (codes "xs"))

abbrev pub reverses : List StmtTree
reverses =
    Draw_of (place 8 3) (ident_at 8 8 (codes "xs")) (Lists_of (place 8 13) 2 (Ints_of (place 8 19) 3 (Num (place 8 24) (pos 0)) (Num (place 8 27) (pos 99))) (Num (place 8 32) (pos 0)) (Num (place 8 35) (pos 20))) ∷
    Assert_of (place 9 3) reverses_cond ∷ []

abbrev pub whole_length : ExprTree
whole_length = Call_of (place 14 10) Len (exprs_of ((Call_of (place 14 14) Cat (exprs_of ((Var (place 14 18) (codes "s")) ∷ (Var (place 14 21) (codes "t")) ∷ []))) ∷ []))

abbrev pub added_lengths : ExprTree
added_lengths = Sum_of (place 14 28) (Call_of (place 14 28) Len (exprs_of ((Var (place 14 32) (codes "s")) ∷ []))) (tails_of (tail_of (place 14 35) Add (Call_of (place 14 37) Len (exprs_of ((Var (place 14 41) (codes "t")) ∷ []))) ∷ []))

abbrev pub joined_cond : ExprTree
joined_cond = Compare_of (place 14 10) whole_length Eq added_lengths

abbrev pub joined : List StmtTree
joined =
    Draw_of (place 12 3) (ident_at 12 8 (codes "s")) (Texts_of (place 12 12) 4 (record { at = place 12 18; chars = codes "abc" }) (Num (place 12 25) (pos 0)) (Num (place 12 28) (pos 8))) ∷
    Draw_of (place 13 3) (ident_at 13 8 (codes "t")) (Texts_of (place 13 12) 5 (record { at = place 13 18; chars = codes "abc" }) (Num (place 13 25) (pos 0)) (Num (place 13 28) (pos 8))) ∷
    Assert_of (place 14 3) joined_cond ∷ []

abbrev pub nonempty_cond : ExprTree
nonempty_cond = Compare_of (place 18 10) (Call_of (place 18 10) Len (exprs_of ((Var (place 18 14) (codes "s")) ∷ []))) Gt (Num (place 18 19) (pos 0))

abbrev pub nonempty : List StmtTree
nonempty =
    Draw_of (place 17 3) (ident_at 17 8 (codes "s")) (Texts_of (place 17 12) 6 (record { at = place 17 18; chars = codes "abc" }) (Num (place 17 25) (pos 0)) (Num (place 17 28) (pos 8))) ∷
    Assert_of (place 18 3) nonempty_cond ∷ []

abbrev pub picky_cond : ExprTree
picky_cond = Compare_of (place 22 10) (Call_of (place 22 10) Len (exprs_of ((Var (place 22 14) (codes "b")) ∷ []))) Gt (Num (place 22 19) (pos 3))

abbrev pub picky : List StmtTree
picky =
    Draw_of (place 21 3) (ident_at 21 8 (codes "b")) (Blobs_of (place 21 12) 7 (Num (place 21 18) (pos 0)) (Num (place 21 21) (pos 3))) ∷
    Assume_of (place 22 3) picky_cond ∷ []

abbrev pub doubled : StratTree
doubled = Map_of (place 25 12) 8 (ident_at 25 16 (codes "k")) (Ints_of (place 25 19) 9 (Num (place 25 24) (pos 0)) (Num (place 25 27) (pos 50))) (Prod_of (place 25 32) (Var (place 25 32) (codes "k")) (tails_of (tail_of (place 25 34) Mul (Num (place 25 36) (pos 2)) ∷ [])))

abbrev pub halves_cond : ExprTree
halves_cond = Compare_of (place 26 10) (Prod_of (place 26 10) (Var (place 26 10) (codes "n")) (tails_of (tail_of (place 26 12) Rem (Num (place 26 14) (pos 2)) ∷ []))) Eq (Num (place 26 19) (pos 0))

abbrev pub halves : List StmtTree
halves =
    Draw_of (place 25 3) (ident_at 25 8 (codes "n")) doubled ∷
    Assert_of (place 26 3) halves_cond ∷ []

abbrev pub paid_coins : ExprTree
paid_coins = Sum_of (place 34 17) (Var (place 34 17) (codes "coins")) (tails_of (tail_of (place 34 23) Add (Var (place 34 25) (codes "n")) ∷ []))

abbrev pub pay : List StmtTree
pay =
    Draw_of (place 33 5) (ident_at 33 10 (codes "n")) (Ints_of (place 33 14) 11 (Num (place 33 19) (pos 1)) (Num (place 33 22) (pos 9))) ∷
    Set_of (place 34 5) (ident_at 34 9 (codes "coins")) paid_coins ∷
    Give_of (place 35 5) (Var (place 35 10) (codes "n")) ∷ []

abbrev pub refund_when : ExprTree
refund_when = Compare_of (place 37 20) (Var (place 37 20) (codes "coins")) Gt (Num (place 37 28) (pos 0))

abbrev pub few_enough : ExprTree
few_enough = Compare_of (place 39 20) (Var (place 39 20) (codes "n")) Le (Var (place 39 25) (codes "coins"))

abbrev pub fewer_coins : ExprTree
fewer_coins = Sum_of (place 39 36) (Var (place 39 36) (codes "coins")) (tails_of (tail_of (place 39 42) Sub (Var (place 39 44) (codes "n")) ∷ []))

abbrev pub refunded_coins : ExprTree
refunded_coins = If_of (place 39 17) few_enough fewer_coins (Var (place 39 51) (codes "coins"))

abbrev pub refund : List StmtTree
refund =
    Pick_of (place 38 5) 12 (ident_at 38 10 (codes "n")) (ident_at 38 17 (codes "paid")) ∷
    Set_of (place 39 5) (ident_at 39 9 (codes "coins")) refunded_coins ∷ []

abbrev pub pay_rule : RuleTree
pay_rule = record { at = place 32 3; name = ident_at 32 8 (codes "pay"); when = None; into = Some (ident_at 32 17 (codes "paid")); stmts = pay }

abbrev pub refund_rule : RuleTree
refund_rule = record { at = place 37 3; name = ident_at 37 8 (codes "refund"); when = Some refund_when; into = None; stmts = refund }

abbrev pub coins_cond : ExprTree
coins_cond = Compare_of (place 31 13) (Var (place 31 13) (codes "coins")) Ge (Num (place 31 22) (pos 0))

abbrev pub purse : MachineTree
purse = record {
  num = 10;
  states = record { at = place 29 3; name = ident_at 29 9 (codes "coins"); init = Num (place 29 17) (pos 0) } ∷ [];
  bundles = record { at = place 30 3; name = ident_at 30 10 (codes "paid"); type = Int_type } ∷ [];
  invariants = record { at = place 31 3; cond = coins_cond } ∷ [];
  rules = pay_rule ∷ refund_rule ∷ [];
}

abbrev pub manual : SuiteTree
manual = record {
  items =
      item_at 2 (ident_at 2 10 (codes "commutes")) 100 (Property_of commutes) ∷
      item_at 7 (ident_at 7 10 (codes "reverses")) 100 (Property_of reverses) ∷
      item_at 11 (ident_at 11 10 (codes "joined")) 100 (Property_of joined) ∷
      item_at 16 (ident_at 16 10 (codes "nonempty")) 100 (Property_of nonempty) ∷
      item_at 20 (ident_at 20 10 (codes "picky")) 5 (Property_of picky) ∷
      item_at 24 (ident_at 24 10 (codes "halves")) 100 (Property_of halves) ∷
      item_at 28 (ident_at 28 9 (codes "purse")) 100 (Machine_of purse) ∷
      item_at 42 (ident_at 42 7 (codes "never")) 5 Check_of ∷ [];
}

-- the manual's suite is sound, where a check `never` is handed in
abbrev pub ManualIsSound : Type 0
ManualIsSound = IsSound (codes "never" ∷ []) manual
