-- Small trees that are well typed, and small ones that are not.
use Rattle.std.specs.Prelude.{ℕ, pos, true, Option, Some, None, List, [], ◌∷◌, codes}
use Rattle.pt_val.specs.declared.place.Place.{Place}
use Rattle.pt_ast.specs.declared.ident.Ident.{Ident}
use Rattle.pt_ast.specs.declared.expr.Binder.TheVariants.{All, Each}
use Rattle.pt_ast.specs.declared.expr.CompareOp.TheVariants.{Eq, Gt}
use Rattle.pt_ast.specs.declared.expr.Func.TheVariants.{Len, Has, Cat, Leaf, Node, Kids}
use Rattle.pt_ast.specs.declared.expr.Op.TheVariants.{Add}
use Rattle.pt_ast.specs.Types.{TypeTree, Int_type, Bool_type, Text_type, Tree_type, List_type, Tuple_type, types_of}
use Rattle.pt_ast.specs.Trees.{ExprTree, Num, Text_of, Bytes_of, Flag, Var, If_of, Compare_of, Sum_of, Post_of, Call_of, Bind_of, Tuple_of, List_of, exprs_of, tail_of, tails_of, index_of, part_of, posts_of, StratTree, Ints_of, Bools_of, Texts_of, Lists_of, OneOf_of, Map_of, Recursive_of, Self_of, strats_of, StmtTree, Draw_of, Assert_of, Set_of, Give_of, RuleTree, Check_of, ItemTree, SuiteTree}
use Rattle.pt_ast.specs.Names.{Scope}
use Rattle.pt_ast.specs.Typing.{HasType, Draws}
use Rattle.pt_ast.specs.Suites.{Context, no_context, Binds, BindAll, IsTypedRule, IsTyped}

-- where all of them stand
abbrev pub here : Place
here = record { line = 1; column = 1 }

abbrev pub named : List ℕ → Ident
named name = record { at = here; name = name }

abbrev pub one : ExprTree
one = Num here (pos 1)

abbrev pub yes : ExprTree
yes = Flag here true

abbrev pub x : ExprTree
x = Var here (codes "x")

abbrev pub word : ExprTree
word = Text_of here (codes "a")

-- these in square brackets, in round ones, and as arguments
abbrev pub listed : List ExprTree → ExprTree
listed parts = List_of here (exprs_of parts)

abbrev pub paired : ExprTree → ExprTree → ExprTree
paired first second = Tuple_of here (exprs_of (first ∷ second ∷ []))

abbrev pub plus : ExprTree → ExprTree → ExprTree
plus left right = Sum_of here left (tails_of (tail_of here Add right ∷ []))

abbrev pub at_index : ExprTree → ExprTree → ExprTree
at_index base index = Post_of here base (posts_of (index_of here index ∷ []))

abbrev pub part : ExprTree → ℕ → ExprTree
part base place = Post_of here base (posts_of (part_of here (pos place) ∷ []))

abbrev pub bits : StratTree
bits = Ints_of here 0 one one

-- of a rule's machine: a state x and a bundle b of integers
abbrev pub beside : Option TypeTree → Context
beside target = record { states = (codes "x", Int_type) ∷ []; bundles = (codes "b", Int_type) ∷ []; target = target }

abbrev pub rule_into : Option Ident → List StmtTree → RuleTree
rule_into into stmts = record { at = here; name = named (codes "r"); when = None; into = into; stmts = stmts }

abbrev pub check_of : List ℕ → ItemTree
check_of name = record { at = here; name = named name; settings = record { runs = 100; shrink = 500; steps = 20 }; body = Check_of }

abbrev pub of_checks : List (List ℕ) → SuiteTree
of_checks [] = record { items = [] }
of_checks (name ∷ names) = record { items = check_of name ∷ (of_checks names).items }

-- each of these is well typed
pub record TypedSamples : Type 0 where
  pub sum : HasType [] (plus one one) Int_type
  pub length : HasType [] (Call_of here Len (exprs_of (word ∷ []))) Int_type
  pub byte : HasType [] (at_index (Bytes_of here (0 ∷ [])) one) Int_type
  pub member : HasType [] (at_index (listed (one ∷ one ∷ [])) one) Int_type
  pub second_part : HasType [] (part (paired one yes) 1) Bool_type
  pub for_all : HasType [] (Bind_of here All (named (codes "x")) (listed (one ∷ [])) (Compare_of here x Gt one)) Bool_type
  pub for_each : HasType [] (Bind_of here Each (named (codes "x")) (listed (one ∷ [])) (paired x yes)) (List_type (Tuple_type (types_of (Int_type ∷ Bool_type ∷ []))))
  pub branches : HasType [] (If_of here yes word word) Text_type
  pub equal_lists : HasType [] (Compare_of here (listed (one ∷ [])) Eq (listed (one ∷ []))) Bool_type
  pub tree : HasType [] (Call_of here Node (exprs_of (one ∷ Call_of here Kids (exprs_of (Call_of here Leaf (exprs_of (one ∷ [])) ∷ [])) ∷ []))) Tree_type
  pub lists : Draws [] None (Lists_of here 0 bits one one) (List_type Int_type)
  pub mapped : Draws [] None (Map_of here 0 (named (codes "x")) (Bools_of here 1) (listed (x ∷ []))) (List_type Bool_type)
  pub deep : Draws [] None (Recursive_of here 0 1 bits (OneOf_of here 2 (strats_of (Self_of here 0 ∷ bits ∷ [])))) Int_type
  pub statements : BindAll no_context [] (Draw_of here (named (codes "x")) (Bools_of here 0) ∷ Assert_of here x ∷ []) ((codes "x", Bool_type) ∷ [])
  pub gives : IsTypedRule (beside None).states (beside None).bundles (rule_into (Some (named (codes "b"))) (Set_of here (named (codes "x")) one ∷ Give_of here x ∷ []))
  pub checks : IsTyped (codes "p" ∷ codes "q" ∷ []) (of_checks (codes "q" ∷ codes "p" ∷ []))

-- none of these is
pub record UntypedSamples : Type 0 where
  pub truth_added : (type : TypeTree) → HasType [] (plus one yes) type → ⊥
  pub empty_list : (type : TypeTree) → HasType [] (listed []) type → ⊥
  pub mixed_list : (type : TypeTree) → HasType [] (listed (one ∷ yes ∷ [])) type → ⊥
  pub unknown_name : (type : TypeTree) → HasType [] x type → ⊥
  pub length_of_a_number : (type : TypeTree) → HasType [] (Call_of here Len (exprs_of (one ∷ []))) type → ⊥
  pub two_arguments : (type : TypeTree) → HasType [] (Call_of here Len (exprs_of (word ∷ word ∷ []))) type → ⊥
  pub other_member : (type : TypeTree) → HasType [] (Call_of here Has (exprs_of (listed (one ∷ []) ∷ yes ∷ []))) type → ⊥
  pub other_sequence : (type : TypeTree) → HasType [] (Call_of here Cat (exprs_of (word ∷ listed (one ∷ []) ∷ []))) type → ⊥
  pub third_part : (type : TypeTree) → HasType [] (part (paired one yes) 2) type → ⊥
  pub index_of_a_text : (type : TypeTree) → HasType [] (at_index word one) type → ⊥
  pub number_for_all : (type : TypeTree) → HasType [] (Bind_of here All (named (codes "x")) (listed (one ∷ [])) x) type → ⊥
  pub name_twice : (type : TypeTree) → HasType ((codes "x", Int_type) ∷ []) (Bind_of here Each (named (codes "x")) (listed (one ∷ [])) x) type → ⊥
  pub two_branches : (type : TypeTree) → HasType [] (If_of here yes one yes) type → ⊥
  pub compared_texts : (type : TypeTree) → HasType [] (Compare_of here word Gt word) type → ⊥
  pub self_alone : (type : TypeTree) → Draws [] None (Self_of here 0) type → ⊥
  pub self_in_the_base : (type : TypeTree) → Draws [] None (Recursive_of here 0 1 (Self_of here 0) bits) type → ⊥
  pub letter_twice : (type : TypeTree) → Draws [] None (Texts_of here 0 (record { at = here; chars = codes "aa" }) one one) type → ⊥
  pub two_sorts : (type : TypeTree) → Draws [] None (OneOf_of here 0 (strats_of (bits ∷ Bools_of here 1 ∷ []))) type → ⊥
  pub set_in_a_property : (after : Scope) → Binds no_context ((codes "x", Int_type) ∷ []) (Set_of here (named (codes "x")) one) after → ⊥
  pub give_without_into : IsTypedRule (beside None).states (beside None).bundles (rule_into None (Give_of here one ∷ [])) → ⊥
  pub into_without_give : IsTypedRule (beside None).states (beside None).bundles (rule_into (Some (named (codes "b"))) []) → ⊥
  pub unknown_check : IsTyped (codes "p" ∷ []) (of_checks (codes "q" ∷ [])) → ⊥
  pub check_twice : IsTyped (codes "p" ∷ []) (of_checks (codes "p" ∷ codes "p" ∷ [])) → ⊥
