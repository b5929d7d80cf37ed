-- The first fault of an expression, as a relation: here is a fault, and all that stands before it is right.
use Rattle.std.specs.Prelude.{◌≡◌, ◌⊎◌, None}
use Rattle.pt_val.specs.declared.place.Place.{Place}
use Rattle.pt_ast.specs.declared.ident.Ident.{Ident}
use Rattle.pt_ast.specs.Types.{TypeTree, Int_type, Bool_type, List_type, Tuple_type, TypeTrees}
use Rattle.pt_ast.specs.Trees.{ExprTree, Num, Text_of, Bytes_of, Flag, Var, If_of, Or_of, And_of, Not_of, Compare_of, Sum_of, Prod_of, Neg_of, Post_of, Call_of, Bind_of, Bracket_of, Tuple_of, List_of, ExprTrees, no_expr, more_expr, tail_of, TailTrees, no_tail, more_tail, index_of, part_of, PostTrees, no_post, more_post, place_of}
use Rattle.pt_ast.specs.Names.{Scope, type_in, IsFree, with_name}
use Rattle.pt_ast.specs.Typing.{HasMember, HasPart, Compares, HasType}
use Rattle.pt_typing.specs.Fault.{Fault, Unknown, Twice, Wrong}
use Rattle.pt_typing.specs.Serving.{Is, IsList, HasMembers, IsTuple, HasSuchPart, ServesBinder, ServesAlone, ServesFirst, ServesSecond, TakesOne, TakesTwo}

-- what does not hold is wrong at this place
abbrev pub IsWrong : Type 0 → Place → Fault → Type 0
IsWrong Holds at fault = (¬ Holds) × (fault ≡ Wrong at)

-- a part has a fault of its own, or is of a type that does not serve
abbrev pub Misfits : (TypeTree → Type 0) → (Fault → Type 0) → Place → (TypeTree → Type 0) → Fault → Type 0
Misfits Has Faulty at Serves fault = Faulty fault ⊎ ((found : TypeTree) × Has found × IsWrong (Serves found) at fault)

-- the same of an expression
abbrev pub Unfit : Scope → ExprTree → (Fault → Type 0) → (TypeTree → Type 0) → Fault → Type 0
Unfit scope part Faulty Serves fault = Misfits (HasType scope part) Faulty (place_of part) Serves fault

-- a name that is taken is given once more
abbrev pub IsTaken : Scope → Ident → Fault → Type 0
IsTaken scope given fault = (¬ IsFree scope given) × (fault ≡ Twice given.at)

abbrev mutual
  -- the expression's first fault where these names are in scope
  pub FaultIn : Scope → ExprTree → Fault → Type 0
  FaultIn scope (Num at number) fault = ⊥
  FaultIn scope (Text_of at chars) fault = ⊥
  FaultIn scope (Bytes_of at bytes) fault = ⊥
  FaultIn scope (Flag at truth) fault = ⊥
  FaultIn scope (Var at name) fault = (type_in name scope ≡ None) × (fault ≡ Unknown at)
  FaultIn scope (If_of at test first other) fault = Unfit scope test (FaultIn scope test) (Is Bool_type) fault
      ⊎ (HasType scope test Bool_type × (FaultIn scope first fault
      ⊎ ((type : TypeTree) × HasType scope first type × Unfit scope other (FaultIn scope other) (Is type) fault)))
  FaultIn scope (Or_of at parts) fault = FaultAmong scope Bool_type parts fault
  FaultIn scope (And_of at parts) fault = FaultAmong scope Bool_type parts fault
  FaultIn scope (Not_of at part) fault = Unfit scope part (FaultIn scope part) (Is Bool_type) fault
  FaultIn scope (Compare_of at left op other) fault = Unfit scope left (FaultIn scope left) (Compares op) fault
      ⊎ ((side : TypeTree) × (HasType scope left side × Compares op side) × Unfit scope other (FaultIn scope other) (Is side) fault)
  FaultIn scope (Sum_of at first tails) fault = Unfit scope first (FaultIn scope first) (Is Int_type) fault
      ⊎ (HasType scope first Int_type × FaultInTails scope tails fault)
  FaultIn scope (Prod_of at first tails) fault = Unfit scope first (FaultIn scope first) (Is Int_type) fault
      ⊎ (HasType scope first Int_type × FaultInTails scope tails fault)
  FaultIn scope (Neg_of at part) fault = Unfit scope part (FaultIn scope part) (Is Int_type) fault
  FaultIn scope (Post_of at base posts) fault = FaultIn scope base fault
      ⊎ ((from : TypeTree) × HasType scope base from × FaultBehind scope (place_of base) from posts fault)
  FaultIn scope (Call_of at func no_expr) fault = fault ≡ Wrong at
  FaultIn scope (Call_of at func (more_expr only no_expr)) fault = IsWrong (TakesOne func) at fault
      ⊎ (TakesOne func × Unfit scope only (FaultIn scope only) (ServesAlone func) fault)
  FaultIn scope (Call_of at func (more_expr first (more_expr second no_expr))) fault = IsWrong (TakesTwo func) at fault
      ⊎ (TakesTwo func × (Unfit scope first (FaultIn scope first) (ServesFirst func) fault
      ⊎ ((type : TypeTree) × (HasType scope first type × ServesFirst func type) × Unfit scope second (FaultIn scope second) (ServesSecond func type) fault)))
  FaultIn scope (Call_of at func (more_expr first (more_expr second (more_expr third others)))) fault = fault ≡ Wrong at
  FaultIn scope (Bind_of at binder given list body) fault = IsTaken scope given fault
      ⊎ (IsFree scope given × (Unfit scope list (FaultIn scope list) IsList fault
      ⊎ ((member : TypeTree) × HasType scope list (List_type member)
      × Unfit (with_name scope given member) body (FaultIn (with_name scope given member) body) (ServesBinder binder) fault)))
  FaultIn scope (Bracket_of at part) fault = FaultIn scope part fault
  FaultIn scope (Tuple_of at parts) fault = FaultInEach scope parts fault
  FaultIn scope (List_of at no_expr) fault = fault ≡ Wrong at
  FaultIn scope (List_of at (more_expr first others)) fault = FaultIn scope first fault
      ⊎ ((member : TypeTree) × HasType scope first member × FaultAmong scope member others fault)

  -- of expressions that have to be of one type
  pub FaultAmong : Scope → TypeTree → ExprTrees → Fault → Type 0
  FaultAmong scope type no_expr fault = ⊥
  FaultAmong scope type (more_expr part parts) fault = Unfit scope part (FaultIn scope part) (Is type) fault
      ⊎ (HasType scope part type × FaultAmong scope type parts fault)

  -- of expressions of any types
  pub FaultInEach : Scope → ExprTrees → Fault → Type 0
  FaultInEach scope no_expr fault = ⊥
  FaultInEach scope (more_expr part parts) fault = FaultIn scope part fault
      ⊎ ((type : TypeTree) × HasType scope part type × FaultInEach scope parts fault)

  -- of what stands on the right of the operators
  pub FaultInTails : Scope → TailTrees → Fault → Type 0
  FaultInTails scope no_tail fault = ⊥
  FaultInTails scope (more_tail (tail_of at op part) tails) fault = Unfit scope part (FaultIn scope part) (Is Int_type) fault
      ⊎ (HasType scope part Int_type × FaultInTails scope tails fault)

  -- of the indexes and parts behind a value of this type that begins here
  pub FaultBehind : Scope → Place → TypeTree → PostTrees → Fault → Type 0
  FaultBehind scope at from no_post fault = ⊥
  FaultBehind scope at from (more_post (index_of place index) posts) fault = IsWrong (HasMembers from) at fault
      ⊎ ((member : TypeTree) × HasMember from member × (Unfit scope index (FaultIn scope index) (Is Int_type) fault
      ⊎ (HasType scope index Int_type × FaultBehind scope at member posts fault)))
  FaultBehind scope at from (more_post (part_of place part) posts) fault = IsWrong (IsTuple from) at fault
      ⊎ ((types : TypeTrees) × (from ≡ Tuple_type types) × (IsWrong (HasSuchPart part types) place fault
      ⊎ ((member : TypeTree) × HasPart part types member × FaultBehind scope at member posts fault)))
