-- The first fault of a strategy, as a relation.
use Rattle.std.specs.Prelude.{◌≡◌, ◌⊎◌, ◌==◌, Option, Some, None}
use Rattle.std.specs.List.{IsDistinct}
use Rattle.pt_ast.specs.declared.strat.Alphabet.{Alphabet}
use Rattle.pt_ast.specs.Types.{TypeTree, Int_type, Bool_type}
use Rattle.pt_ast.specs.Trees.{ExprTree, StratTree, Ints_of, Bools_of, Texts_of, Blobs_of, Sampled_of, Lists_of, Tuples_of, OneOf_of, Map_of, Filter_of, FlatMap_of, Recursive_of, Self_of, StratTrees, no_strat, more_strat, strat_place_of}
use Rattle.pt_ast.specs.Names.{Scope, IsFree, with_name}
use Rattle.pt_ast.specs.Typing.{HasType, Draws}
use Rattle.pt_typing.specs.Fault.{Fault, Unknown, Twice, Wrong}
use Rattle.pt_typing.specs.Serving.{Is, IsList}
use Rattle.pt_typing.specs.ExprFaults.{Misfits, Unfit, IsTaken, FaultIn}

-- some character of the alphabet stands there twice
abbrev pub Repeats : Alphabet → Fault → Type 0
Repeats alphabet fault = (¬ IsDistinct ◌==◌ alphabet.chars) × (fault ≡ Twice alphabet.at)

-- a fault of the bounds, of which the left one comes first
abbrev pub FaultInBounds : Scope → ExprTree → ExprTree → Fault → Type 0
FaultInBounds scope lo hi fault = Unfit scope lo (FaultIn scope lo) (Is Int_type) fault
    ⊎ (HasType scope lo Int_type × Unfit scope hi (FaultIn scope hi) (Is Int_type) fault)

-- a strategy has a fault of its own, or gives values of another type
abbrev pub Misdraws : Scope → Option TypeTree → StratTree → (Fault → Type 0) → TypeTree → Fault → Type 0
Misdraws scope self part Faulty type fault = Misfits (Draws scope self part) Faulty (strat_place_of part) (Is type) fault

abbrev mutual
  -- the strategy's first fault where these names are in scope, and `self`, if it may stand there, gives values of that type
  pub FaultInStrat : Scope → Option TypeTree → StratTree → Fault → Type 0
  FaultInStrat scope self (Ints_of at num lo hi) fault = FaultInBounds scope lo hi fault
  FaultInStrat scope self (Bools_of at num) fault = ⊥
  FaultInStrat scope self (Texts_of at num alphabet lo hi) fault = Repeats alphabet fault
      ⊎ (IsDistinct ◌==◌ alphabet.chars × FaultInBounds scope lo hi fault)
  FaultInStrat scope self (Blobs_of at num lo hi) fault = FaultInBounds scope lo hi fault
  FaultInStrat scope self (Sampled_of at num list) fault = Unfit scope list (FaultIn scope list) IsList fault
  FaultInStrat scope self (Lists_of at num element lo hi) fault = FaultInStrat scope self element fault
      ⊎ ((member : TypeTree) × Draws scope self element member × FaultInBounds scope lo hi fault)
  FaultInStrat scope self (Tuples_of at num parts) fault = FaultInEachStrat scope self parts fault
  FaultInStrat scope self (OneOf_of at num no_strat) fault = fault ≡ Wrong at
  FaultInStrat scope self (OneOf_of at num (more_strat first others)) fault = FaultInStrat scope self first fault
      ⊎ ((type : TypeTree) × Draws scope self first type × FaultAmongStrats scope self type others fault)
  FaultInStrat scope self (Map_of at num given inner body) fault = IsTaken scope given fault
      ⊎ (IsFree scope given × (FaultInStrat scope self inner fault
      ⊎ ((from : TypeTree) × Draws scope self inner from × FaultIn (with_name scope given from) body fault)))
  FaultInStrat scope self (Filter_of at num given inner cond) fault = IsTaken scope given fault
      ⊎ (IsFree scope given × (FaultInStrat scope self inner fault
      ⊎ ((type : TypeTree) × Draws scope self inner type
      × Unfit (with_name scope given type) cond (FaultIn (with_name scope given type) cond) (Is Bool_type) fault)))
  FaultInStrat scope self (FlatMap_of at num given inner second) fault = IsTaken scope given fault
      ⊎ (IsFree scope given × (FaultInStrat scope self inner fault
      ⊎ ((from : TypeTree) × Draws scope self inner from × FaultInStrat (with_name scope given from) self second fault)))
  FaultInStrat scope self (Recursive_of at num depth first second) fault = FaultInStrat scope self first fault
      ⊎ ((type : TypeTree) × Draws scope self first type × Misdraws scope (Some type) second (FaultInStrat scope (Some type) second) type fault)
  FaultInStrat scope self (Self_of at num) fault = (self ≡ None) × (fault ≡ Unknown at)

  -- of strategies that have to give values of one type
  pub FaultAmongStrats : Scope → Option TypeTree → TypeTree → StratTrees → Fault → Type 0
  FaultAmongStrats scope self type no_strat fault = ⊥
  FaultAmongStrats scope self type (more_strat part parts) fault = Misdraws scope self part (FaultInStrat scope self part) type fault
      ⊎ (Draws scope self part type × FaultAmongStrats scope self type parts fault)

  -- of strategies that may give values of any types
  pub FaultInEachStrat : Scope → Option TypeTree → StratTrees → Fault → Type 0
  FaultInEachStrat scope self no_strat fault = ⊥
  FaultInEachStrat scope self (more_strat part parts) fault = FaultInStrat scope self part fault
      ⊎ ((type : TypeTree) × Draws scope self part type × FaultInEachStrat scope self parts fault)
