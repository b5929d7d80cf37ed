-- The law of values and types.
use Rattle.std.specs.Prelude.{IfOk, List, map}
use Rattle.pt_ast.specs.declared.binding.Binding.{Binding}
use Rattle.pt_ast.specs.Types.{TypeTree}
use Rattle.pt_ast.specs.Trees.{ExprTree}
use Rattle.pt_ast.specs.Names.{Scope, AreDistinct}
use Rattle.pt_ast.specs.Typing.{HasType}
use Rattle.pt_ast.specs.Values.{IsOf, Fits}
use Rattle.pt_eval.specs.Value.{value_of}

-- The value of a well typed expression, where it has one, is of its type. No name stands twice in the scope of a well typed suite.
abbrev pub ValuesKeepTypes : Type 0
ValuesKeepTypes = (scope : Scope) (tree : ExprTree) (type : TypeTree) (env : List Binding) →
    Fits scope env → AreDistinct (map (λ declared. declared.0) scope) → HasType scope tree type → IfOk (value_of tree env) (IsOf type)
