-- Whether two values are the same.
use Rattle.std.specs.Prelude.{◌==◌, Bool, false, ◌&&◌, List}
use Rattle.std.specs.Ordering.{int_eq}
use Rattle.std.specs.Cmp.Lexicographic.{pointwise}
use Rattle.std.proofs.Math.Bool.{beq}
use Rattle.pt_val.specs.declared.val.Val.{Val}
use Rattle.pt_val.specs.declared.val.Val.TheOpen.{Val-F}
use Rattle.pt_val.specs.declared.val.Val.TheOpen as shape
use Rattle.pt_val.specs.declared.val.Val.TheViews.{out-Val}
use Rattle.pt_val.specs.declared.val.Val.TheFolds.{fold-Val}

-- there are as many members as tests, and each passes its own
abbrev pub all_pass : List (Val → Bool) → List Val → Bool
all_pass tests members = pointwise (λ test member. test member) tests members

-- the same sort and the same content, where the members of the one are given as tests
abbrev pub same_step : Val-F (Val → Bool) → Val-F Val → Bool
same_step (shape.Int number) (shape.Int other) = int_eq number other
same_step (shape.Bool truth) (shape.Bool other) = beq truth other
same_step (shape.Text chars) (shape.Text others) = pointwise ◌==◌ chars others
same_step (shape.Bytes bytes) (shape.Bytes others) = pointwise ◌==◌ bytes others
same_step (shape.List tests) (shape.List members) = all_pass tests members
same_step (shape.Tuple tests) (shape.Tuple parts) = all_pass tests parts
same_step (shape.Node label tests) (shape.Node other children) = int_eq label other && all_pass tests children
same_step _ _ = false

abbrev pub same_value : Val → Val → Bool
same_value = fold-Val (Val → Bool) (λ shape other. same_step shape (out-Val other))
