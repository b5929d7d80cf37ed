use Rattle.std.proofs.Common.{◌≡◌, List, ◌++◌, length, drop}
use Rattle.pt_ast.specs.Types.{TypeTree, List_type}
use Rattle.pt_ast.specs.Trees.{List_of}
use Rattle.pt_ast.specs.Plain.{plain_exprs, plain_tails, plain_posts}
use Rattle.pt_typing.specs.Steps.{giving, made_of}
use Rattle.pt_typing.specs.ExprChecks.{checked, all_of, each_of, numbers, reached}
use Rattle.pt_check.specs.Known.{top, with_held, holding, replaced}
use Rattle.pt_check.proofs.Tuples.{gather}
use Rattle.pt_check.proofs.exprs.+check.Given as goal

-- the parts so far are right
abbrev pub invariant-check_all-loop-part : goal.invariant-check_all-loop-part
invariant-check_all-loop-part l = (l.checker ≡ l.fn.checker)
    × (all_of l.fn.checker.scope (top l.fn.checker) (plain_exprs l.parts) ≡ all_of l.fn.checker.scope (top l.fn.checker) (plain_exprs (drop l.part-index l.parts)))

abbrev pub invariant-check_tails-loop-tail : goal.invariant-check_tails-loop-tail
invariant-check_tails-loop-tail l = (l.checker ≡ l.fn.checker)
    × (numbers l.fn.checker.scope (plain_tails l.tails) ≡ numbers l.fn.checker.scope (plain_tails (drop l.tail-index l.tails)))

-- what was taken so far leads to the newest type
abbrev pub invariant-check_posts-loop-post : goal.invariant-check_posts-loop-post
invariant-check_posts-loop-post l = (l.checker ≡ replaced l.fn.checker (top l.checker))
    × (reached l.fn.checker.scope l.at (top l.fn.checker) (plain_posts l.posts) ≡ reached l.fn.checker.scope l.at (top l.checker) (plain_posts (drop l.post-index l.posts)))

-- the types so far are held
abbrev pub invariant-check_each-loop-part : goal.invariant-check_each-loop-part
invariant-check_each-loop-part l = (found : List TypeTree) × (l.checker ≡ with_held l.fn.checker (found ++ l.fn.checker.held)) × (length found ≡ l.part-index)
    × (each_of l.fn.checker.scope (plain_exprs l.parts) ≡ made_of (gather found) (each_of l.fn.checker.scope (plain_exprs (drop l.part-index l.parts))))

-- the members so far are of the type that is held
abbrev pub invariant-check_list-loop-place : goal.invariant-check_list-loop-place
invariant-check_list-loop-place l = (l.checker ≡ holding l.fn.checker (top l.checker))
    × (checked l.fn.checker.scope (List_of l.fn.at (plain_exprs l.parts)) ≡ giving (all_of l.fn.checker.scope (top l.checker) (plain_exprs (drop l.place l.parts))) (List_type (top l.checker)))
