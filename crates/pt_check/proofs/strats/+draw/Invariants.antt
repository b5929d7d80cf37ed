use Rattle.std.proofs.Common.{◌≡◌, List, ◌++◌, length, drop}
use Rattle.pt_ast.specs.Types.{TypeTree}
use Rattle.pt_ast.specs.Trees.{OneOf_of}
use Rattle.pt_ast.specs.Plain.{plain_strats}
use Rattle.pt_typing.specs.Steps.{giving, made_of}
use Rattle.pt_typing.specs.StratChecks.{drawn, all_drawn, each_drawn}
use Rattle.pt_check.specs.Stacks.{first_of}
use Rattle.pt_check.specs.Known.{top, with_held, holding}
use Rattle.pt_check.proofs.Tuples.{gather}
use Rattle.pt_check.proofs.strats.+draw.Given as goal

-- the types so far are held
abbrev pub invariant-draw_each-loop-part : goal.invariant-draw_each-loop-part
invariant-draw_each-loop-part l = (found : List TypeTree) × (l.checker ≡ with_held l.fn.checker (found ++ l.fn.checker.held)) × (length found ≡ l.part-index)
    × (each_drawn l.fn.checker.scope (first_of l.fn.checker.selves) (plain_strats l.parts)
    ≡ made_of (gather found) (each_drawn l.fn.checker.scope (first_of l.fn.checker.selves) (plain_strats (drop l.part-index l.parts))))

-- the strategies so far give values of the type that is held
abbrev pub invariant-draw_one-loop-place : goal.invariant-draw_one-loop-place
invariant-draw_one-loop-place l = (l.checker ≡ holding l.fn.checker (top l.checker))
    × (drawn l.fn.checker.scope (first_of l.fn.checker.selves) (OneOf_of l.fn.at l.fn.num (plain_strats l.parts))
    ≡ giving (all_drawn l.fn.checker.scope (first_of l.fn.checker.selves) (top l.checker) (plain_strats (drop l.place l.parts))) (top l.checker))
