use Rattle.std.proofs.Common.{◌≡◌, map}
use Rattle.std.specs.List.{range_with_len}
use Rattle.pt_ast.specs.Plain.{plain_item}
use Rattle.pt_made.specs.Lines.{made_item}
use Rattle.pt_made.proofs.suites.made_items.Given as goal

-- the items so far are the lines before this one
abbrev pub invariant-loop-k : goal.invariant-loop-k
invariant-loop-k l = map plain_item l.items ≡ map (made_item l.seed) (range_with_len 0 l.k)
