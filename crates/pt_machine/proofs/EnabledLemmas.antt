-- Enabled rules that were found before others.
use Rattle.std.proofs.Common.{Result, Ok, List, ◌++◌}
use Rattle.pt_case.specs.declared.ending.Origin.{Origin}
use Rattle.pt_ast.specs.Trees.{RuleTree}
use Rattle.pt_machine.specs.World.{on_ok}

-- these rules, and then those
abbrev pub behind : List RuleTree → Result (List RuleTree) Origin → Result (List RuleTree) Origin
behind found later = on_ok later (λ rules. Ok (found ++ rules))
