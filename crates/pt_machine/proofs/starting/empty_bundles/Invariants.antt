use Rattle.std.proofs.Common.{◌≡◌, take, map}
use Rattle.pt_ast.specs.Plain.{plain_bundle}
use Rattle.pt_machine.specs.World.{empty_bundle}
use Rattle.pt_machine.proofs.starting.empty_bundles.Given as goal

abbrev pub invariant-loop-decl : goal.invariant-loop-decl
invariant-loop-decl l = l.bundles ≡ map empty_bundle (map plain_bundle (take l.decl-index l.decls))
