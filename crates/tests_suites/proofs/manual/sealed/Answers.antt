use Rattle.std.proofs.Common.{[], ◌∷◌, sym, subst}
use Rattle.std.specs.Prelude.{codes}
use Rattle.pt_ast.specs.Sound.{IsSound}
use Rattle.tests_suites.proofs.ManualLaws.{manual-is-sound}
use Rattle.tests_suites.proofs.manual.sealed.Goals as goal

pub seal-requires : goal.seal-requires
seal-requires c = (codes "never" ∷ [], subst (IsSound (codes "never" ∷ [])) (sym c.in_ok-suite.ensures) manual-is-sound)
