use Rattle.std.proofs.Common.{[]}
use Rattle.pt_turns.proofs.AgainLemmas.{turns-again}
use Rattle.pt_turns.proofs.again.what_is_shown_is_found_again.Goals as goal

pub returns : goal.returns
returns g c = λ seed again told telling items one other edits more first after second.
    turns-again g.C.Check.name g.C.Check.step c.args.checks.now c.requires seed again told telling edits after [] [] [] items one other more tt first second
