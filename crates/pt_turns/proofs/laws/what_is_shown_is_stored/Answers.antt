use Rattle.std.proofs.Common.{[]}
use Rattle.pt_turns.proofs.KeptLemmas.{kept-after}
use Rattle.pt_turns.proofs.laws.what_is_shown_is_stored.Goals as goal

pub returns : goal.returns
returns g c = λ seed told items findings edits more start image turns after.
    kept-after g.C.Check.name g.C.Check.step c.args.checks.now seed told start image more [] items findings edits turns after
