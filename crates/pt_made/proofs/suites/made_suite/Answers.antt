use Rattle.std.proofs.Common.{◌≡◌, [], sym, subst, ap, ◌∙◌}
use Rattle.pt_ast.specs.Plain.{plain_suite}
use Rattle.pt_ast.specs.Sound.{IsSound}
use Rattle.pt_made.specs.Lines.{made_suite}
use Rattle.pt_made.proofs.Sound.{made_sound, suite_of}
use Rattle.pt_made.proofs.suites.made_suite.Goals as goal

pub seal-requires : goal.seal-requires
seal-requires c = ([], subst (IsSound []) (sym (suite_of c.args.seed c.args.count c.in_ok-items.ensures)) (made_sound c.args.seed c.args.count [] c.requires))

pub returns-clause-sound : goal.returns-clause-sound
returns-clause-sound c known =
    let made : plain_suite c.seal.result ≡ made_suite c.args.seed c.args.count = ap plain_suite c.seal.ensures ∙ suite_of c.args.seed c.args.count c.in_ok-items.ensures in
    subst (IsSound known) (sym made) (made_sound c.args.seed c.args.count known c.requires)
