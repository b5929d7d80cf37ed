use Rattle.std.proofs.Common.{rules, ◌≡◌}
use Rattle.pt_choice.specs.declared.choice.Choice.TheVariants as choice
use Rattle.pt_choice.specs.Kind.{simplest}
use Rattle.pt_choice.proofs.Admitted.{admits-simplest}
use Rattle.pt_choice.proofs.kind.simplest.Goals as goal

pub returns-in_ok-zeros-in-Text-clause-admitted : goal.returns-in_ok-zeros-in-Text-clause-admitted
returns-in_ok-zeros-in-Text-clause-admitted c =
    let value : choice.Text c.in_ok-zeros-in-Text.field-0 ≡ simplest c.args.kind.now = search rules in
    rw value (admits-simplest c.args.kind.now c.shape.ensures.within)
