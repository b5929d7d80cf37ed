use Rattle.std.proofs.Common.{rules, ◌≡◌}
use Rattle.pt_choice.specs.declared.choice.Choice.TheVariants as choice
use Rattle.pt_rng.specs.Words.{choice_of}
use Rattle.pt_rng.proofs.Admitted.{admits-choice_of}
use Rattle.pt_rng.proofs.words.choice_from.Goals as goal

pub returns-in_ok-octets_from-in-Bytes-clause-admitted :
    goal.returns-in_ok-octets_from-in-Bytes-clause-admitted
returns-in_ok-octets_from-in-Bytes-clause-admitted c =
    let made : choice.Bytes c.in_ok-octets_from-in-Bytes.field-0 ≡ choice_of c.args.words.now c.args.kind.now = search rules in
    rw made (admits-choice_of c.args.words.now c.args.kind.now c.shape.ensures.within)

pub returns-in_ok-octets_from-in-Text-clause-admitted :
    goal.returns-in_ok-octets_from-in-Text-clause-admitted
returns-in_ok-octets_from-in-Text-clause-admitted c =
    let made : choice.Text c.in_ok-octets_from-in-Text.field-0 ≡ choice_of c.args.words.now c.args.kind.now = search rules in
    rw made (admits-choice_of c.args.words.now c.args.kind.now c.shape.ensures.within)
