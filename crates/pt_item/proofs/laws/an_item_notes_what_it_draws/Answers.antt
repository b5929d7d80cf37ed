use Rattle.pt_item.proofs.NotesLemmas.{body-notes}
use Rattle.pt_item.proofs.laws.an_item_notes_what_it_draws.Goals as goal

pub returns : goal.returns
returns g c = λ item source rec is.
    body-notes g.C.Check.name g.C.Check.step c.args.checks.now c.a_property_notes_what_it_draws.ensures c.a_machine_notes_its_steps.ensures
    item.name.name item.settings item.body source rec is
