use Rattle.pt_stored.specs.Digest.{digest_text}
use Rattle.pt_edits.proofs.ReadingLemmas.{of-key, in-order}
use Rattle.pt_edits.proofs.stored.read_stored.Goals as goal

pub returns-in_ok-readings_of-in-Ok-clause-of_key : goal.returns-in_ok-readings_of-in-Ok-clause-of_key
returns-in_ok-readings_of-in-Ok-clause-of_key g c =
    of-key (digest_text c.args.key.now) c.in-Ok.entries c.in_ok-readings_of-in-Ok.field-0 c.in_ok-readings_of-in-Ok.ensures.values
    (g.D.Disk.tells c.args.store.now.disk.now) c.in-Ok.ensures.entries

pub returns-in_ok-readings_of-in-Ok-clause-ordered : goal.returns-in_ok-readings_of-in-Ok-clause-ordered
returns-in_ok-readings_of-in-Ok-clause-ordered g c =
    in-order (digest_text c.args.key.now) c.in-Ok.entries c.in_ok-readings_of-in-Ok.field-0 c.in_ok-readings_of-in-Ok.ensures.values
    c.in-Ok.ensures.shown c.in-Ok.ensures.of_key c.in-Ok.ensures.ordered
