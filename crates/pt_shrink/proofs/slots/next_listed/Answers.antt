use Rattle.pt_shrink.proofs.SweepLemmas.{handed, honest-rest}
use Rattle.pt_shrink.proofs.slots.next_listed.Goals as goal

pub returns-in_ok-filtered-in-Some-clause-honest : goal.returns-in_ok-filtered-in-Some-clause-honest
returns-in_ok-filtered-in-Some-clause-honest c =
    honest-rest c.args.best.now c.args.walk.now c.next_list.new.self c.in-Some.list c.requires
    (handed c.args.walk.now c.next_list.new.self c.in_ok-next_list.field-0 c.in-Some.list c.in-Some.is c.in_ok-next_list.ensures)
