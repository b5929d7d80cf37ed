use Rattle.std.proofs.Common.{◌+◌, refl, ap}
use Rattle.pt_all.proofs.CountLemmas.{few-times, count-push}
use Rattle.pt_all.proofs.tally.count_one.Goals as goal

pub take_in-requires : goal.take_in-requires
take_in-requires c = record { few = few-times c.requires.counted.0 c.args.tally.now 100000 c.requires.counted.1 c.requires.room }

pub returns : goal.returns
returns c before count =
    count-push before c.args.rec.now c.args.tally.now _ count refl (ap (λ n. c.args.tally.now.valid + n) c.passing.ensures)
    (ap (λ n. c.args.tally.now.settled + n) c.settling.ensures) c.in_ok-take_in.ensures
