use Rattle.pt_explain.proofs.EffectLemmas.{effect-had}
use Rattle.pt_explain.proofs.effect.try_other.Goals as goal

pub returns : goal.returns
returns g c =
    effect-had (g.C.Check.step c.args.check.now) c.args.best.now c.args.place c.args.member.now c.in_ok-rec.rec
    (rw (c.in_ok-list.ensures, c.as_slice.ensures) at c.in_ok-rec.ensures) c.effect_of.result c.effect_of.ensures
