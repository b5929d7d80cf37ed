use Rattle.pt_all.proofs.OnceLemmas.{shown-once}
use Rattle.pt_all.proofs.laws.each_origin_is_shown_once.Goals as goal

pub returns : goal.returns
returns g c = shown-once (g.C.Check.step c.args.check.now)
