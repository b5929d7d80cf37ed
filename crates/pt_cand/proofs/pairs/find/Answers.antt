use Rattle.std.proofs.Common.{◌∙◌}
use Rattle.pt_cand.specs.Left.{moved_by}
use Rattle.pt_cand.proofs.PairLemmas.{pairs-none}
use Rattle.pt_cand.proofs.pairs.find.Goals as goal

pub returns-in_default : goal.returns-in_default
returns-in_default c =
    pairs-none (moved_by c.args.together) c.args.choices.now c.args.at.place c.index-choices-at.result c.requires.within
    (λ value is. c.in_default.not-Int value (c.index-choices-at.is ∙ is)) c.args.at.inner c.args.at.slot
