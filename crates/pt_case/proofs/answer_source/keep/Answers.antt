use Rattle.std.proofs.Common.{sym, ◌∙◌, arith}
use Rattle.pt_case.proofs.GuidedLemmas.{kept-more, kept-full}
use Rattle.pt_case.proofs.answer_source.keep.Goals as goal

pub returns-then-len-lt-MAX_CHOICES-clause-kept : goal.returns-then-len-lt-MAX_CHOICES-clause-kept
returns-then-len-lt-MAX_CHOICES-clause-kept c =
    c.push_reserved.ensures.items ∙ sym (kept-more c.args.asked.now.items c.args.kind.now (omega arith))

pub returns-else-len-lt-MAX_CHOICES-clause-kept : goal.returns-else-len-lt-MAX_CHOICES-clause-kept
returns-else-len-lt-MAX_CHOICES-clause-kept c = sym (kept-full c.args.asked.now.items c.args.kind.now (omega arith) (omega arith))
