use Rattle.std.proofs.Common.{rules, ◌+◌, arith}
use Rattle.pt_rng.specs.Words.{length_of, HasReadUpTo}
use Rattle.pt_rng.proofs.Steps.{moved-more, numbers-more}
use Rattle.pt_rng.proofs.words.octets_from.Goals as goal

pub loop-preserved : goal.loop-preserved
loop-preserved c = record {
  made =
      let pushed = rw c.from-in-loop.ensures at c.in_ok-push.ensures.ok in
      numbers-more _ _ _ _ _ _ _ c.loop.invariant.moved c.next_word-in-loop.ensures.first c.loop.invariant.made pushed;
  moved = moved-more _ _ _ _ c.loop.invariant.moved c.next_word-in-loop.ensures.moved;
}

-- the words so far, and the one of the number that found no place
pub returns-in_err-push-clause-part : goal.returns-in_err-push-clause-part
returns-in_err-push-clause-part c =
    let read : HasReadUpTo (1 + length_of c.args.words.now c.args.min c.args.max) c.args.words.now c.next_word-in-loop.new.words =
    (1 + (c.loop.counter + 1), grind arith, moved-more _ _ _ _ c.loop.invariant.moved c.next_word-in-loop.ensures.moved) in
    search (rules, read)
