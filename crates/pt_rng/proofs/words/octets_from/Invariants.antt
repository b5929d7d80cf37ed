use Rattle.std.proofs.Common.{◌≡◌, ◌+◌}
use Rattle.pt_rng.specs.Words.{words_after, numbers_of}
use Rattle.pt_rng.proofs.words.octets_from.Given as goal

-- so many numbers stand in the list, and one word more has been read
abbrev pub invariant-loop : goal.invariant-loop
invariant-loop l = record {
  made : l.octets ≡ numbers_of l.fn.words l.fn.size l.counter;
  moved : l.words ≡ words_after l.fn.words (1 + l.counter);
}
