use Rattle.pt_tree.proofs.CountingLemmas.{IsCounting}
use Rattle.pt_tree.proofs.above.next_octets.Given as goal

abbrev pub invariant-loop-index : goal.invariant-loop-index
invariant-loop-index l = IsCounting l.size l.after l.index l.places.items

abbrev pub decreases-loop-index : goal.decreases-loop-index
decreases-loop-index l = l.index
