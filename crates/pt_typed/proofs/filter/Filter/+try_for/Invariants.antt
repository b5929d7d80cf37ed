use Rattle.pt_typed.proofs.filter.Filter.+try_for.Given as goal

abbrev pub decreases-try_for : goal.decreases-try_for
decreases-try_for g l = l.tries
