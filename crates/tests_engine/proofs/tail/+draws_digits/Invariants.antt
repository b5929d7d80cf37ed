use Rattle.tests_engine.proofs.tail.+draws_digits.Given as goal

abbrev pub decreases-draws_digits : goal.decreases-draws_digits
decreases-draws_digits l = l.left
