use Rattle.pt_par.specs.Least.{MayHold}
use Rattle.pt_par.proofs.search.first_better.Given as goal

-- the word's rule is said of this check, this record and these lists
abbrev pub ghosts-searched : goal.ghosts-searched
ghosts-searched g a = record { may_hold = MayHold (g.C.Check.step a.check.now) a.best.now a.lists.now }
