-- At which origins runs failed. The ending of a failure stands for its origin.
use Rattle.std.specs.Prelude.{ℕ, Bool, not, List, [], ◌∷◌, if◌then◌else◌}
use Rattle.std.specs.List.{count_by, filter}
use Rattle.pt_case.specs.Ending.{is_failure}
use Rattle.pt_case.specs.contracts.ending.EndingPartialEq.TheImpl.{ghosts}
use Rattle.pt_case.specs.declared.ending.Ending.{Ending}
use Rattle.pt_case.specs.declared.record.Record.{Record}

-- whether the two are one ending: of failures, whether they have one origin
abbrev pub same_ending : Ending → Ending → Bool
same_ending = ghosts.eq

-- the endings but for this one
abbrev pub without : Ending → List Ending → List Ending
without ending endings = filter (λ other. not (same_ending ending other)) endings

-- the origins of the failing records, each once, in the order of their first records
abbrev pub origins : List Record → List Ending
origins [] = []
origins (rec ∷ records) = if is_failure rec.ending then rec.ending ∷ without rec.ending (origins records) else origins records

-- how many of the records end so
abbrev pub times_of : Ending → List Record → ℕ
times_of ending records = count_by (λ rec. same_ending ending rec.ending) records
