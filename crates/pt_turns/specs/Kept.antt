-- What is stored of the failures that a run showed.
use Rattle.std.specs.Prelude.{◌≢◌, ℕ, List, [], ◌∷◌}
use Rattle.std.specs.List.{AllByRecursion}
use Rattle.pt_ast.specs.Trees.{ItemTree}
use Rattle.pt_disk.specs.Files.{Files}
use Rattle.pt_found.specs.declared.finding.Finding.{Finding}
use Rattle.pt_found.specs.declared.finding.Verdict.{Verdict}
use Rattle.pt_found.specs.declared.finding.Verdict.TheVariants.{Passed, GaveUp, Failed}
use Rattle.pt_stored.specs.Stored.{IsStored}
use Rattle.pt_wire.specs.Stored.{Stored}
use Rattle.pt_edits.specs.Pairs.{PairEdit, digest_of as edit_digest}
use Rattle.pt_turns.specs.Turn.{digest_of}

-- a failure that is shown is stored under the digest, in version 2
abbrev pub IsKept : Files → List ℕ → Verdict → Type 0
IsKept files digest Passed = Unit {0}
IsKept files digest GaveUp = Unit {0}
IsKept files digest (Failed shown found spent) = (fresh : List ℕ) × Stored shown.choices fresh × IsStored files digest fresh

-- Each failure that is shown is stored, where no later item's name has the digest of its item's name, and none of these further edits.
abbrev pub AreKept : Files → List PairEdit → List ItemTree → List Finding → Type 0
AreKept files more [] [] = Unit {0}
AreKept files more (item ∷ items) (finding ∷ findings) =
    (AllByRecursion (λ other. digest_of other ≢ digest_of item) items → AllByRecursion (λ edit. edit_digest edit ≢ digest_of item) more →
    IsKept files (digest_of item) finding.verdict) × AreKept files more items findings
AreKept files more [] (finding ∷ findings) = ⊥
AreKept files more (item ∷ items) [] = ⊥

-- each failure of the findings, which are those of some first ones of the items, is stored, where no later item's name has the digest of
-- its item's name
abbrev pub AreStillKept : Files → List ItemTree → List Finding → Type 0
AreStillKept files items [] = Unit {0}
AreStillKept files (item ∷ items) (finding ∷ findings) =
    (AllByRecursion (λ other. digest_of other ≢ digest_of item) items → IsKept files (digest_of item) finding.verdict)
    × AreStillKept files items findings
AreStillKept files [] (finding ∷ findings) = ⊥
