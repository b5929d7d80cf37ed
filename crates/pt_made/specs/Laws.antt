-- The law of made suites.
use Rattle.std.specs.Prelude.{ℕ, ◌≤◌, List}
use Rattle.pt_ast.specs.Sound.{IsSound}
use Rattle.pt_made.specs.Lines.{made_suite}

-- a made suite of at most 200 lines is sound, whichever checks are handed in
abbrev pub MadeSuitesAreSound : Type 0
MadeSuitesAreSound = (seed count : ℕ) (known : List (List ℕ)) → count ≤ 200 → IsSound known (made_suite seed count)
