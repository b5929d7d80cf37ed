use Rattle.std.proofs.Common.{◌≡◌, ◌≤◌, ◌+◌, ◌*◌, ℕ, List, ◌++◌, length}
use Rattle.pt_lex.specs.Places.{place_behind}
use Rattle.pt_lex.proofs.places.place_past.Given as goal

-- the place behind what was passed
abbrev pub invariant-loop-char : goal.invariant-loop-char
invariant-loop-char l = (passed : List ℕ) × (l.text ≡ passed ++ l.rest) × ((done : List ℕ) → l.fn.at ≡ place_behind done → l.here ≡ place_behind (done ++ passed))
    × (l.here.line + length l.rest ≤ l.fn.at.line + length l.text) × (l.here.column + 4 * length l.rest ≤ l.fn.at.column + 4 * length l.text)

abbrev pub decreases-loop-char : goal.decreases-loop-char
decreases-loop-char l = length l.rest
