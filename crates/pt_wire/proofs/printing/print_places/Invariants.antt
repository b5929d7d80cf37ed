use Rattle.std.proofs.Common.{◌≡◌, ℕ, ◌+◌, List, ◌++◌, take, string_bytes}
use Rattle.pt_wire.specs.Printed.{PrintedPlaces}
use Rattle.pt_wire.proofs.printing.print_places.Given as goal

-- the places so far, and the one before the loop, are printed
abbrev pub invariant-loop-place : goal.invariant-loop-place
invariant-loop-place l = (held : List ℕ) × PrintedPlaces (take (l.place-index + 1) l.places) held × (string_bytes l.out ≡ string_bytes l.fn.out ++ held)
