use Rattle.std.proofs.Common.{◌≡◌, ◌≤◌, take, IfSome}
use Rattle.pt_wire.specs.Number.{digits_of}
use Rattle.pt_wire.proofs.number.read_number.Given as goal

-- the digits so far are those of the number so far
abbrev pub invariant-loop-place : goal.invariant-loop-place
invariant-loop-place l = (take l.place l.digits ≡ digits_of l.number) × IfSome l.number (λ value. value ≤ l.most)
