-- What a sink was given piece by piece.
use Rattle.std.proofs.Common.{ℕ, ◌+◌, List, take, drop, Option, Some, None, append_assoc}
use Rattle.std.proofs.Math.Seq.{take-add}
use Rattle.pt_io.specs.Sink.{Appends}

-- two pieces that follow one another are one piece
pub Appends-take : (old mid new : Option (List ℕ)) (from : List ℕ) (a b : ℕ) →
    Appends old (take a from) mid → Appends mid (take b (drop a from)) new → Appends old (take (a + b) from) new
Appends-take None mid new from a b first second = rw first at second
Appends-take (Some old) mid new from a b first second =
    let joined = rw first at second in
    let whole = append_assoc old (take a from) (take b (drop a from)) in
    let split = take-add a b from in
    cc
