use Rattle.std.proofs.Common.{◌≡◌, drop}
use Rattle.pt_cand.specs.Left.{left_of}
use Rattle.pt_cand.proofs.walk.Walk.skip.Given as goal

abbrev pub invariant-loop : goal.invariant-loop
invariant-loop l =
    left_of l.self-inside.pass l.self-inside.best.now l.self-inside.cursor
    ≡ drop l.counter (left_of l.initial.self-inside.pass l.initial.self-inside.best.now l.initial.self-inside.cursor)
