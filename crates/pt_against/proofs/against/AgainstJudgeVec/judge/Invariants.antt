use Rattle.std.proofs.Common.{◌≡◌, map, drop}
use Rattle.pt_against.specs.Compared.{compared, verdict_on}
use Rattle.pt_against.proofs.against.AgainstJudgeVec.judge.Given as goal

-- what is left of the commands comes to what all of them come to
abbrev pub invariant-loop-command : goal.invariant-loop-command
invariant-loop-command g l =
    let pairing = g.T.Beside.pairing l.self.pair in
    let commands = map g.C.ToVal.val l.commands.items in
    compared pairing g.T.Answer.PartialEq.eq l.thing l.model (drop l.command-index commands) ≡ verdict_on pairing g.T.Answer.PartialEq.eq commands
