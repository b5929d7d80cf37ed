use Rattle.std.proofs.Common.{◌≡◌, ◌-◌, length, take, drop, rules, arith}
use Rattle.std.proofs.lemmas.Grind.{common_steps}
use Rattle.pt_real.proofs.Taken.{took-more}
use Rattle.pt_real.proofs.transfer.write_whole.Goals as goal

pub loop-done-preserved : goal.loop-done-preserved
loop-done-preserved g c =
    let bytes = c.args.bytes.now in
    let done = c.loop-done.done in
    let taken = c.in_ok-taken.taken in
    let asked = g.S.FileSystem.asked c.args.system.now in
    let rest : take (length bytes - done) (drop done bytes) ≡ drop done bytes = grind (arith, common_steps) in
    let more = took-more c.args.path.now bytes done taken asked in
    record { within = search rules; taken = search rules }
