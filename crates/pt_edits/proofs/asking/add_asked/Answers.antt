use Rattle.std.proofs.Common.{◌≡◌, ◌<◌, ◌-◌, Option, false, length, get_or, take, drop, ap, arith}
use Rattle.pt_wire.specs.declared.unpacking.Unpacked.{Unpacked}
use Rattle.pt_edits.specs.Readings.{list_in}
use Rattle.pt_edits.proofs.AskedLemmas.{asked-listed, headed}
use Rattle.pt_edits.proofs.asking.add_asked.Goals as goal

pub returns : goal.returns
returns c =
    let flags = c.args.flags.now in
    let one : length (list_in c.args.reading.unpacked) ≡ 1 = ap (λ (found : Option Unpacked). length (list_in found)) c.in-Some.is in
    let some : 0 < length flags = omega (arith, one, c.requires.enough) in
    asked-listed c.args.reading.bytes c.args.reading.unpacked c.in-Some.unpacked flags (take (length flags - 1) (drop 1 flags)) (get_or flags 0 false) c.args.edits.now c.add_kept_or_not.new.edits
    c.in-Some.is (headed flags some) c.in_ok-add_kept_or_not.ensures
