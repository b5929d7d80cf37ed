use Rattle.std.proofs.Common.{◌≡◌, ◌∙◌, ◌-◌, length, take, drop, arith, length-drop}
use Rattle.std.proofs.lemmas.Grind.{common_steps}
use Rattle.pt_io.proofs.Appended.{Appends-take}
use Rattle.pt_io.proofs.sink.write_all.Goals as goal

pub loop-done-preserved : goal.loop-done-preserved
loop-done-preserved g c =
    let from = c.args.from.now in
    let done = c.loop-done.done in
    let rest : take (length from - done) (drop done from) ≡ drop done from = grind (arith, common_steps) in
    let wrote = rw rest at c.in-Ok.ensures.wrote in
    record {
      within = omega (arith, wrote.within, length-drop done from);
      written = Appends-take _ _ _ _ _ _ c.loop-done.invariant.written wrote.written;
      quiet = wrote.quiet ∙ c.loop-done.invariant.quiet;
    }
