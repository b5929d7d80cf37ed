use Rattle.std.proofs.Common.{List, map, inl, refl, subst}
use Rattle.pt_ast.specs.Plain.{plain_item, plain_suite}
use Rattle.pt_ast.specs.declared.suite.Item.{Item}
use Rattle.pt_turns.specs.Finishes.{Finishes}
use Rattle.pt_turns.specs.Scene.{scene}
use Rattle.pt_run.specs.Suite.{IsLoaded}
use Rattle.pt_run.specs.declared.loading.Loaded.{Loaded}
use Rattle.pt_run.proofs.running.run.Goals as goal

pub returns-in_ok-reported-in-Taken-clause-ends : goal.returns-in_ok-reported-in-Taken-clause-ends
returns-in_ok-reported-in-Taken-clause-ends g c =
    let loaded = subst (λ (l : Loaded). IsLoaded (map g.C.Check.name c.args.checks.now) (g.F.Files.shows c.args.files.now) (g.F.Files.shows c.load.new.files)
    c.args.file.now l) c.in-Taken.is c.in_ok-suite.ensures.loaded in
    let finishes = subst (λ (items : List Item). Finishes g.C.Check.name g.C.Check.step c.args.checks.now c.args.seed (map plain_item items)
    c.in_ok-reported-in-Taken.reported
    (scene (g.D.Disk.faults c.args.disk.now) (g.D.Disk.tells c.args.disk.now) (g.K.Sink.shows c.args.sink.now))
    (scene (g.D.Disk.faults c.report.new.disk) (g.D.Disk.tells c.report.new.disk) (g.K.Sink.shows c.report.new.sink)))
    c.items-items.ensures.items c.in_ok-reported-in-Taken.ensures.finishes in
    inl (plain_suite c.in-Taken.suite, loaded, (finishes, refl))
