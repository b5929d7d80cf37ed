use Rattle.std.proofs.Common.{ℕ, List, IfOk, map, subst}
use Rattle.pt_run.specs.Suite.{ComesTo, IsLoaded}
use Rattle.pt_run.proofs.Messages.{IfOk-follows}
use Rattle.pt_run.proofs.Suites.{loaded}
use Rattle.pt_run.proofs.loading.load.Goals as goal

pub returns-clause-loaded : goal.returns-clause-loaded
returns-clause-loaded g c =
    let old = g.F.Files.shows c.args.files.now in
    let new = g.F.Files.shows c.read_whole.new.files in
    let known = map g.C.Check.name c.args.checks.now in
    let text = c.in-Ok.text in
    let comes : IfOk c.sealed.result (ComesTo known text) =
    subst (λ (k : List (List ℕ)). IfOk c.sealed.result (ComesTo k text)) c.in_ok-known.ensures
    (subst (λ (t : List ℕ). IfOk c.sealed.result (ComesTo c.in_ok-known.known t)) c.as_slice.ensures c.sealed.ensures) in
    IfOk-follows c.sealed.result (ComesTo known text) (IsLoaded known old new c.args.file.now) comes
    (loaded known old new c.args.file.now text (c.in-Ok.ensures.quiet (λ failed. cc)) c.in-Ok.ensures.whole c.in-Ok.ensures.small)
