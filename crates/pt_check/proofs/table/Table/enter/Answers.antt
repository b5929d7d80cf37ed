use Rattle.std.proofs.Common.{◌≡◌, Result, Ok, Err, None, [], ◌∷◌, ◌++◌, ap, ◌∙◌}
use Rattle.std.specs.Prelude.{◌==◌, OnErr}
use Rattle.std.specs.Cmp.Lexicographic.{pointwise}
use Rattle.std_collections.specs.Map.{lookup}
use Rattle.indexmap.proofs.CallerLemmas.{insert_entry-new}
use Rattle.pt_check.specs.Tables.{named}
use Rattle.pt_check.proofs.Lookups.{named-lookup, named-more}
use Rattle.pt_check.proofs.table.Table.enter.Goals as goal

on-err : {A E : Type 0} (P : Type 0) (result : Result A E) → P → OnErr result P
on-err P (Ok value) holds = tt
on-err P (Err why) holds = holds

pub returns-in_err-insert-clause-err : goal.returns-in_err-insert-clause-err
returns-in_err-insert-clause-err c = on-err _ c.from_residual.result (ap named c.in_err-insert.ensures.err ∙ c.self.view_is)

pub returns-clause-ok : goal.returns-clause-ok
returns-clause-ok c =
    let entries = c.self.inside.numbers.entries in
    let key = c.as_slice.result in
    let name = c.args.name.now in
    let number = c.args.number in
    let none : lookup (λ other. pointwise ◌==◌ key.now other.now) entries ≡ None =
    named-lookup key.now entries ∙ ap (λ n. lookup (pointwise ◌==◌ n) (named entries)) c.as_slice.ensures.same ∙ ap (lookup (pointwise ◌==◌ name)) c.self.view_is ∙ c.requires in
    let entered = c.in_ok-insert.ensures.entries ∙ insert_entry-new (λ one other. pointwise ◌==◌ one.now other.now) c.self.inside.numbers key number none in
    ap named entered ∙ named-more entries ((key, number) ∷ []) ∙ ap (λ n. named entries ++ (n, number) ∷ []) c.as_slice.ensures.same ∙ ap (λ names. names ++ (name, number) ∷ []) c.self.view_is
