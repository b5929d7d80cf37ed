use Rattle.std.proofs.Common.{sym, subst, List, ℕ, Some, ◌∙◌}
use Rattle.std.specs.Option.{option_copied}
use Rattle.pt_disk.specs.Calls.{IsFirstPart}
use Rattle.pt_db.specs.Reading.{IsWantedName}
use Rattle.pt_db.proofs.Gathering.{its-unwanted, its-found, found-wanted}
use Rattle.pt_db.proofs.store.Store.entry.Goals as goal

pub returns-then-not-is_wanted-clause-its : goal.returns-then-not-is_wanted-clause-its
returns-then-not-is_wanted-clause-its g c =
    its-unwanted (option_copied c.args.wanted) (g.D.Disk.tells c.args.self.now.disk.now) c.args.name
    (λ want. cc (sym c.if-not-is_wanted.true ∙ c.is_wanted.ensures.1 (subst (IsWantedName (option_copied c.args.wanted)) (sym c.as_slice.ensures) want)))

pub returns-in_ok-of-in-Ok-Some-clause-its : goal.returns-in_ok-of-in-Ok-Some-clause-its
returns-in_ok-of-in-Ok-Some-clause-its g c =
    let told = g.D.Disk.tells c.args.self.now.disk.now in
    let part = subst (λ (n : List ℕ). IsFirstPart told n 65537 (Some c.in-Ok-Some.bytes)) c.as_slice-2.ensures
    (subst (IsFirstPart told c.as_slice-2.result.now 65537) c.in-Ok-Some.field-0-is c.in-Ok-Some.ensures.part) in
    let want = subst (IsWantedName (option_copied c.args.wanted)) c.as_slice.ensures (c.is_wanted.ensures.0 c.if-not-is_wanted.false) in
    its-found (option_copied c.args.wanted) told c.args.name c.in-Ok-Some.bytes c.in_ok-of-in-Ok-Some.field-0 part c.in_ok-of-in-Ok-Some.ensures want

pub returns-in_ok-of-in-Ok-Some-clause-named : goal.returns-in_ok-of-in-Ok-Some-clause-named
returns-in_ok-of-in-Ok-Some-clause-named g c =
    let want = subst (IsWantedName (option_copied c.args.wanted)) c.as_slice.ensures (c.is_wanted.ensures.0 c.if-not-is_wanted.false) in
    found-wanted (option_copied c.args.wanted) c.args.name c.in-Ok-Some.bytes c.in_ok-of-in-Ok-Some.field-0 c.in_ok-of-in-Ok-Some.ensures want
