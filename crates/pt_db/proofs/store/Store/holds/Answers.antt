use Rattle.std.proofs.Common.{◌≡◌, ◌≢◌, ◌∙◌, sym, ap, subst, List, ℕ, ◌≤◌, length, arith}
use Rattle.std.specs.Cmp.Lexicographic.{bytes_decides}
use Rattle.pt_disk.specs.Calls.{IsFirstPart}
use Rattle.pt_stored.specs.Digest.{AreAlike, digest_text}
use Rattle.pt_stored.proofs.Digests.{differ-in-text, are-alike}
use Rattle.pt_db.specs.Reading.{Holds}
use Rattle.pt_db.proofs.Reading.{held, free-long, free-different, clash-there}
use Rattle.pt_db.proofs.store.Store.holds.Goals as goal

pub returns-then-len-gt-MAX_VALUE-clause-free : goal.returns-then-len-gt-MAX_VALUE-clause-free
returns-then-len-gt-MAX_VALUE-clause-free g c = λ free.
    let told = g.D.Disk.tells c.args.self.now.disk.now in
    let part = subst (IsFirstPart told c.args.name.now 65537) c.in-Ok-Some.field-0-is c.in-Ok-Some.ensures.part in
    free-long told c.args.name.now c.in-Ok-Some.kept c.args.value.now part (omega (arith, c.if-len-gt-MAX_VALUE.true, c.len.ensures))

pub returns-then-eq-clause-held : goal.returns-then-eq-clause-held
returns-then-eq-clause-held g c = λ is_held.
    let told = g.D.Disk.tells c.args.self.now.disk.now in
    let part = subst (IsFirstPart told c.args.name.now 65537) c.in-Ok-Some.field-0-is c.in-Ok-Some.ensures.part in
    let same : c.in-Ok-Some.kept ≡ c.args.value.now = sym c.as_slice.ensures ∙ (bytes_decides c.as_slice.result.now c.args.value.now).0 (sym c.eq.ensures ∙ c.if-eq.true) in
    let short : length c.in-Ok-Some.kept ≤ 65536 = omega (arith, c.if-len-gt-MAX_VALUE.false, c.len.ensures) in
    (subst (Holds told c.args.name.now) same (held told c.args.name.now c.in-Ok-Some.kept part short), omega (arith, ap length same, short))

pub returns-then-not-are_alike-clause-free : goal.returns-then-not-are_alike-clause-free
returns-then-not-are_alike-clause-free g c = λ free.
    let told = g.D.Disk.tells c.args.self.now.disk.now in
    let part = subst (IsFirstPart told c.args.name.now 65537) c.in-Ok-Some.field-0-is c.in-Ok-Some.ensures.part in
    free-different told c.args.name.now c.in-Ok-Some.kept c.args.value.now part
    (subst (λ (l : List ℕ). digest_text l ≢ digest_text c.args.value.now) c.as_slice-2.ensures
    (differ-in-text c.are_alike.result c.as_slice-2.result.now c.args.value.now c.are_alike.ensures c.if-not-are_alike.true))

pub returns-clause-clash : goal.returns-clause-clash
returns-clause-clash g c =
    let told = g.D.Disk.tells c.args.self.now.disk.now in
    let part = subst (IsFirstPart told c.args.name.now 65537) c.in-Ok-Some.field-0-is c.in-Ok-Some.ensures.part in
    let short : length c.in-Ok-Some.kept ≤ 65536 = omega (arith, c.if-len-gt-MAX_VALUE.false, c.len.ensures) in
    let differ : c.as_slice-2.result.now ≢ c.args.value.now =
    λ same. cc (sym c.if-eq.false ∙ c.eq.ensures ∙ (bytes_decides c.as_slice.result.now c.args.value.now).1 (c.as_slice.ensures ∙ sym c.as_slice-2.ensures ∙ same)) in
    let alike = subst (λ (l : List ℕ). AreAlike l c.args.value.now) c.as_slice-2.ensures
    (are-alike c.are_alike.result c.as_slice-2.result.now c.args.value.now c.are_alike.ensures c.if-not-are_alike.false differ) in (
      c.in_ok-offered.ensures,
      subst (AreAlike c.in-Ok-Some.kept) (sym c.in_ok-offered.ensures) alike,
      clash-there told c.args.name.now c.args.value.now c.in-Ok-Some.kept (held told c.args.name.now c.in-Ok-Some.kept part short) short alike,
    )
