use Rattle.std.proofs.Common.{◌≡◌, ◌<◌, arith}
use Rattle.std.specs.List.{AllByRecursion}
use Rattle.std.proofs.lemmas.List.{nil_from_length}
use Rattle.pt_wire.proofs.Bytes.{are_bytes}
use Rattle.pt_wire.proofs.StoredLists.{entry_end, header_short, other_version}
use Rattle.pt_wire.proofs.header.read_header.Goals as goal

pub returns-in_default-clause-err : goal.returns-in_default-clause-err
returns-in_default-clause-err c = rw (nil_from_length c.args.bytes.now c.in_default.ensures.cases) entry_end

pub returns-then-version-clause-err : goal.returns-then-version-clause-err
returns-then-version-clause-err c = rw c.in-Some.ensures.cases.0 (other_version _ _ c.if-version.true)

pub returns-in_default-others-clause-err : goal.returns-in_default-others-clause-err
returns-in_default-others-clause-err c =
    let parts = c.in-Some.ensures.cases.0 in
    let version : c.in-Some.version.now ≡ 242 = omega arith in
    let each : AllByRecursion (λ byte. byte < 256) c.in-Some.others.now = (rw parts at (are_bytes c.args.bytes.now (λ k. omega (arith, c.type_inv.bytes k)))).1 in
    rw (parts, version) (header_short _ (omega arith) each)
