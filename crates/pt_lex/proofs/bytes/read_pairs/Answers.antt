use Rattle.std.proofs.Common.{◌++◌, sym, ap, subst, ◌∙◌, append_assoc}
use Rattle.std.proofs.lemmas.List.{nil_from_length}
use Rattle.pt_wire.specs.Spelling.{Chained, Splits}
use Rattle.pt_wire.proofs.Chains.{chained_more}
use Rattle.pt_lex.specs.Texts.{Closes}
use Rattle.pt_wire.specs.Printed.{PrintedByte}
use Rattle.pt_wire.proofs.PrintedBytes.{bytes_free}
use Rattle.pt_lex.proofs.HexedLaws.{bytes_else}
use Rattle.pt_lex.proofs.ClosedLaws.{closed_end, closed_first, closed_rest}
use Rattle.pt_lex.proofs.bytes.read_pairs.Goals as goal

pub returns-in_default-read_pair : goal.returns-in_default-read_pair
returns-in_default-read_pair c = λ list rest closes.
    let i = c.loop-first.invariant in
    let parts = c.in-Some.ensures.cases.0 in
    let behind = closed_rest PrintedByte bytes_free bytes_else c.loop-first.bytes list i.0 c.loop-first.rest.now rest i.1 (subst (λ t. Closes PrintedByte list t rest) i.2 closes) in
    let first = closed_first PrintedByte behind.0 c.in-Some.first.now c.in-Some.more.now rest c.if-first-eq34.false (subst (λ t. Closes PrintedByte behind.0 t rest) parts behind.2) in
    c.in_default-read_pair.ensures first.0 first.1 (subst (λ t. Splits PrintedByte first.0 t first.1) (sym parts) first.2)

pub loop-first-preserved : goal.loop-first-preserved
loop-first-preserved c =
    let i = c.loop-first.invariant in
    let found = c.in-Some-read_pair.ensures in
    let byte = c.in-Some-read_pair.byte in
    let behind = c.in-Some-read_pair.behind.now in (
      i.0 ++ found.0,
      subst (λ l. Chained PrintedByte l (i.0 ++ found.0)) (sym c.in_ok-push.ensures.ok) (chained_more PrintedByte c.loop-first.bytes byte i.0 found.0 i.1 found.1),
      i.2 ∙ ap (λ t. i.0 ++ t) found.2 ∙ sym (append_assoc i.0 found.0 behind),
    )

pub returns : goal.returns
returns c = λ list rest closes.
    let i = c.loop-first.invariant in
    let behind = closed_rest PrintedByte bytes_free bytes_else c.loop-first.bytes list i.0 c.loop-first.rest.now rest i.1 (subst (λ t. Closes PrintedByte list t rest) i.2 closes) in
    closed_end PrintedByte behind.0 rest (subst (λ t. Closes PrintedByte behind.0 t rest) (nil_from_length c.loop-first.rest.now c.in_default.ensures.cases) behind.2)
