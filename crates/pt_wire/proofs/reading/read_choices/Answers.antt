use Rattle.std.proofs.Common.{◌≡◌, ◌≢◌, length, sym, ◌∙◌, arith}
use Rattle.std.proofs.lemmas.Bool.{eqb-false}
use Rattle.pt_wire.specs.Answer.{Reads}
use Rattle.pt_wire.specs.Printed.{Printed}
use Rattle.pt_wire.proofs.Answers.{answer_for, answer_writable}
use Rattle.pt_wire.proofs.Limited.{printed_limits}
use Rattle.pt_wire.proofs.PrintedLists.{printed_reads, minus_within, one_printed}
use Rattle.pt_wire.proofs.reading.read_choices.Goals as goal
use Rattle.pt_wire.proofs.reading.read_choices.Goals.{After-read_words}

reads : (c : After-read_words) → Reads Printed c.args.text.now c.read_words.result
reads c =
    let parts = c.in-Some.ensures.cases.0 in
    rw parts (printed_reads _ _ c.read_words.result c.if-first-ne45.true (rw parts at c.read_words.ensures))

pub returns-then-first-ne45-clause-reads : goal.returns-then-first-ne45-clause-reads
returns-then-first-ne45-clause-reads c = reads c

pub returns-then-first-ne45-clause-only : goal.returns-then-first-ne45-clause-only
returns-then-first-ne45-clause-only c = answer_for Printed c.args.text.now c.read_words.result (λ a b. one_printed a b c.args.text.now) (reads c)

pub returns-then-first-ne45-clause-writable : goal.returns-then-first-ne45-clause-writable
returns-then-first-ne45-clause-writable c = answer_writable Printed c.args.text.now c.read_words.result (λ list. printed_limits list c.args.text.now) (reads c)

pub returns-else-is_empty-clause-reads : goal.returns-else-is_empty-clause-reads
returns-else-is_empty-clause-reads c =
    let some : length c.in-Some.others.now ≢ 0 = eqb-false _ _ (sym c.is_empty.ensures ∙ c.if-is_empty.false) in
    let minus : c.in-Some.first.now ≡ 45 = omega arith in
    rw (c.in-Some.ensures.cases.0, minus) (minus_within _ (omega arith))
