use Rattle.std.proofs.Common.{◌≡◌, ◌+ℤ◌, to_z, of_z, rules}
use Rattle.std.specs.Int.{w64}
use Rattle.pt_val.specs.declared.val.Val.{Val}
use Rattle.pt_plan.specs.Plan.{Plan, Notes, and_then}
use Rattle.pt_plan.proofs.DrewLemmas.{Leads, leads-new, leads-call, leads-noted, drew-rest}
use Rattle.pt_typed.specs.Plans.{ints_plan}
use Rattle.pt_typed.specs.Reading.{number_of}
use Rattle.pt_checks.specs.Counter.{digit_note, sum_plan, digit_plan}
use Rattle.pt_checks.proofs.counter.draw_sum.Goals as goal

pub returns : goal.returns
returns c =
    let next : Val → Plan Val = λ digit. Notes (digit_note digit) (sum_plan (c.args.count +ℤ number_of digit)) in
    let started : Leads (digit_plan c.args.count) c.args.case.now (and_then (ints_plan c.of.result.lo c.of.result.hi) next) c.args.case.now =
    rw (c.of.ensures.lo, c.of.ensures.hi) (leads-new (digit_plan c.args.count) c.args.case.now) in
    let drawn = leads-call c.in_ok-digit.ensures.drew next started in
    let digit : to_z w64 (of_z w64 c.in_ok-digit.digit) ≡ c.in_ok-digit.digit = search rules in
    let count : to_z w64 (of_z w64 c.args.count) ≡ c.args.count = search rules in
    let sum : to_z w64 (of_z w64 c.plus.result) ≡ c.plus.result = search rules in
    let noted = leads-noted (rw (c.in_ok-n_word.ensures, digit) at c.in_ok-note.ensures.drew) drawn in
    record { drew = drew-rest (rw (sum, c.plus.ensures, digit, count) at c.within.ensures.drew c.note.new.case) noted }
