use Rattle.std.proofs.Common.{◌∙◌, sym, subst, rules, Bool, List, [], map, length, suc, drop}
use Rattle.std.proofs.lemmas.List.{map-id}
use Rattle.std.proofs.lemmas.Iterator.Adapters.{YieldsList-from_vec}
use Rattle.std.proofs.lemmas.Iterator.Consumers.{YieldsList-so_far, YieldsList-turn, YieldsList-end}
use Rattle.pt_edits.specs.Added.{Adds}
use Rattle.pt_edits.specs.Pairs.{under}
use Rattle.pt_edits.specs.Readings.{AreEdits, IsShownSaved}
use Rattle.pt_edits.specs.declared.edit.Edit.{Edit}
use Rattle.pt_edits.specs.declared.reading.Reading.{Reading}
use Rattle.pt_edits.proofs.AskedLemmas.{SoFar, so-far-none, so-far-next, so-far-all, flags-enough}
use Rattle.pt_edits.proofs.Splits.{split-next}
use Rattle.pt_edits.proofs.asking.edits_of.Goals as goal

pub loop-reading-init : goal.loop-reading-init
loop-reading-init c =
    let verdict = c.args.verdict.now in
    let failing = c.args.failing.now in
    let edits = c.add_shown.new.edits in
    record {
      so_far = subst (λ (flags : List Bool). SoFar verdict [] failing flags edits) (sym c.as_slice-flags.ensures)
          (so-far-none verdict failing edits (subst (λ (old : List Edit). Adds (λ digest. IsShownSaved digest verdict) old edits) c.empty-edits.ensures c.in_ok-add_shown.ensures));
    }

pub add_asked-requires-clause-enough : goal.add_asked-requires-clause-enough
add_asked-requires-clause-enough c =
    let yielded = c.loop-reading.yielded in
    let all = YieldsList-from_vec c.args.readings (search rules) (search rules) in
    let first = YieldsList-so_far all yielded c.loop-reading.reading-iterator c.loop-reading.yielded_by in
    let turn = YieldsList-turn all yielded c.loop-reading.reading-iterator c.loop-reading.yielded_by c.next.result c.next.new.self c.in-Some.reading c.in-Some.is c.next.ensures.steps in
    let parts = split-next c.args.readings yielded c.in-Some.reading (sym (map-id yielded) ∙ first) turn.0 turn.1 in
    flags-enough c.args.verdict.now c.args.readings yielded (drop (suc (length yielded)) c.args.readings) c.in-Some.reading c.args.failing.now c.loop-reading.flags.now c.loop-reading.edits
    c.loop-reading.invariant.so_far c.requires.flags parts

pub loop-reading-preserved : goal.loop-reading-preserved
loop-reading-preserved c = record {
  so_far = so-far-next c.args.verdict.now c.loop-reading.yielded c.in-Some.reading c.args.failing.now c.loop-reading.flags.now c.in_ok-flags.flags.now c.loop-reading.edits c.add_asked.new.edits
      c.loop-reading.invariant.so_far c.in_ok-flags.ensures;
}

pub returns-clause-edits : goal.returns-clause-edits
returns-clause-edits c digest =
    let yielded = c.loop-reading.yielded in
    let all = YieldsList-from_vec c.args.readings (search rules) (search rules) in
    let ends = YieldsList-end all yielded c.loop-reading.reading-iterator c.loop-reading.yielded_by c.next.result c.next.new.self c.in-None.is c.next.ensures.steps in
    subst (λ (readings : List Reading). AreEdits digest readings c.args.verdict.now c.args.failing.now (map (under digest) c.loop-reading.edits)) (sym (map-id yielded) ∙ ends.0)
    (so-far-all c.args.verdict.now yielded c.args.failing.now c.loop-reading.flags.now c.loop-reading.edits c.loop-reading.invariant.so_far digest)
