use Rattle.std.proofs.Common.{◌≡◌, ◌++◌, ◌∷◌, [], List, All, map, sym, subst}
use Rattle.std.proofs.lemmas.List.Elements.{All-push}
use Rattle.pt_edits.specs.Readings.{IsSpelled, IsWritableReading}
use Rattle.pt_edits.specs.declared.reading.Reading.{Reading}
use Rattle.pt_edits.proofs.ReadingLemmas.{value_of, values-next}
use Rattle.pt_edits.proofs.stored.readings_of.Goals as goal

pub loop-entry-preserved : goal.loop-entry-preserved
loop-entry-preserved c =
    let before = c.loop-entry.invariant in
    let reading = c.in_ok-reading_of.field-0 in
    let its = c.in_ok-reading_of.ensures in
    let grown : c.push.new.self ≡ c.loop-entry.readings ++ reading ∷ [] = c.in_ok-push.ensures.ok in
    record {
      values = subst (λ (l : List Reading). map (λ reading. reading.bytes) l ≡ map value_of (c.loop-entry.yielded ++ c.in-Some.entry ∷ [])) (sym grown)
          (values-next c.loop-entry.readings c.loop-entry.yielded reading c.in-Some.entry before.values its.value);
      spelled = subst (All IsSpelled) (sym grown) (All-push IsSpelled c.loop-entry.readings reading before.spelled its.spelled);
      writable = subst (All IsWritableReading) (sym grown) (All-push IsWritableReading c.loop-entry.readings reading before.writable its.writable);
    }
