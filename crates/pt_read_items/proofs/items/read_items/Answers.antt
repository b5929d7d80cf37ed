use Rattle.std.proofs.Common.{◌≡◌, ◌-◌, length, ◌++◌, ◌∷◌, [], true, refl, sym, ap, ◌∙◌, arith, length-append}
use Rattle.std.proofs.lemmas.Result.{err_from_is_err_and}
use Rattle.std.proofs.lemmas.List.{map_push}
use Rattle.pt_ast.specs.Plain.{plain_item}
use Rattle.pt_grammar.specs.Reading.{goes_on}
use Rattle.pt_grammar.specs.SuiteReading.{begins_item}
use Rattle.pt_grammar.specs.declared.sort.Sort.TheVariants as sort
use Rattle.pt_taking.specs.declared.stop.Stop.TheVariants as stop
use Rattle.pt_read_items.proofs.Room.{not_full, is_full, room_on, room_ends, room_fails, room_full, item_refused}
use Rattle.pt_read_items.proofs.items.read_items.Goals as goal

pub returns-then-len-eq-ITEMS : goal.returns-then-len-eq-ITEMS
returns-then-len-eq-ITEMS c =
    let goes : goes_on begins_item c.loop-alloc.rest.now ≡ true = sym c.begins_item.ensures ∙ c.loop-alloc-test.true in
    room_full c.loop-alloc.invariant.roomy goes (is_full plain_item c.loop-alloc.items c.len.result 200 c.len.ensures c.if-len-eq-ITEMS.true)
    (stop.At sort.OutOfRange c.loop-alloc.rest) (item_refused c.loop-alloc.next c.loop-alloc.rest.now goes)

pub returns-in_err-item : goal.returns-in_err-item
returns-in_err-item c =
    let p = err_from_is_err_and c.from_residual.result c.from_residual.ensures.1 in
    let goes : goes_on begins_item c.loop-alloc.rest.now ≡ true = sym c.begins_item.ensures ∙ c.loop-alloc-test.true in
    rw (p.1, p.2) (room_fails c.loop-alloc.invariant.roomy goes
    (not_full plain_item c.loop-alloc.items c.len.result 200 _ c.loop-alloc.invariant.roomy.fits c.len.ensures c.if-len-eq-ITEMS.false)
    c.in_err-item.field-0.0 c.in_err-item.ensures.gives)

pub loop-alloc-preserved : goal.loop-alloc-preserved
loop-alloc-preserved c =
    let goes : goes_on begins_item c.loop-alloc.rest.now ≡ true = sym c.begins_item.ensures ∙ c.loop-alloc-test.true in
    let items = c.loop-alloc.items in
    let item = c.in_ok-item.item in record {
      roomy = rw (c.in_ok-push.ensures.ok, map_push plain_item items item) (room_on c.loop-alloc.invariant.roomy goes
          (not_full plain_item items c.len.result 200 _ c.loop-alloc.invariant.roomy.fits c.len.ensures c.if-len-eq-ITEMS.false)
          (plain_item item) c.in_ok-item.after.now c.in_ok-item.ensures.gives c.in_ok-item.ensures.shorter
          (200 - length (items ++ item ∷ []), c.in_ok-item.later)
          (let room : 200 - length (items ++ item ∷ []) ≡ (200 - length items) - 1 = omega (arith, length-append items (item ∷ [])) in
          ap (λ n. (n, c.in_ok-item.later)) room ∙ ap (λ n. ((200 - length items) - 1, n)) c.in_ok-item.ensures.next) refl);
      few = omega (arith, c.loop-alloc.invariant.few, c.in_ok-item.ensures.room);
    }

pub returns : goal.returns
returns c = room_ends c.loop-alloc.invariant.roomy (sym c.begins_item.ensures ∙ c.loop-alloc-test.false)
