use Rattle.std.proofs.Common.{◌≡◌, ◌-◌, length, ◌++◌, ◌∷◌, [], true, refl, sym, ◌∙◌, arith, length-append}
use Rattle.std.proofs.lemmas.Result.{err_from_is_err_and}
use Rattle.std.proofs.lemmas.List.{map_push}
use Rattle.pt_ast.specs.Plain.{plain_state}
use Rattle.pt_grammar.specs.Reading.{goes_on}
use Rattle.pt_grammar.specs.SuiteReading.{is_state}
use Rattle.pt_grammar.specs.declared.sort.Sort.TheVariants as sort
use Rattle.pt_taking.specs.declared.stop.Stop.TheVariants as stop
use Rattle.pt_read_items.proofs.Room.{not_full, is_full, room_on, room_ends, room_fails, room_full, state_refused}
use Rattle.pt_read_items.proofs.machines.read_states.Goals as goal

pub returns-then-len-eq-MOST-clause-gives : goal.returns-then-len-eq-MOST-clause-gives
returns-then-len-eq-MOST-clause-gives c =
    let goes : goes_on is_state c.loop-alloc.rest.now ≡ true = sym c.starts.ensures ∙ c.loop-alloc-test.true in
    room_full c.loop-alloc.invariant.roomy goes (is_full plain_state c.loop-alloc.states c.len.result 64 c.len.ensures c.if-len-eq-MOST.true)
    (stop.At sort.OutOfRange c.loop-alloc.rest) (state_refused c.args.left c.loop-alloc.rest.now goes)

pub returns-in_err-state-clause-gives : goal.returns-in_err-state-clause-gives
returns-in_err-state-clause-gives c =
    let p = err_from_is_err_and c.from_residual.result c.from_residual.ensures.1 in
    let goes : goes_on is_state c.loop-alloc.rest.now ≡ true = sym c.starts.ensures ∙ c.loop-alloc-test.true in
    rw (p.1, p.2) (room_fails c.loop-alloc.invariant.roomy goes
    (not_full plain_state c.loop-alloc.states c.len.result 64 _ c.loop-alloc.invariant.roomy.fits c.len.ensures c.if-len-eq-MOST.false)
    c.in_err-state.field-0.0 c.in_err-state.ensures.gives)

pub loop-alloc-preserved : goal.loop-alloc-preserved
loop-alloc-preserved c =
    let goes : goes_on is_state c.loop-alloc.rest.now ≡ true = sym c.starts.ensures ∙ c.loop-alloc-test.true in
    let states = c.loop-alloc.states in
    let state = c.in_ok-state.state in record {
      roomy = rw (c.in_ok-push.ensures.ok, map_push plain_state states state) (room_on c.loop-alloc.invariant.roomy goes
          (not_full plain_state states c.len.result 64 _ c.loop-alloc.invariant.roomy.fits c.len.ensures c.if-len-eq-MOST.false)
          (plain_state state) c.in_ok-state.after.now c.in_ok-state.ensures.gives c.in_ok-state.ensures.shorter
          (64 - length (states ++ state ∷ [])) (omega (arith, length-append states (state ∷ []))) refl);
      shorter = omega (arith, c.loop-alloc.invariant.shorter, c.in_ok-state.ensures.shorter);
    }

pub returns-clause-gives : goal.returns-clause-gives
returns-clause-gives c = room_ends c.loop-alloc.invariant.roomy (sym c.starts.ensures ∙ c.loop-alloc-test.false)
