use Rattle.std.proofs.Common.{◌≡◌, true, sym, ◌∙◌, arith}
use Rattle.std.proofs.lemmas.Result.{err_from_is_err_and}
use Rattle.pt_grammar.specs.Reading.{goes_on}
use Rattle.pt_grammar.specs.SuiteReading.{begins_setting}
use Rattle.pt_read_items.specs.Settings.{plain_allowed, plain_setting}
use Rattle.pt_read_items.proofs.Settled.{settling_begins, settling_on, settling_ends, settling_fails}
use Rattle.pt_read_items.proofs.settings.read_settings.Goals as goal

pub loop-allowed-init : goal.loop-allowed-init
loop-allowed-init c = record {
  settling = rw c.all-allowed.ensures (settling_begins c.args.steps c.args.tokens.now);
  shorter = omega arith;
}

pub returns-in_err-setting-clause-gives : goal.returns-in_err-setting-clause-gives
returns-in_err-setting-clause-gives c =
    let p = err_from_is_err_and c.from_residual.result c.from_residual.ensures.1 in
    let i = c.loop-allowed.invariant in
    let goes : goes_on (begins_setting (plain_allowed c.loop-allowed.allowed)) c.loop-allowed.rest.now ≡ true = sym c.begins_setting.ensures ∙ c.loop-allowed-test.true in
    rw (p.1, p.2) (settling_fails c.args.steps c.args.tokens.now _ _ _ i.settling goes c.in_err-setting.field-0.0 c.in_err-setting.ensures.gives)

pub loop-allowed-preserved : goal.loop-allowed-preserved
loop-allowed-preserved c =
    let i = c.loop-allowed.invariant in
    let goes : goes_on (begins_setting (plain_allowed c.loop-allowed.allowed)) c.loop-allowed.rest.now ≡ true = sym c.begins_setting.ensures ∙ c.loop-allowed-test.true in
    record {
      settling = rw (c.with_setting-settings.ensures, c.without-allowed.ensures)
          (settling_on c.args.steps c.args.tokens.now _ _ _ i.settling goes (plain_setting c.in_ok-setting.setting) c.in_ok-setting.after.now c.in_ok-setting.ensures.gives c.in_ok-setting.ensures.shorter);
      shorter = omega (arith, i.shorter, c.in_ok-setting.ensures.shorter);
    }

pub returns-clause-gives : goal.returns-clause-gives
returns-clause-gives c = settling_ends c.args.steps c.args.tokens.now _ _ _ c.loop-allowed.invariant.settling (sym c.begins_setting.ensures ∙ c.loop-allowed-test.false)
