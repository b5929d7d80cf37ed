use Rattle.std.proofs.Common.{◌≡◌, rules, sym, ◌∙◌, arith}
use Rattle.std.specs.Prelude.{codes, string_bytes}
use Rattle.pt_commands.proofs.Words.{four_items, four_images}
use Rattle.pt_commands.proofs.command.read_run.Goals as goal

run_word : (c : goal.After-suite-1) → string_bytes c.run-item.result ≡ codes "run"
run_word c = search rules

pub returns-clause-asks : goal.returns-clause-asks
returns-clause-asks c =
    let items = four_items c.args.words.now _ _ _ _ c.in-len4.len_at_least c.in-len4.len_below c.run-item.is c.suite-item.is c.seed-item.is c.workers-item.is in
    let seed = rw c.in-Some.is at c.in_ok-seed.ensures in
    let workers = rw c.in-Some-2.is at c.in_ok-workers.ensures in
    record {
      spelled = four_images string_bytes _ _ _ _ _ _ _ _ _ items (run_word c) (sym c.as_str-suite.ensures.value)
          (sym c.as_str-2.ensures.value ∙ seed.value) (sym c.as_str-3.ensures.value ∙ workers.value);
      seed_fits = omega (arith, seed.within.1);
      one_or_more = workers.within.0;
      at_most = workers.within.1;
    }
