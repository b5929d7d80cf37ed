use Rattle.std.proofs.Common.{◌≡◌, rules, sym, ◌∙◌, arith}
use Rattle.std.specs.Prelude.{codes, string_bytes}
use Rattle.pt_commands.proofs.Words.{three_items, three_images}
use Rattle.pt_commands.proofs.command.read_make.Goals as goal

pub returns-clause-asks : goal.returns-clause-asks
returns-clause-asks c =
    let items = three_items c.args.words.now _ _ _ c.in-len3.len_at_least c.in-len3.len_below c.make-item.is c.seed-item.is c.count-item.is in
    let word : string_bytes c.make-item.result ≡ codes "make" = search rules in
    let seed = rw c.in-Some.is at c.in_ok-seed.ensures in
    let count = rw c.in-Some-2.is at c.in_ok-count.ensures in
    record {
      spelled = three_images string_bytes _ _ _ _ _ _ _ items word (sym c.as_str-2.ensures.value ∙ seed.value)
          (sym c.as_str-3.ensures.value ∙ count.value);
      seed_fits = omega (arith, seed.within.1);
      one_or_more = count.within.0;
      at_most = count.within.1;
    }
