use Rattle.std.proofs.Common.{◌≡◌, rules, sym}
use Rattle.std.specs.Prelude.{codes, string_bytes}
use Rattle.pt_commands.proofs.Words.{four_items, four_images}
use Rattle.pt_commands.proofs.command.read_explain.Goals as goal

explain_word : (c : goal.After-item-1) → string_bytes c.explain-item.result ≡ codes "explain"
explain_word c = search rules

pub returns-clause-asks : goal.returns-clause-asks
returns-clause-asks c =
    let items = four_items c.args.words.now _ _ _ _ c.in-len4.len_at_least c.in-len4.len_below c.explain-item.is c.suite-item.is c.item-item.is c.choices-item.is in
    let list = rw c.in-Some.is at c.in_ok-list.ensures in
    record {
      word = _;
      spelled = four_images string_bytes _ _ _ _ _ _ _ _ _ items (explain_word c) (sym c.as_str-suite.ensures.value)
          (sym c.as_str-item.ensures.value) (sym c.as_str-2.ensures.value);
      printed = list.list;
      few = list.few;
    }
