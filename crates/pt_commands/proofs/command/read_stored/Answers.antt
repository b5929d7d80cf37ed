use Rattle.std.proofs.Common.{◌≡◌, rules}
use Rattle.std.specs.Prelude.{codes, string_bytes}
use Rattle.pt_commands.proofs.Words.{one_item, one_image}
use Rattle.pt_commands.proofs.command.read_stored.Goals as goal

pub returns-clause-asks : goal.returns-clause-asks
returns-clause-asks c =
    let items = one_item c.args.words.now _ c.in-len1.len_at_least c.in-len1.len_below c.stored-item.is in
    let word : string_bytes c.stored-item.result ≡ codes "stored" = search rules in
    one_image string_bytes _ _ _ items word
