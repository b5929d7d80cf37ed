use Rattle.std.proofs.Common.{◌≡◌, [], map, drop}
use Rattle.pt_ast.specs.Plain.{plain_item}
use Rattle.pt_typing.specs.SuiteChecks.{each_named, checked_body}
use Rattle.pt_check.proofs.suites.check_items.Given as goal

-- the items so far are right, and their names were met
abbrev pub invariant-loop-item : goal.invariant-loop-item
invariant-loop-item l = each_named (λ item. item.name) (λ item. checked_body l.known item.name item.body) [] (map plain_item l.items)
    ≡ each_named (λ item. item.name) (λ item. checked_body l.known item.name item.body) l.seen (map plain_item (drop l.item-index l.items))
