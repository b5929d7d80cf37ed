use Rattle.std.proofs.Common.{◌≡◌, ◌∷◌, ◌++◌, [], ◌∙◌, map, sym, ap, arith}
use Rattle.std.specs.List.{range_with_len}
use Rattle.std.proofs.lemmas.List.{map_push}
use Rattle.std.proofs.lemmas.List.FromFn.{map-range_with_len_more}
use Rattle.pt_ast.specs.Plain.{plain_item}
use Rattle.pt_made.specs.Lines.{made_item}
use Rattle.pt_made.proofs.suites.made_items.Goals as goal

pub loop-k-preserved : goal.loop-k-preserved
loop-k-preserved c =
    let line = made_item c.args.seed in
    let k = c.loop-k.k in
    let front : map plain_item c.loop-k.items ≡ map line (range_with_len 0 k) = c.loop-k.invariant in
    let pushed : map plain_item c.push.new.self ≡ map plain_item c.loop-k.items ++ plain_item c.in_ok-item.item ∷ [] =
    ap (map plain_item) c.in_ok-push.ensures.ok ∙ map_push plain_item c.loop-k.items c.in_ok-item.item in
    let last : plain_item c.in_ok-item.item ≡ line k = c.in_ok-item.ensures in
    pushed ∙ ap (λ items. items ++ plain_item c.in_ok-item.item ∷ []) front ∙ ap (λ item. map line (range_with_len 0 k) ++ item ∷ []) last ∙ sym (map-range_with_len_more line 0 k k (omega arith))
