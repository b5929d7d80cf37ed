use Rattle.std.proofs.Common.{◌≡◌, ◌<◌, List, [], ◌∷◌, ◌++◌, drop, length, Option, Some, None, refl, sym, ◌∙◌, rules, arith}
use Rattle.std.specs.Prelude.{IsSome}
use Rattle.std.specs.Option.{option_to_list}
use Rattle.std.specs.Vec.Iter.{into_iter_items, into_iter_len}
use Rattle.std.proofs.lemmas.List.{map-id}
use Rattle.std.proofs.lemmas.Iterator.Adapters.{YieldsList-from_vec}
use Rattle.std.proofs.lemmas.Iterator.Consumers.{YieldsList-end}
use Rattle.pt_real.proofs.command_line.after_the_name.Goals as goal

-- what is left after the first
dropped : {A : Type 0} (all rest : List A) (first : Option A) → all ≡ option_to_list first ++ rest → (0 < length all → IsSome first) → rest ≡ drop 1 all
dropped [] rest None is some = sym is
dropped (x ∷ all) rest None is some = absurd (let none = some (omega arith) in cc)
dropped [] rest (Some x) is some = absurd (let none = is in cc)
dropped (y ∷ all) rest (Some x) is some = cc

pub returns : goal.returns
returns c =
    let all = into_iter_items c.into_iter-word-iterator.result in
    let counted : into_iter_len c.into_iter-word-iterator.result ≡ length all = search rules in
    let whole = YieldsList-from_vec all refl counted in
    let ended = YieldsList-end whole c.loop-word.yielded c.loop-word.word-iterator c.loop-word.yielded_by c.next-in-loop-word.result c.next-in-loop-word.new.self c.in-None.is c.next-in-loop-word.ensures.steps in
    let first = dropped (into_iter_items c.args.args) (into_iter_items c.next.new.self) c.next.result c.next.ensures.items (λ some. c.next.ensures.variant.1 (omega arith)) in
    let same : all ≡ into_iter_items c.next.new.self = search rules in
    c.loop-word.invariant ∙ sym (map-id c.loop-word.yielded) ∙ ended.0 ∙ same ∙ first
