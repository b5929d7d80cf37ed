use Rattle.std.proofs.Common.{◌≡◌, ◌∙◌, sym, ap, subst, ℕ, List, map, arith}
use Rattle.std.proofs.lemmas.List.{take_all}
use Rattle.pt_disk.specs.Calls.{AreOrdered}
use Rattle.pt_real.specs.FileNames.{HaveSame}
use Rattle.pt_real.proofs.Ordered.{bytes_at}
use Rattle.pt_real.proofs.listing.in_order.Goals as goal

pub returns-clause-same : goal.returns-clause-same
returns-clause-same c =
    let listed : c.loop-name.found ≡ map bytes_at c.in_ok-sorted.field-0.items = c.loop-name.invariant
    ∙ ap (map bytes_at) (take_all c.loop-name.name-index c.as_slice-name-items.result.now (omega arith) ∙ c.as_slice-name-items.ensures.value) in
    subst (λ (l : List (List ℕ)). HaveSame l c.args.names.now) (sym listed) c.in_ok-sorted.ensures.same

pub returns-clause-ordered : goal.returns-clause-ordered
returns-clause-ordered c =
    let listed : c.loop-name.found ≡ map bytes_at c.in_ok-sorted.field-0.items = c.loop-name.invariant
    ∙ ap (map bytes_at) (take_all c.loop-name.name-index c.as_slice-name-items.result.now (omega arith) ∙ c.as_slice-name-items.ensures.value) in
    subst AreOrdered (sym listed) c.in_ok-sorted.ensures.ordered
