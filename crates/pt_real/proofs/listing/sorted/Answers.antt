use Rattle.std.proofs.Common.{◌≡◌, ◌∙◌, sym, subst, map, nat_cmp, Less, arith, List, ℕ}
use Rattle.std.specs.Borrow.{Bor}
use Rattle.std.specs.Cmp.Lexicographic.{slice_cmp}
use Rattle.std.proofs.lemmas.List.{take_all}
use Rattle.std.proofs.lemmas.List.Filters.{dedup_is}
use Rattle.pt_disk.specs.Calls.{AreOrdered}
use Rattle.pt_disk.proofs.Named.{ordered-dedup, same_bytes}
use Rattle.pt_real.specs.FileNames.{HaveSame}
use Rattle.pt_real.proofs.Ordered.{bytes_at, AllPairs-map, HaveSame-dedup}
use Rattle.pt_real.proofs.listing.sorted.Goals as goal

pub returns-clause-same : goal.returns-clause-same
returns-clause-same c =
    let listed = c.loop-name.invariant ∙ take_all c.loop-name.name-index c.args.names.now (omega arith) in
    subst (λ (l : List (List ℕ)). HaveSame (map bytes_at c.dedup.new.self.items) l) listed
    (subst (λ (l : List (Bor (List ℕ))). HaveSame (map bytes_at l) (map bytes_at c.loop-name.sorted.items))
    (sym (dedup_is same_bytes c.sort_unstable.new.self.items c.dedup.new.self.items c.dedup.ensures.filtered))
    (HaveSame-dedup c.loop-name.sorted.items c.sort_unstable.new.self.items c.sort_unstable.ensures.permutation))

pub returns-clause-ordered : goal.returns-clause-ordered
returns-clause-ordered c =
    subst (λ (l : List (Bor (List ℕ))). AreOrdered (map bytes_at l)) (sym (dedup_is same_bytes c.sort_unstable.new.self.items c.dedup.new.self.items c.dedup.ensures.filtered))
    (AllPairs-map bytes_at (λ one other. slice_cmp nat_cmp one other ≡ Less) _ (ordered-dedup c.sort_unstable.new.self.items c.sort_unstable.ensures.sorted))
