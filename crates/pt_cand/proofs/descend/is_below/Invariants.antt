use Rattle.std.proofs.Common.{◌≡◌, ◌<◌, ◌+◌, ℕ, suc, Some, [], ◌∷◌, take, drop, get_or}
use Rattle.std.specs.Option.{unwrap_or, option_map}
use Rattle.pt_case.specs.declared.span.Span.{Span}
use Rattle.pt_cand.specs.Descend.{is_among}
use Rattle.pt_cand.specs.Left.{known_after}
use Rattle.pt_cand.proofs.descend.is_below.Given as goal

-- the span is below where this parent is, and the parents come earlier and earlier
abbrev pub invariant-loop-parent : goal.invariant-loop-parent
invariant-loop-parent l =
    (l.spans ≡ l.best.spans)
    × ((d : Span) → is_among (known_after (l.outer ∷ []) (l.outer + 1) (take l.inner (drop (l.outer + 1) l.best.spans))) (get_or l.best.spans (l.outer + 1 + l.inner) d).parent
    ≡ is_among (known_after (l.outer ∷ []) (l.outer + 1) (take l.inner (drop (l.outer + 1) l.best.spans))) l.parent)
    × ((k : ℕ) → l.parent ≡ Some k → k < l.outer + 1 + l.inner)

abbrev pub decreases-loop-parent : goal.decreases-loop-parent
decreases-loop-parent l = unwrap_or (option_map (λ n. suc n) l.parent) 0
