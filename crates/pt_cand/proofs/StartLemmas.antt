-- Where a pass begins, and where it ends.
use Rattle.std.proofs.Common.{◌≡◌, ◌≤◌, ◌+◌, ℤ, List, [], ◌∷◌, ap, refl, take, drop, length, add-zero}
use Rattle.pt_choice.specs.declared.choice.Choice.{Choice}
use Rattle.pt_choice.specs.declared.choice.Choice.TheVariants as choice
use Rattle.pt_case.specs.declared.record.Record.{Record}
use Rattle.pt_case.specs.declared.span.Span.{Span}
use Rattle.std.specs.Prelude.{map}
use Rattle.std.specs.List.{filter}
use Rattle.pt_cand.specs.Descend.{below, may_replace, descended, descend_at}
use Rattle.pt_cand.specs.declared.cursor.Cursor.{Cursor}
use Rattle.pt_cand.specs.declared.pass.Pass.{Pass}
use Rattle.pt_cand.specs.declared.pass.Pass.TheVariants.{DeleteSpan, Descend, LowerOne, LowerPair, SwapSiblings, LowerDelete, Shift}
use Rattle.pt_cand.specs.Candidates.{candidates_of}
use Rattle.pt_cand.specs.Region.{regions, regions_after, without}
use Rattle.pt_cand.specs.LowerDelete.{less_without}
use Rattle.pt_cand.specs.SwapSiblings.{swap_at}
use Rattle.pt_cand.specs.Lower.{lower}
use Rattle.pt_cand.specs.LowerOne.{replaced}
use Rattle.pt_cand.specs.Left.{left_of, lower_after, places_of, later_after, descend_after}
use Rattle.pt_cand.specs.Moves.{with_later, both_nearer, shifted}
use Rattle.pt_cand.specs.Walk.{start_of}
use Rattle.pt_cand.proofs.EachLemmas.{at_each-end, left_at-start, left_at-end}
use Rattle.pt_cand.proofs.RegionLemmas.{regions-end}

pub lower_after-start : (given : Choice) → lower_after given 0 ≡ lower given
lower_after-start (choice.Bool value) = refl
lower_after-start (choice.Int value) = refl
lower_after-start (choice.Bytes octets) = refl
lower_after-start (choice.Text octets) = refl

pub descend_after-start : (choices : List Choice) (earlier : List Span) (outer : Span) (later : List Span) →
    descend_after choices 0 earlier outer later ≡ descend_at choices earlier outer later
descend_after-start choices earlier outer later =
    ap (λ n. map (descended choices outer) (filter (may_replace outer) (below (length earlier ∷ []) n later))) (add-zero (length earlier + 1))

pub later-start : (make : ℤ → ℤ → List (ℤ × ℤ)) (front : List Choice) (one : Choice) (back : List Choice) → later_after make 0 0 front one back ≡ with_later make front one back
later-start make front one back = left_at-start _ _ (λ f m b. refl) [] back

pub start-left : (pass : Pass) (best : Record) → left_of pass best (start_of 0) ≡ candidates_of pass best
start-left DeleteSpan best = refl
start-left Descend best = left_at-start _ _ (descend_after-start best.choices) [] best.spans
start-left LowerOne best = left_at-start _ _ (λ front given back. ap (replaced front back) (lower_after-start given)) [] best.choices
start-left LowerPair best = left_at-start _ _ (later-start both_nearer) [] best.choices
start-left SwapSiblings best = refl
start-left LowerDelete best = left_at-start _ _ (λ front given back. refl) [] best.choices
start-left Shift best = left_at-start _ _ (later-start shifted) [] best.choices

pub end-left : (pass : Pass) (best : Record) (cursor : Cursor) → places_of pass best ≤ cursor.place → left_of pass best cursor ≡ []
end-left DeleteSpan best cursor past = ap (map (without best.choices)) (regions-end best.spans cursor.place past)
end-left Descend best cursor past = left_at-end (descend_after best.choices cursor.inner) (descend_at best.choices) best.spans cursor.place past
end-left LowerOne best cursor past =
    left_at-end (λ front given back. replaced front back (lower_after given cursor.inner)) (λ front given back. replaced front back (lower given)) best.choices cursor.place past
end-left LowerPair best cursor past = left_at-end (later_after both_nearer cursor.inner cursor.slot) (with_later both_nearer) best.choices cursor.place past
end-left SwapSiblings best cursor past = at_each-end (swap_at best.choices) best.spans cursor.place past
end-left LowerDelete best cursor past =
    left_at-end (less_without (regions_after (take cursor.inner best.spans) (drop cursor.inner best.spans))) (less_without (regions best.spans)) best.choices cursor.place past
end-left Shift best cursor past = left_at-end (later_after shifted cursor.inner cursor.slot) (with_later shifted) best.choices cursor.place past
