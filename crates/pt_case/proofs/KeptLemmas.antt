-- What keeps the invariant of a case.
use Rattle.std.proofs.Common.{◌≡◌, ℕ, ◌+◌, ◌<◌, true, Option, Some, None, List, [], ◌∷◌, ◌++◌, length, refl, sym, ◌∙◌, arith, length-append}
use Rattle.std.specs.Prelude.{slice_get, slice_set}
use Rattle.std.proofs.lemmas.List.{map-append}
use Rattle.std.proofs.lemmas.Grind.{common_steps}
use Rattle.pt_choice.specs.declared.choice.Choice.{Choice}
use Rattle.pt_case.specs.declared.region.Region.{Region}
use Rattle.pt_choice.specs.Limits.{IsInLimits}
use Rattle.pt_case.specs.Placed.{IsPlaced}
use Rattle.pt_case.specs.Region.{is_open, ended, spans_at, innermost}
use Rattle.pt_case.specs.Kept.{IsKept}
use Rattle.pt_case.proofs.PlacedLemmas.{placed-grown, placed-pushed}
use Rattle.pt_case.proofs.RegionLemmas.{innermost-within, innermost-open, innermost-pushed, nested-pushed, leave-set, innermost-left, nested-left, spans-left}

pub kept-drawn : (choices : List Choice) (regions : List Region) (inner : Option ℕ) (choice : Choice) →
    IsKept choices regions inner → length choices < 256 → IsInLimits choice → IsKept (choices ++ choice ∷ []) regions inner
kept-drawn choices regions inner choice kept room limits =
    let one_more : length (choices ++ choice ∷ []) ≡ length choices + 1 = length-append choices (choice ∷ []) in
    record {
      few_choices = omega arith;
      in_limits = let all = kept.in_limits in grind (arith, common_steps);
      few_regions = kept.few_regions;
      placed = rw one_more (placed-grown (length choices) regions kept.placed);
      known = kept.known;
      nested = kept.nested;
    }

pub kept-entered : (choices : List Choice) (regions : List Region) (inner : Option ℕ) (region : Region) →
    IsKept choices regions inner → length regions < 1024 → region.from ≡ length choices → region.to ≡ None → region.parent ≡ inner →
    IsKept choices (regions ++ region ∷ []) (Some (length regions))
kept-entered choices regions inner region kept room from to parent =
    let below : region.parent ≡ innermost regions = parent ∙ kept.known in
    let open_now : is_open region ≡ true = rw to refl in
    let here = length choices in
    let ends : (ended here region).to ≡ here = rw to refl in
    let placed : IsPlaced (length (spans_at here regions)) here (ended here region) = record {
      begins = omega arith;
      ends = omega arith;
      earlier = λ p e. let within = innermost-within regions p (sym below ∙ e) in grind (arith, common_steps);
    } in
    record {
      few_choices = kept.few_choices;
      in_limits = kept.in_limits;
      few_regions = omega (arith, length-append regions (region ∷ []));
      placed = rw map-append (placed-pushed here (spans_at here regions) (ended here region) kept.placed placed);
      known = sym (innermost-pushed regions region open_now);
      nested = nested-pushed regions region kept.nested below;
    }

pub kept-left : (choices : List Choice) (regions : List Region) (i : ℕ) (region : Region) →
    IsKept choices regions (Some i) → slice_get regions i ≡ Some region →
    IsKept choices (slice_set regions i (record region { to = Some (length choices) })) region.parent
kept-left choices regions i region kept found =
    let here = length choices in
    let inner = sym kept.known in
    let written = leave-set here regions i region inner found in
    let parent = kept.nested i region found (innermost-open regions i region inner found) in
    rw (← written) record {
      few_choices = kept.few_choices;
      in_limits = kept.in_limits;
      few_regions = rw written (let e = kept.few_regions in grind (arith, common_steps));
      placed = rw (spans-left here regions i inner) kept.placed;
      known = parent ∙ sym (innermost-left here regions i inner);
      nested = nested-left here regions i inner kept.nested;
    }
