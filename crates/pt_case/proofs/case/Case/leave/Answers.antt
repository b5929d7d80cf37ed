use Rattle.std.proofs.Common.{◌≡◌, Some, length, refl, sym, ◌∙◌, ap, arith}
use Rattle.std.specs.Prelude.{slice_get}
use Rattle.std.proofs.lemmas.Option.{slice_get_read}
use Rattle.pt_case.specs.Region.{innermost}
use Rattle.pt_case.proofs.KeptLemmas.{kept-left}
use Rattle.pt_case.proofs.RegionLemmas.{innermost-within, leave-set}
use Rattle.pt_case.proofs.case.Case.leave.Goals as goal

pub index_mut-region-requires : goal.index_mut-region-requires
index_mut-region-requires c =
    let inside = c.self.inside in
    let within = innermost-within inside.regions.items c.unwrap-number.result (sym c.self.invariant.4.known ∙ c.unwrap-number.ensures) in
    omega arith

pub invariant_of-self : goal.invariant_of-self
invariant_of-self c =
    let was = c.self.invariant in
    let inside = c.self.inside in
    let region = c.index_mut-region.result.now in
    let number : c.unwrap-number.result ≡ c.from.result = sym c.from.ensures in
    let inner : inside.innermost ≡ Some c.from.result = c.unwrap-number.ensures ∙ ap (λ n. Some n) number in
    let within = innermost-within inside.regions.items c.from.result (sym was.4.known ∙ inner) in
    let found : slice_get inside.regions.items c.from.result ≡ Some region =
    slice_get_read inside.regions.items (length inside.regions.items) c.from.result region refl within c.index_mut-region.ensures.value in
    let kept = kept-left inside.choices.items inside.regions.items c.from.result region (rw inner at was.4) found in
    let here : c.len.result ≡ length inside.choices.items = omega arith in
    (was.0, was.1, was.2, was.3, rw here kept)

pub returns : goal.returns
returns c =
    let inside = c.self.inside in
    let region = c.index_mut-region.result.now in
    let number : c.unwrap-number.result ≡ c.from.result = sym c.from.ensures in
    let inner : innermost inside.regions.items ≡ Some c.from.result = sym c.self.invariant.4.known ∙ c.unwrap-number.ensures ∙ ap (λ n. Some n) number in
    let within = innermost-within inside.regions.items c.from.result inner in
    let found : slice_get inside.regions.items c.from.result ≡ Some region =
    slice_get_read inside.regions.items (length inside.regions.items) c.from.result region refl within c.index_mut-region.ensures.value in
    let here : c.len.result ≡ length inside.choices.items = omega arith in
    rw (← c.self.view_is, here, leave-set (length inside.choices.items) inside.regions.items c.from.result region inner found) refl
