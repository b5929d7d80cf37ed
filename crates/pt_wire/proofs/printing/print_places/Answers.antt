use Rattle.std.proofs.Common.{◌≡◌, ◌+◌, ◌≤◌, ◌∷◌, ◌++◌, get_or, refl, ap, ◌∙◌, append_assoc, arith, add-one, length-take}
use Rattle.std.specs.Fmt.{decimal}
use Rattle.std.proofs.lemmas.List.{take_more}
use Rattle.pt_wire.proofs.PrintedPlaces.{places_more}
use Rattle.pt_wire.proofs.printing.print_places.Goals as goal

pub loop-place-init : goal.loop-place-init
loop-place-init c =
    let parts = c.in-Some.ensures.cases.0 in
    let small = rw parts at (c.type_inv.places 0) in
    let bound : c.in-Some.first.now ≤ 255 = omega arith in
    rw parts (decimal c.in-Some.first.now, (refl, bound), c.in_ok-write.ensures.bytes)

pub loop-place-preserved : goal.loop-place-preserved
loop-place-preserved c =
    let i = c.loop-place.invariant in
    let k = c.loop-place.place-index in
    let places = c.args.places.now in
    let parts = c.in-Some.ensures.cases.0 in
    let place = get_or c.in-Some.others.now k 0 in
    let is : get_or places (k + 1) 0 ≡ place = rw (parts, add-one k) refl in
    let longer = c.in-Some.ensures.cases.1 in
    let bound : place ≤ 255 = omega (arith, c.type_inv.places (k + 1)) in
    rw (take_more places (k + 1) 0 (omega arith), is) (
      i.0 ++ 46 ∷ decimal place,
      places_more _ place i.0 (omega (arith, length-take (k + 1) places)) bound i.1,
      c.in_ok-write-2.ensures.bytes ∙ ap (λ t. t ++ 46 ∷ decimal place) i.2 ∙ append_assoc _ i.0 (46 ∷ decimal place),
    )
