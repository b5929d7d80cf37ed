-- What a walk that stands at a cursor still has to hand out.
use Rattle.std.specs.Prelude.{ℕ, ◌+◌, nat_eq, if◌then◌else◌, ℤ, Bool, List, [], ◌∷◌, ◌++◌, map, take, drop, length}
use Rattle.std.specs.List.{filter}
use Rattle.std.specs.Ordering.{int_eq}
use Rattle.std.specs.Cmp.Lexicographic.{pointwise}
use Rattle.pt_choice.specs.declared.choice.Choice.{Choice}
use Rattle.pt_choice.specs.declared.choice.Choice.TheVariants as choice
use Rattle.pt_case.specs.declared.span.Span.{Span}
use Rattle.pt_case.specs.declared.record.Record.{Record}
use Rattle.pt_cand.specs.declared.cursor.Cursor.{Cursor}
use Rattle.pt_cand.specs.declared.pairs.Together.{Together}
use Rattle.pt_cand.specs.declared.pairs.Together.TheVariants.{Nearer, Against}
use Rattle.pt_cand.specs.declared.pass.Pass.{Pass}
use Rattle.pt_cand.specs.declared.pass.Pass.TheVariants.{DeleteSpan, Descend, LowerOne, LowerPair, SwapSiblings, LowerDelete, Shift}
use Rattle.pt_cand.specs.Each.{at_each, each_once}
use Rattle.pt_cand.specs.Region.{regions, regions_after, without}
use Rattle.pt_cand.specs.Lower.{lower, lower_integers, lower_octets}
use Rattle.pt_cand.specs.LowerOne.{replaced}
use Rattle.pt_cand.specs.Moves.{with_later, of_integers, in_places, both_nearer, shifted}
use Rattle.pt_cand.specs.Descend.{is_among, below, may_replace, descended, descend_at}
use Rattle.pt_cand.specs.SwapSiblings.{swap_at}
use Rattle.pt_cand.specs.LowerDelete.{less_without}

-- what is left of the first member, and what is made of each later one
abbrev pub left_at : {A B : Type 0} → (List A → A → List A → List B) → (List A → A → List A → List B) → List A → List A → List B
left_at left make front [] = []
left_at left make front (member ∷ back) = left front member back ++ at_each make (front ++ member ∷ []) back

-- the members each once, where the first one and so many more were looked at
abbrev pub once_after : {A : Type 0} → (A → A → Bool) → List A → ℕ → List A
once_after same members looked = each_once same (take (looked + 1) members) (drop (looked + 1) members)

-- the lower choices, where so many were looked at, repeats counted
abbrev pub lower_after : Choice → ℕ → List Choice
lower_after (choice.Bool value) looked = drop looked (lower (choice.Bool value))
lower_after (choice.Int value) looked = map (λ v. choice.Int v) (once_after int_eq (value ∷ lower_integers value) looked)
lower_after (choice.Bytes octets) looked = map (λ o. choice.Bytes o) (once_after (pointwise nat_eq) (octets ∷ lower_octets octets) looked)
lower_after (choice.Text octets) looked = map (λ o. choice.Text o) (once_after (pointwise nat_eq) (octets ∷ lower_octets octets) looked)

-- the numbers of the spans below these, once the spans were looked at
abbrev pub known_after : List ℕ → ℕ → List Span → List ℕ
known_after known number [] = known
known_after known number (span ∷ later) = known_after (if is_among known span.parent then known ++ number ∷ [] else known) (number + 1) later

abbrev pub descend_after : List Choice → ℕ → List Span → Span → List Span → List (List Choice)
descend_after choices looked earlier outer later =
    map (descended choices outer) (filter (may_replace outer)
    (below (known_after (length earlier ∷ []) (length earlier + 1) (take looked later)) (length earlier + 1 + looked) (drop looked later)))

-- of a place and each later one, where so many later ones were passed, and so much was made of the next one
abbrev pub later_after : (ℤ → ℤ → List (ℤ × ℤ)) → ℕ → ℕ → List Choice → Choice → List Choice → List (List Choice)
later_after make passed made front one back =
    left_at (λ between other rest. map (in_places front between rest) (drop made (of_integers make one other)))
    (λ between other rest. map (in_places front between rest) (of_integers make one other)) (take passed back) (drop passed back)

-- by how they are moved
abbrev pub moved_by : Together → ℤ → ℤ → List (ℤ × ℤ)
moved_by Nearer x y = both_nearer x y
moved_by Against x y = shifted x y

abbrev pub pairs_left : (ℤ → ℤ → List (ℤ × ℤ)) → List Choice → Cursor → List (List Choice)
pairs_left make choices cursor = left_at (later_after make cursor.inner cursor.slot) (with_later make) (take cursor.place choices) (drop cursor.place choices)

-- by the pass
abbrev pub left_of : Pass → Record → Cursor → List (List Choice)
left_of DeleteSpan best cursor = map (without best.choices) (regions_after (take cursor.place best.spans) (drop cursor.place best.spans))
left_of Descend best cursor = left_at (descend_after best.choices cursor.inner) (descend_at best.choices) (take cursor.place best.spans) (drop cursor.place best.spans)
left_of LowerOne best cursor = left_at (λ front given back. replaced front back (lower_after given cursor.inner)) (λ front given back. replaced front back (lower given))
    (take cursor.place best.choices) (drop cursor.place best.choices)
left_of LowerPair best cursor = pairs_left both_nearer best.choices cursor
left_of SwapSiblings best cursor = at_each (swap_at best.choices) (take cursor.place best.spans) (drop cursor.place best.spans)
left_of LowerDelete best cursor =
    left_at (less_without (regions_after (take cursor.inner best.spans) (drop cursor.inner best.spans))) (less_without (regions best.spans))
    (take cursor.place best.choices) (drop cursor.place best.choices)
left_of Shift best cursor = pairs_left shifted best.choices cursor

-- how many places a pass goes through
abbrev pub places_of : Pass → Record → ℕ
places_of DeleteSpan best = length best.spans
places_of Descend best = length best.spans
places_of LowerOne best = length best.choices
places_of LowerPair best = length best.choices
places_of SwapSiblings best = length best.spans
places_of LowerDelete best = length best.choices
places_of Shift best = length best.choices
