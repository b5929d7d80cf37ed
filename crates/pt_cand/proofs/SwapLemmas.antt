-- Where the choices of two exchanged spans come from.
use Rattle.std.proofs.Common.{◌≡◌, ◌<◌, ◌≤◌, ℕ, ◌+◌, ◌-◌, Bool, Some, slice_get, List, [], ◌∷◌, ◌++◌, length, take, drop, get_or, sym, ap, ◌∙◌, subst, arith}
use Rattle.std.specs.declared.cmp.Ordering.{Ordering}
use Rattle.std.specs.declared.cmp.Ordering.TheVariants.{Equal}
use Rattle.std.specs.Ordering.{nat_cmp, ordering_then}
use Rattle.std.specs.Cmp.Lexicographic.{slice_cmp}
use Rattle.std.specs.List.{find, position_or_len}
use Rattle.std.proofs.lemmas.Cmp.{nat_cmp_total, tied_itself}
use Rattle.std.proofs.lemmas.List.Folds.{find_at}
use Rattle.std.proofs.lemmas.Option.{slice_get_within, get_or_from_slice_get, slice_get-get_or}
use Rattle.pt_choice.specs.Order.{cmp_choice, shortlex}
use Rattle.std.proofs.lemmas.List.{drop_more, drop_all, length-append, length-take-le, length-drop, get_or_append_left, get_or-append_right, get_or-take, get_or-drop}
use Rattle.pt_choice.specs.declared.choice.Choice.{Choice}
use Rattle.pt_case.specs.Placed.{IsPlaced}
use Rattle.pt_case.specs.declared.record.Record.{Record}
use Rattle.pt_case.specs.declared.span.Span.{Span}
use Rattle.pt_cand.specs.SwapSiblings.{swapped, InOrder}

part-length : (choices : List Choice) (from to : ℕ) → to ≤ length choices → length (drop from (take to choices)) ≡ to - from
part-length choices from to within = length-drop from (take to choices) ∙ ap (λ n. n - from) (length-take-le to choices within)

part-get : (choices : List Choice) (from to k : ℕ) (d : Choice) → k < to - from → get_or (drop from (take to choices)) k d ≡ get_or choices (from + k) d
part-get choices from to k d within = get_or-drop from (take to choices) k d ∙ get_or-take to choices (from + k) d (omega (arith, within))

-- the parts of the list with two spans exchanged
module _ (choices : List Choice) (one other : Span) (order : InOrder (length choices) one other) where
  abbrev p1 : List Choice
  p1 = take one.from choices

  abbrev p2 : List Choice
  p2 = drop other.from (take other.to choices)

  abbrev p3 : List Choice
  p3 = drop one.to (take other.from choices)

  abbrev p4 : List Choice
  p4 = drop one.from (take one.to choices)

  abbrev p5 : List Choice
  p5 = drop other.to choices

  l1 : length p1 ≡ one.from
  l1 = length-take-le one.from choices (omega (arith, order.begins, order.behind, order.ends, order.within))

  l2 : length (p1 ++ p2) ≡ one.from + (other.to - other.from)
  l2 = length-append p1 p2 ∙ ap (λ n. n + length p2) l1 ∙ ap (λ n. one.from + n) (part-length choices other.from other.to order.within)

  l3 : length (p1 ++ p2 ++ p3) ≡ one.from + (other.to - other.from) + (other.from - one.to)
  l3 = length-append (p1 ++ p2) p3 ∙ ap (λ n. n + length p3) l2
      ∙ ap (λ n. one.from + (other.to - other.from) + n) (part-length choices one.to other.from (omega (arith, order.ends, order.within)))

  l4 : length (p1 ++ p2 ++ p3 ++ p4) ≡ other.to
  l4 = let p = part-length choices one.from one.to (omega (arith, order.behind, order.ends, order.within)) in
      length-append (p1 ++ p2 ++ p3) p4 ∙ ap (λ n. n + length p4) l3
      ∙ ap (λ n. one.from + (other.to - other.from) + (other.from - one.to) + n) p ∙ omega (arith, order.begins, order.behind, order.ends)

  -- both lists are as long
  pub swapped-length : length (swapped choices one other) ≡ length choices
  swapped-length = length-append (p1 ++ p2 ++ p3 ++ p4) p5 ∙ ap (λ n. n + length p5) l4 ∙ ap (λ n. other.to + n) (length-drop other.to choices) ∙ omega (arith, order.within)

  within4 : (i : ℕ) (d : Choice) → i < other.to → get_or (swapped choices one other) i d ≡ get_or (p1 ++ p2 ++ p3 ++ p4) i d
  within4 i d low = get_or_append_left (p1 ++ p2 ++ p3 ++ p4) p5 d i (subst (λ n. i < n) (sym l4) low)

  within3 : (i : ℕ) (d : Choice) → i < one.from + (other.to - other.from) + (other.from - one.to) → get_or (swapped choices one other) i d ≡ get_or (p1 ++ p2 ++ p3) i d
  within3 i d low =
      within4 i d (omega (arith, low, order.begins, order.behind, order.ends))
      ∙ get_or_append_left (p1 ++ p2 ++ p3) p4 d i (subst (λ n. i < n) (sym l3) low)

  within2 : (i : ℕ) (d : Choice) → i < one.from + (other.to - other.from) → get_or (swapped choices one other) i d ≡ get_or (p1 ++ p2) i d
  within2 i d low = within3 i d (omega (arith, low)) ∙ get_or_append_left (p1 ++ p2) p3 d i (subst (λ n. i < n) (sym l2) low)

  pub from-before : (i : ℕ) (d : Choice) → i < one.from → get_or (swapped choices one other) i d ≡ get_or choices i d
  from-before i d low =
      within2 i d (omega (arith, low)) ∙ get_or_append_left p1 p2 d i (subst (λ n. i < n) (sym l1) low) ∙ get_or-take one.from choices i d low

  pub from-other : (i : ℕ) (d : Choice) → one.from ≤ i → i < one.from + (other.to - other.from) →
      get_or (swapped choices one other) i d ≡ get_or choices (other.from + (i - one.from)) d
  from-other i d high low =
      within2 i d low ∙ get_or-append_right p1 p2 one.from i d l1 high ∙ part-get choices other.from other.to (i - one.from) d (omega (arith, high, low))

  pub from-between : (i : ℕ) (d : Choice) → one.from + (other.to - other.from) ≤ i → i < one.from + (other.to - other.from) + (other.from - one.to) →
      get_or (swapped choices one other) i d ≡ get_or choices (one.to + (i - (one.from + (other.to - other.from)))) d
  from-between i d high low =
      within3 i d low ∙ get_or-append_right (p1 ++ p2) p3 (one.from + (other.to - other.from)) i d l2 high
      ∙ part-get choices one.to other.from (i - (one.from + (other.to - other.from))) d (omega (arith, high, low))

  pub from-one : (i : ℕ) (d : Choice) → one.from + (other.to - other.from) + (other.from - one.to) ≤ i → i < other.to →
      get_or (swapped choices one other) i d ≡ get_or choices (one.from + (i - (one.from + (other.to - other.from) + (other.from - one.to)))) d
  from-one i d high low =
      within4 i d low ∙ get_or-append_right (p1 ++ p2 ++ p3) p4 (one.from + (other.to - other.from) + (other.from - one.to)) i d l3 high
      ∙ part-get choices one.from one.to (i - (one.from + (other.to - other.from) + (other.from - one.to))) d (omega (arith, high, low, order.begins, order.behind, order.ends))

  pub from-after : (i : ℕ) (d : Choice) → other.to ≤ i → get_or (swapped choices one other) i d ≡ get_or choices i d
  from-after i d high =
      let same : other.to + (i - other.to) ≡ i = omega (arith, high) in
      get_or-append_right (p1 ++ p2 ++ p3 ++ p4) p5 other.to i d l4 high ∙ get_or-drop other.to choices (i - other.to) d ∙ ap (λ n. get_or choices n d) same

-- which of the two lists comes first, one place on
module _ (choices : List Choice) (one other : Span) (order : InOrder (length choices) one other) where
  abbrev exchanged : List Choice
  exchanged = swapped choices one other

  members : shortlex exchanged choices ≡ slice_cmp cmp_choice exchanged choices
  members =
      ap (λ o. ordering_then o (slice_cmp cmp_choice exchanged choices))
      (ap (λ n. nat_cmp n (length choices)) (swapped-length choices one other order) ∙ tied_itself nat_cmp_total (length choices))

  -- so far the two lists agree
  abbrev Agree : ℕ → Type 0
  Agree i = slice_cmp cmp_choice exchanged choices ≡ slice_cmp cmp_choice (drop i exchanged) (drop i choices)

  members-more : (i : ℕ) (d : Choice) → i < length choices → Agree i →
      slice_cmp cmp_choice exchanged choices
      ≡ ordering_then (cmp_choice (get_or exchanged i d) (get_or choices i d)) (slice_cmp cmp_choice (drop (i + 1) exchanged) (drop (i + 1) choices))
  members-more i d within agree =
      agree
      ∙ ap (λ l. slice_cmp cmp_choice l (drop i choices)) (drop_more exchanged i d (subst (λ n. i < n) (sym (swapped-length choices one other order)) within))
      ∙ ap (λ l. slice_cmp cmp_choice (get_or exchanged i d ∷ drop (i + 1) exchanged) l) (drop_more choices i d within)

  pub lower-decides : (i : ℕ) (d : Choice) → i < length choices → Agree i → (o : Ordering) → cmp_choice (get_or exchanged i d) (get_or choices i d) ≡ o →
      shortlex exchanged choices ≡ ordering_then o (slice_cmp cmp_choice (drop (i + 1) exchanged) (drop (i + 1) choices))
  lower-decides i d within agree o is =
      members ∙ members-more i d within agree ∙ ap (λ x. ordering_then x (slice_cmp cmp_choice (drop (i + 1) exchanged) (drop (i + 1) choices))) is

  pub lower-tied : (i : ℕ) (d : Choice) → i < length choices → Agree i → cmp_choice (get_or exchanged i d) (get_or choices i d) ≡ Equal → Agree (i + 1)
  lower-tied i d within agree is =
      members-more i d within agree ∙ ap (λ x. ordering_then x (slice_cmp cmp_choice (drop (i + 1) exchanged) (drop (i + 1) choices))) is

  pub lower-end : (i : ℕ) → length choices ≤ i → Agree i → shortlex exchanged choices ≡ Equal
  lower-end i past agree =
      members ∙ agree
      ∙ ap (λ l. slice_cmp cmp_choice l (drop i choices)) (drop_all i exchanged (subst (λ n. n ≤ i) (sym (swapped-length choices one other order)) past))
      ∙ ap (λ l. slice_cmp cmp_choice [] l) (drop_all i choices past)

-- a span that is found behind a place is placed like any other
pub later-placed : (best : Record) (from : ℕ) (test : Span → Bool) (other : Span) → find test (drop from best.spans) ≡ Some other →
    (number : ℕ) × IsPlaced number (length best.choices) other
later-placed best from test other is =
    let later = drop from best.spans in
    let k = position_or_len test later in
    let at_k : slice_get later k ≡ Some other = sym (find_at test later) ∙ is in
    let low = slice_get_within later k other at_k in
    let long = length-drop from best.spans in
    let within : from + k < length best.spans = omega (arith, low, long) in
    let same : get_or best.spans (from + k) other ≡ other = sym (get_or-drop from best.spans k other) ∙ get_or_from_slice_get later k other other at_k in
    (from + k, best.placed (from + k) other (slice_get-get_or best.spans (from + k) other within ∙ ap (λ span. Some span) same))
