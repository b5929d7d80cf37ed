-- The spans below an outer one, seen from the spans behind it.
use Rattle.std.proofs.Common.{◌≡◌, ◌≢◌, ◌⊎◌, ◌<◌, ◌≤◌, ℕ, zero, suc, ◌+◌, ◌-◌, Bool, true, false, cond, ◌&&◌, ◌||◌, nat_eq, Option, Some, None, List, [], ◌∷◌, ◌++◌, map, length, take, drop, get_or, sym, ap, ◌∙◌, refl, subst, arith, inl, inr, add-zero, add-one}
use Rattle.std.specs.Prelude.{if◌then◌else◌}
use Rattle.std.specs.List.{filter, list_any}
use Rattle.std.specs.Option.{unwrap_or, option_map}
use Rattle.std.proofs.lemmas.Bool.{eq-eqb, ne_eqb, cases_eq}
use Rattle.std.proofs.lemmas.List.{take_more, drop_more, drop_all, length-take-le, length-drop, get_or-drop}
use Rattle.std.proofs.lemmas.List.Folds.{list_any-append}
use Rattle.pt_choice.specs.declared.choice.Choice.{Choice}
use Rattle.pt_case.specs.declared.span.Span.{Span}
use Rattle.pt_cand.specs.Descend.{is_among, below, may_replace, descended}
use Rattle.pt_cand.specs.Left.{known_after, descend_after}

abbrev more : List ℕ → ℕ → Option ℕ → List ℕ
more known number parent = if is_among known parent then known ++ number ∷ [] else known

known-push : (known : List ℕ) (number : ℕ) (spans : List Span) (span : Span) →
    known_after known number (spans ++ span ∷ []) ≡ more (known_after known number spans) (number + length spans) span.parent
known-push known number [] span = ap (λ n. more known n span.parent) (sym (add-zero number))
known-push known number (first ∷ spans) span =
    let next = more known number first.parent in
    let same : number + 1 + length spans ≡ number + suc (length spans) = omega arith in
    known-push next (number + 1) spans span ∙ ap (λ n. more (known_after next (number + 1) spans) n span.parent) same

or-false : (b : Bool) → (b || false) ≡ b
or-false true = refl
or-false false = refl

and-or : (a b c : Bool) → c ≡ false → (a || (b && c)) ≡ a
and-or true b c is = refl
and-or false true c is = is
and-or false false c is = refl

alone : (a b c : Bool) → a ≡ false → c ≡ true → (a || (b && c)) ≡ b
alone true b c none is = cc
alone false true c none is = is
alone false false c none is = refl

kept : (a b : Bool) → a ≡ true → (a || b) ≡ true
kept true b is = refl
kept false b is = cc

any-more : (k number : ℕ) (numbers : List ℕ) (b : Bool) →
    list_any (nat_eq k) (if b then numbers ++ number ∷ [] else numbers) ≡ (list_any (nat_eq k) numbers || (b && nat_eq k number))
any-more k number numbers true = list_any-append (nat_eq k) numbers (number ∷ []) ∙ ap (λ b. list_any (nat_eq k) numbers || b) (or-false (nat_eq k number))
any-more k number numbers false = sym (or-false (list_any (nat_eq k) numbers))

module _ (outer : ℕ) (later : List Span) (d : Span) where
  -- the numbers below the outer one, once so many of the later spans were looked at
  abbrev pub known_at : ℕ → List ℕ
  known_at j = known_after (outer ∷ []) (outer + 1) (take j later)

  abbrev parent_at : ℕ → Option ℕ
  parent_at j = (get_or later j d).parent

  known-more : (j : ℕ) → j < length later → known_at (j + 1) ≡ more (known_at j) (outer + 1 + j) (parent_at j)
  known-more j within =
      ap (λ spans. known_after (outer ∷ []) (outer + 1) spans) (take_more later j d within)
      ∙ known-push (outer ∷ []) (outer + 1) (take j later) (get_or later j d)
      ∙ ap (λ n. more (known_at j) (outer + 1 + n) (parent_at j)) (length-take-le j later (omega (arith, within)))

  abbrev knows : ℕ → ℕ → Bool
  knows j k = list_any (nat_eq k) (known_at j)

  knows-more : (j k : ℕ) → j < length later → knows (j + 1) k ≡ (knows j k || (is_among (known_at j) (parent_at j) && nat_eq k (outer + 1 + j)))
  knows-more j k within =
      ap (λ numbers. list_any (nat_eq k) numbers) (known-more j within) ∙ any-more k (outer + 1 + j) (known_at j) (is_among (known_at j) (parent_at j))

  knows-next : (j k : ℕ) → j < length later → k ≢ outer + 1 + j → knows (j + 1) k ≡ knows j k
  knows-next j k within other =
      knows-more j k within ∙ and-or (knows j k) (is_among (known_at j) (parent_at j)) (nat_eq k (outer + 1 + j)) (ne_eqb k (outer + 1 + j) other)

  -- a number that was not reached yet, or stands before the outer one, is not known, and the outer one is
  knows-none : (j k : ℕ) → j ≤ length later → ((outer + 1 + j ≤ k) ⊎ (k < outer)) → knows j k ≡ false
  knows-none zero k within far = let other : k ≢ outer = elim far [ inl past ↦ omega (arith, past) | inr low ↦ omega (arith, low) ] in ap (λ b. b || false) (ne_eqb k outer other)
  knows-none (suc j) k within far =
      let here : j < length later = omega (arith, within) in
      let other : k ≢ outer + 1 + j = elim far [ inl past ↦ omega (arith, past) | inr low ↦ omega (arith, low) ] in
      let nearer : (outer + 1 + j ≤ k) ⊎ (k < outer) = elim far [ inl past ↦ inl (omega (arith, past)) | inr low ↦ inr low ] in
      ap (λ i. knows i k) (sym (add-one j)) ∙ knows-next j k here other ∙ knows-none j k (omega (arith, within)) nearer

  pub knows-outer : (j : ℕ) → j ≤ length later → knows j outer ≡ true
  knows-outer zero within = ap (λ b. b || false) (eq-eqb outer outer refl)
  knows-outer (suc j) within =
      let here : j < length later = omega (arith, within) in
      let other : outer ≢ outer + 1 + j = omega arith in
      ap (λ i. knows i outer) (sym (add-one j)) ∙ knows-next j outer here other ∙ knows-outer j (omega (arith, within))

  pub knows-low : (j k : ℕ) → j ≤ length later → k < outer → knows j k ≡ false
  knows-low j k within low = knows-none j k within (inr low)

  -- what is known of a number that was reached stays
  knows-stays : (e i k : ℕ) → i + e ≤ length later → k < outer + 1 + i → knows (i + e) k ≡ knows i k
  knows-stays zero i k within reached = ap (λ j. knows j k) (add-zero i)
  knows-stays (suc e) i k within reached =
      let one : i + suc e ≡ i + e + 1 = omega arith in
      let here : i + e < length later = omega (arith, within) in
      let other : k ≢ outer + 1 + (i + e) = omega (arith, reached) in
      ap (λ j. knows j k) one ∙ knows-next (i + e) k here other ∙ knows-stays e i k (omega (arith, within)) reached

  knows-later : (i j k : ℕ) → i ≤ j → j ≤ length later → k < outer + 1 + i → knows j k ≡ knows i k
  knows-later i j k order within reached =
      let sum : i + (j - i) ≡ j = omega (arith, order) in
      ap (λ n. knows n k) (sym sum) ∙ knows-stays (j - i) i k (omega (arith, order, within)) reached

  among-later : (i j : ℕ) (parent : Option ℕ) → i ≤ j → j ≤ length later → ((k : ℕ) → parent ≡ Some k → k < outer + 1 + i) →
      is_among (known_at i) parent ≡ is_among (known_at j) parent
  among-later i j None order within earlier = refl
  among-later i j (Some k) order within earlier = sym (knows-later i j k order within (earlier k refl))

  -- a later span is known where its parent is
  pub knows-by_parent : (i j : ℕ) → i < j → j ≤ length later → ((k : ℕ) → parent_at i ≡ Some k → k < outer + 1 + i) →
      knows j (outer + 1 + i) ≡ is_among (known_at j) (parent_at i)
  knows-by_parent i j order within earlier =
      let here : i < length later = omega (arith, order, within) in
      knows-later (i + 1) j (outer + 1 + i) (omega (arith, order)) within (omega arith)
      ∙ knows-more i (outer + 1 + i) here
      ∙ alone (knows i (outer + 1 + i)) (is_among (known_at i) (parent_at i)) (nat_eq (outer + 1 + i) (outer + 1 + i))
      (knows-none i (outer + 1 + i) (omega (arith, here)) (inl (omega arith))) (eq-eqb (outer + 1 + i) (outer + 1 + i) refl)
      ∙ among-later i j (parent_at i) (omega (arith, order)) within earlier

  -- those of the later spans from here on that are below
  abbrev below_from : ℕ → List Span
  below_from j = below (known_at j) (outer + 1 + j) (drop j later)

  pub below-end : (j : ℕ) → length later ≤ j → below_from j ≡ []
  below-end j past = ap (λ spans. below (known_at j) (outer + 1 + j) spans) (drop_all j later past)

  below-by : (j : ℕ) (b : Bool) → known_at (j + 1) ≡ (if b then known_at j ++ (outer + 1 + j) ∷ [] else known_at j) →
      (if b then get_or later j d ∷ below (known_at j ++ (outer + 1 + j) ∷ []) (outer + 1 + j + 1) (drop (j + 1) later)
      else below (known_at j) (outer + 1 + j + 1) (drop (j + 1) later))
      ≡ (if b then get_or later j d ∷ below_from (j + 1) else below_from (j + 1))
  below-by j true known =
      let one : outer + 1 + j + 1 ≡ outer + 1 + (j + 1) = omega arith in
      ap (λ n. get_or later j d ∷ below (known_at j ++ (outer + 1 + j) ∷ []) n (drop (j + 1) later)) one
      ∙ ap (λ numbers. get_or later j d ∷ below numbers (outer + 1 + (j + 1)) (drop (j + 1) later)) (sym known)
  below-by j false known =
      let one : outer + 1 + j + 1 ≡ outer + 1 + (j + 1) = omega arith in
      ap (λ n. below (known_at j) n (drop (j + 1) later)) one ∙ ap (λ numbers. below numbers (outer + 1 + (j + 1)) (drop (j + 1) later)) (sym known)

  below-in : (j : ℕ) → j < length later →
      below_from j ≡ (if is_among (known_at j) (parent_at j) then get_or later j d ∷ below_from (j + 1) else below_from (j + 1))
  below-in j within =
      ap (λ spans. below (known_at j) (outer + 1 + j) spans) (drop_more later j d within)
      ∙ below-by j (is_among (known_at j) (parent_at j)) (known-more j within)

  -- whether it may stand in the outer one's place
  filter-by : (test : Span → Bool) (span : Span) (rest : List Span) (b t : Bool) → test span ≡ t →
      filter test (if b then span ∷ rest else rest) ≡ (if t && b then span ∷ filter test rest else filter test rest)
  filter-by test span rest true true is = ap (λ t. cond t (span ∷ filter test rest) (filter test rest)) is
  filter-by test span rest true false is = ap (λ t. cond t (span ∷ filter test rest) (filter test rest)) is
  filter-by test span rest false true is = refl
  filter-by test span rest false false is = refl

  pub kept-in : (test : Span → Bool) (j : ℕ) → j < length later → (b : Bool) → (test (get_or later j d) && is_among (known_at j) (parent_at j)) ≡ b →
      filter test (below_from j) ≡ (if b then get_or later j d ∷ filter test (below_from (j + 1)) else filter test (below_from (j + 1)))
  kept-in test j within b is =
      ap (filter test) (below-in j within)
      ∙ filter-by test (get_or later j d) (below_from (j + 1)) (is_among (known_at j) (parent_at j)) (test (get_or later j d)) refl
      ∙ ap (λ t. if t then get_or later j d ∷ filter test (below_from (j + 1)) else filter test (below_from (j + 1))) is

-- what is left at an outer span
module _ (choices : List Choice) (earlier : List Span) (outer : Span) (later : List Span) where
  pub descend-found : (j : ℕ) (d : Span) → j < length later →
      (may_replace outer (get_or later j d) && is_among (known_at (length earlier) later d j) (get_or later j d).parent) ≡ true →
      descend_after choices j earlier outer later ≡ descended choices outer (get_or later j d) ∷ descend_after choices (j + 1) earlier outer later
  descend-found j d within is = ap (map (descended choices outer)) (kept-in (length earlier) later d (may_replace outer) j within true is)

  pub descend-passed : (j : ℕ) (d : Span) → j < length later →
      (may_replace outer (get_or later j d) && is_among (known_at (length earlier) later d j) (get_or later j d).parent) ≡ false →
      descend_after choices j earlier outer later ≡ descend_after choices (j + 1) earlier outer later
  descend-passed j d within is = ap (map (descended choices outer)) (kept-in (length earlier) later d (may_replace outer) j within false is)

  pub descend-end : (j : ℕ) → length later ≤ j → descend_after choices j earlier outer later ≡ []
  descend-end j past =
      ap (λ spans. map (descended choices outer) (filter (may_replace outer) (below (known_after (length earlier ∷ []) (length earlier + 1) (take j later)) (length earlier + 1 + j) spans)))
      (drop_all j later past)

-- the parents of a span, one step up
module _ (outer : ℕ) (spans : List Span) (inner : ℕ) (d : Span) (within : outer + 1 + inner < length spans) where
  abbrev behind : List Span
  behind = drop (outer + 1) spans

  inside : inner ≤ length behind
  inside = let long = length-drop (outer + 1) spans in omega (arith, within, long)

  pub at_most : (k : ℕ) → k ≤ outer → nat_eq k outer ≡ list_any (nat_eq k) (known_at outer behind d inner)
  at_most k low = elim (cases_eq k outer) [
    | inl same ↦ eq-eqb k outer same ∙ sym (subst (λ n. list_any (nat_eq n) (known_at outer behind d inner) ≡ true) (sym same) (knows-outer outer behind d inner inside))
    | inr other ↦
        let less : k < outer = omega (arith, low, other) in
        ne_eqb k outer other ∙ sym (knows-low outer behind d inner k inside less)
  ]

  pub one_up : (k : ℕ) → outer < k → k < outer + 1 + inner → ((n : ℕ) → (get_or spans k d).parent ≡ Some n → n < k) →
      list_any (nat_eq k) (known_at outer behind d inner) ≡ is_among (known_at outer behind d inner) (get_or spans k d).parent
  one_up k above reached earlier =
      let place : outer + 1 + (k - (outer + 1)) ≡ k = omega (arith, above) in
      let low : k - (outer + 1) < inner = omega (arith, above, reached) in
      let at_k : get_or behind (k - (outer + 1)) d ≡ get_or spans k d = get_or-drop (outer + 1) spans (k - (outer + 1)) d ∙ ap (λ n. get_or spans n d) place in
      let before : (n : ℕ) → (get_or behind (k - (outer + 1)) d).parent ≡ Some n → n < outer + 1 + (k - (outer + 1)) =
      (λ n is. let less = earlier n (ap (λ span. span.parent) (sym at_k) ∙ is) in omega (arith, less, place)) in
      ap (λ n. list_any (nat_eq n) (known_at outer behind d inner)) (sym place)
      ∙ knows-by_parent outer behind d (k - (outer + 1)) inner low inside before
      ∙ ap (λ span. is_among (known_at outer behind d inner) span.parent) at_k

-- a parent's number is less than before
pub parent-less : (parent new : Option ℕ) (k : ℕ) → parent ≡ Some k → ((n : ℕ) → new ≡ Some n → n < k) →
    unwrap_or (option_map (λ n. suc n) new) 0 < unwrap_or (option_map (λ n. suc n) parent) 0
parent-less parent None k is earlier = subst (λ p. 0 < unwrap_or (option_map (λ n. suc n) p) 0) (sym is) (omega arith)
parent-less parent (Some n) k is earlier =
    let less = earlier n refl in subst (λ p. suc n < unwrap_or (option_map (λ n. suc n) p) 0) (sym is) (omega (arith, less))
