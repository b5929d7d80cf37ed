-- A stored list, in the two versions.
use Rattle.std.proofs.Common.{◌≡◌, ◌≢◌, ℕ, zero, suc, ◌+◌, ◌-◌, ◌*◌, ◌/◌, ◌%◌, ◌<◌, ◌≤◌, false, List, [], ◌∷◌, ◌++◌, length, take, replicate, refl, sym, ap, subst, ◌∙◌, inl, inr, arith, append_assoc, length-append}
use Rattle.std.specs.List.{AllByRecursion}
use Rattle.std.proofs.lemmas.List.{append-nil, length-replicate, take_all}
use Rattle.pt_choice.specs.declared.choice.Choice.{Choice}
use Rattle.pt_choice.specs.declared.choice.Choice.TheVariants as choice
use Rattle.pt_wire.specs.Spelling.{Among, Begins, FailsAt, StartsWith}
use Rattle.pt_wire.specs.Stored.{IsHeader, Stored, StoredChoice, StoredOne}
use Rattle.pt_wire.specs.Unpacked.{Unpacks}
use Rattle.pt_wire.proofs.Chains.{chained_append, fails_full_within, fails_within, one_chain, starts_first}
use Rattle.pt_wire.proofs.Failing.{fails_at_end, fails_front, fails_here}
use Rattle.pt_wire.proofs.StoredChoices.{choices_free, unknown_sort}

-- ---- the header

-- headers at the front of the same bytes are the same
one_header : (m n : ℕ) (f g x y : List ℕ) → IsHeader m f → IsHeader n g → f ++ x ≡ g ++ y → (m ≡ n) × (x ≡ y)
one_header m n f g x y (form, small) (form', small') e =
    let whole : (242 ∷ m % 256 ∷ m / 256 ∷ []) ++ x ≡ (242 ∷ n % 256 ∷ n / 256 ∷ []) ++ y = ap (λ t. t ++ x) (sym form) ∙ e ∙ ap (λ t. t ++ y) form' in
    let low : m % 256 ≡ n % 256 = cc in
    let high : m / 256 ≡ n / 256 = cc in
    (omega arith, cc)

-- two bytes are the header's of a number
pub header_of : (low high : ℕ) → low < 256 → high < 256 → IsHeader (low + 256 * high) (242 ∷ low ∷ high ∷ [])
header_of low high small small' =
    let first : (low + 256 * high) % 256 ≡ low = omega arith in
    let second : (low + 256 * high) / 256 ≡ high = omega arith in
    (ap (λ n. 242 ∷ n ∷ high ∷ []) (sym first) ∙ ap (λ n. 242 ∷ (low + 256 * high) % 256 ∷ n ∷ []) (sym second), omega arith)

-- what a list holds behind its header
behind_header : (count : ℕ) (front held : List ℕ) (list : List Choice) → IsHeader count front → Stored list (front ++ held) → (length list ≡ count) × StoredOne list held
behind_header count front held list header (front', held', header', spelled, parts) =
    let same = one_header count (length list) front front' held held' header header' parts in
    (sym same.0, subst (StoredOne list) (sym same.1) spelled)

-- and the other way round
pub with_header : (count : ℕ) (front held : List ℕ) (list : List Choice) → IsHeader count front → length list ≡ count → StoredOne list held → Stored list (front ++ held)
with_header count front held list header long spelled = (front, held, subst (λ n. IsHeader n front) (sym long) header, spelled, refl)

no_header : (list : List Choice) → Stored list [] → ⊥
no_header list (front, held, (form, small), spelled, parts) =
    let whole : [] ≡ (242 ∷ length list % 256 ∷ length list / 256 ∷ []) ++ held = parts ∙ ap (λ t. t ++ held) form in
    cc

first_byte : (list : List Choice) (byte : ℕ) (rest : List ℕ) → Stored list (byte ∷ rest) → byte ≡ 242
first_byte list byte rest (front, held, (form, small), spelled, parts) =
    let whole : byte ∷ rest ≡ (242 ∷ length list % 256 ∷ length list / 256 ∷ []) ++ held = parts ∙ ap (λ t. t ++ held) form in
    cc

-- ---- lists of so many choices

-- so many times false
falses : (n : ℕ) → StoredOne (replicate n (choice.Bool false)) (replicate n 0)
falses zero = refl
falses (suc n) = (0 ∷ [], replicate n 0, refl, falses n, refl)

-- a list with fewer choices goes on to one with so many
filled : (n : ℕ) (list : List Choice) (bytes : List ℕ) → length list ≤ n → StoredOne list bytes → (all : List Choice) × (tail : List ℕ) × (length all ≡ n) × StoredOne all (bytes ++ tail)
filled n list bytes few spelled =
    let more = replicate (n - length list) (choice.Bool false) in
    let tail : List ℕ = replicate (n - length list) 0 in (
      list ++ more,
      tail,
      omega (arith, length-append list more, length-replicate {A = Choice} (n - length list) (choice.Bool false)),
      chained_append StoredChoice list more bytes tail spelled (falses (n - length list)),
    )

-- the place is that of a list with no more choices
pub fails_counted : (n : ℕ) (bytes : List ℕ) (place : ℕ) → FailsAt (Among (λ list. length list ≤ n) StoredOne) bytes place → FailsAt (Among (λ list. length list ≡ n) StoredOne) bytes place
fails_counted n bytes place fails = record {
  none = λ list whole. fails.none list (omega (arith, whole.0), whole.1);
  within = fails.within;
  begun =
      let begun = fails.begun in
      let all = filled n begun.0 (take place bytes ++ begun.1) begun.2.0 begun.2.1 in
      (all.0, begun.1 ++ all.1, (all.2, subst (StoredOne all.0) (append_assoc (take place bytes) begun.1 all.1) all.3));
  broken = λ lt more. fails.broken lt (more.0, more.1, (omega (arith, more.2.0), more.2.1));
}

-- fewer choices, and no more bytes
pub ends_early : (n : ℕ) (all : List Choice) (bytes : List ℕ) → length all < n → StoredOne all bytes → FailsAt (Among (λ list. length list ≡ n) StoredOne) bytes (length bytes)
ends_early n all bytes few spelled = record {
  none = λ list whole.
      let same = one_chain StoredChoice choices_free list all bytes whole.1 spelled in
      absurd (omega (arith, whole.0, ap length same));
  within = omega arith;
  begun =
      let whole = filled n all bytes (omega arith) spelled in
      rw (take_all (length bytes) bytes (omega arith)) (whole.0, whole.1, (whole.2, whole.3));
  broken = λ lt. absurd (omega arith);
}

-- ---- where an entry fails

-- some list is stored with this count
begins_with : (count : ℕ) (front : List ℕ) → IsHeader count front → (list : List Choice) × (held : List ℕ) × Stored list (front ++ held)
begins_with count front header =
    let list = replicate count (choice.Bool false) in
    (list, replicate count 0, with_header count front (replicate count 0) list header (length-replicate {A = Choice} count (choice.Bool false)) (falses count))

begun : Begins Stored []
begun = let all = begins_with 0 (242 ∷ 0 ∷ 0 ∷ []) (header_of 0 0 (omega arith) (omega arith)) in (all.0, 242 ∷ 0 ∷ 0 ∷ [] ++ all.1, all.2)

pub entry_end : FailsAt Stored [] 0
entry_end = fails_at_end Stored begun no_header

pub other_version : (byte : ℕ) (bytes : List ℕ) → byte ≢ 242 → FailsAt Stored (byte ∷ bytes) 0
other_version byte bytes other = fails_here Stored byte bytes begun (λ list rest spelled. other (first_byte list byte rest spelled))

-- what begins a header of 3 bytes, and is shorter
cut : (bytes more : List ℕ) (count : ℕ) → length bytes < 2 → IsHeader count (242 ∷ (bytes ++ more)) → FailsAt Stored (242 ∷ bytes) (length (242 ∷ bytes))
cut bytes more count short header = record {
  none = λ list spelled. none list spelled;
  within = omega arith;
  begun =
      let all = begins_with count (242 ∷ (bytes ++ more)) header in
      rw (take_all (length bytes) bytes (omega arith)) (all.0, more ++ all.1, subst (Stored all.0) (append_assoc (242 ∷ bytes) more all.1) all.2);
  broken = λ lt. absurd (omega arith);
} where
  none : (list : List Choice) → Stored list (242 ∷ bytes) → ⊥
  none list (front, held, (form, few), spelled, parts) = absurd (omega (arith, ap length parts, length-append front held, ap length form))

-- a header that is cut off begins one
pub header_short : (bytes : List ℕ) → length bytes < 2 → AllByRecursion (λ byte. byte < 256) bytes → FailsAt Stored (242 ∷ bytes) (length (242 ∷ bytes))
header_short [] short each = cut [] (0 ∷ 0 ∷ []) 0 (omega arith) (header_of 0 0 (omega arith) (omega arith))
header_short (low ∷ []) short each = cut (low ∷ []) (0 ∷ []) (low + 256 * 0) (omega arith) (header_of low 0 each.0 (omega arith))
header_short (low ∷ high ∷ rest) short each = absurd (omega arith)

-- an entry fails where the choices behind its header do
pub fails_held : (count : ℕ) (front held : List ℕ) (place : ℕ) → IsHeader count front → FailsAt (Among (λ list. length list ≡ count) StoredOne) held place
    → FailsAt Stored (front ++ held) (length front + place)
fails_held count front held place header fails = fails_front Stored front held place (record {
  none = λ list spelled. fails.none list (behind_header count front held list header spelled);
  within = fails.within;
  begun = let begun = fails.begun in
      (begun.0, begun.1, with_header count front (take place held ++ begun.1) begun.0 header begun.2.0 begun.2.1);
  broken = λ lt more. fails.broken lt (more.0, more.1, behind_header count front (take (place + 1) held ++ more.1) more.0 header more.2);
})

-- some choices were read, and the next one fails
pub fails_next : (count : ℕ) (front held entry done rest : List ℕ) (all : List Choice) (place : ℕ) → IsHeader count front → entry ≡ front ++ held → held ≡ done ++ rest
    → StoredOne all done → length all < count → FailsAt (StartsWith StoredChoice) rest place → FailsAt Stored entry (length entry - length rest + place)
fails_next count front held entry done [] all place header whole parts spelled few fails =
    let ended : held ≡ done = parts ∙ append-nil done in
    let early = ends_early count all held few (subst (StoredOne all) (sym ended) spelled) in
    let inside = fails.within in
    let at : length front + length held ≡ length entry - length {A = ℕ} [] + place = omega (arith, ap length whole, length-append front held) in
    subst (λ b. FailsAt Stored b (length entry - length {A = ℕ} [] + place)) (sym whole) (subst (FailsAt Stored (front ++ held)) at (fails_held count front held (length held) header early))
fails_next count front held entry done (byte ∷ rest) all place header whole parts spelled few fails =
    let may : (value : Choice) → length (all ++ value ∷ []) ≤ count = λ value. omega (arith, length-append all (value ∷ [])) in
    let next = fails_within (λ list. length list ≤ count) StoredChoice choices_free all done (byte ∷ rest) held place may spelled parts (omega arith) fails in
    let at : length front + (length held - length (byte ∷ rest) + place) ≡ length entry - length (byte ∷ rest) + place =
    omega (arith, ap length whole, length-append front held, ap length parts, length-append done (byte ∷ rest)) in
    subst (λ b. FailsAt Stored b (length entry - length (byte ∷ rest) + place)) (sym whole)
    (subst (FailsAt Stored (front ++ held)) at (fails_held count front held _ header (fails_counted count held _ next)))

-- all choices were read, and bytes are left
pub fails_left : (count : ℕ) (front held entry done rest : List ℕ) (all : List Choice) → IsHeader count front → entry ≡ front ++ held → held ≡ done ++ rest
    → StoredOne all done → length all ≡ count → 0 < length rest → FailsAt Stored entry (length entry - length rest)
fails_left count front held entry done rest all header whole parts spelled full some =
    let more : (value : Choice) (others : List Choice) → length (all ++ value ∷ others) ≤ count → ⊥ = λ value others few. omega (arith, length-append all (value ∷ others)) in
    let left = fails_full_within (λ list. length list ≤ count) StoredChoice choices_free all done rest held (omega arith) more spelled parts some in
    let at : length front + (length held - length rest) ≡ length entry - length rest = omega (arith, ap length whole, length-append front held, ap length parts, length-append done rest) in
    subst (λ b. FailsAt Stored b (length entry - length rest)) (sym whole)
    (subst (FailsAt Stored (front ++ held)) at (fails_held count front held _ header (fails_counted count held _ left)))

-- all choices were read, and no byte is left
pub whole_list : (count : ℕ) (front held entry done rest : List ℕ) (all : List Choice) → IsHeader count front → entry ≡ front ++ held → held ≡ done ++ rest
    → StoredOne all done → length all ≡ count → rest ≡ [] → Stored all entry
whole_list count front held entry done rest all header whole parts spelled full ended =
    let same : held ≡ done = parts ∙ ap (λ t. done ++ t) ended ∙ append-nil done in
    subst (Stored all) (sym whole) (with_header count front held all header full (subst (StoredOne all) (sym same) spelled))

-- ---- the two versions

-- no list of version 1 begins with the byte of version 2
pub one_version : (list other : List Choice) (bytes : List ℕ) → Stored list bytes → StoredOne other bytes → ⊥
one_version list other [] spelled old = no_header list spelled
one_version list other (byte ∷ bytes) spelled old =
    let first = starts_first StoredChoice other byte bytes old in
    let same = first_byte list byte bytes spelled in
    (unknown_sort byte bytes (omega arith)).none first.0 first.1

pub one_stored : (list other : List Choice) (bytes : List ℕ) → Stored list bytes → Stored other bytes → list ≡ other
one_stored list other bytes (front, held, header, spelled, parts) again =
    let behind = behind_header (length list) front held other header (subst (Stored other) parts again) in
    one_chain StoredChoice choices_free list other held spelled behind.1

pub one_unpacked : (list other : List Choice) (bytes : List ℕ) → Unpacks bytes list → Unpacks bytes other → list ≡ other
one_unpacked list other bytes (inl new, few) (inl new', few') = one_stored list other bytes new new'
one_unpacked list other bytes (inl new, few) (inr old, few') = absurd (one_version list other bytes new old)
one_unpacked list other bytes (inr old, few) (inl new, few') = absurd (one_version other list bytes new old)
one_unpacked list other bytes (inr old, few) (inr old', few') = one_chain StoredChoice choices_free list other bytes old old'
