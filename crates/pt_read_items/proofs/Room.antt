-- Parts in a row, of which there is room for so many, and the fault of one too many.
use Rattle.std.proofs.Common.{◌≡◌, ℕ, ◌-◌, ◌+◌, ◌==◌, ◌<◌, Bool, true, false, cond, length, List, map, [], ◌∷◌, ◌++◌, Ok, Err, refl, sym, ap, subst, ◌∙◌, arith, length-append, eq-eqb}
use Rattle.std.proofs.lemmas.Bool.{eqb-true}
use Rattle.std.proofs.lemmas.List.{length-map}
use Rattle.pt_val.specs.declared.place.Place.{Place}
use Rattle.pt_token.specs.declared.token.Token.{Token}
use Rattle.pt_token.specs.declared.token.Kind.{Kind}
use Rattle.pt_token.specs.declared.token.Kind.TheVariants as kind
use Rattle.pt_token.specs.declared.token.Word.TheVariants as word
use Rattle.pt_grammar.specs.declared.sort.Sort.TheVariants as sort
use Rattle.pt_grammar.specs.Reading.{at, Reading, ◌>>=◌, taken, goes_on, all_at, too_many, refused_at, room_at}
use Rattle.pt_grammar.specs.SuiteReading.{worded, is_state, is_bundle, is_invariant, is_rule, assigned_at, ended_at, state_at, bundle_at, invariant_at, rule_at, check_at, property_at, machine_item_at, begins_item, item_on, item_at}
use Rattle.pt_taking.specs.declared.stop.Stop.{Stop}
use Rattle.pt_taking.specs.Gives.{Fails}
use Rattle.pt_taking.proofs.Rows.{Row, with_front_none, row_begins, row_on, row_ends, row_fails, some_left}

-- what a loop has read of parts of which there are so many at most, with what they leave and the room that is still there
pub record Roomy {A Given : Type 0} (part : Given → List Token → Reading A) (begins : Kind → Bool) (leaves : Given → A → Given) (room : Given → ℕ) (most : ℕ)
    (first : Given) (tokens : List Token) (so_far : List A) (given : Given) (rest : List Token) : Type 0 where
  pub fits : room given + length so_far ≡ most
  pub row : Row (λ g. room_at (part g) (room g)) (λ g. begins) leaves [] first tokens so_far given rest

some_room : (n : ℕ) → 0 < n → (n == 0) ≡ false
some_room n some = test (n == 0) refl where
  test : (b : Bool) → (n == 0) ≡ b → (n == 0) ≡ false
  test true e = absurd (omega (arith, some, eqb-true n 0 e))
  test false e = e

no_room : (n : ℕ) → n ≡ 0 → (n == 0) ≡ true
no_room n none = eq-eqb n 0 none

pub room_begins : {A Given : Type 0} (part : Given → List Token → Reading A) (begins : Kind → Bool) (leaves : Given → A → Given) (room : Given → ℕ) (most : ℕ)
    (first : Given) (tokens : List Token) → room first ≡ most → Roomy part begins leaves room most first tokens [] first tokens
room_begins part begins leaves room most first tokens e = record {
  fits = omega (arith, e);
  row = row_begins (λ g. room_at (part g) (room g)) (λ g. begins) leaves [] first tokens;
}

-- whether there is room for another part, by their number
pub not_full : {A B : Type 0} (f : A → B) (list : List A) (count most room : ℕ) → room + length (map f list) ≡ most → count ≡ length list → (count ≡ most → ⊥)
    → length (map f list) < most
not_full f list count most room fits is other =
    let same = length-map list f in
    omega (arith, fits, is, same, other)

pub is_full : {A B : Type 0} (f : A → B) (list : List A) (count most : ℕ) → count ≡ length list → count ≡ most → length (map f list) ≡ most
is_full f list count most is full = length-map list f ∙ sym is ∙ full

module _ {A Given : Type 0} {part : Given → List Token → Reading A} {begins : Kind → Bool} {leaves : Given → A → Given} {room : Given → ℕ} {most : ℕ}
    {first : Given} {tokens : List Token} {so_far : List A} {given : Given} {rest : List Token} (h : Roomy part begins leaves room most first tokens so_far given rest) where
  abbrev All : Reading (List A)
  All = all_at (λ g. room_at (part g) (room g)) (λ g. begins) leaves first tokens

  reads : length so_far < most → room_at (part given) (room given) rest ≡ part given rest
  reads lt = ap (λ b. cond b (refused_at (part given) rest) (part given rest)) (some_room (room given) (omega (arith, h.fits, lt)))

  pub room_on : goes_on begins rest ≡ true → length so_far < most → (a : A) (after : List Token) → part given rest ≡ Ok (a, after) → length after < length rest
      → (later : Given) → later ≡ leaves given a → room (leaves given a) ≡ room given - 1
      → Roomy part begins leaves room most first tokens (so_far ++ a ∷ []) later after
  room_on goes lt a after read shorter later is less = subst (λ g. Roomy part begins leaves room most first tokens (so_far ++ a ∷ []) g after) (sym is) (record {
    fits = omega (arith, h.fits, lt, less, length-append so_far (a ∷ []));
    row = row_on h.row goes a after (reads lt ∙ read) shorter;
  })

  pub room_ends : goes_on begins rest ≡ false → all_at (λ g. room_at (part g) (room g)) (λ g. begins) leaves first tokens ≡ Ok (so_far, rest)
  room_ends ends = sym (with_front_none All) ∙ row_ends h.row ends

  pub room_fails : goes_on begins rest ≡ true → length so_far < most → (e : Stop) → Fails e (part given rest)
      → Fails e (all_at (λ g. room_at (part g) (room g)) (λ g. begins) leaves first tokens)
  room_fails goes lt e read = subst (Fails e) (with_front_none All)
      (row_fails h.row goes (some_left begins rest goes) e (subst (Fails e) (sym (reads lt)) read))

  pub room_full : goes_on begins rest ≡ true → length so_far ≡ most → (e : Stop) → Fails e (refused_at (part given) rest)
      → Fails e (all_at (λ g. room_at (part g) (room g)) (λ g. begins) leaves first tokens)
  room_full goes full e read = subst (Fails e) (with_front_none All)
      (row_fails h.row goes (some_left begins rest goes) e
      (subst (Fails e) (sym (ap (λ b. cond b (refused_at (part given) rest) (part given rest)) (no_room (room given) (omega (arith, h.fits, full))))) read))

-- what begins with its word is out of range where there is no room for it
word_refused : {A : Type 0} (is : Kind → Bool) (read : Place → List Token → Reading A) → ((place : Place) → read place [] ≡ Err (at sort.Syntax [])) → (tokens : List Token)
    → goes_on is tokens ≡ true → refused_at (worded is read) tokens ≡ Err (at sort.OutOfRange tokens)
word_refused is read none [] goes = absurd cc
word_refused is read none (t ∷ rest) goes =
    ap (λ b. Err (at (too_many (taken (cond b (Ok t.at) (Err sort.Syntax)) (t ∷ []) [] >>= λ x. read x.0 x.1)) (t ∷ rest))) goes
    ∙ ap (λ r. Err (at (too_many r) (t ∷ rest))) (none t.at)

pub state_refused : (left : ℕ) (tokens : List Token) → goes_on is_state tokens ≡ true → refused_at (state_at left) tokens ≡ Err (at sort.OutOfRange tokens)
unfolding state_at assigned_at
state_refused left tokens goes = word_refused is_state _ (λ place. refl) tokens goes

pub bundle_refused : (left : ℕ) (tokens : List Token) → goes_on is_bundle tokens ≡ true → refused_at (bundle_at left) tokens ≡ Err (at sort.OutOfRange tokens)
unfolding bundle_at
bundle_refused left tokens goes = word_refused is_bundle _ (λ place. refl) tokens goes

pub invariant_refused : (left : ℕ) (tokens : List Token) → goes_on is_invariant tokens ≡ true
    → refused_at (invariant_at left) tokens ≡ Err (at sort.OutOfRange tokens)
unfolding invariant_at ended_at
invariant_refused left tokens goes = word_refused is_invariant _ (λ place. refl) tokens goes

pub rule_refused : (left from : ℕ) (tokens : List Token) → goes_on is_rule tokens ≡ true → refused_at (rule_at left from) tokens ≡ Err (at sort.OutOfRange tokens)
unfolding rule_at
rule_refused left from tokens goes = word_refused is_rule _ (λ place. refl) tokens goes

pub item_refused : (from : ℕ) (tokens : List Token) → goes_on begins_item tokens ≡ true → refused_at (item_at from) tokens ≡ Err (at sort.OutOfRange tokens)
unfolding item_on check_at property_at machine_item_at
item_refused from [] goes = absurd cc
item_refused from (t ∷ rest) goes = ap (λ which. Err (at which (t ∷ rest))) (one t.kind goes) where
  one : (k : Kind) → begins_item k ≡ true → too_many (item_on from t.at (t ∷ []) [] k) ≡ sort.OutOfRange
  one (kind.Word word.Check) e = refl
  one (kind.Word word.Property) e = refl
  one (kind.Word word.Machine) e = refl
  one other e = absurd cc
