-- Strategies.
use Rattle.std.proofs.Common.{◌≡◌, ℕ, zero, suc, ◌+◌, ◌-◌, ◌==◌, ◌<◌, ◌≤◌, Bool, true, false, cond, List, [], ◌∷◌, ◌++◌, length, Result, Ok, Err, ◌⊎◌, inl, inr, refl, sym, ap, subst, ◌∙◌, arith}
use Rattle.std.proofs.lemmas.Bool.{eqb-true}
use Rattle.pt_val.specs.declared.place.Place.{Place}
use Rattle.pt_ast.specs.declared.ident.Ident.{Ident}
use Rattle.pt_ast.specs.declared.strat.Alphabet.{Alphabet}
use Rattle.pt_ast.specs.Trees.{ExprTree, StratTree, Ints_of, Bools_of, Texts_of, Blobs_of, Sampled_of, Lists_of, Tuples_of, OneOf_of, Map_of, Filter_of, FlatMap_of, Recursive_of, Self_of, StratTrees, no_strat, more_strat, strats_of, strats_in}
use Rattle.pt_token.specs.declared.token.Token.{Token}
use Rattle.pt_token.specs.declared.token.Kind.{Kind}
use Rattle.pt_token.specs.declared.token.Kind.TheVariants as kind
use Rattle.pt_token.specs.declared.token.Word.TheVariants as word
use Rattle.pt_token.specs.Ending.{is_last}
use Rattle.pt_grammar.specs.declared.sort.Sort.{Sort}
use Rattle.pt_grammar.specs.declared.sort.Sort.TheVariants as sort
use Rattle.pt_grammar.specs.Tokens.{IsReal, opening, close, comma}
use Rattle.pt_grammar.specs.Forms.{◌⨾◌, One, OneAt, Opens, MindsAll, IsName, Limited}
use Rattle.pt_grammar.specs.ExprGrammar.{IsExpr}
use Rattle.pt_grammar.specs.StratGrammar.{IsStrat, MoreStrats, IsAlphabet, nodes}
use Rattle.pt_readings.specs.Faults.{Family, IsBefore, Begins}
use Rattle.pt_grammar.specs.Reading.{Fault, at, Reading, ◌>>=◌, one_at, open_at, token_at, name_at, limited_at, is_open, is_close, is_comma, all_at}
use Rattle.pt_grammar.specs.ExprReading.{inner}
use Rattle.pt_grammar.specs.StratReading.{alphabet_seen, alphabet_at, next_node, more_strat_at, more_strats_at, bounds_at, texts_at, lists_at, tuples_at, one_of_at, flat_map_at, recursive_at, applied_at, bounded_at, bools_at, sampled_at, strat_on, strat_step, strat_below, strat_at}
use Rattle.pt_readings.proofs.Outcomes.{AllReal, never, Some_of, Outcome, Form, Seq}
use Rattle.pt_readings.proofs.Forms.{made, unreal, none_before, then_form, fronted, Made, made_form, Nothing, returned, behind, syntax_here, ended, Token_law, token_form, Openings, within_form, After, after_form, marked_form, Closed, closed_form, Ones, one_form, one_then, then_some, at_head, at_then, at_first, at_some, lowered}
use Rattle.pt_readings.proofs.Lists.{Roomy, room_form, last_sort, early_sort, Many, many_form}
use Rattle.pt_readings.proofs.Tested.{open_tests, close_tests, comma_tests}
use Rattle.pt_readings.proofs.Single.{Names, name_form, Limits, limited_form}
use Rattle.pt_readings.proofs.ExprShapes.{Level}
use Rattle.pt_readings.proofs.Chains.{not_both, ended_row_by}
use Rattle.pt_readings.proofs.Atoms.{on_or}
use Rattle.pt_readings.proofs.Exprs.{inner_forms}

abbrev pub Strats : ℕ → ℕ → Family StratTree
Strats left from s = IsStrat s left from

-- ---- the characters of texts

abbrev Alphabets : Family Alphabet
Alphabets s alphabet = IsAlphabet s alphabet

length_some : (chars : List ℕ) → (length chars == 0) ≡ false → 0 < length chars
length_some [] e = absurd cc
length_some (char ∷ chars) e = omega arith

alphabet_yes : (place : Place) (k : Kind) (a : Alphabet) → alphabet_seen place k ≡ Ok a → (k ≡ kind.Text a.chars) × (place ≡ a.at) × (0 < length a.chars)
alphabet_yes place (kind.Text chars) a e = test (length chars == 0) refl e where
  test : (b : Bool) → (length chars == 0) ≡ b → cond {A = Result Alphabet Sort} b (Err sort.OutOfRange) (Ok (record { at = place; chars = chars })) ≡ Ok a → (kind.Text chars ≡ kind.Text a.chars) × (place ≡ a.at) × (0 < length a.chars)
  test true f h = absurd cc
  test false f h = let same : record { at = place; chars = chars } ≡ a = cc in
      (ap (λ (b : Alphabet). kind.Text b.chars) same, ap (λ (b : Alphabet). b.at) same, subst (λ (b : Alphabet). 0 < length b.chars) same (length_some chars f))
alphabet_yes place other a e = absurd cc

alphabet_no : (place : Place) (k : Kind) (w : Sort) → alphabet_seen place k ≡ Err w
    → ((w ≡ sort.OutOfRange) × (((chars : List ℕ) × (k ≡ kind.Text chars) × (length chars ≡ 0)) ⊎ (k ≡ kind.LongText))) ⊎ ((w ≡ sort.Syntax) × ((chars : List ℕ) → k ≡ kind.Text chars → ⊥) × (k ≡ kind.LongText → ⊥))
alphabet_no place (kind.Text chars) w e = test (length chars == 0) refl e where
  test : (b : Bool) → (length chars == 0) ≡ b → cond {A = Result Alphabet Sort} b (Err sort.OutOfRange) (Ok (record { at = place; chars = chars })) ≡ Err w
      → ((w ≡ sort.OutOfRange) × (((list : List ℕ) × (kind.Text chars ≡ kind.Text list) × (length list ≡ 0)) ⊎ (kind.Text chars ≡ kind.LongText)))
      ⊎ ((w ≡ sort.Syntax) × ((list : List ℕ) → kind.Text chars ≡ kind.Text list → ⊥) × (kind.Text chars ≡ kind.LongText → ⊥))
  test true f h = inl (cc, inl (chars, refl, eqb-true (length chars) 0 f))
  test false f h = absurd cc
alphabet_no place kind.LongText w e = inl (cc, inr refl)
alphabet_no place other w e = inr (cc, λ chars k. absurd cc, λ k. absurd cc)

abbrev chars_in : Kind → List ℕ
chars_in (kind.Text chars) = chars
chars_in other = []

alphabet_one : (s : Sort) (a : Alphabet) (t : Token) (x : List Token) → IsAlphabet s a (t ∷ x)
    → (((t.kind ≡ kind.Text a.chars) × (MindsAll s → IsReal t → 0 < length a.chars)) ⊎ ((t.kind ≡ kind.LongText) × (MindsAll s → IsReal t → ⊥))) × (t.at ≡ a.at) × (x ≡ [])
alphabet_one s a t x (u, k, stands, only) =
    let same : u ≡ t = cc in (
      subst (λ (c : Token). ((c.kind ≡ kind.Text a.chars) × (MindsAll s → IsReal c → 0 < length a.chars)) ⊎ ((c.kind ≡ kind.LongText) × (MindsAll s → IsReal c → ⊥))) same k,
      subst (λ (c : Token). c.at ≡ a.at) same stands,
      cc,
    )

alphabet_form : (C : Type 0) (on : Kind → Bool) → Form C Alphabets on alphabet_at
alphabet_form C on = token_form C Alphabets on alphabet_seen (
  record { at = record { line = 0; column = 0 }; chars = [] },
  made (kind.Text []) ∷ [],
  λ s. (made (kind.Text []), inl (refl, λ minds real. absurd (unreal (kind.Text []) real)), refl, refl),
  λ real. unreal (kind.Text []) real,
) (record {
  single = λ s a t x h. (alphabet_one s a t x h).2;
  empty = λ s a h. let only = h.3 in cc;
  good = λ t a e s. let y = alphabet_yes t.at t.kind a e in (t, inl (y.0, λ minds real. y.2), y.1, refl);
  clean = λ t a e. ap is_last (alphabet_yes t.at t.kind a e).0;
  same = λ t a e s b h. same t a (alphabet_yes t.at t.kind a e) s b [] (alphabet_one s b t [] h);
  early = λ t w e s before. early t w (alphabet_no t.at t.kind w e) s before;
  broken = λ t w e real s late b h. broken t w (alphabet_no t.at t.kind w e) real s late b [] (alphabet_one s b t [] h);
}) where
  same : (t : Token) (a : Alphabet) → (t.kind ≡ kind.Text a.chars) × (t.at ≡ a.at) × (0 < length a.chars) → (s : Sort) (b : Alphabet) (x : List Token)
      → (((t.kind ≡ kind.Text b.chars) × (MindsAll s → IsReal t → 0 < length b.chars)) ⊎ ((t.kind ≡ kind.LongText) × (MindsAll s → IsReal t → ⊥))) × (t.at ≡ b.at) × (x ≡ []) → b ≡ a
  same t a (k, p, some) s b x (inl (k', some'), p', nil) =
      ap (λ (q : Place). record { at = q; chars = b.chars }) (sym p' ∙ p) ∙ ap (λ (w : List ℕ). record { at = a.at; chars = w }) (ap chars_in (sym k' ∙ k))
  same t a (k, p, some) s b x (inr (k', minds), p', nil) = absurd (let clash = sym k ∙ k' in cc)

  early : (t : Token) (w : Sort)
      → ((w ≡ sort.OutOfRange) × (((chars : List ℕ) × (t.kind ≡ kind.Text chars) × (length chars ≡ 0)) ⊎ (t.kind ≡ kind.LongText))) ⊎ ((w ≡ sort.Syntax) × ((chars : List ℕ) → t.kind ≡ kind.Text chars → ⊥) × (t.kind ≡ kind.LongText → ⊥))
      → (s : Sort) → IsBefore s w → Begins (Alphabets s) (t ∷ [])
  early t w (inl (is, inl (chars, k, none))) s before = (record { at = t.at; chars = chars }, [], (t, inl (k, λ minds. absurd (early_sort s w before minds)), refl, refl))
  early t w (inl (is, inr k)) s before = (record { at = t.at; chars = [] }, [], (t, inr (k, λ minds. absurd (early_sort s w before minds)), refl, refl))
  early t w (inr (is, no_text, not_long)) s before = absurd (none_before s (subst (λ v. IsBefore s v) is before))

  broken : (t : Token) (w : Sort)
      → ((w ≡ sort.OutOfRange) × (((chars : List ℕ) × (t.kind ≡ kind.Text chars) × (length chars ≡ 0)) ⊎ (t.kind ≡ kind.LongText))) ⊎ ((w ≡ sort.Syntax) × ((chars : List ℕ) → t.kind ≡ kind.Text chars → ⊥) × (t.kind ≡ kind.LongText → ⊥))
      → IsReal t → (s : Sort) → (IsBefore s w → ⊥) → (b : Alphabet) (x : List Token)
      → (((t.kind ≡ kind.Text b.chars) × (MindsAll s → IsReal t → 0 < length b.chars)) ⊎ ((t.kind ≡ kind.LongText) × (MindsAll s → IsReal t → ⊥))) × (t.at ≡ b.at) × (x ≡ []) → ⊥
  broken t w (inl (is, inl (chars, k, none))) real s late b x (inl (k', some), p, nil) =
      let lt = some (last_sort s (λ before. late (subst (λ v. IsBefore s v) (sym is) before))) real in
      let equal : length b.chars ≡ length chars = ap length (ap chars_in (sym k' ∙ k)) in omega (arith, lt, equal, none)
  broken t w (inl (is, inr k)) real s late b x (inl (k', some), p, nil) = let clash = sym k ∙ k' in cc
  broken t w (inl (is, other)) real s late b x (inr (k', minds), p, nil) = minds (last_sort s (λ before. late (subst (λ v. IsBefore s v) (sym is) before))) real
  broken t w (inr (is, no_text, not_long)) real s late b x (inl (k', some), p, nil) = no_text b.chars k'
  broken t w (inr (is, no_text, not_long)) real s late b x (inr (k', minds), p, nil) = not_long k'

-- ---- the first token of a strategy

abbrev head : StratTree → Kind
head (Ints_of at num lo hi) = kind.Word word.Ints
head (Bools_of at num) = kind.Word word.Bools
head (Texts_of at num alphabet lo hi) = kind.Word word.Texts
head (Blobs_of at num lo hi) = kind.Word word.Blobs
head (Sampled_of at num list) = kind.Word word.SampledFrom
head (Lists_of at num element lo hi) = kind.Word word.Lists
head (Tuples_of at num parts) = kind.Word word.Tuples
head (OneOf_of at num parts) = kind.Word word.OneOf
head (Map_of at num given inner body) = kind.Word word.Map
head (Filter_of at num given inner cond) = kind.Word word.Filter
head (FlatMap_of at num given inner second) = kind.Word word.FlatMap
head (Recursive_of at num depth first second) = kind.Word word.Recursive
head (Self_of at num) = kind.Word word.Again

pub strat_head : (s : Sort) (left from : ℕ) (tree : StratTree) (t : Token) (x : List Token) → IsStrat s left from tree (t ∷ x) → t.kind ≡ head tree
strat_head s left from (Ints_of at num lo hi) t x h = (at_then _ _ _ t x h.1).0
strat_head s left from (Bools_of at num) t x h = (at_then _ _ _ t x h.1).0
strat_head s left from (Texts_of at num alphabet lo hi) t x h = (at_then _ _ _ t x h.1).0
strat_head s left from (Blobs_of at num lo hi) t x h = (at_then _ _ _ t x h.1).0
strat_head s left from (Sampled_of at num list) t x h = (at_then _ _ _ t x h.1).0
strat_head s left from (Lists_of at num element lo hi) t x h = (at_then _ _ _ t x h.1).0
strat_head s left from (Tuples_of at num (more_strat first (more_strat second others))) t x h = (at_then _ _ _ t x h.1).0
strat_head s left from (Tuples_of at num other) t x h = absurd h
strat_head s left from (OneOf_of at num (more_strat first others)) t x h = (at_then _ _ _ t x h.1).0
strat_head s left from (OneOf_of at num no_strat) t x h = absurd h
strat_head s left from (Map_of at num given inner body) t x h = (at_then _ _ _ t x h.1).0
strat_head s left from (Filter_of at num given inner cond) t x h = (at_then _ _ _ t x h.1).0
strat_head s left from (FlatMap_of at num given inner second) t x h = (at_then _ _ _ t x h.1).0
strat_head s left from (Recursive_of at num depth first second) t x h = (at_then _ _ _ t x h.1).0
strat_head s left from (Self_of at num) t x h = (at_head _ _ t x h.1).0

pub strat_some : (s : Sort) (left from : ℕ) (tree : StratTree) → IsStrat s left from tree [] → ⊥
strat_some s left from (Ints_of at num lo hi) h = at_some _ _ _ h.1
strat_some s left from (Bools_of at num) h = at_some _ _ _ h.1
strat_some s left from (Texts_of at num alphabet lo hi) h = at_some _ _ _ h.1
strat_some s left from (Blobs_of at num lo hi) h = at_some _ _ _ h.1
strat_some s left from (Sampled_of at num list) h = at_some _ _ _ h.1
strat_some s left from (Lists_of at num element lo hi) h = at_some _ _ _ h.1
strat_some s left from (Tuples_of at num (more_strat first (more_strat second others))) h = at_some _ _ _ h.1
strat_some s left from (Tuples_of at num other) h = h
strat_some s left from (OneOf_of at num (more_strat first others)) h = at_some _ _ _ h.1
strat_some s left from (OneOf_of at num no_strat) h = h
strat_some s left from (Map_of at num given inner body) h = at_some _ _ _ h.1
strat_some s left from (Filter_of at num given inner cond) h = at_some _ _ _ h.1
strat_some s left from (FlatMap_of at num given inner second) h = at_some _ _ _ h.1
strat_some s left from (Recursive_of at num depth first second) h = at_some _ _ _ h.1
strat_some s left from (Self_of at num) h = let only = h.1.3 in cc

pub some_strat : (left from : ℕ) → Some_of (Strats left from)
some_strat left from = (Self_of (record { line = 0; column = 0 }) 0, made (kind.Word word.Again) ∷ [], λ s. (refl, (made (kind.Word word.Again), refl, refl, refl)), λ real. unreal (kind.Word word.Again) real)

-- strategies behind commas, in a list

abbrev Behind : ℕ → ℕ × ℕ → Family StratTree
Behind left given = After comma (Roomy given.0 (Strats left given.1))

more_to : (s : Sort) (left room from : ℕ) (trees : StratTrees) (ts : List Token) → MoreStrats s left room from trees ts → Many (Behind left) next_node (room, from) s (strats_in trees) ts
more_to s left room from no_strat ts h = h
more_to s left room from (more_strat first others) ts (x, y, p, q, e) = (x, y, p, more_to s left (room - 1) (from + nodes first) others y q, e)

more_from : (s : Sort) (left room from : ℕ) (list : List StratTree) (ts : List Token) → Many (Behind left) next_node (room, from) s list ts → MoreStrats s left room from (strats_of list) ts
more_from s left room from [] ts h = h
more_from s left room from (first ∷ others) ts (x, y, p, q, e) = (x, y, p, more_from s left (room - 1) (from + nodes first) others y q, e)

strats_again : (trees : StratTrees) → trees ≡ strats_of (strats_in trees)
strats_again no_strat = refl
strats_again (more_strat first others) = ap (λ t. more_strat first t) (strats_again others)

-- the same form at the place and with the number that it has
moved : (make : Place → ℕ → StratTree) (p q : Place) (m n : ℕ) → p ≡ q → n ≡ m → make q n ≡ make p m
moved make p q m n e f = ap (λ r. make r n) (sym e) ∙ ap (make p) f

module _ (left : ℕ) (item : ℕ → List Token → Reading StratTree) (expr : List Token → Reading ExprTree) (items : (from : ℕ) → Form (0 < left) (Strats (left - 1) from) never (item from))
    (exprs : Form (0 < left) (Level (left - 1) 0) on_or expr) where
  abbrev Bounds : Family (ExprTree × ExprTree)
  Bounds = Seq (Level (left - 1) 0) (λ lo. After comma (Closed close (λ hi. (lo, hi)) (Level (left - 1) 0)))

  bounds_form : Form (0 < left) Bounds never (bounds_at expr)
  unfolding bounds_at
  bounds_form =
      marked_form (0 < left) is_comma comma comma_tests refl (Level (left - 1) 0) (λ lo. Closed close (λ hi. (lo, hi)) (Level (left - 1) 0)) on_or never expr _ refl exprs
      (λ lo. closed_form (0 < left) is_close close close_tests refl (Level (left - 1) 0) on_or never (λ hi. (lo, hi)) expr refl exprs)

  more_form : (given : ℕ × ℕ) → Form (0 < left) (Behind (left - 1) given) never (more_strat_at item given)
  more_form given =
      after_form (0 < left) is_comma comma comma_tests refl (Roomy given.0 (Strats (left - 1) given.1)) never _ (room_form (0 < left) (Strats (left - 1) given.1) never (item given.1) (items given.1) (λ s a h. strat_some s (left - 1) given.1 a h) given.0)

  behind_head : (s : Sort) (given : ℕ × ℕ) (a : StratTree) (t : Token) (ts : List Token) → Behind (left - 1) given s a (t ∷ ts) → is_comma t.kind ≡ true
  behind_head s given a t ts h = ap is_comma (one_then comma _ t ts h).0

  module _ (from : ℕ) (place : Place) where
    abbrev Bounded : (ExprTree → ExprTree → StratTree) → Family StratTree
    Bounded tree = Seq (Openings left opening) (λ u. Made (λ b. tree b.0 b.1) Bounds)

    bounded_form : (tree : ExprTree → ExprTree → StratTree) → Form (Unit {0}) (Bounded tree) never (bounded_at left item expr place from tree)
    unfolding bounded_at
    bounded_form tree = within_form (Unit {0}) is_open opening open_tests refl left (Made (λ b. tree b.0 b.1) Bounds) never _ (made_form (0 < left) Bounds never (λ b. tree b.0 b.1) (bounds_at expr) bounds_form)

    abbrev Bools : Family StratTree
    Bools = Seq (Openings left opening) (λ u. Made (λ v. Bools_of place from) (Ones close))

    bools_form : Form (Unit {0}) Bools never (bools_at left item expr place from)
    unfolding bools_at
    bools_form = within_form (Unit {0}) is_open opening open_tests refl left (Made (λ v. Bools_of place from) (Ones close)) never _
        (made_form (0 < left) (Ones close) never (λ v. Bools_of place from) (one_at is_close) (one_form (0 < left) is_close close close_tests refl never))

    abbrev Sampled : Family StratTree
    Sampled = Seq (Openings left opening) (λ u. Closed close (Sampled_of place from) (Level (left - 1) 0))

    sampled_form : Form (Unit {0}) Sampled never (sampled_at left item expr place from)
    unfolding sampled_at
    sampled_form = within_form (Unit {0}) is_open opening open_tests refl left (Closed close (Sampled_of place from) (Level (left - 1) 0)) never _
        (closed_form (0 < left) is_close close close_tests refl (Level (left - 1) 0) on_or never (Sampled_of place from) expr refl exprs)

    abbrev Text_form : Family StratTree
    Text_form = Seq (Openings left opening) (λ u. Seq Alphabets (λ alphabet. After comma (Made (λ b. Texts_of place from alphabet b.0 b.1) Bounds)))

    texts_form : Form (Unit {0}) Text_form never (texts_at left item expr place from)
    unfolding texts_at
    texts_form = within_form (Unit {0}) is_open opening open_tests refl left (Seq Alphabets (λ alphabet. After comma (Made (λ b. Texts_of place from alphabet b.0 b.1) Bounds))) never _
        (marked_form (0 < left) is_comma comma comma_tests refl Alphabets (λ alphabet. Made (λ b. Texts_of place from alphabet b.0 b.1) Bounds) never never alphabet_at _ refl (alphabet_form (0 < left) never)
        (λ alphabet. made_form (0 < left) Bounds never (λ b. Texts_of place from alphabet b.0 b.1) (bounds_at expr) bounds_form))

    abbrev List_form : Family StratTree
    List_form = Seq (Openings left opening) (λ u. Seq (Strats (left - 1) (from + 1)) (λ element. After comma (Made (λ b. Lists_of place from element b.0 b.1) Bounds)))

    lists_form : Form (Unit {0}) List_form never (lists_at left item expr place from)
    unfolding lists_at
    lists_form = within_form (Unit {0}) is_open opening open_tests refl left (Seq (Strats (left - 1) (from + 1)) (λ element. After comma (Made (λ b. Lists_of place from element b.0 b.1) Bounds))) never _
        (marked_form (0 < left) is_comma comma comma_tests refl (Strats (left - 1) (from + 1)) (λ element. Made (λ b. Lists_of place from element b.0 b.1) Bounds) never never (item (from + 1)) _ refl (items (from + 1))
        (λ element. made_form (0 < left) Bounds never (λ b. Lists_of place from element b.0 b.1) (bounds_at expr) bounds_form))

    abbrev Second : StratTree → Family StratTree
    Second first = Seq (Strats (left - 1) (from + 1 + nodes first)) (λ second. Closed close (λ others. Tuples_of place from (strats_of (first ∷ second ∷ others))) (Many (Behind (left - 1)) next_node (6, from + 1 + nodes first + nodes second)))

    abbrev Tuple_form : Family StratTree
    Tuple_form = Seq (Openings left opening) (λ u. Seq (Strats (left - 1) (from + 1)) (λ first. After comma (Second first)))

    tuples_form : Form (Unit {0}) Tuple_form never (tuples_at left item expr place from)
    unfolding tuples_at
    tuples_form = within_form (Unit {0}) is_open opening open_tests refl left (Seq (Strats (left - 1) (from + 1)) (λ first. After comma (Second first))) never _
        (marked_form (0 < left) is_comma comma comma_tests refl (Strats (left - 1) (from + 1)) Second never never (item (from + 1)) _ refl (items (from + 1))
        (λ first. ended_row_by (0 < left) (Strats (left - 1) (from + 1 + nodes first)) (Behind (left - 1)) is_comma next_node never is_comma (item (from + 1 + nodes first)) (more_strat_at item) (items (from + 1 + nodes first)) more_form
        behind_head (λ s given a h. then_some comma _ h) (λ k e. refl) (λ k e. refl) (λ k e stop. not_both (is_comma k) e stop) is_close close close_tests refl refl (λ second. (6, from + 1 + nodes first + nodes second))
        (λ second others. Tuples_of place from (strats_of (first ∷ second ∷ others))) never
        _ (λ second tokens. fronted (first ∷ second ∷ []) is_close (λ all. Tuples_of place from (strats_of all)) (more_strats_at item 6 (from + 1 + nodes first + nodes second) tokens))))

    abbrev One_form : Family StratTree
    One_form = Seq (Openings left opening) (λ u. Seq (Strats (left - 1) (from + 1)) (λ first. Closed close (λ others. OneOf_of place from (strats_of (first ∷ others))) (Many (Behind (left - 1)) next_node (15, from + 1 + nodes first))))

    one_of_form : Form (Unit {0}) One_form never (one_of_at left item expr place from)
    unfolding one_of_at
    one_of_form = within_form (Unit {0}) is_open opening open_tests refl left _ never _
        (ended_row_by (0 < left) (Strats (left - 1) (from + 1)) (Behind (left - 1)) is_comma next_node never is_comma (item (from + 1)) (more_strat_at item) (items (from + 1)) more_form
        behind_head (λ s given a h. then_some comma _ h) (λ k e. refl) (λ k e. refl) (λ k e stop. not_both (is_comma k) e stop) is_close close close_tests refl refl (λ first. (15, from + 1 + nodes first))
        (λ first others. OneOf_of place from (strats_of (first ∷ others))) never
        _ (λ first tokens. fronted (first ∷ []) is_close (λ all. OneOf_of place from (strats_of all)) (more_strats_at item 15 (from + 1 + nodes first) tokens)))

    abbrev Applied : (Ident → StratTree → ExprTree → StratTree) → Family StratTree
    Applied tree = Seq (Openings left opening) (λ u. Seq Names (λ given. After comma (Seq (Strats (left - 1) (from + 1)) (λ first. After comma (Closed close (tree given first) (Level (left - 1) 0))))))

    applied_form : (tree : Ident → StratTree → ExprTree → StratTree) → Form (Unit {0}) (Applied tree) never (applied_at left item expr place from tree)
    unfolding applied_at
    applied_form tree = within_form (Unit {0}) is_open opening open_tests refl left (Seq Names (λ given. After comma (Seq (Strats (left - 1) (from + 1)) (λ first. After comma (Closed close (tree given first) (Level (left - 1) 0)))))) never _
        (marked_form (0 < left) is_comma comma comma_tests refl Names (λ given. Seq (Strats (left - 1) (from + 1)) (λ first. After comma (Closed close (tree given first) (Level (left - 1) 0)))) never never name_at _ refl (name_form (0 < left) never)
        (λ given. marked_form (0 < left) is_comma comma comma_tests refl (Strats (left - 1) (from + 1)) (λ first. Closed close (tree given first) (Level (left - 1) 0)) never never (item (from + 1)) _ refl (items (from + 1))
        (λ first. closed_form (0 < left) is_close close close_tests refl (Level (left - 1) 0) on_or never (tree given first) expr refl exprs)))

    abbrev Flat_form : Family StratTree
    Flat_form =
        Seq (Openings left opening) (λ u. Seq Names (λ given. After comma (Seq (Strats (left - 1) (from + 1)) (λ first. After comma (Closed close (FlatMap_of place from given first) (Strats (left - 1) (from + 1 + nodes first)))))))

    flat_map_form : Form (Unit {0}) Flat_form never (flat_map_at left item expr place from)
    unfolding flat_map_at
    flat_map_form = within_form (Unit {0}) is_open opening open_tests refl left
        (Seq Names (λ given. After comma (Seq (Strats (left - 1) (from + 1)) (λ first. After comma (Closed close (FlatMap_of place from given first) (Strats (left - 1) (from + 1 + nodes first))))))) never _
        (marked_form (0 < left) is_comma comma comma_tests refl Names (λ given. Seq (Strats (left - 1) (from + 1)) (λ first. After comma (Closed close (FlatMap_of place from given first) (Strats (left - 1) (from + 1 + nodes first))))) never never name_at _ refl (name_form (0 < left) never)
        (λ given. marked_form (0 < left) is_comma comma comma_tests refl (Strats (left - 1) (from + 1)) (λ first. Closed close (FlatMap_of place from given first) (Strats (left - 1) (from + 1 + nodes first))) never never (item (from + 1)) _ refl (items (from + 1))
        (λ first. closed_form (0 < left) is_close close close_tests refl (Strats (left - 1) (from + 1 + nodes first)) never never (FlatMap_of place from given first) (item (from + 1 + nodes first)) refl (items (from + 1 + nodes first)))))

    abbrev Deep_form : Family StratTree
    Deep_form =
        Seq (Openings left opening) (λ u. Seq (Limits 1 8) (λ depth. After comma (Seq (Strats (left - 1) (from + 1)) (λ first. After comma (Closed close (Recursive_of place from depth first) (Strats (left - 1) (from + 1 + nodes first)))))))

    recursive_form : Form (Unit {0}) Deep_form never (recursive_at left item expr place from)
    unfolding recursive_at
    recursive_form = within_form (Unit {0}) is_open opening open_tests refl left
        (Seq (Limits 1 8) (λ depth. After comma (Seq (Strats (left - 1) (from + 1)) (λ first. After comma (Closed close (Recursive_of place from depth first) (Strats (left - 1) (from + 1 + nodes first))))))) never _
        (marked_form (0 < left) is_comma comma comma_tests refl (Limits 1 8) (λ depth. Seq (Strats (left - 1) (from + 1)) (λ first. After comma (Closed close (Recursive_of place from depth first) (Strats (left - 1) (from + 1 + nodes first))))) never never (limited_at 1 8) _ refl (limited_form (0 < left) 1 8 never)
        (λ depth. marked_form (0 < left) is_comma comma comma_tests refl (Strats (left - 1) (from + 1)) (λ first. Closed close (Recursive_of place from depth first) (Strats (left - 1) (from + 1 + nodes first))) never never (item (from + 1)) _ refl (items (from + 1))
        (λ first. closed_form (0 < left) is_close close close_tests refl (Strats (left - 1) (from + 1 + nodes first)) never never (Recursive_of place from depth first) (item (from + 1 + nodes first)) refl (items (from + 1 + nodes first)))))

  -- ---- a first token of each kind

  module _ (from : ℕ) (t : Token) (rest : List Token) (real : AllReal (t ∷ rest)) where
    -- behind its word
    worded : {k : Kind} (Q : Family StratTree) (r : List Token → Reading StratTree) → t.kind ≡ k → is_last k ≡ false
        → ((s : Sort) (v : StratTree) (x : List Token) → IsStrat s left from v (t ∷ x) → Q s v x) → ((s : Sort) (v : StratTree) (x : List Token) → Q s v x → IsStrat s left from v (t ∷ x))
        → Form (Unit {0}) Q never r → Outcome (Strats left from) never (t ∷ rest) (r rest)
    worded Q r e inside out put f = behind Q (Strats left from) never t (ap is_last e ∙ inside) out put (λ s v h. strat_some s left from v h) rest (r rest) (f.meets tt rest real.1)

    ints_from : t.kind ≡ kind.Word word.Ints → (s : Sort) (v : StratTree) (x : List Token) → IsStrat s left from v (t ∷ x) → Bounded from t.at (Ints_of t.at from) s v x
    ints_from e s (Ints_of at num lo hi) x (n, h) = form (at_then _ _ _ t x h) where
      form : (t.kind ≡ kind.Word word.Ints) × (t.at ≡ at) × (Opens s left opening ⨾ IsExpr s (left - 1) 0 lo ⨾ One comma ⨾ IsExpr s (left - 1) 0 hi ⨾ One close) x → Bounded from t.at (Ints_of t.at from) s (Ints_of at num lo hi) x
      form (k, p, (a, b, o, (c, d, l, (f, g, m, last, e3), e2), e1)) = (tt, (a, b, o, ((lo, hi), moved (λ q w. Ints_of q w lo hi) t.at at from num p n, (lo, (c, d, l, (f, g, m, (hi, refl, last), e3), e2))), e1))
    ints_from e s other x h = let k = strat_head s left from other t x h in absurd cc

    ints_put : t.kind ≡ kind.Word word.Ints → (s : Sort) (v : StratTree) (x : List Token) → Bounded from t.at (Ints_of t.at from) s v x → IsStrat s left from v (t ∷ x)
    ints_put e s v x (u, (a, b, o, (bounds, same, (lo, (c, d, l, (f, g, m, (hi, pair, last), e3), e2))), e1)) =
        subst (λ w. IsStrat s left from w (t ∷ x)) (sym (same ∙ ap (λ (w : ExprTree × ExprTree). Ints_of t.at from w.0 w.1) pair)) (refl, at_first _ _ t x e (a, b, o, (c, d, l, (f, g, m, last, e3), e2), e1))

    blobs_from : t.kind ≡ kind.Word word.Blobs → (s : Sort) (v : StratTree) (x : List Token) → IsStrat s left from v (t ∷ x) → Bounded from t.at (Blobs_of t.at from) s v x
    blobs_from e s (Blobs_of at num lo hi) x (n, h) = form (at_then _ _ _ t x h) where
      form : (t.kind ≡ kind.Word word.Blobs) × (t.at ≡ at) × (Opens s left opening ⨾ IsExpr s (left - 1) 0 lo ⨾ One comma ⨾ IsExpr s (left - 1) 0 hi ⨾ One close) x → Bounded from t.at (Blobs_of t.at from) s (Blobs_of at num lo hi) x
      form (k, p, (a, b, o, (c, d, l, (f, g, m, last, e3), e2), e1)) = (tt, (a, b, o, ((lo, hi), moved (λ q w. Blobs_of q w lo hi) t.at at from num p n, (lo, (c, d, l, (f, g, m, (hi, refl, last), e3), e2))), e1))
    blobs_from e s other x h = let k = strat_head s left from other t x h in absurd cc

    blobs_put : t.kind ≡ kind.Word word.Blobs → (s : Sort) (v : StratTree) (x : List Token) → Bounded from t.at (Blobs_of t.at from) s v x → IsStrat s left from v (t ∷ x)
    blobs_put e s v x (u, (a, b, o, (bounds, same, (lo, (c, d, l, (f, g, m, (hi, pair, last), e3), e2))), e1)) =
        subst (λ w. IsStrat s left from w (t ∷ x)) (sym (same ∙ ap (λ (w : ExprTree × ExprTree). Blobs_of t.at from w.0 w.1) pair)) (refl, at_first _ _ t x e (a, b, o, (c, d, l, (f, g, m, last, e3), e2), e1))

    bools_from : t.kind ≡ kind.Word word.Bools → (s : Sort) (v : StratTree) (x : List Token) → IsStrat s left from v (t ∷ x) → Bools from t.at s v x
    bools_from e s (Bools_of at num) x (n, h) = form (at_then _ _ _ t x h) where
      form : (t.kind ≡ kind.Word word.Bools) × (t.at ≡ at) × (Opens s left opening ⨾ One close) x → Bools from t.at s (Bools_of at num) x
      form (k, p, (a, b, o, last, e1)) = (tt, (a, b, o, (tt, moved Bools_of t.at at from num p n, last), e1))
    bools_from e s other x h = let k = strat_head s left from other t x h in absurd cc

    bools_put : t.kind ≡ kind.Word word.Bools → (s : Sort) (v : StratTree) (x : List Token) → Bools from t.at s v x → IsStrat s left from v (t ∷ x)
    bools_put e s v x (u, (a, b, o, (w, same, last), e1)) = subst (λ w. IsStrat s left from w (t ∷ x)) (sym same) (refl, at_first _ _ t x e (a, b, o, last, e1))

    sampled_from : t.kind ≡ kind.Word word.SampledFrom → (s : Sort) (v : StratTree) (x : List Token) → IsStrat s left from v (t ∷ x) → Sampled from t.at s v x
    sampled_from e s (Sampled_of at num list) x (n, h) = form (at_then _ _ _ t x h) where
      form : (t.kind ≡ kind.Word word.SampledFrom) × (t.at ≡ at) × (Opens s left opening ⨾ IsExpr s (left - 1) 0 list ⨾ One close) x → Sampled from t.at s (Sampled_of at num list) x
      form (k, p, (a, b, o, last, e1)) = (tt, (a, b, o, (list, moved (λ q w. Sampled_of q w list) t.at at from num p n, last), e1))
    sampled_from e s other x h = let k = strat_head s left from other t x h in absurd cc

    sampled_put : t.kind ≡ kind.Word word.SampledFrom → (s : Sort) (v : StratTree) (x : List Token) → Sampled from t.at s v x → IsStrat s left from v (t ∷ x)
    sampled_put e s v x (u, (a, b, o, (list, same, last), e1)) = subst (λ w. IsStrat s left from w (t ∷ x)) (sym same) (refl, at_first _ _ t x e (a, b, o, last, e1))

    texts_from : t.kind ≡ kind.Word word.Texts → (s : Sort) (v : StratTree) (x : List Token) → IsStrat s left from v (t ∷ x) → Text_form from t.at s v x
    texts_from e s (Texts_of at num alphabet lo hi) x (n, h) = form (at_then _ _ _ t x h) where
      form : (t.kind ≡ kind.Word word.Texts) × (t.at ≡ at) × (Opens s left opening ⨾ IsAlphabet s alphabet ⨾ One comma ⨾ IsExpr s (left - 1) 0 lo ⨾ One comma ⨾ IsExpr s (left - 1) 0 hi ⨾ One close) x
          → Text_form from t.at s (Texts_of at num alphabet lo hi) x
      form (k, p, (a, b, o, (i, j, al, (a', b', m', (c, d, l, (f, g, m, last, e3), e2), e5), e4), e1)) =
          (tt, (a, b, o, (alphabet, (i, j, al, (a', b', m', ((lo, hi), moved (λ q w. Texts_of q w alphabet lo hi) t.at at from num p n, (lo, (c, d, l, (f, g, m, (hi, refl, last), e3), e2))), e5), e4)), e1))
    texts_from e s other x h = let k = strat_head s left from other t x h in absurd cc

    texts_put : t.kind ≡ kind.Word word.Texts → (s : Sort) (v : StratTree) (x : List Token) → Text_form from t.at s v x → IsStrat s left from v (t ∷ x)
    texts_put e s v x (u, (a, b, o, (alphabet, (i, j, al, (a', b', m', (bounds, same, (lo, (c, d, l, (f, g, m, (hi, pair, last), e3), e2))), e5), e4)), e1)) =
        subst (λ w. IsStrat s left from w (t ∷ x)) (sym (same ∙ ap (λ (w : ExprTree × ExprTree). Texts_of t.at from alphabet w.0 w.1) pair))
        (refl, at_first _ _ t x e (a, b, o, (i, j, al, (a', b', m', (c, d, l, (f, g, m, last, e3), e2), e5), e4), e1))

    lists_from : t.kind ≡ kind.Word word.Lists → (s : Sort) (v : StratTree) (x : List Token) → IsStrat s left from v (t ∷ x) → List_form from t.at s v x
    lists_from e s (Lists_of at num element lo hi) x (n, h) = form (at_then _ _ _ t x h) where
      form : (t.kind ≡ kind.Word word.Lists) × (t.at ≡ at)
          × (Opens s left opening ⨾ IsStrat s (left - 1) (from + 1) element ⨾ One comma ⨾ IsExpr s (left - 1) 0 lo ⨾ One comma ⨾ IsExpr s (left - 1) 0 hi ⨾ One close) x
          → List_form from t.at s (Lists_of at num element lo hi) x
      form (k, p, (a, b, o, (i, j, al, (a', b', m', (c, d, l, (f, g, m, last, e3), e2), e5), e4), e1)) =
          (tt, (a, b, o, (element, (i, j, al, (a', b', m', ((lo, hi), moved (λ q w. Lists_of q w element lo hi) t.at at from num p n, (lo, (c, d, l, (f, g, m, (hi, refl, last), e3), e2))), e5), e4)), e1))
    lists_from e s other x h = let k = strat_head s left from other t x h in absurd cc

    lists_put : t.kind ≡ kind.Word word.Lists → (s : Sort) (v : StratTree) (x : List Token) → List_form from t.at s v x → IsStrat s left from v (t ∷ x)
    lists_put e s v x (u, (a, b, o, (element, (i, j, al, (a', b', m', (bounds, same, (lo, (c, d, l, (f, g, m, (hi, pair, last), e3), e2))), e5), e4)), e1)) =
        subst (λ w. IsStrat s left from w (t ∷ x)) (sym (same ∙ ap (λ (w : ExprTree × ExprTree). Lists_of t.at from element w.0 w.1) pair))
        (refl, at_first _ _ t x e (a, b, o, (i, j, al, (a', b', m', (c, d, l, (f, g, m, last, e3), e2), e5), e4), e1))

    tuples_from : t.kind ≡ kind.Word word.Tuples → (s : Sort) (v : StratTree) (x : List Token) → IsStrat s left from v (t ∷ x) → Tuple_form from t.at s v x
    tuples_from e s (Tuples_of at num (more_strat first (more_strat second others))) x (n, h) = form (at_then _ _ _ t x h) where
      form : (t.kind ≡ kind.Word word.Tuples) × (t.at ≡ at)
          × (Opens s left opening ⨾ IsStrat s (left - 1) (from + 1) first ⨾ One comma ⨾ IsStrat s (left - 1) (from + 1 + nodes first) second ⨾ MoreStrats s (left - 1) 6 (from + 1 + nodes first + nodes second) others ⨾ One close) x
          → Tuple_form from t.at s (Tuples_of at num (more_strat first (more_strat second others))) x
      form (k, p, (a, b, o, (c, d, q, (f, g, m, (i, j, r, (a', b', more, last, e5), e4), e3), e2), e1)) = (
        tt,
        (
          a,
          b,
          o,
          (
            first,
            (
              c,
              d,
              q,
              (
                f,
                g,
                m,
                (
                  second,
                  (
                    i,
                    j,
                    r,
                    (
                      strats_in others,
                      moved (λ z w. Tuples_of z w (more_strat first (more_strat second others))) t.at at from num p n ∙ ap (λ w. Tuples_of t.at from (more_strat first (more_strat second w))) (strats_again others),
                      (a', b', more_to s (left - 1) 6 (from + 1 + nodes first + nodes second) others a' more, last, e5),
                    ),
                    e4,
                  ),
                ),
                e3,
              ),
              e2,
            ),
          ),
          e1,
        ),
      )
    tuples_from e s (Tuples_of at num other) x h = absurd h
    tuples_from e s other x h = let k = strat_head s left from other t x h in absurd cc

    tuples_put : t.kind ≡ kind.Word word.Tuples → (s : Sort) (v : StratTree) (x : List Token) → Tuple_form from t.at s v x → IsStrat s left from v (t ∷ x)
    tuples_put e s v x (u, (a, b, o, (first, (c, d, q, (f, g, m, (second, (i, j, r, (others, same, (a', b', more, last, e5)), e4)), e3), e2)), e1)) =
        subst (λ w. IsStrat s left from w (t ∷ x)) (sym same)
        (refl, at_first _ _ t x e (a, b, o, (c, d, q, (f, g, m, (i, j, r, (a', b', more_from s (left - 1) 6 (from + 1 + nodes first + nodes second) others a' more, last, e5), e4), e3), e2), e1))

    one_of_from : t.kind ≡ kind.Word word.OneOf → (s : Sort) (v : StratTree) (x : List Token) → IsStrat s left from v (t ∷ x) → One_form from t.at s v x
    one_of_from e s (OneOf_of at num (more_strat first others)) x (n, h) = form (at_then _ _ _ t x h) where
      form : (t.kind ≡ kind.Word word.OneOf) × (t.at ≡ at) × (Opens s left opening ⨾ IsStrat s (left - 1) (from + 1) first ⨾ MoreStrats s (left - 1) 15 (from + 1 + nodes first) others ⨾ One close) x
          → One_form from t.at s (OneOf_of at num (more_strat first others)) x
      form (k, p, (a, b, o, (c, d, q, (a', b', more, last, e5), e2), e1)) = (
        tt,
        (
          a,
          b,
          o,
          (
            first,
            (
              c,
              d,
              q,
              (
                strats_in others,
                moved (λ z w. OneOf_of z w (more_strat first others)) t.at at from num p n ∙ ap (λ w. OneOf_of t.at from (more_strat first w)) (strats_again others),
                (a', b', more_to s (left - 1) 15 (from + 1 + nodes first) others a' more, last, e5),
              ),
              e2,
            ),
          ),
          e1,
        ),
      )
    one_of_from e s (OneOf_of at num no_strat) x h = absurd h
    one_of_from e s other x h = let k = strat_head s left from other t x h in absurd cc

    one_of_put : t.kind ≡ kind.Word word.OneOf → (s : Sort) (v : StratTree) (x : List Token) → One_form from t.at s v x → IsStrat s left from v (t ∷ x)
    one_of_put e s v x (u, (a, b, o, (first, (c, d, q, (others, same, (a', b', more, last, e5)), e2)), e1)) =
        subst (λ w. IsStrat s left from w (t ∷ x)) (sym same) (refl, at_first _ _ t x e (a, b, o, (c, d, q, (a', b', more_from s (left - 1) 15 (from + 1 + nodes first) others a' more, last, e5), e2), e1))

    map_from : t.kind ≡ kind.Word word.Map → (s : Sort) (v : StratTree) (x : List Token) → IsStrat s left from v (t ∷ x) → Applied from t.at (Map_of t.at from) s v x
    map_from e s (Map_of at num given first body) x (n, h) = form (at_then _ _ _ t x h) where
      form : (t.kind ≡ kind.Word word.Map) × (t.at ≡ at)
          × (Opens s left opening ⨾ IsName s given ⨾ One comma ⨾ IsStrat s (left - 1) (from + 1) first ⨾ One comma ⨾ IsExpr s (left - 1) 0 body ⨾ One close) x → Applied from t.at (Map_of t.at from) s (Map_of at num given first body) x
      form (k, p, (a, b, o, (c, d, q, (f, g, m, (i, j, r, (a', b', m', last, e5), e4), e3), e2), e1)) =
          (tt, (a, b, o, (given, (c, d, q, (f, g, m, (first, (i, j, r, (a', b', m', (body, moved (λ z w. Map_of z w given first body) t.at at from num p n, last), e5), e4)), e3), e2)), e1))
    map_from e s other x h = let k = strat_head s left from other t x h in absurd cc

    map_put : t.kind ≡ kind.Word word.Map → (s : Sort) (v : StratTree) (x : List Token) → Applied from t.at (Map_of t.at from) s v x → IsStrat s left from v (t ∷ x)
    map_put e s v x (u, (a, b, o, (given, (c, d, q, (f, g, m, (first, (i, j, r, (a', b', m', (body, same, last), e5), e4)), e3), e2)), e1)) =
        subst (λ w. IsStrat s left from w (t ∷ x)) (sym same) (refl, at_first _ _ t x e (a, b, o, (c, d, q, (f, g, m, (i, j, r, (a', b', m', last, e5), e4), e3), e2), e1))

    filter_from : t.kind ≡ kind.Word word.Filter → (s : Sort) (v : StratTree) (x : List Token) → IsStrat s left from v (t ∷ x) → Applied from t.at (Filter_of t.at from) s v x
    filter_from e s (Filter_of at num given first body) x (n, h) = form (at_then _ _ _ t x h) where
      form : (t.kind ≡ kind.Word word.Filter) × (t.at ≡ at)
          × (Opens s left opening ⨾ IsName s given ⨾ One comma ⨾ IsStrat s (left - 1) (from + 1) first ⨾ One comma ⨾ IsExpr s (left - 1) 0 body ⨾ One close) x → Applied from t.at (Filter_of t.at from) s (Filter_of at num given first body) x
      form (k, p, (a, b, o, (c, d, q, (f, g, m, (i, j, r, (a', b', m', last, e5), e4), e3), e2), e1)) =
          (tt, (a, b, o, (given, (c, d, q, (f, g, m, (first, (i, j, r, (a', b', m', (body, moved (λ z w. Filter_of z w given first body) t.at at from num p n, last), e5), e4)), e3), e2)), e1))
    filter_from e s other x h = let k = strat_head s left from other t x h in absurd cc

    filter_put : t.kind ≡ kind.Word word.Filter → (s : Sort) (v : StratTree) (x : List Token) → Applied from t.at (Filter_of t.at from) s v x → IsStrat s left from v (t ∷ x)
    filter_put e s v x (u, (a, b, o, (given, (c, d, q, (f, g, m, (first, (i, j, r, (a', b', m', (body, same, last), e5), e4)), e3), e2)), e1)) =
        subst (λ w. IsStrat s left from w (t ∷ x)) (sym same) (refl, at_first _ _ t x e (a, b, o, (c, d, q, (f, g, m, (i, j, r, (a', b', m', last, e5), e4), e3), e2), e1))

    flat_map_from : t.kind ≡ kind.Word word.FlatMap → (s : Sort) (v : StratTree) (x : List Token) → IsStrat s left from v (t ∷ x) → Flat_form from t.at s v x
    flat_map_from e s (FlatMap_of at num given first second) x (n, h) = form (at_then _ _ _ t x h) where
      form : (t.kind ≡ kind.Word word.FlatMap) × (t.at ≡ at)
          × (Opens s left opening ⨾ IsName s given ⨾ One comma ⨾ IsStrat s (left - 1) (from + 1) first ⨾ One comma ⨾ IsStrat s (left - 1) (from + 1 + nodes first) second ⨾ One close) x → Flat_form from t.at s (FlatMap_of at num given first second) x
      form (k, p, (a, b, o, (c, d, q, (f, g, m, (i, j, r, (a', b', m', last, e5), e4), e3), e2), e1)) =
          (tt, (a, b, o, (given, (c, d, q, (f, g, m, (first, (i, j, r, (a', b', m', (second, moved (λ z w. FlatMap_of z w given first second) t.at at from num p n, last), e5), e4)), e3), e2)), e1))
    flat_map_from e s other x h = let k = strat_head s left from other t x h in absurd cc

    flat_map_put : t.kind ≡ kind.Word word.FlatMap → (s : Sort) (v : StratTree) (x : List Token) → Flat_form from t.at s v x → IsStrat s left from v (t ∷ x)
    flat_map_put e s v x (u, (a, b, o, (given, (c, d, q, (f, g, m, (first, (i, j, r, (a', b', m', (second, same, last), e5), e4)), e3), e2)), e1)) =
        subst (λ w. IsStrat s left from w (t ∷ x)) (sym same) (refl, at_first _ _ t x e (a, b, o, (c, d, q, (f, g, m, (i, j, r, (a', b', m', last, e5), e4), e3), e2), e1))

    recursive_from : t.kind ≡ kind.Word word.Recursive → (s : Sort) (v : StratTree) (x : List Token) → IsStrat s left from v (t ∷ x) → Deep_form from t.at s v x
    recursive_from e s (Recursive_of at num depth first second) x (n, h) = form (at_then _ _ _ t x h) where
      form : (t.kind ≡ kind.Word word.Recursive) × (t.at ≡ at)
          × (Opens s left opening ⨾ Limited s 1 8 depth ⨾ One comma ⨾ IsStrat s (left - 1) (from + 1) first ⨾ One comma ⨾ IsStrat s (left - 1) (from + 1 + nodes first) second ⨾ One close) x → Deep_form from t.at s (Recursive_of at num depth first second) x
      form (k, p, (a, b, o, (c, d, q, (f, g, m, (i, j, r, (a', b', m', last, e5), e4), e3), e2), e1)) =
          (tt, (a, b, o, (depth, (c, d, q, (f, g, m, (first, (i, j, r, (a', b', m', (second, moved (λ z w. Recursive_of z w depth first second) t.at at from num p n, last), e5), e4)), e3), e2)), e1))
    recursive_from e s other x h = let k = strat_head s left from other t x h in absurd cc

    recursive_put : t.kind ≡ kind.Word word.Recursive → (s : Sort) (v : StratTree) (x : List Token) → Deep_form from t.at s v x → IsStrat s left from v (t ∷ x)
    recursive_put e s v x (u, (a, b, o, (depth, (c, d, q, (f, g, m, (first, (i, j, r, (a', b', m', (second, same, last), e5), e4)), e3), e2)), e1)) =
        subst (λ w. IsStrat s left from w (t ∷ x)) (sym same) (refl, at_first _ _ t x e (a, b, o, (c, d, q, (f, g, m, (i, j, r, (a', b', m', last, e5), e4), e3), e2), e1))

    self_from : t.kind ≡ kind.Word word.Again → (s : Sort) (v : StratTree) (x : List Token) → IsStrat s left from v (t ∷ x) → Nothing (Self_of t.at 0) s v x
    self_from e s (Self_of at num) x (n, h) = let one = at_head _ _ t x h in (moved Self_of t.at at 0 num one.1 n, one.2)
    self_from e s other x h = let k = strat_head s left from other t x h in absurd cc

    self_put : t.kind ≡ kind.Word word.Again → (s : Sort) (v : StratTree) (x : List Token) → Nothing (Self_of t.at 0) s v x → IsStrat s left from v (t ∷ x)
    self_put e s v x (same, nil) = subst (λ w. IsStrat s left from w (t ∷ x)) (sym same) (refl, (t, e, refl, ap (λ ts. t ∷ ts) nil))

    begins : Kind → Bool
    begins (kind.Word word.Ints) = true
    begins (kind.Word word.Bools) = true
    begins (kind.Word word.Texts) = true
    begins (kind.Word word.Blobs) = true
    begins (kind.Word word.SampledFrom) = true
    begins (kind.Word word.Lists) = true
    begins (kind.Word word.Tuples) = true
    begins (kind.Word word.OneOf) = true
    begins (kind.Word word.Map) = true
    begins (kind.Word word.Filter) = true
    begins (kind.Word word.FlatMap) = true
    begins (kind.Word word.Recursive) = true
    begins (kind.Word word.Again) = true
    begins other = false

    head_begins : (tree : StratTree) → begins (head tree) ≡ true
    unfolding begins
    head_begins (Ints_of at num lo hi) = refl
    head_begins (Bools_of at num) = refl
    head_begins (Texts_of at num alphabet lo hi) = refl
    head_begins (Blobs_of at num lo hi) = refl
    head_begins (Sampled_of at num list) = refl
    head_begins (Lists_of at num element lo hi) = refl
    head_begins (Tuples_of at num parts) = refl
    head_begins (OneOf_of at num parts) = refl
    head_begins (Map_of at num given inner body) = refl
    head_begins (Filter_of at num given inner cond) = refl
    head_begins (FlatMap_of at num given inner second) = refl
    head_begins (Recursive_of at num depth first second) = refl
    head_begins (Self_of at num) = refl

    nothing : begins t.kind ≡ false → Outcome (Strats left from) never (t ∷ rest) (Err (at sort.Syntax (t ∷ rest)))
    nothing not = syntax_here (Strats left from) never t rest (some_strat left from) (λ s v h. strat_some s left from v h)
        (λ s v x h. not_both (begins t.kind) (ap begins (strat_head s left from v t x h) ∙ head_begins v) not)

    strat_kind : (k : Kind) → t.kind ≡ k → Outcome (Strats left from) never (t ∷ rest) (strat_on left item expr t.at from (t ∷ rest) rest k)
    unfolding strat_on begins
    strat_kind (kind.Word word.Ints) e = worded _ _ e refl (ints_from e) (ints_put e) (bounded_form from t.at (Ints_of t.at from))
    strat_kind (kind.Word word.Bools) e = worded _ _ e refl (bools_from e) (bools_put e) (bools_form from t.at)
    strat_kind (kind.Word word.Texts) e = worded _ _ e refl (texts_from e) (texts_put e) (texts_form from t.at)
    strat_kind (kind.Word word.Blobs) e = worded _ _ e refl (blobs_from e) (blobs_put e) (bounded_form from t.at (Blobs_of t.at from))
    strat_kind (kind.Word word.SampledFrom) e = worded _ _ e refl (sampled_from e) (sampled_put e) (sampled_form from t.at)
    strat_kind (kind.Word word.Lists) e = worded _ _ e refl (lists_from e) (lists_put e) (lists_form from t.at)
    strat_kind (kind.Word word.Tuples) e = worded _ _ e refl (tuples_from e) (tuples_put e) (tuples_form from t.at)
    strat_kind (kind.Word word.OneOf) e = worded _ _ e refl (one_of_from e) (one_of_put e) (one_of_form from t.at)
    strat_kind (kind.Word word.Map) e = worded _ _ e refl (map_from e) (map_put e) (applied_form from t.at (Map_of t.at from))
    strat_kind (kind.Word word.Filter) e = worded _ _ e refl (filter_from e) (filter_put e) (applied_form from t.at (Filter_of t.at from))
    strat_kind (kind.Word word.FlatMap) e = worded _ _ e refl (flat_map_from e) (flat_map_put e) (flat_map_form from t.at)
    strat_kind (kind.Word word.Recursive) e = worded _ _ e refl (recursive_from e) (recursive_put e) (recursive_form from t.at)
    strat_kind (kind.Word word.Again) e = behind (Nothing (Self_of t.at 0)) (Strats left from) never t (ap is_last e) (self_from e) (self_put e) (λ s v h. strat_some s left from v h) rest (Ok (Self_of t.at 0, rest)) (returned never (Self_of t.at 0) rest)
    strat_kind other e = nothing (ap begins e)

step_form : (left : ℕ) (item : ℕ → List Token → Reading StratTree) → ((from : ℕ) → Form (0 < left) (Strats (left - 1) from) never (item from)) → (from : ℕ) → Form (Unit {0}) (Strats left from) never (strat_step left item from)
step_form left item items from = record { some = some_strat left from; meets = λ u tokens real. cases tokens real } where
  cases : (tokens : List Token) → AllReal tokens → Outcome (Strats left from) never tokens (strat_step left item from tokens)
  cases [] real = ended (Strats left from) never (some_strat left from)
  cases (t ∷ rest) real = strat_kind left item (inner left).expr items (inner_forms left).exprs from t rest real t.kind refl

-- reading a strategy comes to what the grammar says
pub strat_form : (left from : ℕ) → Form (Unit {0}) (Strats left from) never (strat_at left from)
unfolding strat_below
strat_form zero from = step_form zero (strat_below zero) (λ n. record { some = some_strat (zero - 1) n; meets = λ lt. absurd (omega (arith, lt)) }) from
strat_form (suc left) from = step_form (suc left) (strat_below (suc left)) (λ n. lowered (λ m. Strats m n) never _ left (strat_form left n)) from
