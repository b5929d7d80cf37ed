-- A first operand and what is joined to it, and a row in brackets.
use Rattle.std.proofs.Common.{◌≡◌, ℕ, zero, suc, ◌-◌, ◌<◌, ◌≤◌, ◌||◌, Bool, true, false, List, [], ◌∷◌, ◌++◌, Result, Ok, Err, Option, Some, None, ◌⊎◌, inl, inr, refl, sym, ap, subst, ◌∙◌, append_assoc, arith}
use Rattle.std.proofs.lemmas.List.{append-nil}
use Rattle.pt_val.specs.declared.place.Place.{Place}
use Rattle.pt_ast.specs.Trees.{ExprTree}
use Rattle.pt_token.specs.declared.token.Token.{Token}
use Rattle.pt_token.specs.declared.token.Kind.{Kind}
use Rattle.pt_token.specs.Ending.{is_last}
use Rattle.pt_grammar.specs.declared.sort.Sort.{Sort}
use Rattle.pt_grammar.specs.declared.sort.Sort.TheVariants as sort
use Rattle.pt_grammar.specs.Forms.{◌⨾◌, One}
use Rattle.pt_grammar.specs.ExprGrammar.{IsExpr, Operator}
use Rattle.pt_readings.specs.Faults.{Family, IsBefore}
use Rattle.pt_grammar.specs.Reading.{Fault, at, Reading, ◌>>=◌, one_at, place_at, token_at, all_at}
use Rattle.pt_grammar.specs.ExprReading.{alone, chain_at, operator_found, operator_at}
use Rattle.pt_readings.proofs.Outcomes.{AllReal, Stops, Some_of, Found, Outcome, Form, Seq, seq, seq_form, real_rest}
use Rattle.pt_readings.proofs.Forms.{made, unreal, none_before, Tests, form_read, Made, made_form, none_read, known_first, Closed, closed_form, Token_law, token_form}
use Rattle.pt_readings.proofs.Lists.{Many, many_form, many_stop}
use Rattle.pt_readings.proofs.ExprShapes.{Level, expr_some, looser, some_expr}

pub or_false : (a b : Bool) → (a || b) ≡ false → (a ≡ false) × (b ≡ false)
or_false true b e = absurd cc
or_false false b e = (refl, e)

pub not_both : (b : Bool) → b ≡ true → b ≡ false → ⊥
not_both b is not = let both : true ≡ false = sym is ∙ not in cc

-- ---- an operator

abbrev pub Operators : {A : Type 0} → (Kind → Option A) → Family (Place × A)
Operators operator s x = Operator operator x.0 x.1

found_yes : {A : Type 0} (place : Place) (o : Option A) (a : Place × A) → operator_found place o ≡ Ok a → (o ≡ Some a.1) × (place ≡ a.0)
found_yes {A} place (Some which) a e = let same : (place, which) ≡ a = cc in (ap (λ (b : Place × A). Some b.1) same, ap (λ (b : Place × A). b.0) same)
found_yes place None a e = absurd cc

found_no : {A : Type 0} (place : Place) (o : Option A) (w : Sort) → operator_found place o ≡ Err w → (o ≡ None) × (w ≡ sort.Syntax)
found_no place (Some which) w e = absurd cc
found_no place None w e = (refl, cc)

operator_one : {A : Type 0} (operator : Kind → Option A) (place : Place) (a : A) (t : Token) (x : List Token) → Operator operator place a (t ∷ x) → (operator t.kind ≡ Some a) × (t.at ≡ place) × (x ≡ [])
operator_one operator place a t x (u, k, stands, only) =
    let same : u ≡ t = cc in (subst (λ (c : Token). operator c.kind ≡ Some a) same k, subst (λ (c : Token). c.at ≡ place) same stands, cc)

pub operator_form : {A : Type 0} (C : Type 0) (operator : Kind → Option A) → ((k : Kind) → is_last k ≡ true → operator k ≡ None) → (k : Kind) (a : A) → operator k ≡ Some a → (on : Kind → Bool)
    → Form C (Operators operator) on (operator_at operator)
operator_form {A} C operator ends k some is on = token_form C (Operators operator) on (λ place which. operator_found place (operator which))
    ((record { line = 0; column = 0 }, some), made k ∷ [], λ s. (made k, is, refl, refl), λ real. unreal k real) (record {
      single = λ s a t x h. (operator_one operator a.0 a.1 t x h).2;
      empty = λ s a h. let only = h.3 in cc;
      good = λ t a e s. let y = found_yes t.at (operator t.kind) a e in (t, y.0, y.1, refl);
      clean = λ t a e. clean t.kind (is_last t.kind) refl a.1 (found_yes t.at (operator t.kind) a e).0;
      same = λ t a e s b h. let y = found_yes t.at (operator t.kind) a e in let o = operator_one operator b.0 b.1 t [] h in same a b (sym o.1 ∙ y.1) (sym o.0 ∙ y.0);
      early = λ t w e s before. absurd (none_before s (subst (λ v. IsBefore s v) (found_no t.at (operator t.kind) w e).1 before));
      broken = λ t w e real s late b h. let clash : Some b.1 ≡ None = sym (operator_one operator b.0 b.1 t [] h).0 ∙ (found_no t.at (operator t.kind) w e).0 in cc;
    }) where
      clean : (k : Kind) (b : Bool) → is_last k ≡ b → (a : A) → operator k ≡ Some a → b ≡ false
      clean k true e a h = let clash : Some a ≡ None = sym h ∙ ends k e in absurd cc
      clean k false e a h = refl

      same : (a b : Place × A) → b.0 ≡ a.0 → Some b.1 ≡ Some a.1 → b ≡ a
      same a b p q = let second : b.1 ≡ a.1 = cc in ap (λ (x : Place). (x, b.1)) p ∙ ap (λ (y : A). (a.0, y)) second

-- ---- a chain of a level

abbrev pub Chain : {X : Type 0} → ℕ → ℕ → Family X → (Place → ExprTree → List X → ExprTree) → Place → Family ExprTree
Chain left next T tree place = Seq (Level left next) (λ first. Made (tree place first) (Many {Given = Unit {0}} (λ u. T) alone tt))

-- a first operand with nothing behind it
pub just_one : (s : Sort) (left k next : ℕ) → k ≤ next → (first : ExprTree) (ts y z : List Token) → IsExpr s left next first y → z ≡ [] → ts ≡ y ++ z → IsExpr s left k first ts
just_one s left k next le first ts y z p nil e = looser s left k next le first ts (subst (IsExpr s left next first) (sym (e ∙ ap (λ w. y ++ w) nil ∙ append-nil y)) p)

pub alone_chain : {X : Type 0} (left next : ℕ) (T : Family X) (tree : Place → ExprTree → List X → ExprTree) (place : Place) → ((v : ExprTree) → tree place v [] ≡ v)
    → (s : Sort) (v : ExprTree) (ts : List Token) → IsExpr s left next v ts → Chain left next T tree place s v ts
alone_chain left next T tree place one s v ts h = (v, (ts, [], h, ([], sym (one v), refl), sym (append-nil ts)))

module _ {X : Type 0} (left k next : ℕ) (T : Family X) (on off : Kind → Bool) (operand : List Token → Reading ExprTree) (part : List Token → Reading X) (begins : Kind → Bool)
    (tree : Place → ExprTree → List X → ExprTree) (operand_form : Form (Unit {0}) (Level left next) on operand) (part_form : Form (Unit {0}) T on part)
    (head : (s : Sort) (a : X) (t : Token) (ts : List Token) → T s a (t ∷ ts) → begins t.kind ≡ true) (empty : (s : Sort) (a : X) → T s a [] → ⊥)
    (begins_on : (k : Kind) → begins k ≡ true → on k ≡ false) (off_on : (k : Kind) → off k ≡ false → on k ≡ false) (off_begins : (k : Kind) → begins k ≡ true → off k ≡ false → ⊥)
    (to : (t : Token) (s : Sort) (v : ExprTree) (x : List Token) → Chain left next T tree t.at s v (t ∷ x) → IsExpr s left k v (t ∷ x))
    (from : (t : Token) (s : Sort) (v : ExprTree) (x : List Token) → IsExpr s left k v (t ∷ x) → Chain left next T tree t.at s v (t ∷ x)) where
  abbrev row : Form (Unit {0}) (Many {Given = Unit {0}} (λ u. T) alone tt) off (all_at (λ given. part) (λ given. begins) alone tt)
  row = many_form {Given = Unit {0}} (Unit {0}) (λ u. T) (λ u. begins) alone on off (λ u. part) (λ u. part_form) (λ s u a t ts h. head s a t ts h) (λ s u a h. empty s a h) (λ u k e. begins_on k e) off_on (λ u k e stop. off_begins k e stop) tt

  stops : (place : Place) (s : Sort) (a v : ExprTree) (ts z : List Token) → Made (tree place a) (Many {Given = Unit {0}} (λ u. T) alone tt) s v ts → Stops off z → Stops on (ts ++ z)
  stops place s a v ts z (list, same, many) stop =
      many_stop {Given = Unit {0}} (Unit {0}) (λ u. T) (λ u. begins) alone on off (λ u. part) (λ u. part_form) (λ s' u a' t ts' h. head s' a' t ts' h) (λ s' u a' h. empty s' a' h) (λ u k' e. begins_on k' e) off_on (λ u k' e stop'. off_begins k' e stop') s tt list ts z many stop

  pub chain_form : Form (Unit {0}) (Level left k) off (chain_at operand part begins tree)
  chain_form = record { some = some_expr left k; meets = λ u tokens real. cases tokens real } where
    none_of : (place : Place) (s : Sort) (v : ExprTree) → Chain left next T tree place s v [] → ⊥
    none_of place s v (a, ([], z, p, q, e)) = expr_some s left next a p
    none_of place s v (a, (u ∷ us, z, p, q, e)) = absurd cc

    whole : (place : Place) → Form (Unit {0}) (Chain left next T tree place) off (λ tokens. operand tokens >>= λ first. all_at (λ given. part) (λ given. begins) alone tt first.1 >>= λ others. Ok (tree place first.0 others.0, others.1))
    whole place =
        seq_form (Level left next) (λ first. Made (tree place first) (Many {Given = Unit {0}} (λ u. T) alone tt)) on off (λ s a v ts z h stop. stops place s a v ts z h stop)
        (λ a. (made_form (Unit {0}) (Many {Given = Unit {0}} (λ u. T) alone tt) off (tree place a) _ row).some) (Unit {0}) operand _ operand_form
        (λ first. made_form (Unit {0}) (Many {Given = Unit {0}} (λ u. T) alone tt) off (tree place first) (all_at (λ given. part) (λ given. begins) alone tt) row)

    cases : (tokens : List Token) → AllReal tokens → Outcome (Level left k) off tokens (chain_at operand part begins tree tokens)
    cases [] real = none_read (Chain left next T tree (place_at [])) (Level left k) off (some_expr left k) (none_of (place_at [])) _ ((whole (place_at [])).meets tt [] tt)
    cases (t ∷ rest) real =
        known_first (Chain left next T tree t.at) (Level left k) off t (λ s v x h. to t s v x h) (λ s v x h. from t s v x h) (λ s v h. none_of t.at s v h) (λ s v h stop. expr_some s left k v h)
        (some_expr left k) rest _ ((whole t.at).meets tt (t ∷ rest) real)

-- ---- a row that ends with a token

module _ {A X V Given : Type 0} (C : Type 0) (P : Family A) (T : Given → Family X) (begins : Kind → Bool) (leaves : Given → X → Given) (on off : Kind → Bool) (read : List Token → Reading A) (part : Given → List Token → Reading X)
    (form : Form C P on read) (parts : (g : Given) → Form C (T g) on (part g))
    (head : (s : Sort) (g : Given) (a : X) (t : Token) (ts : List Token) → T g s a (t ∷ ts) → begins t.kind ≡ true) (empty : (s : Sort) (g : Given) (a : X) → T g s a [] → ⊥)
    (begins_on : (k : Kind) → begins k ≡ true → on k ≡ false) (off_on : (k : Kind) → off k ≡ false → on k ≡ false) (off_begins : (k : Kind) → begins k ≡ true → off k ≡ false → ⊥)
    (is : Kind → Bool) (which : Kind) (tests : Tests is which) (inside : is_last which ≡ false) (stop : off which ≡ false) (given : A → Given) (h : A → List X → V) (last : Kind → Bool) where
  row_form : (g : Given) → Form C (Many T leaves g) off (all_at part (λ g. begins) leaves g)
  row_form = many_form C T (λ g. begins) leaves on off part parts head empty (λ g k e. begins_on k e) off_on (λ g k e no. off_begins k e no)

  ended_stop : (s : Sort) (a : A) (v : V) (ts z : List Token) → Closed which (h a) (Many T leaves (given a)) s v ts → Stops on (ts ++ z)
  ended_stop s a v ts z (list, same, (x, y, many, (u, k, only), e)) =
      subst (λ w. Stops on (w ++ z)) (sym e) (subst (λ w. Stops on w) (sym (append_assoc x y z))
      (many_stop C T (λ g. begins) leaves on off part parts head empty (λ g k' e'. begins_on k' e') off_on (λ g k' e' no. off_begins k' e' no) s (given a) list x (y ++ z) many
      (subst (λ w. Stops off (w ++ z)) (sym only) (ap off k ∙ stop))))

  -- the same, where the end is read in other words
  pub ended_row_by : (q : A → List Token → Reading V) → ((a : A) (tokens : List Token) → (all_at part (λ g. begins) leaves (given a) tokens >>= λ others. one_at is others.1 >>= λ behind. Ok (h a others.0, behind.1)) ≡ q a tokens)
      → Form C (Seq P (λ a. Closed which (h a) (Many T leaves (given a)))) last (λ tokens. read tokens >>= λ first. q first.0 first.1)
  ended_row_by q same =
      seq_form P (λ a. Closed which (h a) (Many T leaves (given a))) on last (λ s a v ts z k no. ended_stop s a v ts z k) (λ a. (closing a).some) C read q form closing where
        closing : (a : A) → Form C (Closed which (h a) (Many T leaves (given a))) last (q a)
        closing a = form_read C (Closed which (h a) (Many T leaves (given a))) last _ (q a) (same a) (closed_form C is which tests inside (Many T leaves (given a)) off last (h a) (all_at part (λ g. begins) leaves (given a)) stop (row_form (given a)))

  pub ended_row : Form C (Seq P (λ a. Closed which (h a) (Many T leaves (given a)))) last
      (λ tokens. read tokens >>= λ first. all_at part (λ g. begins) leaves (given first.0) first.1 >>= λ others. one_at is others.1 >>= λ behind. Ok (h first.0 others.0, behind.1))
  ended_row =
      seq_form P (λ a. Closed which (h a) (Many T leaves (given a))) on last (λ s a v ts z k no. ended_stop s a v ts z k) (λ a. (closing a).some) C read _ form closing where
        closing : (a : A) → Form C (Closed which (h a) (Many T leaves (given a))) last (λ tokens. all_at part (λ g. begins) leaves (given a) tokens >>= λ others. one_at is others.1 >>= λ behind. Ok (h a others.0, behind.1))
        closing a = closed_form C is which tests inside (Many T leaves (given a)) off last (h a) (all_at part (λ g. begins) leaves (given a)) stop (row_form (given a))
