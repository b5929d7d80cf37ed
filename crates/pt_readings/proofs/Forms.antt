-- The smallest forms, and the ways from one form to another.
use Rattle.std.proofs.Common.{◌≡◌, ℕ, zero, suc, ◌-◌, ◌==◌, ◌<◌, Bool, true, false, cond, List, [], ◌∷◌, ◌++◌, Result, Ok, Err, ◌⊎◌, inl, inr, refl, sym, ap, subst, ◌∙◌, append_assoc, arith}
use Rattle.std.specs.List.{AllByRecursion}
use Rattle.std.proofs.lemmas.List.{append-nil}
use Rattle.std.proofs.lemmas.Bool.{cases_lt, eqb-true}
use Rattle.pt_val.specs.declared.place.Place.{Place}
use Rattle.pt_token.specs.declared.token.Token.{Token}
use Rattle.pt_token.specs.declared.token.Kind.{Kind}
use Rattle.pt_grammar.specs.declared.sort.Sort.{Sort}
use Rattle.pt_grammar.specs.declared.sort.Sort.TheVariants as sort
use Rattle.pt_token.specs.Ending.{is_last}
use Rattle.pt_grammar.specs.Tokens.{IsReal}
use Rattle.pt_grammar.specs.Forms.{◌⨾◌, One, OneAt, Opens, NestsAt, MindsNesting}
use Rattle.pt_readings.specs.Faults.{Family, Begins, IsBefore}
use Rattle.pt_grammar.specs.Reading.{Fault, at, Reading, ◌>>=◌, taken, token_at, seen, one_at, opened, open_at, with_front, deeper}
use Rattle.pt_readings.proofs.Outcomes.{AllReal, NoEnd, no_end_join, Stops, never, stops_never, Some_of, Found, Failed, Outcome, Form, real_rest, Seq, seq, seq_form}

-- a token with which a text that was cut off is ended
abbrev pub made : Kind → Token
made which = record { at = record { line = 0; column = 0 }; kind = which }

pub unreal : (which : Kind) → IsReal (made which) → ⊥
unreal which real = omega (arith, real)

pub none_before : (earlier : Sort) → IsBefore earlier sort.Syntax → ⊥
none_before sort.Syntax h = h
none_before sort.TooDeep h = h
none_before sort.OutOfRange h = h

-- forms that stand one behind the other, where the first goes on with nothing
pub then_form : {A V : Type 0} (C : Type 0) (P : Family A) (Q : A → Family V) (off : Kind → Bool) (r : List Token → Reading A) (g : A → List Token → Reading V)
    → Form C P never r → ((a : A) → Form C (Q a) off (g a)) → Form C (Seq P Q) off (λ tokens. r tokens >>= λ x. g x.0 x.1)
then_form C P Q off r g f k = seq_form P Q never off (λ s a v ts z h stop. stops_never (ts ++ z)) (λ a. (k a).some) C r g f k

-- the same family in other words
pub outcome_same : {A : Type 0} (P R : Family A) (on : Kind → Bool) (tokens : List Token) (r : Reading A)
    → ((s : Sort) (a : A) (ts : List Token) → P s a ts → R s a ts) → ((s : Sort) (a : A) (ts : List Token) → R s a ts → P s a ts)
    → Outcome P on tokens r → Outcome R on tokens r
outcome_same P R on tokens (Ok found) to from h = record {
  front = h.front;
  spelled = λ s. to s found.0 h.front (h.spelled s);
  parts = h.parts;
  clean = h.clean;
  only = λ s other its z t after more is spelled stop same. h.only s other its z t after more is (from s other its spelled) stop same;
}
outcome_same P R on tokens (Err fault) to from h = record {
  front = h.front;
  parts = h.parts;
  clean = h.clean;
  begun = (h.begun.0, h.begun.1, λ s. to s h.begun.0 _ (h.begun.2 s));
  reached = λ t after is earlier before. let b = h.reached t after is earlier before in (b.0, b.1, to earlier b.0 _ b.2);
  broken = λ t after is s late other its z more spelled stop same. h.broken t after is s late other its z more (from s other its spelled) stop same;
}

pub form_same : {A : Type 0} (C : Type 0) (P R : Family A) (on : Kind → Bool) (r : List Token → Reading A)
    → ((s : Sort) (a : A) (ts : List Token) → P s a ts → R s a ts) → ((s : Sort) (a : A) (ts : List Token) → R s a ts → P s a ts)
    → Form C P on r → Form C R on r
form_same C P R on r to from f = record {
  some = (f.some.0, f.some.1, λ s. to s f.some.0 f.some.1 (f.some.2 s), f.some.3);
  meets = λ c tokens real. outcome_same P R on tokens (r tokens) to from (f.meets c tokens real);
}

-- the same reader in other words
pub form_read : {A : Type 0} (C : Type 0) (P : Family A) (on : Kind → Bool) (r q : List Token → Reading A) → ((tokens : List Token) → r tokens ≡ q tokens) → Form C P on r → Form C P on q
form_read C P on r q same f = record { some = f.some; meets = λ c tokens real. subst (Outcome P on tokens) (same tokens) (f.meets c tokens real) }

-- a row to the token that closes it, kept with what stands before it
abbrev pub closed_at : {X V : Type 0} → (Kind → Bool) → (List X → V) → Reading (List X) → Reading V
closed_at is h r = r >>= λ x. one_at is x.1 >>= λ y. Ok (h x.0, y.1)

pub fronted : {X V : Type 0} (front : List X) (is : Kind → Bool) (h : List X → V) (r : Reading (List X)) → closed_at is (λ x. h (front ++ x)) r ≡ closed_at is h (with_front front r)
fronted front is h (Ok x) = refl
fronted front is h (Err fault) = refl

-- a tree that is made of what was read
abbrev pub Made : {A V : Type 0} → (A → V) → Family A → Family V
Made {A} h P s v ts = (a : A) × (v ≡ h a) × P s a ts

pub mapped : {A V : Type 0} (P : Family A) (on : Kind → Bool) (h : A → V) (tokens : List Token) (r : Reading A) → Outcome P on tokens r
    → Outcome (Made h P) on tokens (r >>= λ x. Ok (h x.0, x.1))
mapped P on h tokens (Ok found) k = record {
  front = k.front;
  spelled = λ s. (found.0, refl, k.spelled s);
  parts = k.parts;
  clean = k.clean;
  only = λ s other its z t after more is spelled stop same.
      let one = k.only s spelled.0 its z t after more is spelled.2 stop same in
      (spelled.1 ∙ ap h one.0, one.1);
}
mapped P on h tokens (Err fault) k = record {
  front = k.front;
  parts = k.parts;
  clean = k.clean;
  begun = (h k.begun.0, k.begun.1, λ s. (k.begun.0, refl, k.begun.2 s));
  reached = λ t after is earlier before. let b = k.reached t after is earlier before in (h b.0, b.1, (b.0, refl, b.2));
  broken = λ t after is s late other its z more spelled stop same. k.broken t after is s late spelled.0 its z more spelled.2 stop same;
}

pub made_form : {A V : Type 0} (C : Type 0) (P : Family A) (on : Kind → Bool) (h : A → V) (r : List Token → Reading A) → Form C P on r → Form C (Made h P) on (λ tokens. r tokens >>= λ x. Ok (h x.0, x.1))
made_form C P on h r f = record {
  some = (h f.some.0, f.some.1, λ s. (f.some.0, refl, f.some.2 s), f.some.3);
  meets = λ c tokens real. mapped P on h tokens (r tokens) (f.meets c tokens real);
}

-- fewer tokens may follow
weaker : {A : Type 0} (P : Family A) (on off : Kind → Bool) → ((k : Kind) → off k ≡ false → on k ≡ false) → (tokens : List Token) (r : Reading A) → Outcome P on tokens r → Outcome P off tokens r
weaker P on off fewer tokens (Ok found) h = record {
  front = h.front;
  spelled = h.spelled;
  parts = h.parts;
  clean = h.clean;
  only = λ s other its z t after others is spelled stop same. h.only s other its z t after others is spelled (stops z stop) same;
} where
  stops : (z : List Token) → Stops off z → Stops on z
  stops [] stop = tt
  stops (t ∷ ts) stop = fewer t.kind stop
weaker P on off fewer tokens (Err fault) h = record {
  front = h.front;
  parts = h.parts;
  clean = h.clean;
  begun = h.begun;
  reached = h.reached;
  broken = λ t after is s late other its z others spelled stop same. h.broken t after is s late other its z others spelled (stops z stop) same;
} where
  stops : (z : List Token) → Stops off z → Stops on z
  stops [] stop = tt
  stops (t ∷ ts) stop = fewer t.kind stop

pub weaker_form : {A : Type 0} (C : Type 0) (P : Family A) (on off : Kind → Bool) (r : List Token → Reading A) → ((k : Kind) → off k ≡ false → on k ≡ false) → Form C P on r → Form C P off r
weaker_form C P on off r fewer f = record {
  some = f.some;
  meets = λ c tokens real. weaker P on off fewer tokens (r tokens) (f.meets c tokens real);
}

-- nothing more is read
abbrev pub Nothing : {V : Type 0} → V → Family V
Nothing v s w ts = (w ≡ v) × (ts ≡ [])

pub returned : {V : Type 0} (on : Kind → Bool) (v : V) (tokens : List Token) → Outcome (Nothing v) on tokens (Ok (v, tokens))
returned on v tokens = record {
  front = [];
  spelled = λ s. (refl, refl);
  parts = refl;
  clean = tt;
  only = λ s other its z t after more is spelled stop same. (spelled.0, ap (λ ts. ts ++ z) (sym spelled.1) ∙ same);
}

pub nothing_form : {V : Type 0} (C : Type 0) (on : Kind → Bool) (v : V) → Form C (Nothing v) on (λ tokens. Ok (v, tokens))
nothing_form C on v = record { some = (v, [], λ s. (refl, refl), λ h. h); meets = λ c tokens real. returned on v tokens }

-- behind a first token that is known
module _ {V : Type 0} (Q R : Family V) (on : Kind → Bool) (t : Token) (clean : is_last t.kind ≡ false)
    (out : (s : Sort) (v : V) (x : List Token) → R s v (t ∷ x) → Q s v x)
    (put : (s : Sort) (v : V) (x : List Token) → Q s v x → R s v (t ∷ x))
    (empty : (s : Sort) (v : V) → R s v [] → ⊥) where
  pub behind : (rest : List Token) (r : Reading V) → Outcome Q on rest r → Outcome R on (t ∷ rest) r
  behind rest (Ok found) h = record {
    front = t ∷ h.front;
    spelled = λ s. put s found.0 h.front (h.spelled s);
    parts = ap (λ ts. t ∷ ts) h.parts;
    clean = (clean, h.clean);
    only = λ s other its z u after more is spelled stop same. cases s other its z u after more is spelled stop same;
  } where
    cases : (s : Sort) (other : V) (its z : List Token) (u : Token) (after more : List Token) → found.1 ≡ u ∷ after → R s other its → Stops on z
        → its ++ z ≡ t ∷ (h.front ++ u ∷ more) → (other ≡ found.0) × (z ≡ u ∷ more)
    cases s other [] z u after more is spelled stop same = absurd (empty s other spelled)
    cases s other (b ∷ bs) z u after more is spelled stop same =
        let first : b ≡ t = cc in
        let behind : bs ++ z ≡ h.front ++ u ∷ more = cc in
        h.only s other bs z u after more is (out s other bs (subst (λ (c : Token). R s other (c ∷ bs)) first spelled)) stop behind
  behind rest (Err fault) h = record {
    front = t ∷ h.front;
    parts = ap (λ ts. t ∷ ts) h.parts;
    clean = (clean, h.clean);
    begun = (h.begun.0, h.begun.1, λ s. put s h.begun.0 _ (h.begun.2 s));
    reached = λ u after is earlier before. let b = h.reached u after is earlier before in (b.0, b.1, put earlier b.0 _ b.2);
    broken = λ u after is s late other its z more spelled stop same. cases u after is s late other its z more spelled stop same;
  } where
    cases : (u : Token) (after : List Token) → fault.rest ≡ u ∷ after → (s : Sort) → (IsBefore s fault.sort → ⊥) → (other : V) (its z more : List Token) → R s other its → Stops on z
        → its ++ z ≡ t ∷ (h.front ++ u ∷ more) → ⊥
    cases u after is s late other [] z more spelled stop same = empty s other spelled
    cases u after is s late other (b ∷ bs) z more spelled stop same =
        let first : b ≡ t = cc in
        let behind : bs ++ z ≡ h.front ++ u ∷ more = cc in
        h.broken u after is s late other bs z more (out s other bs (subst (λ (c : Token). R s other (c ∷ bs)) first spelled)) stop behind

-- the fault is at the first token
module _ {V : Type 0} (R : Family V) (on : Kind → Bool) (t : Token) (rest : List Token) (which : Sort) (some : Some_of R)
    (early : (earlier : Sort) → IsBefore earlier which → Begins (R earlier) (t ∷ []))
    (empty : (s : Sort) (v : V) → R s v [] → ⊥)
    (refused : (s : Sort) → (IsBefore s which → ⊥) → (v : V) (x : List Token) → R s v (t ∷ x) → ⊥) where
  pub here : Outcome R on (t ∷ rest) (Err (at which (t ∷ rest)))
  here = record {
    front = [];
    parts = refl;
    clean = tt;
    begun = (some.0, some.1, some.2);
    reached = λ u after is earlier before. let same : t ≡ u = cc in subst (λ (c : Token). Begins (R earlier) (c ∷ [])) same (early earlier before);
    broken = λ u after is s late other its z more spelled stop same. cases u after is s late other its z more spelled same;
  } where
    cases : (u : Token) (after : List Token) → t ∷ rest ≡ u ∷ after → (s : Sort) → (IsBefore s which → ⊥) → (other : V) (its z more : List Token) → R s other its → its ++ z ≡ u ∷ more → ⊥
    cases u after is s late other [] z more spelled same = empty s other spelled
    cases u after is s late other (b ∷ bs) z more spelled same = let first : b ≡ t = cc in refused s late other bs (subst (λ (c : Token). R s other (c ∷ bs)) first spelled)

pub syntax_here : {V : Type 0} (R : Family V) (on : Kind → Bool) (t : Token) (rest : List Token) → Some_of R → ((s : Sort) (v : V) → R s v [] → ⊥)
    → ((s : Sort) (v : V) (x : List Token) → R s v (t ∷ x) → ⊥) → Outcome R on (t ∷ rest) (Err (at sort.Syntax (t ∷ rest)))
syntax_here R on t rest some empty refused = here R on t rest sort.Syntax some (λ earlier before. absurd (none_before earlier before)) empty (λ s late v x h. refused s v x h)

-- the tokens are at their end
pub ended : {V : Type 0} (R : Family V) (on : Kind → Bool) → Some_of R → Outcome R on [] (Err (at sort.Syntax []))
ended R on some = record {
  front = [];
  parts = refl;
  clean = tt;
  begun = (some.0, some.1, some.2);
  reached = λ u after is earlier before. absurd cc;
  broken = λ u after is s late other its z more spelled stop same. absurd cc;
}

-- a form of one token
pub record Token_law {A : Type 0} (P : Family A) (view : Place → Kind → Result A Sort) : Type 0 where
  pub single : (s : Sort) (a : A) (t : Token) (x : List Token) → P s a (t ∷ x) → x ≡ []
  pub empty : (s : Sort) (a : A) → P s a [] → ⊥
  pub good : (t : Token) (a : A) → view t.at t.kind ≡ Ok a → (s : Sort) → P s a (t ∷ [])
  pub clean : (t : Token) (a : A) → view t.at t.kind ≡ Ok a → is_last t.kind ≡ false
  pub same : (t : Token) (a : A) → view t.at t.kind ≡ Ok a → (s : Sort) (b : A) → P s b (t ∷ []) → b ≡ a
  pub early : (t : Token) (which : Sort) → view t.at t.kind ≡ Err which → (s : Sort) → IsBefore s which → Begins (P s) (t ∷ [])
  pub broken : (t : Token) (which : Sort) → view t.at t.kind ≡ Err which → IsReal t → (s : Sort) → (IsBefore s which → ⊥) → (b : A) → P s b (t ∷ []) → ⊥

pub token_form : {A : Type 0} (C : Type 0) (P : Family A) (on : Kind → Bool) (view : Place → Kind → Result A Sort) → Some_of P → Token_law P view → Form C P on (token_at view)
token_form {A} C P on view some law = record { some = some; meets = λ c tokens real. meets tokens real } where
  meets : (tokens : List Token) → AllReal tokens → Outcome P on tokens (token_at view tokens)
  meets [] real = ended P on some
  meets (t ∷ rest) real = cases (view t.at t.kind) refl where
    cases : (r : Result A Sort) → view t.at t.kind ≡ r → Outcome P on (t ∷ rest) (taken r (t ∷ rest) rest)
    cases (Ok a) e =
        behind (Nothing a) P on t (law.clean t a e) (λ s v x h. let nil = law.single s v t x h in (law.same t a e s v (subst (λ y. P s v (t ∷ y)) nil h), nil))
        (λ s v x h. subst (λ y. P s v (t ∷ y)) (sym h.1) (subst (λ w. P s w (t ∷ [])) (sym h.0) (law.good t a e s))) law.empty rest (Ok (a, rest)) (returned on a rest)
    cases (Err which) e =
        here P on t rest which some (law.early t which e) law.empty (λ s late v x h. law.broken t which e real.0 s late v (subst (λ y. P s v (t ∷ y)) (law.single s v t x h) h))

-- a test of kinds that just one kind passes
pub record Tests (is : Kind → Bool) (which : Kind) : Type 0 where
  pub passes : is which ≡ true
  pub only : (other : Kind) → is other ≡ true → other ≡ which

abbrev pub Ones : Kind → Family (Unit {0})
Ones which s u = One which

pub one_head : (is : Kind) (t : Token) (x : List Token) → One is (t ∷ x) → (t.kind ≡ is) × (x ≡ [])
one_head is t x (u, passes, only) = let same : u ≡ t = cc in (subst (λ (v : Token). v.kind ≡ is) same passes, cc)

pub one_some : (is : Kind) → One is [] → ⊥
one_some is (u, passes, only) = cc

seen_yes : (is : Kind → Bool) (k : Kind) (b : Bool) → is k ≡ b → (u : Unit {0}) → cond {A = Result (Unit {0}) Sort} b (Ok tt) (Err sort.Syntax) ≡ Ok u → is k ≡ true
seen_yes is k true e u h = e
seen_yes is k false e u h = absurd cc

seen_no : (is : Kind → Bool) (k : Kind) (b : Bool) → is k ≡ b → (which : Sort) → cond {A = Result (Unit {0}) Sort} b (Ok tt) (Err sort.Syntax) ≡ Err which → (is k ≡ false) × (which ≡ sort.Syntax)
seen_no is k true e which h = absurd cc
seen_no is k false e which h = (e, cc)

pub one_form : (C : Type 0) (is : Kind → Bool) (which : Kind) → Tests is which → is_last which ≡ false → (on : Kind → Bool) → Form C (Ones which) on (one_at is)
one_form C is which tests inside on = token_form C (Ones which) on (seen is) (tt, made which ∷ [], λ s. (made which, refl, refl), λ real. unreal which real) (record {
  single = λ s a t x h. (one_head which t x h).1;
  empty = λ s a h. one_some which h;
  good = λ t a e s. (t, tests.only t.kind (seen_yes is t.kind (is t.kind) refl a e), refl);
  clean = λ t a e. ap is_last (tests.only t.kind (seen_yes is t.kind (is t.kind) refl a e)) ∙ inside;
  same = λ t a e s b h. refl;
  early = λ t w e s before. absurd (none_before s (subst (λ v. IsBefore s v) (seen_no is t.kind (is t.kind) refl w e).1 before));
  broken = λ t w e real s late b h.
      let both : true ≡ false = sym (ap is (one_head which t [] h).0 ∙ tests.passes) ∙ (seen_no is t.kind (is t.kind) refl w e).0 in cc;
})

-- an opening bracket

abbrev pub Openings : ℕ → Kind → Family (Unit {0})
Openings left which s u = Opens s left which

abbrev answer : Bool → Bool → Result (Unit {0}) Sort
answer b c = cond b (cond {A = Result (Unit {0}) Sort} c (Err sort.TooDeep) (Ok tt)) (Err sort.Syntax)

opened_yes : (b c : Bool) (u : Unit {0}) → answer b c ≡ Ok u → (b ≡ true) × (c ≡ false)
opened_yes true true u e = absurd cc
opened_yes true false u e = (refl, refl)
opened_yes false c u e = absurd cc

opened_no : (b c : Bool) (which : Sort) → answer b c ≡ Err which → ((b ≡ false) × (which ≡ sort.Syntax)) ⊎ ((b ≡ true) × (c ≡ true) × (which ≡ sort.TooDeep))
opened_no true true which e = inr (refl, refl, cc)
opened_no true false which e = absurd cc
opened_no false c which e = inl (refl, cc)

pub open_one : (s : Sort) (left : ℕ) (k : Kind) (t : Token) (x : List Token) → Opens s left k (t ∷ x) → (t.kind ≡ k) × (x ≡ []) × (MindsNesting s → IsReal t → 0 < left)
open_one s left k t x (u, passes, only, room) =
    let same : u ≡ t = cc in
    (subst (λ (v : Token). v.kind ≡ k) same passes, cc, subst (λ v. MindsNesting s → IsReal v → 0 < left) same room)

pub some_left : (left : ℕ) → (left == 0) ≡ false → 0 < left
some_left left e = elim (cases_lt 0 left) [ inl lt ↦ lt | inr le ↦ absurd (not_none (omega arith)) ] where
  not_none : left ≡ 0 → ⊥
  not_none none = let both : true ≡ false = sym (ap (λ n. n == 0) none) ∙ e in cc

deep : (s : Sort) → (IsBefore s sort.TooDeep → ⊥) → MindsNesting s
deep sort.Syntax late = absurd (late tt)
deep sort.TooDeep late = tt
deep sort.OutOfRange late = tt

shallow : (s : Sort) → IsBefore s sort.TooDeep → MindsNesting s → ⊥
shallow sort.Syntax before minds = minds
shallow sort.TooDeep before minds = before
shallow sort.OutOfRange before minds = before

module _ (C : Type 0) (is : Kind → Bool) (k : Kind) (tests : Tests is k) (inside : is_last k ≡ false) (left : ℕ) where
  pub open_form : (on : Kind → Bool) → Form C (Openings left k) on (open_at is left)
  open_form on = token_form C (Openings left k) on (opened is left) (tt, made k ∷ [], λ s. (made k, refl, refl, λ minds real. absurd (unreal k real)), λ real. unreal k real) (record {
    single = λ s a t x h. (open_one s left k t x h).1;
    empty = λ s a h. let only = h.2 in cc;
    good = λ t a e s. let yes = opened_yes (is t.kind) (left == 0) a e in (t, tests.only t.kind yes.0, refl, λ minds real. some_left left yes.1);
    clean = λ t a e. ap is_last (tests.only t.kind (opened_yes (is t.kind) (left == 0) a e).0) ∙ inside;
    same = λ t a e s b h. refl;
    early = λ t w e s before. elim (opened_no (is t.kind) (left == 0) w e) [
      | inl other ↦ absurd (none_before s (subst (λ v. IsBefore s v) other.1 before))
      | inr full ↦ (tt, [], (t, tests.only t.kind full.0, refl, λ minds real. absurd (shallow s (subst (λ v. IsBefore s v) full.2 before) minds)))
    ];
    broken = λ t w e real s late b h. elim (opened_no (is t.kind) (left == 0) w e) [
      | inl other ↦ (let both : true ≡ false = sym (ap is (open_one s left k t [] h).0 ∙ tests.passes) ∙ other.0 in cc)
      | inr full ↦ (let room = (open_one s left k t [] h).2 (deep s (λ before. late (subst (λ v. IsBefore s v) (sym full.2) before))) real in let none = eqb-true left 0 full.1 in omega (arith, room, none))
    ];
  })

  -- what stands inside an opening bracket
  pub within_form : {V : Type 0} (Q : Family V) (off : Kind → Bool) (g : List Token → Reading V) → Form (0 < left) Q off g
      → Form C (Seq (Openings left k) (λ u. Q)) off (λ tokens. open_at is left tokens >>= λ x. g x.1)
  within_form {V} Q off g f = record {
    some = (f.some.0, made k ∷ f.some.1, λ s. (tt, (made k ∷ [], f.some.1, (made k, refl, refl, λ minds real. absurd (unreal k real)), f.some.2 s, refl)), λ real. unreal k real);
    meets = λ c tokens real.
        seq (Openings left k) (λ u. Q) never off (λ s a v ts z h stop. stops_never (ts ++ z)) (λ u. f.some) tokens (open_at is left tokens) (λ u rest. g rest)
        ((open_form never).meets c tokens real)
        (λ u rest h. f.meets (leaves tokens rest h real) rest (real_rest (Openings left k) never tokens u rest h real));
  } where
    leaves : (tokens rest : List Token) → Found (Openings left k) never tokens tt rest → AllReal tokens → 0 < left
    leaves tokens rest h real = cases (h.spelled sort.OutOfRange) where
      cases : Opens sort.OutOfRange left k h.front → 0 < left
      cases (u, passes, only, room) = room tt (let all : AllReal (u ∷ rest) = subst AllReal (h.parts ∙ ap (λ ts. ts ++ rest) only) real in all.0)

-- a first token that opens a level
module _ {V : Type 0} (Q R : Family V) (on : Kind → Bool) (left : ℕ) (t : Token) (rest : List Token) (g : List Token → Reading V) (real : AllReal (t ∷ rest)) (clean : is_last t.kind ≡ false)
    (out : (s : Sort) (v : V) (x : List Token) → R s v (t ∷ x) → (MindsNesting s → IsReal t → 0 < left) × Q s v x)
    (put : (s : Sort) (v : V) (x : List Token) → (MindsNesting s → IsReal t → 0 < left) → Q s v x → R s v (t ∷ x))
    (empty : (s : Sort) (v : V) → R s v [] → ⊥) (some : Some_of R) (f : Form (0 < left) Q on g) where
  pub deeper_outcome : Outcome R on (t ∷ rest) (deeper left (t ∷ rest) (g rest))
  deeper_outcome = test (left == 0) refl where
    test : (b : Bool) → (left == 0) ≡ b → Outcome R on (t ∷ rest) (cond {A = Reading V} b (Err (at sort.TooDeep (t ∷ rest))) (g rest))
    test true e =
        here R on t rest sort.TooDeep some (λ earlier before. (f.some.0, f.some.1, put earlier f.some.0 f.some.1 (λ minds is. absurd (shallow earlier before minds)) (f.some.2 earlier))) empty
        (λ s late v x h. let room = (out s v x h).0 (deep s late) real.0 in let none = eqb-true left 0 e in omega (arith, room, none))
    test false e =
        let lt = some_left left e in
        behind Q R on t clean (λ s v x h. (out s v x h).1) (λ s v x h. put s v x (λ minds is. lt) h) empty rest (g rest) (f.meets lt rest real.1)

-- a family, where the first token is known

first_same : (front : List Token) (t u : Token) (rest after others : List Token) → t ∷ rest ≡ front ++ u ∷ after → (m : List Token) × (front ++ u ∷ others ≡ t ∷ m)
first_same [] t u rest after others e = let same : u ≡ t = cc in (others, ap (λ v. v ∷ others) same)
first_same (b ∷ bs) t u rest after others e = let same : b ≡ t = cc in (bs ++ u ∷ others, ap (λ v. v ∷ (bs ++ u ∷ others)) same)

module _ {V : Type 0} (P R : Family V) (on : Kind → Bool) (t : Token)
    (to : (s : Sort) (v : V) (x : List Token) → P s v (t ∷ x) → R s v (t ∷ x))
    (from : (s : Sort) (v : V) (x : List Token) → R s v (t ∷ x) → P s v (t ∷ x))
    (empty_P : (s : Sort) (v : V) → P s v [] → ⊥) (empty_R : (s : Sort) (v : V) → R s v [] → on t.kind ≡ false → ⊥) (some : Some_of R) where
  -- what begins with the first token
  first_from : (s : Sort) (v : V) (its z m : List Token) → R s v its → Stops on z → its ++ z ≡ t ∷ m → P s v its
  first_from s v [] z m h stop e = absurd (empty_R s v h (subst (Stops on) e stop))
  first_from s v (b ∷ bs) z m h stop e =
      let same : b ≡ t = cc in
      subst (λ (c : Token). P s v (c ∷ bs)) (sym same) (from s v bs (subst (λ (c : Token). R s v (c ∷ bs)) same h))

  first_to : (s : Sort) (v : V) (its z m : List Token) → P s v its → its ++ z ≡ t ∷ m → R s v its
  first_to s v [] z m h e = absurd (empty_P s v h)
  first_to s v (b ∷ bs) z m h e =
      let same : b ≡ t = cc in
      subst (λ (c : Token). R s v (c ∷ bs)) (sym same) (to s v bs (subst (λ (c : Token). P s v (c ∷ bs)) same h))

  pub known_first : (rest : List Token) (r : Reading V) → Outcome P on (t ∷ rest) r → Outcome R on (t ∷ rest) r
  known_first rest (Ok found) h = record {
    front = h.front;
    spelled = λ s. first_to s found.0 h.front found.1 rest (h.spelled s) (sym h.parts);
    parts = h.parts;
    clean = h.clean;
    only = λ s other its z u after others is spelled stop same.
        let first = first_same h.front t u rest after others (h.parts ∙ ap (λ ts. h.front ++ ts) is) in
        h.only s other its z u after others is (first_from s other its z first.0 spelled stop (same ∙ first.1)) stop same;
  }
  known_first rest (Err fault) h = record {
    front = h.front;
    parts = h.parts;
    clean = h.clean;
    begun = begun h.front h.parts h.begun;
    reached = λ u after is earlier before.
        let b = h.reached u after is earlier before in
        let first = first_same h.front t u rest after b.1 (h.parts ∙ ap (λ ts. h.front ++ ts) is) in
        (b.0, b.1, first_to earlier b.0 ((h.front ++ u ∷ []) ++ b.1) [] first.0 b.2 (append-nil ((h.front ++ u ∷ []) ++ b.1) ∙ append_assoc h.front (u ∷ []) b.1 ∙ first.1));
    broken = λ u after is s late other its z others spelled stop same.
        let first = first_same h.front t u rest after others (h.parts ∙ ap (λ ts. h.front ++ ts) is) in
        h.broken u after is s late other its z others (first_from s other its z first.0 spelled stop (same ∙ first.1)) stop same;
  } where
    begun : (front : List Token) → t ∷ rest ≡ front ++ fault.rest → ((a : V) × (more : List Token) × ((s : Sort) → P s a (front ++ more))) → (a : V) × (more : List Token) × ((s : Sort) → R s a (front ++ more))
    begun [] e b = (some.0, some.1, some.2)
    begun (c ∷ cs) e b =
        let same : c ≡ t = cc in
        (b.0, b.1, λ s. first_to s b.0 ((c ∷ cs) ++ b.1) [] (cs ++ b.1) (b.2 s) (append-nil ((c ∷ cs) ++ b.1) ∙ ap (λ v. v ∷ (cs ++ b.1)) same))

-- where there are no tokens, a form that begins with one is not read
pub none_read : {V : Type 0} (P R : Family V) (on : Kind → Bool) → Some_of R → ((s : Sort) (v : V) → P s v [] → ⊥) → (r : Reading V) → Outcome P on [] r → Outcome R on [] r
none_read P R on some empty (Ok found) h = absurd (no_front h.front (h.spelled sort.OutOfRange) h.parts) where
  no_front : (front : List Token) → P sort.OutOfRange found.0 front → [] ≡ front ++ found.1 → ⊥
  no_front [] p e = empty sort.OutOfRange found.0 p
  no_front (u ∷ us) p e = cc
none_read P R on some empty (Err fault) h = record {
  front = [];
  parts = nil h.front fault.rest h.parts;
  clean = tt;
  begun = (some.0, some.1, some.2);
  reached = λ t after is earlier before. absurd (let clash : [] ≡ t ∷ after = nil h.front fault.rest h.parts ∙ is in cc);
  broken = λ t after is s late other its z more spelled stop same. (let clash : [] ≡ t ∷ after = nil h.front fault.rest h.parts ∙ is in cc);
} where
  nil : (front rest : List Token) → [] ≡ front ++ rest → [] ≡ rest
  nil [] rest e = e
  nil (u ∷ us) rest e = absurd cc

-- a form behind a token, before a token, and before the last token

abbrev pub After : {A : Type 0} → Kind → Family A → Family A
After which P s a = One which ⨾ P s a

abbrev pub Closed : {A V : Type 0} → Kind → (A → V) → Family A → Family V
Closed {A} which h P s v ts = (a : A) × (v ≡ h a) × (P s a ⨾ One which) ts

module _ (C : Type 0) (is : Kind → Bool) (which : Kind) (tests : Tests is which) (inside : is_last which ≡ false) where
  pub after_form : {A : Type 0} (P : Family A) (on : Kind → Bool) (r : List Token → Reading A) → Form C P on r → Form C (After which P) on (λ tokens. one_at is tokens >>= λ x. r x.1)
  after_form P on r f =
      form_same C (Seq (Ones which) (λ u. P)) (After which P) on (λ tokens. one_at is tokens >>= λ x. r x.1) (λ s a ts h. h.1) (λ s a ts h. (tt, h))
      (then_form C (Ones which) (λ u. P) on (one_at is) (λ u. r) (one_form C is which tests inside never) (λ u. f))

  pub marked_form : {A V : Type 0} (P : Family A) (Q : A → Family V) (on off : Kind → Bool) (r : List Token → Reading A) (g : A → List Token → Reading V) → on which ≡ false
      → Form C P on r → ((a : A) → Form C (Q a) off (g a)) → Form C (Seq P (λ a. After which (Q a))) off (λ tokens. r tokens >>= λ x. one_at is x.1 >>= λ y. g x.0 y.1)
  marked_form {A} {V} P Q on off r g stop f k =
      seq_form P (λ a. After which (Q a)) on off (λ s a v ts z h u. stops s a v ts z h) (λ a. (after_form (Q a) off (g a) (k a)).some) C r (λ a rest. one_at is rest >>= λ y. g a y.1) f
      (λ a. after_form (Q a) off (g a) (k a)) where
        stops : (s : Sort) (a : A) (v : V) (ts z : List Token) → After which (Q a) s v ts → Stops on (ts ++ z)
        stops s a v ts z (x, y, (u, same, only), q, e) = subst (λ w. Stops on (w ++ z)) (sym (e ∙ ap (λ w. w ++ y) only)) (ap on same ∙ stop)

  pub closed_form : {A V : Type 0} (P : Family A) (on off : Kind → Bool) (h : A → V) (r : List Token → Reading A) → on which ≡ false
      → Form C P on r → Form C (Closed which h P) off (λ tokens. r tokens >>= λ x. one_at is x.1 >>= λ y. Ok (h x.0, y.1))
  closed_form {A} {V} P on off h r stop f =
      form_same C (Seq P (λ a. After which (Nothing (h a)))) (Closed which h P) off (λ tokens. r tokens >>= λ x. one_at is x.1 >>= λ y. Ok (h x.0, y.1))
      (λ s v ts k. to s v ts k) (λ s v ts k. from s v ts k)
      (marked_form P (λ a. Nothing (h a)) on off r (λ a tokens. Ok (h a, tokens)) stop f (λ a. nothing_form C off (h a))) where
        to : (s : Sort) (v : V) (ts : List Token) → Seq P (λ a. After which (Nothing (h a))) s v ts → Closed which h P s v ts
        to s v ts (a, (x, y, p, (x', y', one, (same, nil), e'), e)) = (a, same, (x, y, p, subst (One which) (sym (e' ∙ ap (λ w. x' ++ w) nil ∙ append-nil x')) one, e))

        from : (s : Sort) (v : V) (ts : List Token) → Closed which h P s v ts → Seq P (λ a. After which (Nothing (h a))) s v ts
        from s v ts (a, same, (x, y, p, one, e)) = (a, (x, y, p, (y, [], one, (same, refl), sym (append-nil y)), e))

-- the first token of a form, and what stands behind it

pub one_then : (k : Kind) (Q : List Token → Type 0) (t : Token) (x : List Token) → (One k ⨾ Q) (t ∷ x) → (t.kind ≡ k) × Q x
one_then k Q t x (front, rest, (u, passes, only), q, e) =
    let cells : t ∷ x ≡ u ∷ rest = e ∙ ap (λ ts. ts ++ rest) only in
    let same : u ≡ t = cc in
    let behind : rest ≡ x = cc in
    (subst (λ (v : Token). v.kind ≡ k) same passes, subst Q behind q)

pub one_first : (k : Kind) (Q : List Token → Type 0) (t : Token) (x : List Token) → t.kind ≡ k → Q x → (One k ⨾ Q) (t ∷ x)
one_first k Q t x passes q = (t ∷ [], x, (t, passes, refl), q, refl)

pub then_some : (k : Kind) (Q : List Token → Type 0) → (One k ⨾ Q) [] → ⊥
then_some k Q (front, rest, (u, passes, only), q, e) = let cells : [] ≡ u ∷ rest = e ∙ ap (λ ts. ts ++ rest) only in cc

pub at_head : (k : Kind) (at : Place) (t : Token) (x : List Token) → OneAt k at (t ∷ x) → (t.kind ≡ k) × (t.at ≡ at) × (x ≡ [])
at_head k at t x (u, passes, stands, only) = let same : u ≡ t = cc in (subst (λ (v : Token). v.kind ≡ k) same passes, subst (λ (v : Token). v.at ≡ at) same stands, cc)

pub at_then : (k : Kind) (at : Place) (Q : List Token → Type 0) (t : Token) (x : List Token) → (OneAt k at ⨾ Q) (t ∷ x) → (t.kind ≡ k) × (t.at ≡ at) × Q x
at_then k at Q t x (front, rest, (u, passes, stands, only), q, e) =
    let cells : t ∷ x ≡ u ∷ rest = e ∙ ap (λ ts. ts ++ rest) only in
    let same : u ≡ t = cc in
    let behind : rest ≡ x = cc in
    (subst (λ (v : Token). v.kind ≡ k) same passes, subst (λ (v : Token). v.at ≡ at) same stands, subst Q behind q)

pub at_first : (k : Kind) (Q : List Token → Type 0) (t : Token) (x : List Token) → t.kind ≡ k → Q x → (OneAt k t.at ⨾ Q) (t ∷ x)
at_first k Q t x passes q = (t ∷ [], x, (t, passes, refl, refl), q, refl)

pub at_some : (k : Kind) (at : Place) (Q : List Token → Type 0) → (OneAt k at ⨾ Q) [] → ⊥
at_some k at Q (front, rest, (u, passes, stands, only), q, e) = let cells : [] ≡ u ∷ rest = e ∙ ap (λ ts. ts ++ rest) only in cc

pub nests_then : (s : Sort) (left : ℕ) (k : Kind) (at : Place) (Q : List Token → Type 0) (t : Token) (x : List Token) → (NestsAt s left k at ⨾ Q) (t ∷ x)
    → (t.kind ≡ k) × (t.at ≡ at) × (MindsNesting s → IsReal t → 0 < left) × Q x
nests_then s left k at Q t x (y, z, (u, passes, stands, only, room), q, e) =
    let cells : t ∷ x ≡ u ∷ z = e ∙ ap (λ w. w ++ z) only in
    let same : u ≡ t = cc in
    let rest : z ≡ x = cc in
    (subst (λ (c : Token). c.kind ≡ k) same passes, subst (λ (c : Token). c.at ≡ at) same stands, subst (λ (c : Token). MindsNesting s → IsReal c → 0 < left) same room, subst Q rest q)

pub nests_first : (s : Sort) (left : ℕ) (k : Kind) (Q : List Token → Type 0) (t : Token) (x : List Token) → t.kind ≡ k → (MindsNesting s → IsReal t → 0 < left) → Q x
    → (NestsAt s left k t.at ⨾ Q) (t ∷ x)
nests_first s left k Q t x passes room q = (t ∷ [], x, (t, passes, refl, refl, room), q, refl)

pub nests_some : (s : Sort) (left : ℕ) (k : Kind) (at : Place) (Q : List Token → Type 0) → (NestsAt s left k at ⨾ Q) [] → ⊥
nests_some s left k at Q (x, y, (t, passes, stands, only, room), q, e) = let cells : [] ≡ t ∷ y = e ∙ ap (λ z. z ++ y) only in cc

-- one level deeper
pub lowered : {A : Type 0} (P : ℕ → Family A) (on : Kind → Bool) (r : List Token → Reading A) (left : ℕ) → Form (Unit {0}) (P left) on r → Form (0 < suc left) (P (suc left - 1)) on r
lowered P on r left f = let less : left ≡ suc left - 1 = omega arith in subst (λ n. Form (0 < suc left) (P n) on r) less (record { some = f.some; meets = λ lt. f.meets tt })
