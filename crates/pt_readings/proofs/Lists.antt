-- Forms in a row, forms that may be left out, and forms for which there may be no room.
use Rattle.std.proofs.Common.{◌≡◌, ℕ, zero, suc, ◌-◌, ◌+◌, ◌==◌, ◌<◌, ◌≤◌, Bool, true, false, cond, List, [], ◌∷◌, ◌++◌, length, Result, Ok, Err, Option, Some, None, refl, sym, ap, subst, ◌∙◌, append_assoc, arith, length-append}
use Rattle.std.proofs.lemmas.List.{append-nil}
use Rattle.std.proofs.lemmas.Bool.{eqb-true}
use Rattle.pt_token.specs.declared.token.Token.{Token}
use Rattle.pt_token.specs.declared.token.Kind.{Kind}
use Rattle.pt_grammar.specs.declared.sort.Sort.{Sort}
use Rattle.pt_grammar.specs.declared.sort.Sort.TheVariants as sort
use Rattle.pt_grammar.specs.Forms.{◌⨾◌, Part, Series, MindsAll}
use Rattle.pt_readings.specs.Faults.{Family, Begins, IsBefore}
use Rattle.pt_grammar.specs.Reading.{Fault, at, Reading, ◌>>=◌, goes_on, many_then, many_at, all_at, maybe_then, maybe_at, sort_here, too_many, refused_at, room_at}
use Rattle.pt_readings.proofs.Outcomes.{AllReal, Stops, Some_of, Found, Failed, Outcome, Form, real_rest, Seq, seq}
use Rattle.pt_readings.proofs.Forms.{some_left, outcome_same, Made, mapped, made_form, weaker_form, here, ended, known_first}

-- ---- a part, where there is room for this many

abbrev pub Roomy : {A : Type 0} → ℕ → Family A → Family A
Roomy room P s a = Part s room (P s a)

pub last_sort : (s : Sort) → (IsBefore s sort.OutOfRange → ⊥) → MindsAll s
last_sort sort.Syntax late = absurd (late tt)
last_sort sort.TooDeep late = absurd (late tt)
last_sort sort.OutOfRange late = tt

pub early_sort : (s which : Sort) → IsBefore s which → MindsAll s → ⊥
early_sort sort.Syntax which before minds = minds
early_sort sort.TooDeep which before minds = minds
early_sort sort.OutOfRange which before minds = before

module _ {A : Type 0} (C : Type 0) (P : Family A) (on : Kind → Bool) (item : List Token → Reading A) (f : Form C P on item) (empty : (s : Sort) (a : A) → P s a [] → ⊥) where
  some_room : (room : ℕ) → Some_of (Roomy room P)
  some_room room = (f.some.0, f.some.1, λ s. (f.some.2 s, λ minds stands. absurd (f.some.3 stands)), f.some.3)

  -- the first token of a part too many
  past : (t : Token) (rest : List Token) → AllReal (t ∷ rest) → ((s : Sort) → IsBefore s sort.OutOfRange → Begins (P s) (t ∷ [])) → Outcome (Roomy 0 P) on (t ∷ rest) (Err (at sort.OutOfRange (t ∷ rest)))
  past t rest real begins =
      here (Roomy 0 P) on t rest sort.OutOfRange (some_room 0)
      (λ earlier before. let b = begins earlier before in (b.0, b.1, (b.2, λ minds stands. absurd (early_sort earlier sort.OutOfRange before minds))))
      (λ s v h. empty s v h.0) (λ s late v x h. let room = h.1 (last_sort s late) real.0 in omega (arith, room))

  whole : (t : Token) (front : List Token) → t ∷ [] ≡ front ++ [] → front ≡ t ∷ []
  whole t front e = sym (append-nil front) ∙ sym e

  refused : (c : C) (t : Token) (rest : List Token) → AllReal (t ∷ rest) → Outcome (Roomy 0 P) on (t ∷ rest) (refused_at item (t ∷ rest))
  refused c t rest real = cases (item (t ∷ [])) (f.meets c (t ∷ []) (real.0, tt)) where
    found : (a : A) (rest' : List Token) (h : Found P on (t ∷ []) a rest') (front : List Token) → h.front ≡ front → t ∷ [] ≡ front ++ rest' → (s : Sort) → Begins (P s) (t ∷ [])
    found a rest' h [] is e s = absurd (empty s a (subst (P s a) is (h.spelled s)))
    found a rest' h (b ∷ bs) is e s = let first : b ≡ t = cc in let none : bs ≡ [] = nothing bs rest' cc in (a, [], subst (P s a) (is ∙ ap (λ c. c ∷ bs) first ∙ ap (λ w. t ∷ w) none) (h.spelled s)) where
      nothing : (x y : List Token) → [] ≡ x ++ y → x ≡ []
      nothing [] y e = refl
      nothing (u ∷ us) y e = absurd cc

    failed : (which : Sort) (bad : List Token) → Failed P on (t ∷ []) which bad → Outcome (Roomy 0 P) on (t ∷ rest) (Err (at (sort_here which bad) (t ∷ rest)))
    failed which [] h = past t rest real (λ s before. let same = whole t h.front h.parts in (h.begun.0, h.begun.1, subst (λ w. P s h.begun.0 (w ++ h.begun.1)) same (h.begun.2 s)))
    failed which (b ∷ bs) h = at_first h.front refl h.parts where
      at_first : (front : List Token) → h.front ≡ front → t ∷ [] ≡ front ++ b ∷ bs → Outcome (Roomy 0 P) on (t ∷ rest) (Err (at which (t ∷ rest)))
      at_first [] is e =
          let first : b ≡ t = cc in
          here (Roomy 0 P) on t rest which (some_room 0)
          (λ earlier before. let r = h.reached b bs refl earlier before in
          (r.0, r.1, (subst (λ w. P earlier r.0 (w ++ r.1)) (ap (λ w. w ++ b ∷ []) is ∙ ap (λ c. c ∷ []) first) r.2, λ minds stands. absurd (early_sort earlier which before minds))))
          (λ s v k. empty s v k.0)
          (λ s late v x k. h.broken b bs refl s late v (t ∷ x) [] x k.0 tt (append-nil (t ∷ x) ∙ ap (λ c. c ∷ x) (sym first) ∙ ap (λ w. w ++ b ∷ x) (sym is)))
      at_first (u ∷ []) is e = absurd cc
      at_first (u ∷ w ∷ us) is e = absurd cc

    cases : (r : Reading A) → Outcome P on (t ∷ []) r → Outcome (Roomy 0 P) on (t ∷ rest) (Err (at (too_many r) (t ∷ rest)))
    cases (Ok x) h = past t rest real (λ s before. found x.0 x.1 h h.front refl h.parts s)
    cases (Err fault) h = failed fault.sort fault.rest h

  pub room_form : (room : ℕ) → Form C (Roomy room P) on (room_at item room)
  room_form room = record { some = some_room room; meets = λ c tokens real. test c tokens real (room == 0) refl } where
    test : (c : C) (tokens : List Token) → AllReal tokens → (b : Bool) → (room == 0) ≡ b → Outcome (Roomy room P) on tokens (cond b (refused_at item tokens) (item tokens))
    test c tokens real true e = subst (λ n. Outcome (Roomy n P) on tokens (refused_at item tokens)) (sym (eqb-true room 0 e)) (none tokens real) where
      none : (tokens : List Token) → AllReal tokens → Outcome (Roomy 0 P) on tokens (refused_at item tokens)
      none [] real = ended (Roomy 0 P) on (some_room 0)
      none (t ∷ rest) real = refused c t rest real
    test c tokens real false e = outcome_same P (Roomy room P) on tokens (item tokens) (λ s a ts h. (h, λ minds stands. some_left room e)) (λ s a ts h. h.0) (f.meets c tokens real)

-- ---- forms in a row

abbrev pub Many : {A Given : Type 0} → (Given → Family A) → (Given → A → Given) → Given → Family (List A)
Many P leaves given s list ts = Series (λ g a. P g s a) leaves given list ts

module _ {A Given : Type 0} (C : Type 0) (P : Given → Family A) (begins : Given → Kind → Bool) (leaves : Given → A → Given) (on off : Kind → Bool)
    (part : Given → List Token → Reading A)
    (meets : C → (g : Given) (t : Token) (rest : List Token) → begins g t.kind ≡ true → AllReal (t ∷ rest) → Outcome (P g) on (t ∷ rest) (part g (t ∷ rest)))
    (head : (s : Sort) (g : Given) (a : A) (t : Token) (ts : List Token) → P g s a (t ∷ ts) → begins g t.kind ≡ true)
    (empty : (s : Sort) (g : Given) (a : A) → P g s a [] → ⊥)
    (begins_on : (g : Given) (k : Kind) → begins g k ≡ true → on k ≡ false)
    (off_on : (k : Kind) → off k ≡ false → on k ≡ false)
    (off_begins : (g : Given) (k : Kind) → begins g k ≡ true → off k ≡ false → ⊥) where
  many_head : (s : Sort) (g : Given) (a : A) (others : List A) (t : Token) (ts : List Token) → Many P leaves g s (a ∷ others) (t ∷ ts) → begins g t.kind ≡ true
  many_head s g a others t ts ([], y, p, q, e) = absurd (empty s g a p)
  many_head s g a others t ts (u ∷ us, y, p, q, e) = let same : u ≡ t = cc in subst (λ (c : Token). begins g c.kind ≡ true) same (head s g a u us p)

  many_stops : (s : Sort) (g : Given) (list : List A) (ts z : List Token) → Many P leaves g s list ts → Stops off z → Stops on (ts ++ z)
  many_stops s g [] ts [] h stop = subst (λ w. Stops on (w ++ [])) (sym h) tt
  many_stops s g [] ts (t ∷ z) h stop = subst (λ w. Stops on (w ++ t ∷ z)) (sym h) (off_on t.kind stop)
  many_stops s g (a ∷ others) ts z ([], y, p, q, e) stop = absurd (empty s g a p)
  many_stops s g (a ∷ others) ts z (u ∷ us, y, p, q, e) stop = subst (λ w. Stops on (w ++ z)) (sym e) (begins_on g u.kind (head s g a u us p))

  nothing_more : (g : Given) (tokens : List Token) → goes_on (begins g) tokens ≡ false → Outcome (Many P leaves g) off tokens (Ok ([], tokens))
  nothing_more g [] no_part = record {
    front = [];
    spelled = λ s. refl;
    parts = refl;
    clean = tt;
    only = λ s other its z u after others is spelled stop same. absurd cc;
  }
  nothing_more g (t ∷ rest) no_part = record {
    front = [];
    spelled = λ s. refl;
    parts = refl;
    clean = tt;
    only = λ s other its z u after others is spelled stop same. cases s other its z u after others is spelled same;
  } where
    cases : (s : Sort) (other : List A) (its z : List Token) (u : Token) (after others : List Token) → t ∷ rest ≡ u ∷ after → Many P leaves g s other its → its ++ z ≡ u ∷ others
        → (other ≡ []) × (z ≡ u ∷ others)
    cases s [] its z u after others is spelled same = (refl, ap (λ w. w ++ z) (sym spelled) ∙ same)
    cases s (x ∷ xs) [] z u after others is ([], y, p, q, e) same = absurd (empty s g x p)
    cases s (x ∷ xs) [] z u after others is (v ∷ vs, y, p, q, e) same = absurd cc
    cases s (x ∷ xs) (v ∷ vs) z u after others is spelled same =
        let first : v ≡ t = cc in
        let both : true ≡ false = sym (subst (λ (c : Token). begins g c.kind ≡ true) first (many_head s g x xs v vs spelled)) ∙ no_part in
        absurd cc

  -- a part, and more of them
  abbrev Some_more : Given → Family (List A)
  Some_more g = Seq (P g) (λ a. Made (λ others. a ∷ others) (Many P leaves (leaves g a)))

  some_many : (g : Given) → Some_of (Many P leaves g)
  some_many g = ([], [], λ s. refl, λ h. h)

  many_outcome : (c : C) (turns : ℕ) (g : Given) (tokens : List Token) → length tokens ≤ turns → AllReal tokens → Outcome (Many P leaves g) off tokens (many_at part begins leaves turns g tokens)
  unfolding many_at
  many_outcome c zero g [] short real = nothing_more g [] refl
  many_outcome c zero g (t ∷ rest) short real = absurd (omega (arith, short))
  many_outcome c (suc turns) g [] short real = nothing_more g [] refl
  many_outcome c (suc turns) g (t ∷ rest) short real = test (begins g t.kind) refl (λ g' ts le r. many_outcome c turns g' ts le r) where
    shorter : (a : A) (front ts : List Token) → t ∷ rest ≡ front ++ ts → P g sort.OutOfRange a front → length ts ≤ turns
    shorter a [] ts e p = absurd (empty sort.OutOfRange g a p)
    shorter a (u ∷ us) ts e p = omega (arith, short, ap length e, length-append us ts)

    test : (b : Bool) → begins g t.kind ≡ b → ((g' : Given) (ts : List Token) → length ts ≤ turns → AllReal ts → Outcome (Many P leaves g') off ts (many_at part begins leaves turns g' ts))
        → Outcome (Many P leaves g) off (t ∷ rest) (many_then (part g) (λ a after. many_at part begins leaves turns (leaves g a) after) (t ∷ rest) b)
    test false e below = nothing_more g (t ∷ rest) e
    test true e below =
        known_first (Some_more g) (Many P leaves g) off t (λ s v x h. to s v x h) (λ s v x h. from s v x h) (λ s v h. none_of s v h) (λ s v h stop. off_begins g t.kind e stop) (some_many g) rest _
        (seq (P g) (λ a. Made (λ others. a ∷ others) (Many P leaves (leaves g a))) on off (λ s a v ts z k stop. many_stops s (leaves g a) k.0 ts z k.2 stop)
        (λ a. (a ∷ [], [], λ s. ([], refl, refl), λ h. h))
        (t ∷ rest) (part g (t ∷ rest)) (λ a after. many_at part begins leaves turns (leaves g a) after >>= λ more. Ok (a ∷ more.0, more.1)) (meets c g t rest e real)
        (λ a after h. mapped (Many P leaves (leaves g a)) off (λ others. a ∷ others) after (many_at part begins leaves turns (leaves g a) after)
        (below (leaves g a) after (shorter a h.front after h.parts (h.spelled sort.OutOfRange)) (real_rest (P g) on (t ∷ rest) a after h real)))) where
          to : (s : Sort) (v : List A) (x : List Token) → Some_more g s v (t ∷ x) → Many P leaves g s v (t ∷ x)
          to s v x (a, (y, z, p, (others, same, q), e')) = subst (λ w. Many P leaves g s w (t ∷ x)) (sym same) (y, z, p, q, e')

          from : (s : Sort) (v : List A) (x : List Token) → Many P leaves g s v (t ∷ x) → Some_more g s v (t ∷ x)
          from s [] x h = absurd cc
          from s (a ∷ others) x (y, z, p, q, e') = (a, (y, z, p, (others, refl, q), e'))

          none_of : (s : Sort) (v : List A) → Some_more g s v [] → ⊥
          none_of s v (a, ([], z, p, q, e')) = empty s g a p
          none_of s v (a, (u ∷ us, z, p, q, e')) = absurd cc

  -- where the reader of a part serves where one begins
  pub many_where : (g : Given) → Form C (Many P leaves g) off (all_at part begins leaves g)
  many_where g = record { some = some_many g; meets = λ c tokens real. many_outcome c (length tokens) g tokens (omega arith) real }

module _ {A Given : Type 0} (C : Type 0) (P : Given → Family A) (begins : Given → Kind → Bool) (leaves : Given → A → Given) (on off : Kind → Bool)
    (part : Given → List Token → Reading A) (forms : (g : Given) → Form C (P g) on (part g))
    (head : (s : Sort) (g : Given) (a : A) (t : Token) (ts : List Token) → P g s a (t ∷ ts) → begins g t.kind ≡ true)
    (empty : (s : Sort) (g : Given) (a : A) → P g s a [] → ⊥)
    (begins_on : (g : Given) (k : Kind) → begins g k ≡ true → on k ≡ false)
    (off_on : (k : Kind) → off k ≡ false → on k ≡ false)
    (off_begins : (g : Given) (k : Kind) → begins g k ≡ true → off k ≡ false → ⊥) where
  pub many_form : (g : Given) → Form C (Many P leaves g) off (all_at part begins leaves g)
  many_form g = many_where C P begins leaves on off part (λ c g t rest e real. (forms g).meets c (t ∷ rest) real) head empty begins_on off_on off_begins g

  pub many_stop : (s : Sort) (g : Given) (list : List A) (ts z : List Token) → Many P leaves g s list ts → Stops off z → Stops on (ts ++ z)
  many_stop s g list ts z h stop = many_stops C P begins leaves on off part (λ c g t rest e real. (forms g).meets c (t ∷ rest) real) head empty begins_on off_on off_begins s g list ts z h stop

-- ---- a form that may be left out

abbrev pub Maybe : {A : Type 0} → Family A → Family (Option A)
Maybe P s None ts = ts ≡ []
Maybe P s (Some a) ts = P s a ts

module _ {A : Type 0} (C : Type 0) (P : Family A) (begins : Kind → Bool) (on off : Kind → Bool) (part : List Token → Reading A) (f : Form C P on part)
    (head : (s : Sort) (a : A) (t : Token) (ts : List Token) → P s a (t ∷ ts) → begins t.kind ≡ true)
    (empty : (s : Sort) (a : A) → P s a [] → ⊥)
    (off_on : (k : Kind) → off k ≡ false → on k ≡ false)
    (off_begins : (k : Kind) → begins k ≡ true → off k ≡ false → ⊥) where
  left_out : (tokens : List Token) → goes_on begins tokens ≡ false → Outcome (Maybe P) off tokens (Ok (None, tokens))
  left_out [] no_part = record {
    front = [];
    spelled = λ s. refl;
    parts = refl;
    clean = tt;
    only = λ s other its z u after others is spelled stop same. absurd cc;
  }
  left_out (t ∷ rest) no_part = record {
    front = [];
    spelled = λ s. refl;
    parts = refl;
    clean = tt;
    only = λ s other its z u after others is spelled stop same. cases s other its z u after others is spelled same;
  } where
    cases : (s : Sort) (other : Option A) (its z : List Token) (u : Token) (after others : List Token) → t ∷ rest ≡ u ∷ after → Maybe P s other its → its ++ z ≡ u ∷ others
        → (other ≡ None) × (z ≡ u ∷ others)
    cases s None its z u after others is spelled same = (refl, ap (λ w. w ++ z) (sym spelled) ∙ same)
    cases s (Some a) [] z u after others is spelled same = absurd (empty s a spelled)
    cases s (Some a) (v ∷ vs) z u after others is spelled same =
        let first : v ≡ t = cc in
        let both : true ≡ false = sym (subst (λ (c : Token). begins c.kind ≡ true) first (head s a v vs spelled)) ∙ no_part in
        absurd cc

  pub maybe_form : Form C (Maybe P) off (maybe_at part begins)
  maybe_form = record { some = (None, [], λ s. refl, λ h. h); meets = λ c tokens real. meets c tokens real } where
    meets : (c : C) (tokens : List Token) → AllReal tokens → Outcome (Maybe P) off tokens (maybe_at part begins tokens)
    meets c [] real = left_out [] refl
    meets c (t ∷ rest) real = test (begins t.kind) refl where
      test : (b : Bool) → begins t.kind ≡ b → Outcome (Maybe P) off (t ∷ rest) (maybe_then part (t ∷ rest) b)
      test false e = left_out (t ∷ rest) e
      test true e =
          known_first (Made (λ a. Some a) P) (Maybe P) off t (λ s v x h. subst (λ w. Maybe P s w (t ∷ x)) (sym h.1) h.2) (λ s v x h. from s v x h) (λ s v h. empty s h.0 h.2)
          (λ s v h stop. off_begins t.kind e stop) (None, [], λ s. refl, λ h. h) rest _
          ((weaker_form C (Made (λ a. Some a) P) on off _ off_on (made_form C P on (λ a. Some a) part f)).meets c (t ∷ rest) real) where
            from : (s : Sort) (v : Option A) (x : List Token) → Maybe P s v (t ∷ x) → Made (λ a. Some a) P s v (t ∷ x)
            from s None x h = absurd cc
            from s (Some a) x h = (a, refl, h)
