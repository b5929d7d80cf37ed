-- Whole texts.
use Rattle.std.proofs.Common.{◌≡◌, ℕ, Bool, true, false, cond, List, [], ◌∷◌, ◌++◌, Result, Ok, Err, ◌⊎◌, inl, inr, refl, sym, ap, subst, ◌∙◌, append_assoc}
use Rattle.std.proofs.lemmas.List.{append-nil}
use Rattle.pt_ast.specs.Trees.{ItemTree, SuiteTree}
use Rattle.pt_token.specs.declared.token.Token.{Token}
use Rattle.pt_token.specs.declared.token.Kind.{Kind}
use Rattle.pt_token.specs.declared.token.Kind.TheVariants as kind
use Rattle.pt_token.specs.Ending.{is_last, EndOnce}
use Rattle.pt_grammar.specs.declared.sort.Sort.{Sort}
use Rattle.pt_grammar.specs.declared.sort.Sort.TheVariants as sort
use Rattle.pt_grammar.specs.Tokens.{IsText, ending}
use Rattle.pt_grammar.specs.Forms.{◌⨾◌, One}
use Rattle.pt_grammar.specs.SuiteGrammar.{SuiteText}
use Rattle.pt_readings.specs.Faults.{Begins, IsBefore, HasFirstFault}
use Rattle.pt_readings.specs.Laws.{OneReading, ReadsOrFaults, NotBoth, OneFault}
use Rattle.pt_grammar.specs.Reading.{Fault, at, Reading, ◌>>=◌, taken, one_at}
use Rattle.pt_grammar.specs.SuiteReading.{items_at, ends, suite_at}
use Rattle.pt_readings.proofs.Outcomes.{NoEnd, Stops, Found, Failed, Outcome}
use Rattle.pt_readings.proofs.Forms.{made, none_before, Tests}
use Rattle.pt_readings.proofs.Suites.{Row, on_items, items_form}

end_tests : Tests ends ending
end_tests = record { passes = refl; only = only } where
  only : (other : Kind) → ends other ≡ true → other ≡ kind.End
  only kind.End e = refl
  only other e = absurd cc

ends_some : (ts : List Token) → EndOnce ts → NoEnd ts → ⊥
ends_some [] h k = h
ends_some (t ∷ []) h k = let both : true ≡ false = sym h ∙ k.0 in cc
ends_some (t ∷ u ∷ ts) h k = ends_some (u ∷ ts) h.1 k.1

ends_last : (front : List Token) (t : Token) (after : List Token) → EndOnce (front ++ t ∷ after) → is_last t.kind ≡ true → after ≡ []
ends_last [] t [] h e = refl
ends_last [] t (u ∷ us) h e = absurd (let both : true ≡ false = sym e ∙ h.0 in cc)
ends_last (b ∷ []) t after h e = ends_last [] t after h.1 e
ends_last (b ∷ c ∷ bs) t after h e = ends_last (c ∷ bs) t after h.1 e

-- the first fault, as the reader meets it
pub record First (tokens : List Token) (which : Sort) (bad : List Token) : Type 0 where
  pub token : Token
  pub after : List Token
  pub is : bad ≡ token ∷ after
  pub front : List Token
  pub parts : tokens ≡ front ++ token ∷ after
  pub begun : (suite : SuiteTree) × (more : List Token) × ((s : Sort) → SuiteText s suite (front ++ more))
  pub reached : (earlier : Sort) → IsBefore earlier which → Begins (SuiteText earlier) (front ++ token ∷ [])
  pub broken : (s : Sort) → (IsBefore s which → ⊥) → Begins (SuiteText s) (front ++ token ∷ []) → ⊥

-- what the answer of the reader says of the text
abbrev pub Whole : List Token → Result SuiteTree Fault → Type 0
Whole tokens (Ok suite) = ((s : Sort) → SuiteText s suite tokens) × ((s : Sort) (other : SuiteTree) → SuiteText s other tokens → other ≡ suite)
Whole tokens (Err fault) = First tokens fault.sort fault.rest

same_sort_first : (s : Sort) → IsBefore s s → ⊥
same_sort_first sort.Syntax h = h
same_sort_first sort.TooDeep h = h
same_sort_first sort.OutOfRange h = h

abbrev suite_of : List ItemTree → SuiteTree
suite_of items = record { items = items }

-- items that are begun, and the end of the text
ended : (s : Sort) (items : List ItemTree) (front others : List Token) → Row s items (front ++ others) → SuiteText s (suite_of items) (front ++ (others ++ made ending ∷ []))
ended s items front others h = (front ++ others, made ending ∷ [], h, (made ending, refl, refl), sym (append_assoc front others (made ending ∷ [])))

begins : (s : Sort) (items : List ItemTree) (front others : List Token) → Row s items (front ++ others) → Begins (SuiteText s) front
begins s items front others h = (suite_of items, others ++ made ending ∷ [], ended s items front others h)

end_stops : (y : List Token) → One ending y → Stops on_items y
end_stops y (u, k, only) = subst (Stops on_items) (sym only) (ap on_items k)

failed : (tokens : List Token) (which : Sort) (bad : List Token) → IsText tokens → Failed Row on_items tokens which bad → First tokens which bad
failed tokens which [] text h = let all : tokens ≡ h.front = h.parts ∙ append-nil h.front in absurd (ends_some tokens text.ends (subst NoEnd (sym all) h.clean))
failed tokens which (t ∷ after) text h = record {
  token = t;
  after = after;
  is = refl;
  front = h.front;
  parts = h.parts;
  begun = (suite_of h.begun.0, h.begun.1 ++ made ending ∷ [], λ s. ended s h.begun.0 h.front h.begun.1 (h.begun.2 s));
  reached = λ earlier before. let b = h.reached t after refl earlier before in begins earlier b.0 (h.front ++ t ∷ []) b.1 b.2;
  broken = λ s late begun. out s late begun;
} where
  out : (s : Sort) → (IsBefore s which → ⊥) → Begins (SuiteText s) (h.front ++ t ∷ []) → ⊥
  out s late (suite, others, (x, y, p, q, e)) = h.broken t after refl s late suite.items x y others p (end_stops y q) (sym e ∙ append_assoc h.front (t ∷ []) others)

found : (tokens : List Token) (items : List ItemTree) (rest : List Token) → IsText tokens → Found Row on_items tokens items rest → Whole tokens (one_at ends rest >>= λ behind. Ok (suite_of items))
found tokens items [] text h = let all : tokens ≡ h.front = h.parts ∙ append-nil h.front in absurd (ends_some tokens text.ends (subst NoEnd (sym all) h.clean))
found tokens items (t ∷ after) text h = test (ends t.kind) refl where
  only : (s : Sort) (other : SuiteTree) → SuiteText s other tokens → other ≡ suite_of items
  only s other (x, y, p, q, e) = ap suite_of (h.only s other.items x y t after after refl p (end_stops y q) (sym e ∙ h.parts)).0

  out : ends t.kind ≡ false → (s : Sort) → Begins (SuiteText s) (h.front ++ t ∷ []) → ⊥
  out no_end s (other, others, (x, y, p, (u, same, single), e)) =
      let one = h.only s other.items x y t after others refl p (end_stops y (u, same, single)) (sym e ∙ append_assoc h.front (t ∷ []) others) in
      let cells : u ∷ [] ≡ t ∷ others = sym single ∙ one.1 in
      let first : u ≡ t = cc in
      let both : true ≡ false = sym (ap ends (subst (λ (v : Token). v.kind ≡ ending) first same)) ∙ no_end in cc

  test : (b : Bool) → ends t.kind ≡ b → Whole tokens (taken (cond {A = Result (Unit {0}) Sort} b (Ok tt) (Err sort.Syntax)) (t ∷ after) after >>= λ behind. Ok (suite_of items))
  test true e =
      let same = end_tests.only t.kind e in
      let last : after ≡ [] = ends_last h.front t after (subst EndOnce h.parts text.ends) (ap is_last same) in
      (λ s. (h.front, t ∷ after, h.spelled s, (t, same, ap (λ z. t ∷ z) last), h.parts), only)
  test false e = record {
    token = t;
    after = after;
    is = refl;
    front = h.front;
    parts = h.parts;
    begun = (suite_of items, made ending ∷ [], λ s. (h.front, made ending ∷ [], h.spelled s, (made ending, refl, refl), refl));
    reached = λ earlier before. absurd (none_before earlier before);
    broken = λ s late begun. out e s begun;
  }

-- the reader answers the tree or the first fault
pub whole_law : (tokens : List Token) → IsText tokens → Whole tokens (suite_at tokens)
unfolding suite_at
whole_law tokens text = cases (items_at tokens) (items_form.meets tt tokens text.real) where
  cases : (r : Reading (List ItemTree)) → Outcome Row on_items tokens r → Whole tokens (r >>= λ items. one_at ends items.1 >>= λ behind. Ok (suite_of items.0))
  cases (Ok read) h = found tokens read.0 read.1 text h
  cases (Err fault) h = failed tokens fault.sort fault.rest text h

pub first_fault : (tokens : List Token) (which : Sort) (bad : List Token) (f : First tokens which bad) → HasFirstFault SuiteText tokens which f.token
first_fault tokens which bad f = record {
  front = f.front;
  after = f.after;
  parts = f.parts;
  begun = (f.begun.0, f.begun.1, f.begun.2 sort.OutOfRange);
  reached = f.reached;
  broken = f.broken which (same_sort_first which);
}

-- no reading is free of all faults where there is a first fault
no_reading : (tokens : List Token) (which : Sort) (bad : List Token) → First tokens which bad → (suite : SuiteTree) → SuiteText sort.OutOfRange suite tokens → ⊥
no_reading tokens which bad f suite h = f.broken sort.OutOfRange (λ before. before) (suite, f.after, subst (SuiteText sort.OutOfRange suite) (f.parts ∙ sym (append_assoc f.front (f.token ∷ []) f.after)) h)

pub one_reading : OneReading
one_reading tokens suite other text h k = cases (suite_at tokens) (whole_law tokens text) where
  cases : (r : Result SuiteTree Fault) → Whole tokens r → other ≡ suite
  cases (Ok one) w = w.1 sort.OutOfRange other k ∙ sym (w.1 sort.OutOfRange suite h)
  cases (Err fault) f = absurd (no_reading tokens fault.sort fault.rest f suite h)

pub reads_or_faults : ReadsOrFaults
reads_or_faults tokens text = cases (suite_at tokens) (whole_law tokens text) where
  cases : (r : Result SuiteTree Fault) → Whole tokens r → ((suite : SuiteTree) × SuiteText sort.OutOfRange suite tokens) ⊎ ((which : Sort) × (token : Token) × HasFirstFault SuiteText tokens which token)
  cases (Ok one) w = inl (one, w.0 sort.OutOfRange)
  cases (Err fault) f = inr (fault.sort, f.token, first_fault tokens fault.sort fault.rest f)

pub not_both : NotBoth
not_both tokens suite which token text h first = cases (suite_at tokens) (whole_law tokens text) where
  cases : (r : Result SuiteTree Fault) → Whole tokens r → ⊥
  cases (Ok one) w = first.broken (one, first.after, subst (SuiteText which one) (first.parts ∙ sym (append_assoc first.front (token ∷ []) first.after)) (w.0 which))
  cases (Err fault) f = no_reading tokens fault.sort fault.rest f suite h

-- two cuts of one list
cuts : (f g : List Token) (t u : Token) (x y : List Token) → f ++ t ∷ x ≡ g ++ u ∷ y → ((f ≡ g) × (t ≡ u)) ⊎ (((r : List Token) × (g ≡ f ++ t ∷ r)) ⊎ ((r : List Token) × (f ≡ g ++ u ∷ r)))
cuts [] [] t u x y e = inl (refl, cc)
cuts [] (b ∷ bs) t u x y e = let same : b ≡ t = cc in inr (inl (bs, ap (λ c. c ∷ bs) same))
cuts (a ∷ as') [] t u x y e = let same : a ≡ u = cc in inr (inr (as', ap (λ c. c ∷ as') same))
cuts (a ∷ as') (b ∷ bs) t u x y e =
    let first : a ≡ b = cc in
    let others : as' ++ t ∷ x ≡ bs ++ u ∷ y = cc in
    elim (cuts as' bs t u x y others) [
      | inl same ↦ inl (ap (λ c. c ∷ as') first ∙ ap (λ l. b ∷ l) same.0, same.1)
      | inr (inl more) ↦ inr (inl (more.0, ap (λ c. c ∷ bs) (sym first) ∙ ap (λ l. a ∷ l) more.1))
      | inr (inr more) ↦ inr (inr (more.0, ap (λ c. c ∷ as') first ∙ ap (λ l. b ∷ l) more.1))
    ]

same_sort : (which other : Sort) → (IsBefore which other → ⊥) → (IsBefore other which → ⊥) → which ≡ other
same_sort sort.Syntax sort.Syntax h k = refl
same_sort sort.Syntax sort.TooDeep h k = absurd (h tt)
same_sort sort.Syntax sort.OutOfRange h k = absurd (h tt)
same_sort sort.TooDeep sort.Syntax h k = absurd (k tt)
same_sort sort.TooDeep sort.TooDeep h k = refl
same_sort sort.TooDeep sort.OutOfRange h k = absurd (h tt)
same_sort sort.OutOfRange sort.Syntax h k = absurd (k tt)
same_sort sort.OutOfRange sort.TooDeep h k = absurd (k tt)
same_sort sort.OutOfRange sort.OutOfRange h k = refl

-- the reader's first fault is each other one
only_first : (tokens : List Token) (which : Sort) (bad : List Token) (f : First tokens which bad) (other : Sort) (token : Token) → HasFirstFault SuiteText tokens other token → (token ≡ f.token) × (other ≡ which)
only_first tokens which bad f other token k = elim (cuts f.front k.front f.token token f.after k.after (sym f.parts ∙ k.parts)) [
  | inl same ↦ (
    sym same.1,
    same_sort other which
        (λ before. k.broken (subst (Begins (SuiteText other)) (ap (λ w. w ++ f.token ∷ []) same.0 ∙ ap (λ c. k.front ++ c ∷ []) same.1) (f.reached other before)))
        (λ before. f.broken which (same_sort_first which) (subst (Begins (SuiteText which)) (sym (ap (λ w. w ++ f.token ∷ []) same.0 ∙ ap (λ c. k.front ++ c ∷ []) same.1)) (k.reached which before))),
  )
  | inr (inl more) ↦ absurd (f.broken sort.OutOfRange (λ before. before) (shorter f.front k.front more.0 f.token more.1 k.begun))
  | inr (inr more) ↦ absurd (k.broken (
    f.begun.0,
    more.0 ++ f.begun.1,
    subst (SuiteText other f.begun.0) (ap (λ w. w ++ f.begun.1) more.1 ∙ append_assoc k.front (token ∷ more.0) f.begun.1 ∙ sym (append_assoc k.front (token ∷ []) (more.0 ++ f.begun.1))) (f.begun.2 other),
  ))
] where
  shorter : (front longer r : List Token) (t : Token) → longer ≡ front ++ t ∷ r → Begins (SuiteText sort.OutOfRange) longer → Begins (SuiteText sort.OutOfRange) (front ++ t ∷ [])
  shorter front longer r t e (suite, others, h) =
      (suite, r ++ others, subst (SuiteText sort.OutOfRange suite) (ap (λ w. w ++ others) e ∙ append_assoc front (t ∷ r) others ∙ sym (append_assoc front (t ∷ []) (r ++ others))) h)

pub one_fault : OneFault
one_fault tokens which other token second text h k = cases (suite_at tokens) (whole_law tokens text) where
  cases : (r : Result SuiteTree Fault) → Whole tokens r → (token ≡ second) × (which ≡ other)
  cases (Ok one) w = absurd (not_both tokens one which token text (w.0 sort.OutOfRange) h)
  cases (Err fault) f =
      let a = only_first tokens fault.sort fault.rest f which token h in
      let b = only_first tokens fault.sort fault.rest f other second k in
      (a.0 ∙ sym b.0, a.1 ∙ sym b.1)
