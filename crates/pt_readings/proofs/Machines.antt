-- Machines and their parts.
use Rattle.std.proofs.Common.{◌≡◌, ℕ, ◌+◌, ◌-◌, ◌||◌, Bool, true, false, List, [], ◌∷◌, ◌++◌, Result, Ok, Err, Option, Some, None, ◌⊎◌, inl, inr, refl, sym, ap, subst, ◌∙◌, append_assoc}
use Rattle.pt_val.specs.declared.place.Place.{Place}
use Rattle.pt_ast.specs.declared.ident.Ident.{Ident}
use Rattle.pt_ast.specs.Types.{TypeTree}
use Rattle.pt_ast.specs.Trees.{ExprTree, StmtTree, StateTree, BundleTree, InvariantTree, RuleTree, MachineTree}
use Rattle.pt_token.specs.declared.token.Token.{Token}
use Rattle.pt_token.specs.declared.token.Kind.{Kind}
use Rattle.pt_token.specs.declared.token.Kind.TheVariants as kind
use Rattle.pt_token.specs.declared.token.Word.TheVariants as word
use Rattle.pt_token.specs.Ending.{is_last}
use Rattle.pt_grammar.specs.declared.sort.Sort.{Sort}
use Rattle.pt_grammar.specs.declared.sort.Sort.TheVariants as sort
use Rattle.pt_grammar.specs.Tokens.{open_brace, close_brace, semicolon, colon, assign}
use Rattle.pt_grammar.specs.Forms.{◌⨾◌, One, OneAt, Opens, IsName, Part}
use Rattle.pt_grammar.specs.TypeGrammar.{IsType}
use Rattle.pt_grammar.specs.ExprGrammar.{IsExpr}
use Rattle.pt_grammar.specs.SuiteGrammar.{IsState, IsBundle, IsInvariant, IsWhen, IsInto, IsRule, AreRuleStmts, IsMachine}
use Rattle.pt_readings.specs.Faults.{Family}
use Rattle.pt_grammar.specs.Reading.{Fault, at, Reading, ◌>>=◌, one_at, open_at, name_at, is_open_brace, is_close_brace, is_semicolon, is_colon, is_assign, all_at, maybe_at, room_at, less_room}
use Rattle.pt_grammar.specs.TypeReading.{type_at}
use Rattle.pt_grammar.specs.ExprReading.{expr_at}
use Rattle.pt_grammar.specs.SuiteReading.{assigned_at, ended_at, begins_stmt, worded, is_give, is_state, is_bundle, is_invariant, is_rule, is_when, is_into, state_at, bundle_at, invariant_at, when_at, into_at, rule_stmts_at, rule_at, declared_at, next_rule, rules_at, machine_at}
use Rattle.pt_readings.proofs.Outcomes.{AllReal, Stops, never, stops_never, Some_of, Outcome, Form, Seq, seq_form}
use Rattle.pt_readings.proofs.Forms.{made, unreal, form_same, then_form, Made, made_form, Tests, After, marked_form, Closed, closed_form, Openings, open_form, within_form, one_then, one_first, then_some, at_then, at_first, at_some}
use Rattle.pt_readings.proofs.Lists.{Roomy, room_form, Many, many_form, Maybe, maybe_form}
use Rattle.pt_readings.proofs.Tested.{open_brace_tests, close_brace_tests, semicolon_tests, colon_tests, assign_tests}
use Rattle.pt_readings.proofs.Single.{Names, name_form}
use Rattle.pt_readings.proofs.Types.{Types, type_form}
use Rattle.pt_readings.proofs.ExprShapes.{Level, expr_some}
use Rattle.pt_readings.proofs.Chains.{or_false, not_both}
use Rattle.pt_readings.proofs.Atoms.{on_or}
use Rattle.pt_readings.proofs.Exprs.{expr_form}
use Rattle.pt_readings.proofs.Stmts.{worded_form, Assigned, assigned_form, Ended, ended_form, on_rule, Rule_stmts, rule_stmts_form}

state_tests : Tests is_state (kind.Word word.State)
state_tests = record { passes = refl; only = only } where
  only : (other : Kind) → is_state other ≡ true → other ≡ kind.Word word.State
  only (kind.Word word.State) e = refl
  only other e = absurd cc

bundle_tests : Tests is_bundle (kind.Word word.Bundle)
bundle_tests = record { passes = refl; only = only } where
  only : (other : Kind) → is_bundle other ≡ true → other ≡ kind.Word word.Bundle
  only (kind.Word word.Bundle) e = refl
  only other e = absurd cc

invariant_tests : Tests is_invariant (kind.Word word.Invariant)
invariant_tests = record { passes = refl; only = only } where
  only : (other : Kind) → is_invariant other ≡ true → other ≡ kind.Word word.Invariant
  only (kind.Word word.Invariant) e = refl
  only other e = absurd cc

rule_tests : Tests is_rule (kind.Word word.Rule)
rule_tests = record { passes = refl; only = only } where
  only : (other : Kind) → is_rule other ≡ true → other ≡ kind.Word word.Rule
  only (kind.Word word.Rule) e = refl
  only other e = absurd cc

when_tests : Tests is_when (kind.Word word.When)
when_tests = record { passes = refl; only = only } where
  only : (other : Kind) → is_when other ≡ true → other ≡ kind.Word word.When
  only (kind.Word word.When) e = refl
  only other e = absurd cc

into_tests : Tests is_into (kind.Word word.Into)
into_tests = record { passes = refl; only = only } where
  only : (other : Kind) → is_into other ≡ true → other ≡ kind.Word word.Into
  only (kind.Word word.Into) e = refl
  only other e = absurd cc

-- ---- states, bundles and invariants

abbrev States : ℕ → Family StateTree
States left s = IsState s left

abbrev made_state : Place → Ident × ExprTree → StateTree
made_state place b = record { at = place; name = b.0; init = b.1 }

state_out : (left : ℕ) (t : Token) → t.kind ≡ kind.Word word.State → (s : Sort) (v : StateTree) (x : List Token) → States left s v (t ∷ x) → Made (made_state t.at) (Assigned left) s v x
state_out left t e s v x h = form (at_then _ _ _ t x h) where
  form : (t.kind ≡ kind.Word word.State) × (t.at ≡ v.at) × (IsName s v.name ⨾ One assign ⨾ IsExpr s left 0 v.init ⨾ One semicolon) x → Made (made_state t.at) (Assigned left) s v x
  form (k, p, (a, b, n, (c, d, m, last, e2), e1)) = ((v.name, v.init), ap (λ (q : Place). record { at = q; name = v.name; init = v.init }) (sym p), (v.name, (a, b, n, (c, d, m, (v.init, refl, last), e2), e1)))

state_put : (left : ℕ) (t : Token) → t.kind ≡ kind.Word word.State → (s : Sort) (v : StateTree) (x : List Token) → Made (made_state t.at) (Assigned left) s v x → States left s v (t ∷ x)
state_put left t e s v x (both, same, (name, (a, b, n, (c, d, m, (value, pair, last), e2), e1))) =
    subst (λ w. States left s w (t ∷ x)) (sym (same ∙ ap (made_state t.at) pair)) (at_first _ _ t x e (a, b, n, (c, d, m, last, e2), e1))

state_head : (left : ℕ) (s : Sort) (v : StateTree) (t : Token) (x : List Token) → States left s v (t ∷ x) → t.kind ≡ kind.Word word.State
state_head left s v t x h = (at_then _ _ _ t x h).0

state_form : (left : ℕ) → Form (Unit {0}) (States left) never (state_at left)
unfolding state_at
state_form left = worded_form (States left) (λ place. Made (made_state place) (Assigned left)) never is_state (kind.Word word.State) state_tests refl (state_out left) (state_put left) (state_head left) (λ s v h. at_some _ _ _ h)
    (λ place rest. assigned_at left rest >>= λ x. Ok (made_state place x.0, x.1)) (λ place. made_form (Unit {0}) (Assigned left) never (made_state place) (assigned_at left) (assigned_form left))

abbrev Bundles : ℕ → Family BundleTree
Bundles left s = IsBundle s left

abbrev Bundled : ℕ → Place → Family BundleTree
Bundled left place = Seq Names (λ name. After colon (Closed semicolon (λ type. record { at = place; name = name; type = type }) (Types left)))

bundle_out : (left : ℕ) (t : Token) → t.kind ≡ kind.Word word.Bundle → (s : Sort) (v : BundleTree) (x : List Token) → Bundles left s v (t ∷ x) → Bundled left t.at s v x
bundle_out left t e s v x h = form (at_then _ _ _ t x h) where
  form : (t.kind ≡ kind.Word word.Bundle) × (t.at ≡ v.at) × (IsName s v.name ⨾ One colon ⨾ IsType s left v.type ⨾ One semicolon) x → Bundled left t.at s v x
  form (k, p, (a, b, n, (c, d, m, last, e2), e1)) = (v.name, (a, b, n, (c, d, m, (v.type, ap (λ (q : Place). record { at = q; name = v.name; type = v.type }) (sym p), last), e2), e1))

bundle_put : (left : ℕ) (t : Token) → t.kind ≡ kind.Word word.Bundle → (s : Sort) (v : BundleTree) (x : List Token) → Bundled left t.at s v x → Bundles left s v (t ∷ x)
bundle_put left t e s v x (name, (a, b, n, (c, d, m, (type, same, last), e2), e1)) = subst (λ w. Bundles left s w (t ∷ x)) (sym same) (at_first _ _ t x e (a, b, n, (c, d, m, last, e2), e1))

bundle_head : (left : ℕ) (s : Sort) (v : BundleTree) (t : Token) (x : List Token) → Bundles left s v (t ∷ x) → t.kind ≡ kind.Word word.Bundle
bundle_head left s v t x h = (at_then _ _ _ t x h).0

bundle_form : (left : ℕ) → Form (Unit {0}) (Bundles left) never (bundle_at left)
unfolding bundle_at
bundle_form left = worded_form (Bundles left) (Bundled left) never is_bundle (kind.Word word.Bundle) bundle_tests refl (bundle_out left) (bundle_put left) (bundle_head left) (λ s v h. at_some _ _ _ h) _
    (λ place. marked_form (Unit {0}) is_colon colon colon_tests refl Names (λ name. Closed semicolon (λ type. record { at = place; name = name; type = type }) (Types left)) never never name_at _ refl (name_form (Unit {0}) never)
    (λ name. closed_form (Unit {0}) is_semicolon semicolon semicolon_tests refl (Types left) never never (λ type. record { at = place; name = name; type = type }) (type_at left) refl (type_form left)))

abbrev Invariants : ℕ → Family InvariantTree
Invariants left s = IsInvariant s left

abbrev made_invariant : Place → ExprTree → InvariantTree
made_invariant place cond = record { at = place; cond = cond }

invariant_out : (left : ℕ) (t : Token) → t.kind ≡ kind.Word word.Invariant → (s : Sort) (v : InvariantTree) (x : List Token) → Invariants left s v (t ∷ x) → Made (made_invariant t.at) (Ended left) s v x
invariant_out left t e s v x h = let one = at_then _ _ _ t x h in (v.cond, ap (λ (q : Place). record { at = q; cond = v.cond }) (sym one.1), (v.cond, refl, one.2))

invariant_put : (left : ℕ) (t : Token) → t.kind ≡ kind.Word word.Invariant → (s : Sort) (v : InvariantTree) (x : List Token) → Made (made_invariant t.at) (Ended left) s v x → Invariants left s v (t ∷ x)
invariant_put left t e s v x (w, same, (value, is, last)) = subst (λ w. Invariants left s w (t ∷ x)) (sym (same ∙ ap (made_invariant t.at) is)) (at_first _ _ t x e last)

invariant_head : (left : ℕ) (s : Sort) (v : InvariantTree) (t : Token) (x : List Token) → Invariants left s v (t ∷ x) → t.kind ≡ kind.Word word.Invariant
invariant_head left s v t x h = (at_then _ _ _ t x h).0

invariant_form : (left : ℕ) → Form (Unit {0}) (Invariants left) never (invariant_at left)
unfolding invariant_at
invariant_form left = worded_form (Invariants left) (λ place. Made (made_invariant place) (Ended left)) never is_invariant (kind.Word word.Invariant) invariant_tests refl (invariant_out left) (invariant_put left) (invariant_head left) (λ s v h. at_some _ _ _ h)
    (λ place rest. ended_at left rest >>= λ x. Ok (made_invariant place x.0, x.1)) (λ place. made_form (Unit {0}) (Ended left) never (made_invariant place) (ended_at left) (ended_form left))

-- ---- rules

abbrev Whens : ℕ → Family ExprTree
Whens left = After (kind.Word word.When) (Level left 0)

abbrev Intos : Family Ident
Intos = After (kind.Word word.Into) Names

when_form : (left : ℕ) → Form (Unit {0}) (Whens left) on_or (when_at left)
when_form left = worded_form (Whens left) (λ place. Level left 0) on_or is_when (kind.Word word.When) when_tests refl (λ t e s v x h. (one_then _ _ t x h).1) (λ t e s v x h. one_first _ _ t x e h)
    (λ s v t x h. (one_then _ _ t x h).0) (λ s v h. then_some _ _ h) (λ place rest. expr_at left rest) (λ place. expr_form left)

into_form : Form (Unit {0}) Intos never into_at
into_form = worded_form Intos (λ place. Names) never is_into (kind.Word word.Into) into_tests refl (λ t e s v x h. (one_then _ _ t x h).1) (λ t e s v x h. one_first _ _ t x e h)
    (λ s v t x h. (one_then _ _ t x h).0) (λ s v h. then_some _ _ h) (λ place rest. name_at rest) (λ place. name_form (Unit {0}) never)

-- with which tokens the head of a rule goes on

abbrev on_when : Kind → Bool
on_when k = is_when k || on_or k

maybe_when : (left : ℕ) → Form (Unit {0}) (Maybe (Whens left)) on_when (maybe_at (when_at left) is_when)
maybe_when left = maybe_form (Unit {0}) (Whens left) is_when on_or on_when (when_at left) (when_form left) (λ s a t ts h. ap is_when (one_then _ _ t ts h).0) (λ s a h. then_some _ _ h)
    (λ k e. (or_false (is_when k) (on_or k) e).1) (λ k e stop. not_both (is_when k) e (or_false (is_when k) (on_or k) stop).0)

maybe_into : Form (Unit {0}) (Maybe Intos) is_into (maybe_at into_at is_into)
maybe_into = maybe_form (Unit {0}) Intos is_into never is_into into_at into_form (λ s a t ts h. ap is_into (one_then _ _ t ts h).0) (λ s a h. then_some _ _ h) (λ k e. refl) (λ k e stop. not_both (is_into k) e stop)

-- what stands in braces

abbrev Braced : {A V : Type 0} → ℕ → (A → V) → Family A → Family V
Braced left h P = Seq (Openings left open_brace) (λ u. Closed close_brace h P)

braced_form : {A V : Type 0} (left : ℕ) (P : Family A) (on : Kind → Bool) (h : A → V) (r : List Token → Reading A) → on close_brace ≡ false → Form (Unit {0}) P on r
    → Form (Unit {0}) (Braced left h P) never (λ tokens. open_at is_open_brace left tokens >>= λ opened. r opened.1 >>= λ x. one_at is_close_brace x.1 >>= λ y. Ok (h x.0, y.1))
braced_form left P on h r stop f =
    then_form (Unit {0}) (Openings left open_brace) (λ u. Closed close_brace h P) never (open_at is_open_brace left) (λ u tokens. r tokens >>= λ x. one_at is_close_brace x.1 >>= λ y. Ok (h x.0, y.1))
    (open_form (Unit {0}) is_open_brace open_brace open_brace_tests refl left never) (λ u. closed_form (Unit {0}) is_close_brace close_brace close_brace_tests refl P on never h r stop f)

braced_stop : {A V : Type 0} (left : ℕ) (h : A → V) (P : Family A) (on : Kind → Bool) → on open_brace ≡ false → (s : Sort) (v : V) (ts z : List Token) → Braced left h P s v ts → Stops on (ts ++ z)
braced_stop left h P on stop s v ts z (u, (x, y, (t, k, only, room), q, e)) = subst (λ w. Stops on (w ++ z)) (sym (e ∙ ap (λ w. w ++ y) only)) (ap on k ∙ stop)

abbrev Body : ℕ → ℕ → Place → Ident → Option ExprTree → Option Ident → Family RuleTree
Body left from place name cond into = Braced left (λ stmts. record { at = place; name = name; when = cond; into = into; stmts = stmts }) (Rule_stmts (left - 1) from)

abbrev Into_body : ℕ → ℕ → Place → Ident → Option ExprTree → Family RuleTree
Into_body left from place name cond = Seq (Maybe Intos) (Body left from place name cond)

abbrev Ruled : ℕ → ℕ → Place → Family RuleTree
Ruled left from place = Seq Names (λ name. Seq (Maybe (Whens left)) (Into_body left from place name))

abbrev body_read : ℕ → ℕ → Place → Ident → Option ExprTree → Option Ident → List Token → Reading RuleTree
body_read left from place name cond into tokens =
    open_at is_open_brace left tokens >>= λ opened. rule_stmts_at (left - 1) from opened.1 >>= λ x. one_at is_close_brace x.1 >>= λ y. Ok (record { at = place; name = name; when = cond; into = into; stmts = x.0 }, y.1)

abbrev into_body_read : ℕ → ℕ → Place → Ident → Option ExprTree → List Token → Reading RuleTree
into_body_read left from place name cond tokens = maybe_at into_at is_into tokens >>= λ into. body_read left from place name cond into.0 into.1

abbrev ruled_read : ℕ → ℕ → Place → List Token → Reading RuleTree
ruled_read left from place tokens = name_at tokens >>= λ name. maybe_at (when_at left) is_when name.1 >>= λ cond. into_body_read left from place name.0 cond.0 cond.1

body_form : (left from : ℕ) (place : Place) (name : Ident) (cond : Option ExprTree) (into : Option Ident) → Form (Unit {0}) (Body left from place name cond into) never (body_read left from place name cond into)
body_form left from place name cond into = braced_form left (Rule_stmts (left - 1) from) on_rule (λ stmts. record { at = place; name = name; when = cond; into = into; stmts = stmts }) (rule_stmts_at (left - 1) from) refl (rule_stmts_form (left - 1) from)

into_body_form : (left from : ℕ) (place : Place) (name : Ident) (cond : Option ExprTree) → Form (Unit {0}) (Into_body left from place name cond) never (into_body_read left from place name cond)
into_body_form left from place name cond =
    seq_form (Maybe Intos) (Body left from place name cond) is_into never (λ s a v ts z h stop. braced_stop left (λ stmts. record { at = place; name = name; when = cond; into = a; stmts = stmts }) (Rule_stmts (left - 1) from) is_into refl s v ts z h)
    (λ into. (body_form left from place name cond into).some) (Unit {0}) (maybe_at into_at is_into) _ maybe_into (body_form left from place name cond)

-- the head of a rule stops what stands before `into`
into_stop : (left from : ℕ) (place : Place) (name : Ident) (cond : Option ExprTree) (s : Sort) (v : RuleTree) (ts z : List Token) → Into_body left from place name cond s v ts → Stops on_when (ts ++ z)
into_stop left from place name cond s v ts z (None, (x, y, nil, q, e)) =
    subst (λ w. Stops on_when (w ++ z)) (sym (e ∙ ap (λ w. w ++ y) nil)) (braced_stop left (λ stmts. record { at = place; name = name; when = cond; into = None; stmts = stmts }) (Rule_stmts (left - 1) from) on_when refl s v y z q)
into_stop left from place name cond s v ts z (Some bundle, (x, y, (a, b, (t, k, only), n, e2), q, e)) =
    subst (λ w. Stops on_when (w ++ z)) (sym (e ∙ ap (λ w. w ++ y) (e2 ∙ ap (λ w. w ++ b) only))) (ap on_when k)

ruled_form : (left from : ℕ) (place : Place) → Form (Unit {0}) (Ruled left from place) never (ruled_read left from place)
ruled_form left from place =
    then_form (Unit {0}) Names (λ name. Seq (Maybe (Whens left)) (Into_body left from place name)) never name_at _ (name_form (Unit {0}) never)
    (λ name. seq_form (Maybe (Whens left)) (Into_body left from place name) on_when never (λ s cond v ts z h stop. into_stop left from place name cond s v ts z h)
    (λ cond. (into_body_form left from place name cond).some) (Unit {0}) (maybe_at (when_at left) is_when) _ (maybe_when left) (into_body_form left from place name))

abbrev pub Rules : ℕ → ℕ → Family RuleTree
Rules left from s = IsRule s left from

when_to : (left : ℕ) (s : Sort) (cond : Option ExprTree) (ts : List Token) → IsWhen s left cond ts → Maybe (Whens left) s cond ts
when_to left s None ts h = h
when_to left s (Some cond) ts h = h

when_back : (left : ℕ) (s : Sort) (cond : Option ExprTree) (ts : List Token) → Maybe (Whens left) s cond ts → IsWhen s left cond ts
when_back left s None ts h = h
when_back left s (Some cond) ts h = h

into_to : (s : Sort) (into : Option Ident) (ts : List Token) → IsInto s into ts → Maybe Intos s into ts
into_to s None ts h = h
into_to s (Some into) ts h = h

into_back : (s : Sort) (into : Option Ident) (ts : List Token) → Maybe Intos s into ts → IsInto s into ts
into_back s None ts h = h
into_back s (Some into) ts h = h

rule_out : (left from : ℕ) (t : Token) → t.kind ≡ kind.Word word.Rule → (s : Sort) (v : RuleTree) (x : List Token) → Rules left from s v (t ∷ x) → Ruled left from t.at s v x
rule_out left from t e s v x h = form (at_then _ _ _ t x h) where
  form : (t.kind ≡ kind.Word word.Rule) × (t.at ≡ v.at) × (IsName s v.name ⨾ IsWhen s left v.when ⨾ IsInto s v.into ⨾ Opens s left open_brace ⨾ AreRuleStmts s (left - 1) from v.stmts ⨾ One close_brace) x → Ruled left from t.at s v x
  form (k, p, (a, b, n, (c, d, w, (f, g, i, (j, l, o, last, e4), e3), e2), e1)) = (
    v.name,
    (
      a,
      b,
      n,
      (
        v.when,
        (
          c,
          d,
          when_to left s v.when c w,
          (
            v.into,
            (
              f,
              g,
              into_to s v.into f i,
              (
                tt,
                (
                  j,
                  l,
                  o,
                  (
                    v.stmts,
                    ap (λ (q : Place). record { at = q; name = v.name; when = v.when; into = v.into; stmts = v.stmts }) (sym p),
                    last,
                  ),
                  e4,
                ),
              ),
              e3,
            ),
          ),
          e2,
        ),
      ),
      e1,
    ),
  )

rule_put : (left from : ℕ) (t : Token) → t.kind ≡ kind.Word word.Rule → (s : Sort) (v : RuleTree) (x : List Token) → Ruled left from t.at s v x → Rules left from s v (t ∷ x)
rule_put left from t e s v x (name, (a, b, n, (cond, (c, d, w, (into, (f, g, i, (u, (j, l, o, (stmts, same, last), e4)), e3)), e2)), e1)) =
    subst (λ w. Rules left from s w (t ∷ x)) (sym same) (at_first _ _ t x e (a, b, n, (c, d, when_back left s cond c w, (f, g, into_back s into f i, (j, l, o, last, e4), e3), e2), e1))

pub rule_head : (left from : ℕ) (s : Sort) (v : RuleTree) (t : Token) (x : List Token) → Rules left from s v (t ∷ x) → t.kind ≡ kind.Word word.Rule
rule_head left from s v t x h = (at_then _ _ _ t x h).0

rule_some : (left from : ℕ) (s : Sort) (v : RuleTree) → Rules left from s v [] → ⊥
rule_some left from s v h = at_some _ _ _ h

rule_form : (left from : ℕ) → Form (Unit {0}) (Rules left from) never (rule_at left from)
unfolding rule_at
rule_form left from = worded_form (Rules left from) (Ruled left from) never is_rule (kind.Word word.Rule) rule_tests refl (rule_out left from) (rule_put left from) (rule_head left from) (rule_some left from) _ (ruled_form left from)

-- ---- machines

-- parts of one sort
abbrev Parts : {A : Type 0} → Family A → Family (List A)
Parts P = Many (λ room. Roomy room P) less_room 64

parts_form : {A : Type 0} (P : Family A) (is : Kind → Bool) (k : Kind) → Tests is k → (read : List Token → Reading A) → Form (Unit {0}) P never read
    → ((s : Sort) (v : A) (t : Token) (x : List Token) → P s v (t ∷ x) → t.kind ≡ k) → ((s : Sort) (v : A) → P s v [] → ⊥) → Form (Unit {0}) (Parts P) is (declared_at read is)
parts_form P is k tests read f head empty =
    many_form (Unit {0}) (λ room. Roomy room P) (λ room. is) less_room never is (room_at read) (λ room. room_form (Unit {0}) P never read f empty room)
    (λ s room a t ts h. ap is (head s a t ts h.0) ∙ tests.passes) (λ s room a h. empty s a h.0) (λ room k e. refl) (λ k e. refl) (λ room k e stop. not_both (is k) e stop) 64

rules_form : (left from : ℕ) → Form (Unit {0}) (Many (λ (given : ℕ × ℕ). Roomy given.0 (Rules left given.1)) next_rule (64, from)) is_rule (rules_at left from)
rules_form left from =
    many_form (Unit {0}) (λ (given : ℕ × ℕ). Roomy given.0 (Rules left given.1)) (λ given. is_rule) next_rule never is_rule (λ given. room_at (rule_at left given.1) given.0)
    (λ given. room_form (Unit {0}) (Rules left given.1) never (rule_at left given.1) (rule_form left given.1) (rule_some left given.1) given.0)
    (λ s given a t ts h. ap is_rule (rule_head left given.1 s a t ts h.0)) (λ s given a h. rule_some left given.1 s a h.0) (λ given k e. refl) (λ k e. refl) (λ given k e stop. not_both (is_rule k) e stop) (64, from)

-- the first of these tokens passes a test
abbrev Leads : (Kind → Bool) → List Token → Type 0
Leads is [] = ⊥
Leads is (t ∷ ts) = is t.kind ≡ true

leads_stop : (is on : Kind → Bool) → ((k : Kind) → is k ≡ true → on k ≡ false) → (ts z : List Token) → Leads is ts → Stops on (ts ++ z)
leads_stop is on apart [] z h = absurd h
leads_stop is on apart (t ∷ ts) z h = apart t.kind h

or_left : (a b : Bool) → a ≡ true → (a || b) ≡ true
or_left true b e = refl
or_left false b e = absurd cc

or_right : (a b : Bool) → b ≡ true → (a || b) ≡ true
or_right true b e = refl
or_right false b e = e

or_cases : (a b : Bool) → (a || b) ≡ true → (a ≡ true) ⊎ (b ≡ true)
or_cases true b e = inl refl
or_cases false b e = inr e

many_leads : {A Given : Type 0} (P : Given → Family A) (leaves : Given → A → Given) (is next : Kind → Bool) → ((s : Sort) (g : Given) (v : A) (t : Token) (x : List Token) → P g s v (t ∷ x) → is t.kind ≡ true)
    → ((s : Sort) (g : Given) (v : A) → P g s v [] → ⊥) → (s : Sort) (g : Given) (list : List A) (x y : List Token) → Many P leaves g s list x → Leads next y → Leads (λ k. is k || next k) (x ++ y)
many_leads P leaves is next head empty s g [] x y h lead = subst (λ w. Leads (λ k. is k || next k) (w ++ y)) (sym h) (later y lead) where
  later : (y : List Token) → Leads next y → Leads (λ k. is k || next k) y
  later [] h = h
  later (t ∷ ts) h = or_right (is t.kind) (next t.kind) h
many_leads P leaves is next head empty s g (a ∷ list) x y ([], z, p, q, e) lead = absurd (empty s g a p)
many_leads P leaves is next head empty s g (a ∷ list) x y (t ∷ ts, z, p, q, e) lead = subst (λ w. Leads (λ k. is k || next k) (w ++ y)) (sym e) (or_left (is t.kind) (next t.kind) (head s g a t ts p))

abbrev at_rules : Kind → Bool
at_rules k = is_rule k || is_close_brace k

abbrev at_invariants : Kind → Bool
at_invariants k = is_invariant k || at_rules k

abbrev at_bundles : Kind → Bool
at_bundles k = is_bundle k || at_invariants k

module _ (left from : ℕ) where
  abbrev Closing : List StateTree → List BundleTree → List InvariantTree → Family MachineTree
  Closing states bundles invariants =
      Closed close_brace (λ rules. record { num = from; states = states; bundles = bundles; invariants = invariants; rules = rules }) (Many (λ (given : ℕ × ℕ). Roomy given.0 (Rules (left - 1) given.1)) next_rule (64, from + 1))

  abbrev From_invariants : List StateTree → List BundleTree → Family MachineTree
  From_invariants states bundles = Seq (Parts (Invariants (left - 1))) (Closing states bundles)

  abbrev From_bundles : List StateTree → Family MachineTree
  From_bundles states = Seq (Parts (Bundles (left - 1))) (From_invariants states)

  abbrev Inside : Family MachineTree
  Inside = Seq (Parts (States (left - 1))) From_bundles

  closing_leads : (states : List StateTree) (bundles : List BundleTree) (invariants : List InvariantTree) (s : Sort) (v : MachineTree) (ts : List Token) → Closing states bundles invariants s v ts → Leads at_rules ts
  closing_leads states bundles invariants s v ts (rules, same, (x, y, many, (t, k, only), e)) =
      subst (Leads at_rules) (sym e) (many_leads (λ (given : ℕ × ℕ). Roomy given.0 (Rules (left - 1) given.1)) next_rule is_rule is_close_brace (λ s g v t x h. ap is_rule (rule_head (left - 1) g.1 s v t x h.0)) (λ s g v h. rule_some (left - 1) g.1 s v h.0)
      s (64, from + 1) rules x y many (subst (Leads is_close_brace) (sym only) (ap is_close_brace k)))

  invariants_lead : (states : List StateTree) (bundles : List BundleTree) (s : Sort) (v : MachineTree) (ts : List Token) → From_invariants states bundles s v ts → Leads at_invariants ts
  invariants_lead states bundles s v ts (invariants, (x, y, many, q, e)) =
      subst (Leads at_invariants) (sym e) (many_leads (λ room. Roomy room (Invariants (left - 1))) less_room is_invariant at_rules (λ s g v t x h. ap is_invariant (invariant_head (left - 1) s v t x h.0)) (λ s g v h. at_some _ _ _ h.0)
      s 64 invariants x y many (closing_leads states bundles invariants s v y q))

  bundles_lead : (states : List StateTree) (s : Sort) (v : MachineTree) (ts : List Token) → From_bundles states s v ts → Leads at_bundles ts
  bundles_lead states s v ts (bundles, (x, y, many, q, e)) =
      subst (Leads at_bundles) (sym e) (many_leads (λ room. Roomy room (Bundles (left - 1))) less_room is_bundle at_invariants (λ s g v t x h. ap is_bundle (bundle_head (left - 1) s v t x h.0)) (λ s g v h. at_some _ _ _ h.0)
      s 64 bundles x y many (invariants_lead states bundles s v y q))

  rules_apart : (k : Kind) → at_rules k ≡ true → is_invariant k ≡ false
  rules_apart k e = elim (or_cases (is_rule k) (is_close_brace k) e) [ inl h ↦ ap is_invariant (rule_tests.only k h) | inr h ↦ ap is_invariant (close_brace_tests.only k h) ]

  rules_apart_bundle : (k : Kind) → at_rules k ≡ true → is_bundle k ≡ false
  rules_apart_bundle k e = elim (or_cases (is_rule k) (is_close_brace k) e) [ inl h ↦ ap is_bundle (rule_tests.only k h) | inr h ↦ ap is_bundle (close_brace_tests.only k h) ]

  rules_apart_state : (k : Kind) → at_rules k ≡ true → is_state k ≡ false
  rules_apart_state k e = elim (or_cases (is_rule k) (is_close_brace k) e) [ inl h ↦ ap is_state (rule_tests.only k h) | inr h ↦ ap is_state (close_brace_tests.only k h) ]

  invariants_apart : (k : Kind) → at_invariants k ≡ true → is_bundle k ≡ false
  invariants_apart k e = elim (or_cases (is_invariant k) (at_rules k) e) [ inl h ↦ ap is_bundle (invariant_tests.only k h) | inr h ↦ rules_apart_bundle k h ]

  invariants_apart_state : (k : Kind) → at_invariants k ≡ true → is_state k ≡ false
  invariants_apart_state k e = elim (or_cases (is_invariant k) (at_rules k) e) [ inl h ↦ ap is_state (invariant_tests.only k h) | inr h ↦ rules_apart_state k h ]

  bundles_apart : (k : Kind) → at_bundles k ≡ true → is_state k ≡ false
  bundles_apart k e = elim (or_cases (is_bundle k) (at_invariants k) e) [ inl h ↦ ap is_state (bundle_tests.only k h) | inr h ↦ invariants_apart_state k h ]

  abbrev closing_read : List StateTree → List BundleTree → List InvariantTree → List Token → Reading MachineTree
  closing_read states bundles invariants tokens =
      rules_at (left - 1) (from + 1) tokens >>= λ rules. one_at is_close_brace rules.1 >>= λ last. Ok (record { num = from; states = states; bundles = bundles; invariants = invariants; rules = rules.0 }, last.1)

  abbrev invariants_read : List StateTree → List BundleTree → List Token → Reading MachineTree
  invariants_read states bundles tokens = declared_at (invariant_at (left - 1)) is_invariant tokens >>= λ invariants. closing_read states bundles invariants.0 invariants.1

  abbrev bundles_read : List StateTree → List Token → Reading MachineTree
  bundles_read states tokens = declared_at (bundle_at (left - 1)) is_bundle tokens >>= λ bundles. invariants_read states bundles.0 bundles.1

  abbrev inside_read : List Token → Reading MachineTree
  inside_read tokens = declared_at (state_at (left - 1)) is_state tokens >>= λ states. bundles_read states.0 states.1

  closing_form : (states : List StateTree) (bundles : List BundleTree) (invariants : List InvariantTree) → Form (Unit {0}) (Closing states bundles invariants) never (closing_read states bundles invariants)
  closing_form states bundles invariants =
      closed_form (Unit {0}) is_close_brace close_brace close_brace_tests refl (Many (λ (given : ℕ × ℕ). Roomy given.0 (Rules (left - 1) given.1)) next_rule (64, from + 1)) is_rule never
      (λ rules. record { num = from; states = states; bundles = bundles; invariants = invariants; rules = rules }) (rules_at (left - 1) (from + 1)) refl (rules_form (left - 1) (from + 1))

  invariants_form : (states : List StateTree) (bundles : List BundleTree) → Form (Unit {0}) (From_invariants states bundles) never (invariants_read states bundles)
  invariants_form states bundles =
      seq_form (Parts (Invariants (left - 1))) (Closing states bundles) is_invariant never (λ s a v ts z h stop. leads_stop at_rules is_invariant rules_apart ts z (closing_leads states bundles a s v ts h))
      (λ a. (closing_form states bundles a).some) (Unit {0}) (declared_at (invariant_at (left - 1)) is_invariant) _
      (parts_form (Invariants (left - 1)) is_invariant (kind.Word word.Invariant) invariant_tests (invariant_at (left - 1)) (invariant_form (left - 1)) (invariant_head (left - 1)) (λ s v h. at_some _ _ _ h)) (closing_form states bundles)

  bundles_form : (states : List StateTree) → Form (Unit {0}) (From_bundles states) never (bundles_read states)
  bundles_form states =
      seq_form (Parts (Bundles (left - 1))) (From_invariants states) is_bundle never (λ s a v ts z h stop. leads_stop at_invariants is_bundle invariants_apart ts z (invariants_lead states a s v ts h))
      (λ a. (invariants_form states a).some) (Unit {0}) (declared_at (bundle_at (left - 1)) is_bundle) _
      (parts_form (Bundles (left - 1)) is_bundle (kind.Word word.Bundle) bundle_tests (bundle_at (left - 1)) (bundle_form (left - 1)) (bundle_head (left - 1)) (λ s v h. at_some _ _ _ h)) (invariants_form states)

  inside_form : Form (Unit {0}) Inside never inside_read
  inside_form =
      seq_form (Parts (States (left - 1))) From_bundles is_state never (λ s a v ts z h stop. leads_stop at_bundles is_state bundles_apart ts z (bundles_lead a s v ts h))
      (λ a. (bundles_form a).some) (Unit {0}) (declared_at (state_at (left - 1)) is_state) _
      (parts_form (States (left - 1)) is_state (kind.Word word.State) state_tests (state_at (left - 1)) (state_form (left - 1)) (state_head (left - 1)) (λ s v h. at_some _ _ _ h)) bundles_form

  abbrev pub Machines : Family MachineTree
  Machines s = IsMachine s left from

  pub machine_form : Form (Unit {0}) Machines never (machine_at left from)
  unfolding machine_at
  machine_form =
      form_same (Unit {0}) (Seq (Openings left open_brace) (λ u. Inside)) Machines never (machine_at left from) to back
      (then_form (Unit {0}) (Openings left open_brace) (λ u. Inside) never (open_at is_open_brace left) _ (open_form (Unit {0}) is_open_brace open_brace open_brace_tests refl left never) (λ u. inside_form)) where
        to : (s : Sort) (v : MachineTree) (ts : List Token) → Seq (Openings left open_brace) (λ u. Inside) s v ts → Machines s v ts
        to s v ts (u, (a, b, o, (states, (c, d, p, (bundles, (f, g, q, (invariants, (i, j, r, (rules, same, last), e4)), e3)), e2)), e1)) =
            subst (λ w. Machines s w ts) (sym same) (refl, (a, b, o, (c, d, p, (f, g, q, (i, j, r, last, e4), e3), e2), e1))

        back : (s : Sort) (v : MachineTree) (ts : List Token) → Machines s v ts → Seq (Openings left open_brace) (λ u. Inside) s v ts
        back s v ts (n, (a, b, o, (c, d, p, (f, g, q, (i, j, r, last, e4), e3), e2), e1)) = (
          tt,
          (
            a,
            b,
            o,
            (
              v.states,
              (
                c,
                d,
                p,
                (
                  v.bundles,
                  (
                    f,
                    g,
                    q,
                    (
                      v.invariants,
                      (
                        i,
                        j,
                        r,
                        (
                          v.rules,
                          ap (λ (w : ℕ). record { num = w; states = v.states; bundles = v.bundles; invariants = v.invariants; rules = v.rules }) n,
                          last,
                        ),
                        e4,
                      ),
                    ),
                    e3,
                  ),
                ),
                e2,
              ),
            ),
            e1,
          ),
        )

pub machine_opens : (left from : ℕ) (on : Kind → Bool) → on open_brace ≡ false → (s : Sort) (v : MachineTree) (ts z : List Token) → Machines left from s v ts → Stops on (ts ++ z)
machine_opens left from on stop s v ts z (n, (x, y, (t, k, only, room), q, e)) = subst (λ w. Stops on (w ++ z)) (sym (e ∙ ap (λ w. w ++ y) only)) (ap on k ∙ stop)
