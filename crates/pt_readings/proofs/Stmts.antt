-- Statements.
use Rattle.std.proofs.Common.{◌≡◌, ℕ, ◌+◌, ◌||◌, Bool, true, false, cond, List, [], ◌∷◌, ◌++◌, Result, Ok, Err, Option, Some, None, refl, sym, ap, subst, ◌∙◌}
use Rattle.std.specs.Option.{option_to_list}
use Rattle.pt_val.specs.declared.place.Place.{Place}
use Rattle.pt_ast.specs.declared.ident.Ident.{Ident}
use Rattle.pt_ast.specs.Trees.{ExprTree, StmtTree, Draw_of, Let_of, Assume_of, Assert_of, Pick_of, Set_of, Give_of}
use Rattle.pt_token.specs.declared.token.Token.{Token}
use Rattle.pt_token.specs.declared.token.Kind.{Kind}
use Rattle.pt_token.specs.declared.token.Kind.TheVariants as kind
use Rattle.pt_token.specs.declared.token.Word.TheVariants as word
use Rattle.pt_token.specs.Ending.{is_last}
use Rattle.pt_grammar.specs.declared.sort.Sort.{Sort}
use Rattle.pt_grammar.specs.declared.sort.Sort.TheVariants as sort
use Rattle.pt_grammar.specs.Tokens.{semicolon, assign}
use Rattle.pt_grammar.specs.Forms.{◌⨾◌, One, OneAt, IsName}
use Rattle.pt_grammar.specs.ExprGrammar.{IsExpr}
use Rattle.pt_grammar.specs.StratGrammar.{IsStrat}
use Rattle.pt_grammar.specs.SuiteGrammar.{IsStmt, IsGive, AreRuleStmts}
use Rattle.pt_readings.specs.Faults.{Family}
use Rattle.pt_grammar.specs.Reading.{Fault, at, Reading, ◌>>=◌, taken, one_at, name_at, is_semicolon, is_assign, is_from, all_at, maybe_at}
use Rattle.pt_grammar.specs.ExprReading.{expr_at}
use Rattle.pt_grammar.specs.StratReading.{strat_at}
use Rattle.pt_grammar.specs.SuiteReading.{assigned_at, ended_at, draw_at, pick_at, stmt_on, stmt_at, begins_stmt, next_stmt, stmts_at, worded, is_give, give_at, rule_stmts_at}
use Rattle.pt_readings.proofs.Outcomes.{AllReal, Stops, never, stops_never, Some_of, Outcome, Form, Seq, seq_form}
use Rattle.pt_readings.proofs.Forms.{made, unreal, form_same, Made, made_form, behind, syntax_here, ended, Tests, After, marked_form, Closed, closed_form, at_then, at_first, at_some}
use Rattle.pt_readings.proofs.Lists.{Many, many_form, Maybe, maybe_form}
use Rattle.pt_readings.proofs.Tested.{semicolon_tests, assign_tests, from_tests}
use Rattle.pt_readings.proofs.Single.{Names, name_form}
use Rattle.pt_readings.proofs.ExprShapes.{Level}
use Rattle.pt_readings.proofs.Chains.{or_false, not_both}
use Rattle.pt_readings.proofs.Atoms.{on_or}
use Rattle.pt_readings.proofs.Exprs.{expr_form}
use Rattle.pt_readings.proofs.Strats.{Strats, strat_form}

-- ---- a form that begins with a word

module _ {V : Type 0} (R : Family V) (Q : Place → Family V) (on : Kind → Bool) (is : Kind → Bool) (k : Kind) (tests : Tests is k) (inside : is_last k ≡ false)
    (out : (t : Token) → t.kind ≡ k → (s : Sort) (v : V) (x : List Token) → R s v (t ∷ x) → Q t.at s v x)
    (put : (t : Token) → t.kind ≡ k → (s : Sort) (v : V) (x : List Token) → Q t.at s v x → R s v (t ∷ x))
    (head : (s : Sort) (v : V) (t : Token) (x : List Token) → R s v (t ∷ x) → t.kind ≡ k) (empty : (s : Sort) (v : V) → R s v [] → ⊥)
    (read : Place → List Token → Reading V) (f : (place : Place) → Form (Unit {0}) (Q place) on (read place)) where
  some_worded : Some_of R
  some_worded = let some = (f (made k).at).some in (some.0, made k ∷ some.1, λ s. put (made k) refl s some.0 some.1 (some.2 s), λ real. unreal k real)

  pub worded_form : Form (Unit {0}) R on (worded is read)
  worded_form = record { some = some_worded; meets = λ u tokens real. cases tokens real } where
    cases : (tokens : List Token) → AllReal tokens → Outcome R on tokens (worded is read tokens)
    cases [] real = ended R on some_worded
    cases (t ∷ rest) real = test (is t.kind) refl where
      test : (b : Bool) → is t.kind ≡ b → Outcome R on (t ∷ rest) (taken (cond {A = Result Place Sort} b (Ok t.at) (Err sort.Syntax)) (t ∷ rest) rest >>= λ x. read x.0 x.1)
      test true e = let same = tests.only t.kind e in behind (Q t.at) R on t (ap is_last same ∙ inside) (out t same) (put t same) empty rest (read t.at rest) ((f t.at).meets tt rest real.1)
      test false e = syntax_here R on t rest some_worded empty (λ s v x h. not_both (is t.kind) (ap is (head s v t x h) ∙ tests.passes) e)

-- ---- what stands behind the word of a statement

abbrev pub Assigned : ℕ → Family (Ident × ExprTree)
Assigned left = Seq Names (λ name. After assign (Closed semicolon (λ value. (name, value)) (Level left 0)))

pub assigned_form : (left : ℕ) → Form (Unit {0}) (Assigned left) never (assigned_at left)
unfolding assigned_at
assigned_form left =
    marked_form (Unit {0}) is_assign assign assign_tests refl Names (λ name. Closed semicolon (λ value. (name, value)) (Level left 0)) never never name_at _ refl (name_form (Unit {0}) never)
    (λ name. closed_form (Unit {0}) is_semicolon semicolon semicolon_tests refl (Level left 0) on_or never (λ value. (name, value)) (expr_at left) refl (expr_form left))

abbrev pub Ended : ℕ → Family ExprTree
Ended left = Closed semicolon (λ value. value) (Level left 0)

pub ended_form : (left : ℕ) → Form (Unit {0}) (Ended left) never (ended_at left)
unfolding ended_at
ended_form left = closed_form (Unit {0}) is_semicolon semicolon semicolon_tests refl (Level left 0) on_or never (λ value. value) (expr_at left) refl (expr_form left)

-- ---- statements

abbrev pub Stmts : ℕ → Bool → ℕ → Family StmtTree
Stmts left in_rule from s = IsStmt s left in_rule from

pub stmt_some : (s : Sort) (left : ℕ) (in_rule : Bool) (from : ℕ) (tree : StmtTree) → IsStmt s left in_rule from tree [] → ⊥
stmt_some s left in_rule from (Draw_of at given strat) h = at_some _ _ _ h
stmt_some s left in_rule from (Let_of at given value) h = at_some _ _ _ h
stmt_some s left in_rule from (Assume_of at cond) h = at_some _ _ _ h
stmt_some s left in_rule from (Assert_of at cond) h = at_some _ _ _ h
stmt_some s left in_rule from (Pick_of at num given bundle) h = at_some _ _ _ h.2
stmt_some s left in_rule from (Set_of at state value) h = at_some _ _ _ h.1
stmt_some s left in_rule from (Give_of at value) h = h

abbrev head : StmtTree → Kind
head (Draw_of at given strat) = kind.Word word.Draw
head (Let_of at given value) = kind.Word word.Let
head (Assume_of at cond) = kind.Word word.Assume
head (Assert_of at cond) = kind.Word word.Assert
head (Pick_of at num given bundle) = kind.Word word.Pick
head (Set_of at state value) = kind.Word word.Set
head (Give_of at value) = kind.Word word.Give

stmt_head : (s : Sort) (left : ℕ) (in_rule : Bool) (from : ℕ) (tree : StmtTree) (t : Token) (x : List Token) → IsStmt s left in_rule from tree (t ∷ x) → t.kind ≡ head tree
stmt_head s left in_rule from (Draw_of at given strat) t x h = (at_then _ _ _ t x h).0
stmt_head s left in_rule from (Let_of at given value) t x h = (at_then _ _ _ t x h).0
stmt_head s left in_rule from (Assume_of at cond) t x h = (at_then _ _ _ t x h).0
stmt_head s left in_rule from (Assert_of at cond) t x h = (at_then _ _ _ t x h).0
stmt_head s left in_rule from (Pick_of at num given bundle) t x h = (at_then _ _ _ t x h.2).0
stmt_head s left in_rule from (Set_of at state value) t x h = (at_then _ _ _ t x h.1).0
stmt_head s left in_rule from (Give_of at value) t x h = absurd h

pub stmt_begins : (s : Sort) (left : ℕ) (in_rule : Bool) (from : ℕ) (tree : StmtTree) (t : Token) (x : List Token) → IsStmt s left in_rule from tree (t ∷ x) → begins_stmt in_rule t.kind ≡ true
stmt_begins s left in_rule from (Draw_of at given strat) t x h = ap (begins_stmt in_rule) (at_then _ _ _ t x h).0
stmt_begins s left in_rule from (Let_of at given value) t x h = ap (begins_stmt in_rule) (at_then _ _ _ t x h).0
stmt_begins s left in_rule from (Assume_of at cond) t x h = ap (begins_stmt in_rule) (at_then _ _ _ t x h).0
stmt_begins s left in_rule from (Assert_of at cond) t x h = ap (begins_stmt in_rule) (at_then _ _ _ t x h).0
stmt_begins s left in_rule from (Pick_of at num given bundle) t x h = ap (begins_stmt in_rule) (at_then _ _ _ t x h.2).0 ∙ h.0
stmt_begins s left in_rule from (Set_of at state value) t x h = ap (begins_stmt in_rule) (at_then _ _ _ t x h.1).0 ∙ h.0
stmt_begins s left in_rule from (Give_of at value) t x h = absurd h

module _ (left : ℕ) (in_rule : Bool) (from : ℕ) where
  some_stmt : Some_of (Stmts left in_rule from)
  some_stmt = (
    Assert_of (made (kind.Word word.Assert)).at (ended_form left).some.0,
    made (kind.Word word.Assert) ∷ (ended_form left).some.1,
    λ s. asserted s (ended_form left).some.0 (ended_form left).some.1 ((ended_form left).some.2 s),
    λ real. unreal (kind.Word word.Assert) real,
  ) where
    asserted : (s : Sort) (v : ExprTree) (ts : List Token) → Ended left s v ts → IsStmt s left in_rule from (Assert_of (made (kind.Word word.Assert)).at v) (made (kind.Word word.Assert) ∷ ts)
    asserted s v ts (a, same, q) = subst (λ w. IsStmt s left in_rule from (Assert_of (made (kind.Word word.Assert)).at w) (made (kind.Word word.Assert) ∷ ts)) (sym same) (at_first _ _ (made (kind.Word word.Assert)) ts refl q)

  abbrev Draws : Place → Family StmtTree
  Draws place = Seq Names (λ name. After assign (Closed semicolon (Draw_of place name) (Strats left from)))

  draw_form : (place : Place) → Form (Unit {0}) (Draws place) never (draw_at left from place)
  unfolding draw_at
  draw_form place =
      marked_form (Unit {0}) is_assign assign assign_tests refl Names (λ name. Closed semicolon (Draw_of place name) (Strats left from)) never never name_at _ refl (name_form (Unit {0}) never)
      (λ name. closed_form (Unit {0}) is_semicolon semicolon semicolon_tests refl (Strats left from) never never (Draw_of place name) (strat_at left from) refl (strat_form left from))

  abbrev Picks : Place → Family StmtTree
  Picks place = Seq Names (λ name. After (kind.Word word.From) (Closed semicolon (Pick_of place from name) Names))

  pick_form : (place : Place) → Form (Unit {0}) (Picks place) never (pick_at from place)
  unfolding pick_at
  pick_form place =
      marked_form (Unit {0}) is_from (kind.Word word.From) from_tests refl Names (λ name. Closed semicolon (Pick_of place from name) Names) never never name_at _ refl (name_form (Unit {0}) never)
      (λ name. closed_form (Unit {0}) is_semicolon semicolon semicolon_tests refl Names never never (Pick_of place from name) name_at refl (name_form (Unit {0}) never))

  module _ (t : Token) (rest : List Token) (real : AllReal (t ∷ rest)) where
    draw_from : t.kind ≡ kind.Word word.Draw → (s : Sort) (v : StmtTree) (x : List Token) → IsStmt s left in_rule from v (t ∷ x) → Draws t.at s v x
    draw_from e s (Draw_of at given strat) x h = form (at_then _ _ _ t x h) where
      form : (t.kind ≡ kind.Word word.Draw) × (t.at ≡ at) × (IsName s given ⨾ One assign ⨾ IsStrat s left from strat ⨾ One semicolon) x → Draws t.at s (Draw_of at given strat) x
      form (k, p, (a, b, n, (c, d, m, last, e2), e1)) = (given, (a, b, n, (c, d, m, (strat, ap (λ q. Draw_of q given strat) (sym p), last), e2), e1))
    draw_from e s other x h = let k = stmt_head s left in_rule from other t x h in absurd cc

    draw_put : t.kind ≡ kind.Word word.Draw → (s : Sort) (v : StmtTree) (x : List Token) → Draws t.at s v x → IsStmt s left in_rule from v (t ∷ x)
    draw_put e s v x (given, (a, b, n, (c, d, m, (strat, same, last), e2), e1)) = subst (λ w. IsStmt s left in_rule from w (t ∷ x)) (sym same) (at_first _ _ t x e (a, b, n, (c, d, m, last, e2), e1))

    let_from : t.kind ≡ kind.Word word.Let → (s : Sort) (v : StmtTree) (x : List Token) → IsStmt s left in_rule from v (t ∷ x) → Made (λ (b : Ident × ExprTree). Let_of t.at b.0 b.1) (Assigned left) s v x
    let_from e s (Let_of at given value) x h = form (at_then _ _ _ t x h) where
      form : (t.kind ≡ kind.Word word.Let) × (t.at ≡ at) × (IsName s given ⨾ One assign ⨾ IsExpr s left 0 value ⨾ One semicolon) x → Made (λ (b : Ident × ExprTree). Let_of t.at b.0 b.1) (Assigned left) s (Let_of at given value) x
      form (k, p, (a, b, n, (c, d, m, last, e2), e1)) = ((given, value), ap (λ q. Let_of q given value) (sym p), (given, (a, b, n, (c, d, m, (value, refl, last), e2), e1)))
    let_from e s other x h = let k = stmt_head s left in_rule from other t x h in absurd cc

    let_put : t.kind ≡ kind.Word word.Let → (s : Sort) (v : StmtTree) (x : List Token) → Made (λ (b : Ident × ExprTree). Let_of t.at b.0 b.1) (Assigned left) s v x → IsStmt s left in_rule from v (t ∷ x)
    let_put e s v x (both, same, (given, (a, b, n, (c, d, m, (value, pair, last), e2), e1))) =
        subst (λ w. IsStmt s left in_rule from w (t ∷ x)) (sym (same ∙ ap (λ (w : Ident × ExprTree). Let_of t.at w.0 w.1) pair)) (at_first _ _ t x e (a, b, n, (c, d, m, last, e2), e1))

    set_from : t.kind ≡ kind.Word word.Set → (s : Sort) (v : StmtTree) (x : List Token) → IsStmt s left in_rule from v (t ∷ x) → Made (λ (b : Ident × ExprTree). Set_of t.at b.0 b.1) (Assigned left) s v x
    set_from e s (Set_of at given value) x h = form (at_then _ _ _ t x h.1) where
      form : (t.kind ≡ kind.Word word.Set) × (t.at ≡ at) × (IsName s given ⨾ One assign ⨾ IsExpr s left 0 value ⨾ One semicolon) x → Made (λ (b : Ident × ExprTree). Set_of t.at b.0 b.1) (Assigned left) s (Set_of at given value) x
      form (k, p, (a, b, n, (c, d, m, last, e2), e1)) = ((given, value), ap (λ q. Set_of q given value) (sym p), (given, (a, b, n, (c, d, m, (value, refl, last), e2), e1)))
    set_from e s other x h = let k = stmt_head s left in_rule from other t x h in absurd cc

    set_put : in_rule ≡ true → t.kind ≡ kind.Word word.Set → (s : Sort) (v : StmtTree) (x : List Token) → Made (λ (b : Ident × ExprTree). Set_of t.at b.0 b.1) (Assigned left) s v x → IsStmt s left in_rule from v (t ∷ x)
    set_put r e s v x (both, same, (given, (a, b, n, (c, d, m, (value, pair, last), e2), e1))) =
        subst (λ w. IsStmt s left in_rule from w (t ∷ x)) (sym (same ∙ ap (λ (w : Ident × ExprTree). Set_of t.at w.0 w.1) pair)) (r, at_first _ _ t x e (a, b, n, (c, d, m, last, e2), e1))

    assume_from : t.kind ≡ kind.Word word.Assume → (s : Sort) (v : StmtTree) (x : List Token) → IsStmt s left in_rule from v (t ∷ x) → Made (Assume_of t.at) (Ended left) s v x
    assume_from e s (Assume_of at value) x h = let one = at_then _ _ _ t x h in (value, ap (λ q. Assume_of q value) (sym one.1), (value, refl, one.2))
    assume_from e s other x h = let k = stmt_head s left in_rule from other t x h in absurd cc

    assume_put : t.kind ≡ kind.Word word.Assume → (s : Sort) (v : StmtTree) (x : List Token) → Made (Assume_of t.at) (Ended left) s v x → IsStmt s left in_rule from v (t ∷ x)
    assume_put e s v x (w, same, (value, is, last)) = subst (λ w. IsStmt s left in_rule from w (t ∷ x)) (sym (same ∙ ap (Assume_of t.at) is)) (at_first _ _ t x e last)

    assert_from : t.kind ≡ kind.Word word.Assert → (s : Sort) (v : StmtTree) (x : List Token) → IsStmt s left in_rule from v (t ∷ x) → Made (Assert_of t.at) (Ended left) s v x
    assert_from e s (Assert_of at value) x h = let one = at_then _ _ _ t x h in (value, ap (λ q. Assert_of q value) (sym one.1), (value, refl, one.2))
    assert_from e s other x h = let k = stmt_head s left in_rule from other t x h in absurd cc

    assert_put : t.kind ≡ kind.Word word.Assert → (s : Sort) (v : StmtTree) (x : List Token) → Made (Assert_of t.at) (Ended left) s v x → IsStmt s left in_rule from v (t ∷ x)
    assert_put e s v x (w, same, (value, is, last)) = subst (λ w. IsStmt s left in_rule from w (t ∷ x)) (sym (same ∙ ap (Assert_of t.at) is)) (at_first _ _ t x e last)

    pick_from : t.kind ≡ kind.Word word.Pick → (s : Sort) (v : StmtTree) (x : List Token) → IsStmt s left in_rule from v (t ∷ x) → Picks t.at s v x
    pick_from e s (Pick_of at num given bundle) x h = form h.1 (at_then _ _ _ t x h.2) where
      form : num ≡ from → (t.kind ≡ kind.Word word.Pick) × (t.at ≡ at) × (IsName s given ⨾ One (kind.Word word.From) ⨾ IsName s bundle ⨾ One semicolon) x → Picks t.at s (Pick_of at num given bundle) x
      form i (k, p, (a, b, n, (c, d, m, last, e2), e1)) = (given, (a, b, n, (c, d, m, (bundle, ap (λ q. Pick_of q num given bundle) (sym p) ∙ ap (λ w. Pick_of t.at w given bundle) i, last), e2), e1))
    pick_from e s other x h = let k = stmt_head s left in_rule from other t x h in absurd cc

    pick_put : in_rule ≡ true → t.kind ≡ kind.Word word.Pick → (s : Sort) (v : StmtTree) (x : List Token) → Picks t.at s v x → IsStmt s left in_rule from v (t ∷ x)
    pick_put r e s v x (given, (a, b, n, (c, d, m, (bundle, same, last), e2), e1)) = subst (λ w. IsStmt s left in_rule from w (t ∷ x)) (sym same) (r, refl, at_first _ _ t x e (a, b, n, (c, d, m, last, e2), e1))

    word_of_stmt : (Q : Family StmtTree) (r : List Token → Reading StmtTree) → is_last t.kind ≡ false → ((s : Sort) (v : StmtTree) (x : List Token) → IsStmt s left in_rule from v (t ∷ x) → Q s v x)
        → ((s : Sort) (v : StmtTree) (x : List Token) → Q s v x → IsStmt s left in_rule from v (t ∷ x)) → Form (Unit {0}) Q never r → Outcome (Stmts left in_rule from) never (t ∷ rest) (r rest)
    word_of_stmt Q r clean out put f = behind Q (Stmts left in_rule from) never t clean out put (λ s v h. stmt_some s left in_rule from v h) rest (r rest) (f.meets tt rest real.1)

    nothing : begins_stmt in_rule t.kind ≡ false → Outcome (Stmts left in_rule from) never (t ∷ rest) (Err (at sort.Syntax (t ∷ rest)))
    nothing not = syntax_here (Stmts left in_rule from) never t rest some_stmt (λ s v h. stmt_some s left in_rule from v h) (λ s v x h. not_both (begins_stmt in_rule t.kind) (stmt_begins s left in_rule from v t x h) not)

    pick_case : (b : Bool) → in_rule ≡ b → t.kind ≡ kind.Word word.Pick → Outcome (Stmts left in_rule from) never (t ∷ rest) (cond {A = Reading StmtTree} b (pick_at from t.at rest) (Err (at sort.Syntax (t ∷ rest))))
    pick_case true r e = word_of_stmt (Picks t.at) (pick_at from t.at) (ap is_last e) (pick_from e) (pick_put r e) (pick_form t.at)
    pick_case false r e = nothing (ap (begins_stmt in_rule) e ∙ r)

    set_case : (b : Bool) → in_rule ≡ b → t.kind ≡ kind.Word word.Set
        → Outcome (Stmts left in_rule from) never (t ∷ rest) (cond {A = Reading StmtTree} b (assigned_at left rest >>= λ x. Ok (Set_of t.at x.0.0 x.0.1, x.1)) (Err (at sort.Syntax (t ∷ rest))))
    set_case true r e = word_of_stmt (Made (λ (b : Ident × ExprTree). Set_of t.at b.0 b.1) (Assigned left)) (λ tokens. assigned_at left tokens >>= λ x. Ok (Set_of t.at x.0.0 x.0.1, x.1)) (ap is_last e) (set_from e) (set_put r e)
        (made_form (Unit {0}) (Assigned left) never (λ b. Set_of t.at b.0 b.1) (assigned_at left) (assigned_form left))
    set_case false r e = nothing (ap (begins_stmt in_rule) e ∙ r)

    stmt_kind : (k : Kind) → t.kind ≡ k → Outcome (Stmts left in_rule from) never (t ∷ rest) (stmt_on left in_rule from t.at (t ∷ rest) rest k)
    unfolding stmt_on
    stmt_kind (kind.Word word.Draw) e = word_of_stmt (Draws t.at) (draw_at left from t.at) (ap is_last e) (draw_from e) (draw_put e) (draw_form t.at)
    stmt_kind (kind.Word word.Let) e = word_of_stmt (Made (λ (b : Ident × ExprTree). Let_of t.at b.0 b.1) (Assigned left)) (λ tokens. assigned_at left tokens >>= λ x. Ok (Let_of t.at x.0.0 x.0.1, x.1)) (ap is_last e) (let_from e) (let_put e)
        (made_form (Unit {0}) (Assigned left) never (λ b. Let_of t.at b.0 b.1) (assigned_at left) (assigned_form left))
    stmt_kind (kind.Word word.Assume) e = word_of_stmt (Made (Assume_of t.at) (Ended left)) (λ tokens. ended_at left tokens >>= λ x. Ok (Assume_of t.at x.0, x.1)) (ap is_last e) (assume_from e) (assume_put e)
        (made_form (Unit {0}) (Ended left) never (Assume_of t.at) (ended_at left) (ended_form left))
    stmt_kind (kind.Word word.Assert) e = word_of_stmt (Made (Assert_of t.at) (Ended left)) (λ tokens. ended_at left tokens >>= λ x. Ok (Assert_of t.at x.0, x.1)) (ap is_last e) (assert_from e) (assert_put e)
        (made_form (Unit {0}) (Ended left) never (Assert_of t.at) (ended_at left) (ended_form left))
    stmt_kind (kind.Word word.Pick) e = pick_case in_rule refl e
    stmt_kind (kind.Word word.Set) e = set_case in_rule refl e
    stmt_kind other e = nothing (ap (begins_stmt in_rule) e)

  pub stmt_form : Form (Unit {0}) (Stmts left in_rule from) never (stmt_at left in_rule from)
  stmt_form = record { some = some_stmt; meets = λ u tokens real. cases tokens real } where
    cases : (tokens : List Token) → AllReal tokens → Outcome (Stmts left in_rule from) never tokens (stmt_at left in_rule from tokens)
    cases [] real = ended (Stmts left in_rule from) never some_stmt
    cases (t ∷ rest) real = stmt_kind t rest real t.kind refl

-- ---- statements in a row

pub stmts_form : (left : ℕ) (in_rule : Bool) (from : ℕ) → Form (Unit {0}) (Many (Stmts left in_rule) next_stmt from) (begins_stmt in_rule) (stmts_at left in_rule from)
stmts_form left in_rule from =
    many_form (Unit {0}) (Stmts left in_rule) (λ from. begins_stmt in_rule) next_stmt never (begins_stmt in_rule) (stmt_at left in_rule) (λ from. stmt_form left in_rule from)
    (λ s from a t ts h. stmt_begins s left in_rule from a t ts h) (λ s from a h. stmt_some s left in_rule from a h) (λ from k e. refl) (λ k e. refl) (λ from k e stop. not_both (begins_stmt in_rule k) e stop) from

abbrev Gives : ℕ → Family StmtTree
Gives left s v ts = IsGive s left (v ∷ []) ts

pub give_tests : Tests is_give (kind.Word word.Give)
give_tests = record { passes = refl; only = only } where
  only : (other : Kind) → is_give other ≡ true → other ≡ kind.Word word.Give
  only (kind.Word word.Give) e = refl
  only other e = absurd cc

give_out : (left : ℕ) (t : Token) → t.kind ≡ kind.Word word.Give → (s : Sort) (v : StmtTree) (x : List Token) → Gives left s v (t ∷ x) → Made (Give_of t.at) (Ended left) s v x
give_out left t e s (Give_of at value) x h = let one = at_then _ _ _ t x h in (value, ap (λ q. Give_of q value) (sym one.1), (value, refl, one.2))
give_out left t e s other x h = absurd h

give_put : (left : ℕ) (t : Token) → t.kind ≡ kind.Word word.Give → (s : Sort) (v : StmtTree) (x : List Token) → Made (Give_of t.at) (Ended left) s v x → Gives left s v (t ∷ x)
give_put left t e s v x (w, same, (value, is, last)) = subst (λ w. Gives left s w (t ∷ x)) (sym (same ∙ ap (Give_of t.at) is)) (at_first _ _ t x e last)

give_head : (left : ℕ) (s : Sort) (v : StmtTree) (t : Token) (x : List Token) → Gives left s v (t ∷ x) → t.kind ≡ kind.Word word.Give
give_head left s (Give_of at value) t x h = (at_then _ _ _ t x h).0
give_head left s other t x h = absurd h

give_some : (left : ℕ) (s : Sort) (v : StmtTree) → Gives left s v [] → ⊥
give_some left s (Give_of at value) h = at_some _ _ _ h
give_some left s other h = h

give_form : (left : ℕ) → Form (Unit {0}) (Gives left) never (give_at left)
unfolding give_at
give_form left =
    worded_form (Gives left) (λ place. Made (Give_of place) (Ended left)) never is_give (kind.Word word.Give) give_tests refl (give_out left) (give_put left) (give_head left) (give_some left)
    (λ place rest. ended_at left rest >>= λ x. Ok (Give_of place x.0, x.1)) (λ place. made_form (Unit {0}) (Ended left) never (Give_of place) (ended_at left) (ended_form left))

-- with which tokens the statements of a rule go on
abbrev pub on_rule : Kind → Bool
on_rule k = is_give k || begins_stmt true k

abbrev pub Rule_stmts : ℕ → ℕ → Family (List StmtTree)
Rule_stmts left from s = AreRuleStmts s left from

pub rule_stmts_form : (left from : ℕ) → Form (Unit {0}) (Rule_stmts left from) on_rule (rule_stmts_at left from)
unfolding rule_stmts_at
rule_stmts_form left from =
    form_same (Unit {0}) (Seq (Many (Stmts left true) next_stmt from) (λ own. Made (λ given. own ++ option_to_list given) (Maybe (Gives left)))) (Rule_stmts left from) on_rule _ to back
    (seq_form (Many (Stmts left true) next_stmt from) (λ own. Made (λ given. own ++ option_to_list given) (Maybe (Gives left))) (begins_stmt true) on_rule stops (λ own. (own ++ [], [], λ s. (None, refl, refl), λ h. h))
    (Unit {0}) (stmts_at left true from) _ (stmts_form left true from)
    (λ own. made_form (Unit {0}) (Maybe (Gives left)) on_rule (λ given. own ++ option_to_list given) (maybe_at (give_at left) is_give)
    (maybe_form (Unit {0}) (Gives left) is_give never on_rule (give_at left) (give_form left) (λ s a t ts h. ap is_give (give_head left s a t ts h)) (λ s a h. give_some left s a h) (λ k e. refl)
    (λ k e stop. not_both (is_give k) e (or_false (is_give k) (begins_stmt true k) stop).0)))) where
      stops : (s : Sort) (own v : List StmtTree) (ts z : List Token) → Made (λ given. own ++ option_to_list given) (Maybe (Gives left)) s v ts → Stops on_rule z → Stops (begins_stmt true) (ts ++ z)
      stops s own v ts [] (None, same, nil) stop = subst (λ w. Stops (begins_stmt true) (w ++ [])) (sym nil) tt
      stops s own v ts (u ∷ z) (None, same, nil) stop = subst (λ w. Stops (begins_stmt true) (w ++ u ∷ z)) (sym nil) (or_false (is_give u.kind) (begins_stmt true u.kind) stop).1
      stops s own v [] z (Some a, same, h) stop = absurd (give_some left s a h)
      stops s own v (u ∷ ts) z (Some a, same, h) stop = ap (begins_stmt true) (give_head left s a u ts h)

      to : (s : Sort) (v : List StmtTree) (ts : List Token) → Seq (Many (Stmts left true) next_stmt from) (λ own. Made (λ given. own ++ option_to_list given) (Maybe (Gives left))) s v ts → Rule_stmts left from s v ts
      to s v ts (own, (x, y, p, (None, same, q), e)) = (own, [], same, (x, y, p, q, e))
      to s v ts (own, (x, y, p, (Some a, same, q), e)) = (own, a ∷ [], same, (x, y, p, q, e))

      two : (s : Sort) (a b : StmtTree) (others : List StmtTree) (ts : List Token) → IsGive s left (a ∷ b ∷ others) ts → ⊥
      two s (Give_of at value) b others ts h = h
      two s (Draw_of at given strat) b others ts h = h
      two s (Let_of at given value) b others ts h = h
      two s (Assume_of at cond) b others ts h = h
      two s (Assert_of at cond) b others ts h = h
      two s (Pick_of at num given bundle) b others ts h = h
      two s (Set_of at state value) b others ts h = h

      back : (s : Sort) (v : List StmtTree) (ts : List Token) → Rule_stmts left from s v ts → Seq (Many (Stmts left true) next_stmt from) (λ own. Made (λ given. own ++ option_to_list given) (Maybe (Gives left))) s v ts
      back s v ts (own, [], same, (x, y, p, q, e)) = (own, (x, y, p, (None, same, q), e))
      back s v ts (own, a ∷ [], same, (x, y, p, q, e)) = (own, (x, y, p, (Some a, same, q), e))
      back s v ts (own, a ∷ b ∷ others, same, (x, y, p, q, e)) = absurd (two s a b others y q)
