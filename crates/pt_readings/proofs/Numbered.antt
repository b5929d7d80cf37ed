-- The nodes of the suite that was read are numbered in the order of the text.
use Rattle.std.proofs.Common.{◌≡◌, ℕ, zero, suc, ◌+◌, ◌-◌, ◌≤◌, Bool, true, false, List, [], ◌∷◌, ◌++◌, length, refl, sym, ap, subst, ◌∙◌, arith, length-append}
use Rattle.std.specs.List.{flat_map, range_with_len}
use Rattle.pt_val.specs.declared.place.Place.{Place}
use Rattle.pt_ast.specs.declared.ident.Ident.{Ident}
use Rattle.pt_ast.specs.declared.suite.Settings.{Settings}
use Rattle.pt_ast.specs.Trees.{StratTree, Ints_of, Bools_of, Texts_of, Blobs_of, Sampled_of, Lists_of, Tuples_of, OneOf_of, Map_of, Filter_of, FlatMap_of, Recursive_of, Self_of, StratTrees, no_strat, more_strat, StmtTree, Draw_of, Let_of, Assume_of, Assert_of, Pick_of, Set_of, Give_of, RuleTree, MachineTree, BodyTree, Check_of, Property_of, Machine_of, ItemTree, SuiteTree}
use Rattle.pt_ast.specs.Numbers.{strat_numbers, strats_numbers, stmt_numbers, stmts_numbers, body_numbers, suite_numbers, IsNumbered}
use Rattle.pt_token.specs.declared.token.Token.{Token}
use Rattle.pt_token.specs.declared.token.Kind.{Kind}
use Rattle.pt_grammar.specs.declared.sort.Sort.{Sort}
use Rattle.pt_grammar.specs.declared.sort.Sort.TheVariants as sort
use Rattle.pt_grammar.specs.Forms.{◌⨾◌, One, OneAt, Part}
use Rattle.pt_grammar.specs.StratGrammar.{IsStrat, MoreStrats, nodes}
use Rattle.pt_grammar.specs.SuiteGrammar.{IsStmt, AreStmts, IsGive, AreRuleStmts, IsRule, AreRules, IsMachine, ItemOf, IsItem, AreItems}
use Rattle.pt_readings.specs.Laws.{Numbers}

-- these numbers are this one, the next, and so on
abbrev Counts : ℕ → List ℕ → Type 0
Counts from [] = Unit {0}
Counts from (first ∷ others) = (first ≡ from) × Counts (from + 1) others

counts_join : (from : ℕ) (xs ys : List ℕ) → Counts from xs → Counts (from + length xs) ys → Counts from (xs ++ ys)
counts_join from [] ys h k = let same : from + 0 ≡ from = omega arith in subst (λ n. Counts n ys) same k
counts_join from (x ∷ xs) ys h k = let same : from + length (x ∷ xs) ≡ (from + 1) + length xs = omega arith in (h.0, counts_join (from + 1) xs ys h.1 (subst (λ n. Counts n ys) same k))

counts_range : (from : ℕ) (numbers : List ℕ) → Counts from numbers → numbers ≡ range_with_len from (length numbers)
counts_range from [] h = refl
counts_range from (n ∷ ns) h = ap (λ m. m ∷ ns) h.0 ∙ ap (λ l. from ∷ l) (counts_range (from + 1) ns h.1)

-- and there are no more of them than that
abbrev Counted : ℕ → List ℕ → ℕ → Type 0
Counted from numbers room = Counts from numbers × (length numbers ≤ room)

counted_join : (from : ℕ) (xs ys : List ℕ) (m n room : ℕ) → Counted from xs m → Counted (from + length xs) ys n → m + n ≤ room → Counted from (xs ++ ys) room
counted_join from xs ys m n room h k le = (counts_join from xs ys h.0 k.0, omega (arith, h.1, k.1, le, length-append xs ys))

counted_more : (from : ℕ) (numbers : List ℕ) (m n : ℕ) → Counted from numbers m → m ≤ n → Counted from numbers n
counted_more from numbers m n h le = (h.0, omega (arith, h.1, le))

-- the lengths of two forms behind one another
cut : (A B : List Token → Type 0) (ts : List Token) → (A ⨾ B) ts → (x y : List Token) × A x × B y × (length ts ≡ length x + length y)
cut A B ts (x, y, p, q, e) = (x, y, p, q, ap length e ∙ length-append x y)

-- what stands behind a first token
behind : (k : Kind) (at : Place) (B : List Token → Type 0) (ts : List Token) → (OneAt k at ⨾ B) ts → (y : List Token) × B y × (length ts ≡ 1 + length y)
behind k at B ts (x, y, (t, same, stands, only), q, e) = (y, q, omega (arith, ap length (e ∙ ap (λ w. w ++ y) only)))

mutual
  strat_counted : (s : Sort) (left from : ℕ) (tree : StratTree) (ts : List Token) → IsStrat s left from tree ts → Counted from (strat_numbers tree) (length ts)
  strat_counted s left from (Ints_of at num lo hi) ts h = let a = behind _ _ _ ts h.1 in ((h.0, tt), omega (arith, a.2))
  strat_counted s left from (Bools_of at num) ts h = let a = behind _ _ _ ts h.1 in ((h.0, tt), omega (arith, a.2))
  strat_counted s left from (Texts_of at num alphabet lo hi) ts h = let a = behind _ _ _ ts h.1 in ((h.0, tt), omega (arith, a.2))
  strat_counted s left from (Blobs_of at num lo hi) ts h = let a = behind _ _ _ ts h.1 in ((h.0, tt), omega (arith, a.2))
  strat_counted s left from (Sampled_of at num list) ts h = let a = behind _ _ _ ts h.1 in ((h.0, tt), omega (arith, a.2))
  strat_counted s left from (Lists_of at num element lo hi) ts h =
      let a = behind _ _ _ ts h.1 in
      let b = cut _ _ a.0 a.1 in
      let c = cut _ _ b.1 b.3 in
      let one = strat_counted s (left - 1) (from + 1) element c.0 c.2 in ((h.0, one.0), omega (arith, one.1, a.2, b.4, c.4))
  strat_counted s left from (Tuples_of at num (more_strat first (more_strat second others))) ts h =
      let a = behind _ _ _ ts h.1 in
      let b = cut _ _ a.0 a.1 in
      let c = cut _ _ b.1 b.3 in
      let d = cut _ _ c.1 c.3 in
      let e = cut _ _ d.1 d.3 in
      let f = cut _ _ e.1 e.3 in
      let one = strat_counted s (left - 1) _ first c.0 c.2 in
      let two = strat_counted s (left - 1) _ second e.0 e.2 in
      let more = strats_counted s (left - 1) 6 _ others f.0 f.2 in
      let later = counted_join (from + 1 + nodes first) (strat_numbers second) (strats_numbers others) (length e.0) (length f.0) (length e.0 + length f.0) two more (omega arith) in
      let all = counted_join (from + 1) (strat_numbers first) (strat_numbers second ++ strats_numbers others) (length c.0) (length e.0 + length f.0) (length c.0 + (length e.0 + length f.0)) one later (omega arith) in
      ((h.0, all.0), omega (arith, all.1, a.2, b.4, c.4, d.4, e.4, f.4))
  strat_counted s left from (Tuples_of at num other) ts h = absurd h
  strat_counted s left from (OneOf_of at num (more_strat first others)) ts h =
      let a = behind _ _ _ ts h.1 in
      let b = cut _ _ a.0 a.1 in
      let c = cut _ _ b.1 b.3 in
      let d = cut _ _ c.1 c.3 in
      let one = strat_counted s (left - 1) _ first c.0 c.2 in
      let more = strats_counted s (left - 1) 15 _ others d.0 d.2 in
      let all = counted_join (from + 1) (strat_numbers first) (strats_numbers others) (length c.0) (length d.0) (length c.0 + length d.0) one more (omega arith) in
      ((h.0, all.0), omega (arith, all.1, a.2, b.4, c.4, d.4))
  strat_counted s left from (OneOf_of at num no_strat) ts h = absurd h
  strat_counted s left from (Map_of at num given inner body) ts h =
      let a = behind _ _ _ ts h.1 in
      let b = cut _ _ a.0 a.1 in
      let c = cut _ _ b.1 b.3 in
      let d = cut _ _ c.1 c.3 in
      let e = cut _ _ d.1 d.3 in
      let one = strat_counted s (left - 1) _ inner e.0 e.2 in ((h.0, one.0), omega (arith, one.1, a.2, b.4, c.4, d.4, e.4))
  strat_counted s left from (Filter_of at num given inner cond) ts h =
      let a = behind _ _ _ ts h.1 in
      let b = cut _ _ a.0 a.1 in
      let c = cut _ _ b.1 b.3 in
      let d = cut _ _ c.1 c.3 in
      let e = cut _ _ d.1 d.3 in
      let one = strat_counted s (left - 1) _ inner e.0 e.2 in ((h.0, one.0), omega (arith, one.1, a.2, b.4, c.4, d.4, e.4))
  strat_counted s left from (FlatMap_of at num given inner second) ts h =
      let a = behind _ _ _ ts h.1 in
      let b = cut _ _ a.0 a.1 in
      let c = cut _ _ b.1 b.3 in
      let d = cut _ _ c.1 c.3 in
      let e = cut _ _ d.1 d.3 in
      let f = cut _ _ e.1 e.3 in
      let i = cut _ _ f.1 f.3 in
      let one = strat_counted s (left - 1) _ inner e.0 e.2 in
      let two = strat_counted s (left - 1) _ second i.0 i.2 in
      let all = counted_join (from + 1) (strat_numbers inner) (strat_numbers second) (length e.0) (length i.0) (length e.0 + length i.0) one two (omega arith) in
      ((h.0, all.0), omega (arith, all.1, a.2, b.4, c.4, d.4, e.4, f.4, i.4))
  strat_counted s left from (Recursive_of at num depth first second) ts h =
      let a = behind _ _ _ ts h.1 in
      let b = cut _ _ a.0 a.1 in
      let c = cut _ _ b.1 b.3 in
      let d = cut _ _ c.1 c.3 in
      let e = cut _ _ d.1 d.3 in
      let f = cut _ _ e.1 e.3 in
      let i = cut _ _ f.1 f.3 in
      let one = strat_counted s (left - 1) _ first e.0 e.2 in
      let two = strat_counted s (left - 1) _ second i.0 i.2 in
      let all = counted_join (from + 1) (strat_numbers first) (strat_numbers second) (length e.0) (length i.0) (length e.0 + length i.0) one two (omega arith) in
      ((h.0, all.0), omega (arith, all.1, a.2, b.4, c.4, d.4, e.4, f.4, i.4))
  strat_counted s left from (Self_of at num) ts h = (tt, omega arith)

  strats_counted : (s : Sort) (left room from : ℕ) (trees : StratTrees) (ts : List Token) → MoreStrats s left room from trees ts → Counted from (strats_numbers trees) (length ts)
  strats_counted s left room from no_strat ts h = (tt, omega arith)
  strats_counted s left room from (more_strat first others) ts h =
      let a = cut _ _ ts h in
      let b = cut _ _ a.0 a.2 in
      let one = strat_counted s left from first b.1 b.3.0 in
      let more = strats_counted s left (room - 1) (from + nodes first) others a.1 a.3 in
      counted_join from (strat_numbers first) (strats_numbers others) (length b.1) (length a.1) (length ts) one more (omega (arith, a.4, b.4))

stmt_counted : (s : Sort) (left : ℕ) (in_rule : Bool) (from : ℕ) (tree : StmtTree) (ts : List Token) → IsStmt s left in_rule from tree ts → Counted from (stmt_numbers tree) (length ts)
stmt_counted s left in_rule from (Draw_of at given strat) ts h =
    let a = behind _ _ _ ts h in
    let b = cut _ _ a.0 a.1 in
    let c = cut _ _ b.1 b.3 in
    let d = cut _ _ c.1 c.3 in
    let one = strat_counted s left from strat d.0 d.2 in (one.0, omega (arith, one.1, a.2, b.4, c.4, d.4))
stmt_counted s left in_rule from (Let_of at given value) ts h = (tt, omega arith)
stmt_counted s left in_rule from (Assume_of at cond) ts h = (tt, omega arith)
stmt_counted s left in_rule from (Assert_of at cond) ts h = (tt, omega arith)
stmt_counted s left in_rule from (Pick_of at num given bundle) ts h = let a = behind _ _ _ ts h.2 in ((h.1, tt), omega (arith, a.2))
stmt_counted s left in_rule from (Set_of at state value) ts h = (tt, omega arith)
stmt_counted s left in_rule from (Give_of at value) ts h = absurd h

stmts_counted : (s : Sort) (left : ℕ) (in_rule : Bool) (from : ℕ) (stmts : List StmtTree) (ts : List Token) → AreStmts s left in_rule from stmts ts → Counted from (stmts_numbers stmts) (length ts)
stmts_counted s left in_rule from [] ts h = (tt, omega arith)
stmts_counted s left in_rule from (first ∷ others) ts h =
    let a = cut _ _ ts h in
    counted_join from (stmt_numbers first) (stmts_numbers others) (length a.0) (length a.1) (length ts) (stmt_counted s left in_rule from first a.0 a.2) (stmts_counted s left in_rule (from + length (stmt_numbers first)) others a.1 a.3) (omega (arith, a.4))

-- a `give` has no number
no_numbers : (s : Sort) (left : ℕ) (given : List StmtTree) (ts : List Token) → IsGive s left given ts → stmts_numbers given ≡ []
no_numbers s left [] ts h = refl
no_numbers s left (Give_of at value ∷ []) ts h = refl
no_numbers s left (Draw_of at given strat ∷ others) ts h = absurd h
no_numbers s left (Let_of at given value ∷ others) ts h = absurd h
no_numbers s left (Assume_of at cond ∷ others) ts h = absurd h
no_numbers s left (Assert_of at cond ∷ others) ts h = absurd h
no_numbers s left (Pick_of at num given bundle ∷ others) ts h = absurd h
no_numbers s left (Set_of at state value ∷ others) ts h = absurd h
no_numbers s left (Give_of at value ∷ second ∷ others) ts h = absurd h

own_counted : (s : Sort) (left from : ℕ) (own given : List StmtTree) (ts : List Token) → stmts_numbers given ≡ [] → AreStmts s left true from own ts → Counted from (stmts_numbers (own ++ given)) (length ts)
own_counted s left from [] given ts none h = subst (λ l. Counted from l (length ts)) (sym none) (tt, omega arith)
own_counted s left from (first ∷ own) given ts none h =
    let a = cut _ _ ts h in
    counted_join from (stmt_numbers first) (stmts_numbers (own ++ given)) (length a.0) (length a.1) (length ts) (stmt_counted s left true from first a.0 a.2) (own_counted s left (from + length (stmt_numbers first)) own given a.1 none a.3) (omega (arith, a.4))

rule_counted : (s : Sort) (left from : ℕ) (rule : RuleTree) (ts : List Token) → IsRule s left from rule ts → Counted from (stmts_numbers rule.stmts) (length ts)
rule_counted s left from rule ts h =
    let a = behind _ _ _ ts h in
    let b = cut _ _ a.0 a.1 in
    let c = cut _ _ b.1 b.3 in
    let d = cut _ _ c.1 c.3 in
    let e = cut _ _ d.1 d.3 in
    let f = cut _ _ e.1 e.3 in
    let one = stmts f.0 f.2 in (one.0, omega (arith, one.1, a.2, b.4, c.4, d.4, e.4, f.4)) where
      stmts : (us : List Token) → AreRuleStmts s (left - 1) from rule.stmts us → Counted from (stmts_numbers rule.stmts) (length us)
      stmts us (own, given, same, k) =
          let a = cut _ _ us k in
          let all = own_counted s (left - 1) from own given a.0 (no_numbers s (left - 1) given a.1 a.3) a.2 in
          subst (λ l. Counted from (stmts_numbers l) (length us)) (sym same) (all.0, omega (arith, all.1, a.4))

rules_counted : (s : Sort) (left room from : ℕ) (rules : List RuleTree) (ts : List Token) → AreRules s left room from rules ts → Counted from (flat_map (λ rule. stmts_numbers rule.stmts) rules) (length ts)
rules_counted s left room from [] ts h = (tt, omega arith)
rules_counted s left room from (first ∷ others) ts h =
    let a = cut _ _ ts h in
    counted_join from (stmts_numbers first.stmts) (flat_map (λ rule. stmts_numbers rule.stmts) others) (length a.0) (length a.1) (length ts) (rule_counted s left from first a.0 a.2.0)
    (rules_counted s left (room - 1) (from + length (stmts_numbers first.stmts)) others a.1 a.3) (omega (arith, a.4))

body_counted : (s : Sort) (from : ℕ) (place : Place) (name : Ident) (settings : Settings) (body : BodyTree) (ts : List Token) → ItemOf s from place name settings body ts → Counted from (body_numbers body) (length ts)
body_counted s from place name settings Check_of ts h = (tt, omega arith)
body_counted s from place name settings (Property_of stmts) ts h =
    let a = behind _ _ _ ts h in
    let b = cut _ _ a.0 a.1 in
    let c = cut _ _ b.1 b.3 in
    let d = cut _ _ c.1 c.3 in
    let e = cut _ _ d.1 d.3 in
    let one = stmts_counted s 63 false from stmts e.0 e.2 in (one.0, omega (arith, one.1, a.2, b.4, c.4, d.4, e.4))
body_counted s from place name settings (Machine_of machine) ts h =
    let a = behind _ _ _ ts h in
    let b = cut _ _ a.0 a.1 in
    let c = cut _ _ b.1 b.3 in
    let m = c.3 in
    let d = cut _ _ c.1 m.1 in
    let e = cut _ _ d.1 d.3 in
    let f = cut _ _ e.1 e.3 in
    let g = cut _ _ f.1 f.3 in
    let i = cut _ _ g.1 g.3 in
    let one = rules_counted s 63 64 (from + 1) machine.rules i.0 i.2 in ((m.0, one.0), omega (arith, one.1, a.2, b.4, c.4, d.4, e.4, f.4, g.4, i.4))

items_counted : (s : Sort) (room from : ℕ) (items : List ItemTree) (ts : List Token) → AreItems s room from items ts → Counted from (flat_map (λ item. body_numbers item.body) items) (length ts)
items_counted s room from [] ts h = (tt, omega arith)
items_counted s room from (first ∷ others) ts h =
    let a = cut _ _ ts h in
    counted_join from (body_numbers first.body) (flat_map (λ item. body_numbers item.body) others) (length a.0) (length a.1) (length ts) (body_counted s from first.at first.name first.settings first.body a.0 a.2.0)
    (items_counted s (room - 1) (from + length (body_numbers first.body)) others a.1 a.3) (omega (arith, a.4))

pub numbers : Numbers
numbers tokens suite few h =
    let a = cut _ _ tokens h in
    let all = items_counted sort.OutOfRange 200 0 suite.items a.0 a.2 in
    let last = one a.1 a.3 in
    (counts_range 0 (suite_numbers suite) all.0, omega (arith, all.1, few, last, a.4)) where
      one : {k : Kind} (ts : List Token) → One k ts → length ts ≡ 1
      one ts (t, same, only) = ap length only
