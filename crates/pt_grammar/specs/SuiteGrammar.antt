-- The grammar of statements, items and suites: which tokens spell a tree.
use Rattle.std.specs.Prelude.{◌≡◌, ℕ, ◌+◌, ◌-◌, length, IsTrue, Bool, true, false, Option, Some, None, List, [], ◌∷◌, ◌++◌}
use Rattle.pt_val.specs.declared.place.Place.{Place}
use Rattle.pt_ast.specs.declared.ident.Ident.{Ident}
use Rattle.pt_ast.specs.declared.suite.Settings.{Settings}
use Rattle.pt_ast.specs.Trees.{ExprTree, StmtTree, Draw_of, Let_of, Assume_of, Assert_of, Pick_of, Set_of, Give_of, StateTree, BundleTree, InvariantTree, RuleTree, MachineTree, BodyTree, Check_of, Property_of, Machine_of, ItemTree, SuiteTree}
use Rattle.pt_ast.specs.Numbers.{stmt_numbers, stmts_numbers, body_numbers}
use Rattle.pt_token.specs.declared.token.Token.{Token}
use Rattle.pt_token.specs.declared.token.Kind.TheVariants as kind
use Rattle.pt_token.specs.declared.token.Word.TheVariants as word
use Rattle.pt_grammar.specs.declared.sort.Sort.{Sort}
use Rattle.pt_grammar.specs.Tokens.{open_brace, close_brace, semicolon, colon, assign, ending}
use Rattle.pt_grammar.specs.Forms.{◌⨾◌, One, OneAt, Opens, IsName, Limited, Part, Series}
use Rattle.pt_grammar.specs.TypeGrammar.{IsType}
use Rattle.pt_grammar.specs.ExprGrammar.{IsExpr}
use Rattle.pt_grammar.specs.StratGrammar.{IsStrat}

-- a statement of a rule or of a property, whose nodes are numbered from there on; `give` stands apart
abbrev pub IsStmt : Sort → ℕ → Bool → ℕ → StmtTree → List Token → Type 0
IsStmt upto left in_rule from (Draw_of at given strat) tokens =
    (OneAt (kind.Word word.Draw) at ⨾ IsName upto given ⨾ One assign ⨾ IsStrat upto left from strat ⨾ One semicolon) tokens
IsStmt upto left in_rule from (Let_of at given value) tokens =
    (OneAt (kind.Word word.Let) at ⨾ IsName upto given ⨾ One assign ⨾ IsExpr upto left 0 value ⨾ One semicolon) tokens
IsStmt upto left in_rule from (Assume_of at cond) tokens = (OneAt (kind.Word word.Assume) at ⨾ IsExpr upto left 0 cond ⨾ One semicolon) tokens
IsStmt upto left in_rule from (Assert_of at cond) tokens = (OneAt (kind.Word word.Assert) at ⨾ IsExpr upto left 0 cond ⨾ One semicolon) tokens
IsStmt upto left in_rule from (Pick_of at num given bundle) tokens =
    IsTrue in_rule × (num ≡ from) × (OneAt (kind.Word word.Pick) at ⨾ IsName upto given ⨾ One (kind.Word word.From) ⨾ IsName upto bundle
    ⨾ One semicolon) tokens
IsStmt upto left in_rule from (Set_of at state value) tokens =
    IsTrue in_rule × (OneAt (kind.Word word.Set) at ⨾ IsName upto state ⨾ One assign ⨾ IsExpr upto left 0 value ⨾ One semicolon) tokens
IsStmt upto left in_rule from (Give_of at value) tokens = ⊥

abbrev pub AreStmts : Sort → ℕ → Bool → ℕ → List StmtTree → List Token → Type 0
AreStmts upto left in_rule from stmts tokens = Series (IsStmt upto left in_rule) (λ from stmt. from + length (stmt_numbers stmt)) from stmts tokens

-- at most one `give`
abbrev pub IsGive : Sort → ℕ → List StmtTree → List Token → Type 0
IsGive upto left [] tokens = tokens ≡ []
IsGive upto left (Give_of at value ∷ []) tokens = (OneAt (kind.Word word.Give) at ⨾ IsExpr upto left 0 value ⨾ One semicolon) tokens
IsGive upto left other tokens = ⊥

-- the statements of a rule, with `give` as the last
abbrev pub AreRuleStmts : Sort → ℕ → ℕ → List StmtTree → List Token → Type 0
AreRuleStmts upto left from stmts tokens =
    (own given : List StmtTree) × (stmts ≡ own ++ given) × (AreStmts upto left true from own ⨾ IsGive upto left given) tokens

abbrev pub IsState : Sort → ℕ → StateTree → List Token → Type 0
IsState upto left state tokens =
    (OneAt (kind.Word word.State) state.at ⨾ IsName upto state.name ⨾ One assign ⨾ IsExpr upto left 0 state.init ⨾ One semicolon) tokens

abbrev pub IsBundle : Sort → ℕ → BundleTree → List Token → Type 0
IsBundle upto left bundle tokens =
    (OneAt (kind.Word word.Bundle) bundle.at ⨾ IsName upto bundle.name ⨾ One colon ⨾ IsType upto left bundle.type ⨾ One semicolon) tokens

abbrev pub IsInvariant : Sort → ℕ → InvariantTree → List Token → Type 0
IsInvariant upto left invariant tokens = (OneAt (kind.Word word.Invariant) invariant.at ⨾ IsExpr upto left 0 invariant.cond ⨾ One semicolon) tokens

-- when a rule may run, if it says so
abbrev pub IsWhen : Sort → ℕ → Option ExprTree → List Token → Type 0
IsWhen upto left None tokens = tokens ≡ []
IsWhen upto left (Some cond) tokens = (One (kind.Word word.When) ⨾ IsExpr upto left 0 cond) tokens

-- the bundle that a rule gives into, if there is one
abbrev pub IsInto : Sort → Option Ident → List Token → Type 0
IsInto upto None tokens = tokens ≡ []
IsInto upto (Some bundle) tokens = (One (kind.Word word.Into) ⨾ IsName upto bundle) tokens

abbrev pub IsRule : Sort → ℕ → ℕ → RuleTree → List Token → Type 0
IsRule upto left from rule tokens =
    (OneAt (kind.Word word.Rule) rule.at ⨾ IsName upto rule.name ⨾ IsWhen upto left rule.when ⨾ IsInto upto rule.into
    ⨾ Opens upto left open_brace ⨾ AreRuleStmts upto (left - 1) from rule.stmts ⨾ One close_brace) tokens

-- parts of a machine, of which there are 64 at most
abbrev pub Declared : {A : Type 0} → Sort → (A → List Token → Type 0) → List A → List Token → Type 0
Declared {A} upto Spells parts tokens = Series (λ room (part : A). Part upto room (Spells part)) (λ room part. room - 1) 64 parts tokens

-- rules, with the room that is left and the number of the next node
abbrev pub AreRules : Sort → ℕ → ℕ → ℕ → List RuleTree → List Token → Type 0
AreRules upto left room from rules tokens =
    Series {A = RuleTree} {Given = ℕ × ℕ} (λ given rule. Part upto given.0 (IsRule upto left given.1 rule))
    (λ given rule. (given.0 - 1, given.1 + length (stmts_numbers rule.stmts))) (room, from) rules tokens

abbrev pub IsMachine : Sort → ℕ → ℕ → MachineTree → List Token → Type 0
IsMachine upto left from machine tokens =
    (machine.num ≡ from) × (Opens upto left open_brace ⨾ Declared upto (IsState upto (left - 1)) machine.states
    ⨾ Declared upto (IsBundle upto (left - 1)) machine.bundles
    ⨾ Declared upto (IsInvariant upto (left - 1)) machine.invariants ⨾ AreRules upto (left - 1) 64 (from + 1) machine.rules ⨾ One close_brace) tokens

-- one setting, with its number
pub data Setting : Type 0 where
  Runs_of : ℕ → Setting
  Shrink_of : ℕ → Setting
  Steps_of : ℕ → Setting

-- which settings may still stand
pub record Allowed : Type 0 where
  pub runs : Bool
  pub shrink : Bool
  pub steps : Bool

-- all of them may, but `steps` only in machines
abbrev pub all_settings : Bool → Allowed
all_settings steps = record { runs = true; shrink = true; steps = steps }

abbrev pub without : Allowed → Setting → Allowed
without allowed (Runs_of n) = record { runs = false; shrink = allowed.shrink; steps = allowed.steps }
without allowed (Shrink_of n) = record { runs = allowed.runs; shrink = false; steps = allowed.steps }
without allowed (Steps_of n) = record { runs = allowed.runs; shrink = allowed.shrink; steps = false }

abbrev pub IsSetting : Sort → Allowed → Setting → List Token → Type 0
IsSetting upto allowed (Runs_of n) tokens = (allowed.runs ≡ true) × (One (kind.Word word.Runs) ⨾ Limited upto 1 10000 n) tokens
IsSetting upto allowed (Shrink_of n) tokens = (allowed.shrink ≡ true) × (One (kind.Word word.Shrink) ⨾ Limited upto 0 1000 n) tokens
IsSetting upto allowed (Steps_of n) tokens = (allowed.steps ≡ true) × (One (kind.Word word.Steps) ⨾ Limited upto 1 64 n) tokens

abbrev pub with_setting : Settings → Setting → Settings
with_setting settings (Runs_of n) = record { runs = n; shrink = settings.shrink; steps = settings.steps }
with_setting settings (Shrink_of n) = record { runs = settings.runs; shrink = n; steps = settings.steps }
with_setting settings (Steps_of n) = record { runs = settings.runs; shrink = settings.shrink; steps = n }

abbrev pub settled : Settings → List Setting → Settings
settled settings [] = settings
settled settings (first ∷ others) = settled (with_setting settings first) others

abbrev pub defaults : Settings
defaults = record { runs = 100; shrink = 500; steps = 20 }

-- settings, each at most once, and `steps` only where it may stand
abbrev pub AreSettings : Sort → Bool → Settings → List Token → Type 0
AreSettings upto steps settings tokens =
    (list : List Setting) × (settings ≡ settled defaults list)
    × Series (IsSetting upto) without (all_settings steps) list tokens

-- what an item of this name and these settings tests, where its nodes are numbered from there on
abbrev pub ItemOf : Sort → ℕ → Place → Ident → Settings → BodyTree → List Token → Type 0
ItemOf upto from at name settings Check_of tokens = (OneAt (kind.Word word.Check) at ⨾ IsName upto name ⨾ AreSettings upto false settings) tokens
ItemOf upto from at name settings (Property_of stmts) tokens =
    (OneAt (kind.Word word.Property) at ⨾ IsName upto name ⨾ AreSettings upto false settings ⨾ Opens upto 64 open_brace
    ⨾ AreStmts upto 63 false from stmts ⨾ One close_brace) tokens
ItemOf upto from at name settings (Machine_of machine) tokens =
    (OneAt (kind.Word word.Machine) at ⨾ IsName upto name ⨾ AreSettings upto true settings ⨾ IsMachine upto 64 from machine) tokens

abbrev pub IsItem : Sort → ℕ → ItemTree → List Token → Type 0
IsItem upto from item tokens = ItemOf upto from item.at item.name item.settings item.body tokens

-- items, with the room that is left and the number of the next node
abbrev pub AreItems : Sort → ℕ → ℕ → List ItemTree → List Token → Type 0
AreItems upto room from items tokens =
    Series {A = ItemTree} {Given = ℕ × ℕ} (λ given item. Part upto given.0 (IsItem upto given.1 item))
    (λ given item. (given.0 - 1, given.1 + length (body_numbers item.body))) (room, from) items tokens

-- a suite, and then the end of the text
abbrev pub SuiteText : Sort → SuiteTree → List Token → Type 0
SuiteText upto suite tokens = (AreItems upto 200 0 suite.items ⨾ One ending) tokens
