-- Reading statements, items and suites.
use Rattle.std.specs.Prelude.{ℕ, ◌+◌, ◌-◌, length, ◌++◌, List, [], ◌∷◌, Result, Ok, Err, if◌then◌else◌, Bool, true, false, Option, Some, None}
use Rattle.std.specs.Option.{option_to_list}
use Rattle.pt_val.specs.declared.place.Place.{Place}
use Rattle.pt_ast.specs.declared.ident.Ident.{Ident}
use Rattle.pt_ast.specs.declared.suite.Settings.{Settings}
use Rattle.pt_ast.specs.Trees.{ExprTree, StmtTree, Draw_of, Let_of, Assume_of, Assert_of, Pick_of, Set_of, Give_of, StateTree, BundleTree, InvariantTree, RuleTree, MachineTree, BodyTree, Check_of, Property_of, Machine_of, ItemTree, SuiteTree}
use Rattle.pt_ast.specs.Numbers.{stmt_numbers, stmts_numbers, body_numbers}
use Rattle.pt_token.specs.declared.token.Token.{Token}
use Rattle.pt_token.specs.declared.token.Kind.{Kind}
use Rattle.pt_token.specs.declared.token.Kind.TheVariants as kind
use Rattle.pt_token.specs.declared.token.Word.TheVariants as word
use Rattle.pt_grammar.specs.declared.sort.Sort.TheVariants as sort
use Rattle.pt_grammar.specs.SuiteGrammar.{Setting, Runs_of, Shrink_of, Steps_of, Allowed, all_settings, without, settled, defaults}
use Rattle.pt_grammar.specs.Reading.{Fault, at, Reading, ◌>>=◌, one_at, word_at, open_at, name_at, limited_at, is_open_brace, is_close_brace, is_semicolon, is_colon, is_assign, is_from, all_at, maybe_at, room_at, less_room}
use Rattle.pt_grammar.specs.TypeReading.{type_at}
use Rattle.pt_grammar.specs.ExprReading.{expr_at}
use Rattle.pt_grammar.specs.StratReading.{strat_at}

-- a name and an expression behind it, to the semicolon
unfoldable pub assigned_at : ℕ → List Token → Reading (Ident × ExprTree)
assigned_at left tokens = do
  name ← name_at tokens
  mark ← one_at is_assign name.1
  value ← expr_at left mark.1
  behind ← one_at is_semicolon value.1
  Ok ((name.0, value.0), behind.1)

-- an expression, to the semicolon
unfoldable pub ended_at : ℕ → List Token → Reading ExprTree
ended_at left tokens = do
  value ← expr_at left tokens
  behind ← one_at is_semicolon value.1
  Ok (value.0, behind.1)

unfoldable pub draw_at : ℕ → ℕ → Place → List Token → Reading StmtTree
draw_at left from place tokens = do
  name ← name_at tokens
  mark ← one_at is_assign name.1
  strat ← strat_at left from mark.1
  behind ← one_at is_semicolon strat.1
  Ok (Draw_of place name.0 strat.0, behind.1)

unfoldable pub pick_at : ℕ → Place → List Token → Reading StmtTree
pick_at from place tokens = do
  name ← name_at tokens
  mark ← one_at is_from name.1
  bundle ← name_at mark.1
  behind ← one_at is_semicolon bundle.1
  Ok (Pick_of place from name.0 bundle.0, behind.1)

unfoldable pub stmt_on : ℕ → Bool → ℕ → Place → List Token → List Token → Kind → Reading StmtTree
stmt_on left in_rule from place tokens rest (kind.Word word.Draw) = draw_at left from place rest
stmt_on left in_rule from place tokens rest (kind.Word word.Let) = assigned_at left rest >>= λ x. Ok (Let_of place x.0.0 x.0.1, x.1)
stmt_on left in_rule from place tokens rest (kind.Word word.Assume) = ended_at left rest >>= λ x. Ok (Assume_of place x.0, x.1)
stmt_on left in_rule from place tokens rest (kind.Word word.Assert) = ended_at left rest >>= λ x. Ok (Assert_of place x.0, x.1)
stmt_on left in_rule from place tokens rest (kind.Word word.Pick) = if in_rule then pick_at from place rest else Err (at sort.Syntax tokens)
stmt_on left in_rule from place tokens rest (kind.Word word.Set) =
    if in_rule then (assigned_at left rest >>= λ x. Ok (Set_of place x.0.0 x.0.1, x.1)) else Err (at sort.Syntax tokens)
stmt_on left in_rule from place tokens rest other = Err (at sort.Syntax tokens)

abbrev pub stmt_at : ℕ → Bool → ℕ → List Token → Reading StmtTree
stmt_at left in_rule from [] = Err (at sort.Syntax [])
stmt_at left in_rule from (token ∷ rest) = stmt_on left in_rule from token.at (token ∷ rest) rest token.kind

abbrev pub begins_stmt : Bool → Kind → Bool
begins_stmt in_rule (kind.Word word.Draw) = true
begins_stmt in_rule (kind.Word word.Let) = true
begins_stmt in_rule (kind.Word word.Assume) = true
begins_stmt in_rule (kind.Word word.Assert) = true
begins_stmt in_rule (kind.Word word.Pick) = in_rule
begins_stmt in_rule (kind.Word word.Set) = in_rule
begins_stmt in_rule other = false

abbrev pub next_stmt : ℕ → StmtTree → ℕ
next_stmt from stmt = from + length (stmt_numbers stmt)

abbrev pub stmts_at : ℕ → Bool → ℕ → List Token → Reading (List StmtTree)
stmts_at left in_rule from tokens = all_at (stmt_at left in_rule) (λ from. begins_stmt in_rule) next_stmt from tokens

-- an item or a part of a machine, whose word begins it

abbrev pub worded : {A : Type 0} → (Kind → Bool) → (Place → List Token → Reading A) → List Token → Reading A
worded is read tokens = word_at is tokens >>= λ x. read x.0 x.1

abbrev pub is_give : Kind → Bool
is_give (kind.Word word.Give) = true
is_give other = false

abbrev pub is_state : Kind → Bool
is_state (kind.Word word.State) = true
is_state other = false

abbrev pub is_bundle : Kind → Bool
is_bundle (kind.Word word.Bundle) = true
is_bundle other = false

abbrev pub is_invariant : Kind → Bool
is_invariant (kind.Word word.Invariant) = true
is_invariant other = false

abbrev pub is_rule : Kind → Bool
is_rule (kind.Word word.Rule) = true
is_rule other = false

abbrev pub is_when : Kind → Bool
is_when (kind.Word word.When) = true
is_when other = false

abbrev pub is_into : Kind → Bool
is_into (kind.Word word.Into) = true
is_into other = false

unfoldable pub give_at : ℕ → List Token → Reading StmtTree
give_at left = worded is_give (λ place rest. ended_at left rest >>= λ x. Ok (Give_of place x.0, x.1))

unfoldable pub rule_stmts_at : ℕ → ℕ → List Token → Reading (List StmtTree)
rule_stmts_at left from tokens = do
  own ← stmts_at left true from tokens
  given ← maybe_at (give_at left) is_give own.1
  Ok (own.0 ++ option_to_list given.0, given.1)

unfoldable pub state_at : ℕ → List Token → Reading StateTree
state_at left = worded is_state (λ place rest. assigned_at left rest >>= λ x. Ok (record { at = place; name = x.0.0; init = x.0.1 }, x.1))

unfoldable pub bundle_at : ℕ → List Token → Reading BundleTree
bundle_at left = worded is_bundle (λ place rest. do
  name ← name_at rest
  mark ← one_at is_colon name.1
  type ← type_at left mark.1
  behind ← one_at is_semicolon type.1
  Ok (record { at = place; name = name.0; type = type.0 }, behind.1))

unfoldable pub invariant_at : ℕ → List Token → Reading InvariantTree
invariant_at left = worded is_invariant (λ place rest. ended_at left rest >>= λ x. Ok (record { at = place; cond = x.0 }, x.1))

abbrev pub when_at : ℕ → List Token → Reading ExprTree
when_at left = worded is_when (λ place rest. expr_at left rest)

abbrev pub into_at : List Token → Reading Ident
into_at = worded is_into (λ place rest. name_at rest)

unfoldable pub rule_at : ℕ → ℕ → List Token → Reading RuleTree
rule_at left from = worded is_rule (λ place rest. do
  name ← name_at rest
  cond ← maybe_at (when_at left) is_when name.1
  into ← maybe_at into_at is_into cond.1
  opened ← open_at is_open_brace left into.1
  stmts ← rule_stmts_at (left - 1) from opened.1
  behind ← one_at is_close_brace stmts.1
  Ok (record { at = place; name = name.0; when = cond.0; into = into.0; stmts = stmts.0 }, behind.1))

-- parts of a machine, of which there are 64 at most
abbrev pub declared_at : {A : Type 0} → (List Token → Reading A) → (Kind → Bool) → List Token → Reading (List A)
declared_at part begins tokens = all_at (room_at part) (λ room. begins) less_room 64 tokens

abbrev pub next_rule : ℕ × ℕ → RuleTree → ℕ × ℕ
next_rule given rule = (given.0 - 1, given.1 + length (stmts_numbers rule.stmts))

abbrev pub rules_at : ℕ → ℕ → List Token → Reading (List RuleTree)
rules_at left from tokens = all_at (λ given. room_at (rule_at left given.1) given.0) (λ given. is_rule) next_rule (64, from) tokens

unfoldable pub machine_at : ℕ → ℕ → List Token → Reading MachineTree
machine_at left from tokens = do
  opened ← open_at is_open_brace left tokens
  states ← declared_at (state_at (left - 1)) is_state opened.1
  bundles ← declared_at (bundle_at (left - 1)) is_bundle states.1
  invariants ← declared_at (invariant_at (left - 1)) is_invariant bundles.1
  rules ← rules_at (left - 1) (from + 1) invariants.1
  behind ← one_at is_close_brace rules.1
  Ok (record { num = from; states = states.0; bundles = bundles.0; invariants = invariants.0; rules = rules.0 }, behind.1)

-- settings

abbrev pub begins_setting : Allowed → Kind → Bool
begins_setting allowed (kind.Word word.Runs) = allowed.runs
begins_setting allowed (kind.Word word.Shrink) = allowed.shrink
begins_setting allowed (kind.Word word.Steps) = allowed.steps
begins_setting allowed other = false

unfoldable pub setting_on : Allowed → List Token → List Token → Kind → Reading Setting
setting_on allowed tokens rest (kind.Word word.Runs) =
    if allowed.runs then (limited_at 1 10000 rest >>= λ n. Ok (Runs_of n.0, n.1)) else Err (at sort.Syntax tokens)
setting_on allowed tokens rest (kind.Word word.Shrink) =
    if allowed.shrink then (limited_at 0 1000 rest >>= λ n. Ok (Shrink_of n.0, n.1)) else Err (at sort.Syntax tokens)
setting_on allowed tokens rest (kind.Word word.Steps) =
    if allowed.steps then (limited_at 1 64 rest >>= λ n. Ok (Steps_of n.0, n.1)) else Err (at sort.Syntax tokens)
setting_on allowed tokens rest other = Err (at sort.Syntax tokens)

abbrev pub setting_at : Allowed → List Token → Reading Setting
setting_at allowed [] = Err (at sort.Syntax [])
setting_at allowed (token ∷ rest) = setting_on allowed (token ∷ rest) rest token.kind

abbrev pub settings_at : Bool → List Token → Reading Settings
settings_at steps tokens =
    all_at setting_at begins_setting without (all_settings steps) tokens >>= λ list. Ok (settled defaults list.0, list.1)

-- items

unfoldable pub check_at : Place → List Token → Reading ItemTree
check_at place tokens = do
  name ← name_at tokens
  settings ← settings_at false name.1
  Ok (record { at = place; name = name.0; settings = settings.0; body = Check_of }, settings.1)

unfoldable pub property_at : ℕ → Place → List Token → Reading ItemTree
property_at from place tokens = do
  name ← name_at tokens
  settings ← settings_at false name.1
  opened ← open_at is_open_brace 64 settings.1
  stmts ← stmts_at 63 false from opened.1
  behind ← one_at is_close_brace stmts.1
  Ok (record { at = place; name = name.0; settings = settings.0; body = Property_of stmts.0 }, behind.1)

unfoldable pub machine_item_at : ℕ → Place → List Token → Reading ItemTree
machine_item_at from place tokens = do
  name ← name_at tokens
  settings ← settings_at true name.1
  machine ← machine_at 64 from settings.1
  Ok (record { at = place; name = name.0; settings = settings.0; body = Machine_of machine.0 }, machine.1)

abbrev pub begins_item : Kind → Bool
begins_item (kind.Word word.Check) = true
begins_item (kind.Word word.Property) = true
begins_item (kind.Word word.Machine) = true
begins_item other = false

unfoldable pub item_on : ℕ → Place → List Token → List Token → Kind → Reading ItemTree
item_on from place tokens rest (kind.Word word.Check) = check_at place rest
item_on from place tokens rest (kind.Word word.Property) = property_at from place rest
item_on from place tokens rest (kind.Word word.Machine) = machine_item_at from place rest
item_on from place tokens rest other = Err (at sort.Syntax tokens)

abbrev pub item_at : ℕ → List Token → Reading ItemTree
item_at from [] = Err (at sort.Syntax [])
item_at from (token ∷ rest) = item_on from token.at (token ∷ rest) rest token.kind

abbrev pub next_item : ℕ × ℕ → ItemTree → ℕ × ℕ
next_item given item = (given.0 - 1, given.1 + length (body_numbers item.body))

abbrev pub items_at : List Token → Reading (List ItemTree)
items_at tokens = all_at (λ given. room_at (item_at given.1) given.0) (λ given. begins_item) next_item (200, 0) tokens

abbrev pub ends : Kind → Bool
ends kind.End = true
ends other = false

unfoldable pub suite_at : List Token → Result SuiteTree Fault
suite_at tokens = do
  items ← items_at tokens
  behind ← one_at ends items.1
  Ok (record { items = items.0 })
