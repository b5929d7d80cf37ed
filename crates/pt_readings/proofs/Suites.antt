-- Settings, items and suites.
use Rattle.std.proofs.Common.{◌≡◌, ℕ, ◌+◌, ◌-◌, ◌||◌, Bool, true, false, cond, List, [], ◌∷◌, ◌++◌, Result, Ok, Err, refl, sym, ap, subst, ◌∙◌}
use Rattle.pt_val.specs.declared.place.Place.{Place}
use Rattle.pt_ast.specs.declared.ident.Ident.{Ident}
use Rattle.pt_ast.specs.declared.suite.Settings.{Settings}
use Rattle.pt_ast.specs.Trees.{StmtTree, MachineTree, BodyTree, Check_of, Property_of, Machine_of, ItemTree, SuiteTree}
use Rattle.pt_token.specs.declared.token.Token.{Token}
use Rattle.pt_token.specs.declared.token.Kind.{Kind}
use Rattle.pt_token.specs.declared.token.Kind.TheVariants as kind
use Rattle.pt_token.specs.declared.token.Word.TheVariants as word
use Rattle.pt_token.specs.Ending.{is_last}
use Rattle.pt_grammar.specs.declared.sort.Sort.{Sort}
use Rattle.pt_grammar.specs.declared.sort.Sort.TheVariants as sort
use Rattle.pt_grammar.specs.Tokens.{open_brace, close_brace}
use Rattle.pt_grammar.specs.Forms.{◌⨾◌, One, OneAt, Opens, IsName, Limited, Part}
use Rattle.pt_grammar.specs.SuiteGrammar.{Setting, Runs_of, Shrink_of, Steps_of, Allowed, all_settings, without, IsSetting, settled, defaults, AreSettings, AreStmts, IsMachine, ItemOf, IsItem, AreItems}
use Rattle.pt_readings.specs.Faults.{Family}
use Rattle.pt_grammar.specs.Reading.{Fault, at, Reading, ◌>>=◌, one_at, open_at, name_at, limited_at, is_open_brace, is_close_brace, all_at, room_at}
use Rattle.pt_grammar.specs.SuiteReading.{begins_stmt, next_stmt, stmts_at, machine_at, begins_setting, setting_on, setting_at, settings_at, check_at, property_at, machine_item_at, begins_item, item_on, item_at, next_item, items_at}
use Rattle.pt_readings.proofs.Outcomes.{AllReal, Stops, never, stops_never, Some_of, Outcome, Form, Seq, seq_form}
use Rattle.pt_readings.proofs.Forms.{made, unreal, form_same, then_form, Made, made_form, weaker_form, Nothing, nothing_form, behind, syntax_here, ended, Closed, closed_form, Openings, open_form, one_then, one_first, then_some, at_then, at_first, at_some}
use Rattle.pt_readings.proofs.Lists.{Roomy, room_form, Many, many_form, many_where}
use Rattle.pt_readings.proofs.Tested.{open_brace_tests, close_brace_tests}
use Rattle.pt_readings.proofs.Single.{Names, name_form, Limits, limited_form}
use Rattle.pt_readings.proofs.Chains.{or_false, not_both}
use Rattle.pt_readings.proofs.Stmts.{Stmts, stmts_form}
use Rattle.pt_readings.proofs.Machines.{Machines, machine_form, machine_opens}

-- ---- settings

abbrev pub is_setting : Kind → Bool
is_setting (kind.Word word.Runs) = true
is_setting (kind.Word word.Shrink) = true
is_setting (kind.Word word.Steps) = true
is_setting other = false

abbrev One_setting : Allowed → Family Setting
One_setting allowed s = IsSetting s allowed

setting_some : (s : Sort) (allowed : Allowed) (v : Setting) → IsSetting s allowed v [] → ⊥
setting_some s allowed (Runs_of n) h = then_some _ _ h.1
setting_some s allowed (Shrink_of n) h = then_some _ _ h.1
setting_some s allowed (Steps_of n) h = then_some _ _ h.1

setting_begins : (s : Sort) (allowed : Allowed) (v : Setting) (t : Token) (x : List Token) → IsSetting s allowed v (t ∷ x) → begins_setting allowed t.kind ≡ true
setting_begins s allowed (Runs_of n) t x h = ap (begins_setting allowed) (one_then _ _ t x h.1).0 ∙ h.0
setting_begins s allowed (Shrink_of n) t x h = ap (begins_setting allowed) (one_then _ _ t x h.1).0 ∙ h.0
setting_begins s allowed (Steps_of n) t x h = ap (begins_setting allowed) (one_then _ _ t x h.1).0 ∙ h.0

setting_is : (allowed : Allowed) (k : Kind) → begins_setting allowed k ≡ true → is_setting k ≡ true
setting_is allowed (kind.Word word.Runs) e = refl
setting_is allowed (kind.Word word.Shrink) e = refl
setting_is allowed (kind.Word word.Steps) e = refl
setting_is allowed other e = absurd cc

-- the reader of one setting serves where one begins
module _ (allowed : Allowed) (t : Token) (rest : List Token) (real : AllReal (t ∷ rest)) where
  runs_from : t.kind ≡ kind.Word word.Runs → (s : Sort) (v : Setting) (x : List Token) → IsSetting s allowed v (t ∷ x) → Made Runs_of (Limits 1 10000) s v x
  runs_from e s (Runs_of n) x h = (n, refl, (one_then _ _ t x h.1).1)
  runs_from e s (Shrink_of n) x h = absurd (let clash = sym e ∙ (one_then _ _ t x h.1).0 in cc)
  runs_from e s (Steps_of n) x h = absurd (let clash = sym e ∙ (one_then _ _ t x h.1).0 in cc)

  shrink_from : t.kind ≡ kind.Word word.Shrink → (s : Sort) (v : Setting) (x : List Token) → IsSetting s allowed v (t ∷ x) → Made Shrink_of (Limits 0 1000) s v x
  shrink_from e s (Shrink_of n) x h = (n, refl, (one_then _ _ t x h.1).1)
  shrink_from e s (Runs_of n) x h = absurd (let clash = sym e ∙ (one_then _ _ t x h.1).0 in cc)
  shrink_from e s (Steps_of n) x h = absurd (let clash = sym e ∙ (one_then _ _ t x h.1).0 in cc)

  steps_from : t.kind ≡ kind.Word word.Steps → (s : Sort) (v : Setting) (x : List Token) → IsSetting s allowed v (t ∷ x) → Made Steps_of (Limits 1 64) s v x
  steps_from e s (Steps_of n) x h = (n, refl, (one_then _ _ t x h.1).1)
  steps_from e s (Runs_of n) x h = absurd (let clash = sym e ∙ (one_then _ _ t x h.1).0 in cc)
  steps_from e s (Shrink_of n) x h = absurd (let clash = sym e ∙ (one_then _ _ t x h.1).0 in cc)

  runs_case : (b : Bool) → b ≡ true → allowed.runs ≡ b → t.kind ≡ kind.Word word.Runs → Outcome (One_setting allowed) never (t ∷ rest) (cond {A = Reading Setting} b (limited_at 1 10000 rest >>= λ n. Ok (Runs_of n.0, n.1)) (Err (at sort.Syntax (t ∷ rest))))
  runs_case true is r e = behind (Made Runs_of (Limits 1 10000)) (One_setting allowed) never t (ap is_last e) (runs_from e) (λ s v x h. subst (λ w. IsSetting s allowed w (t ∷ x)) (sym h.1) (r, one_first _ _ t x e h.2)) (λ s v h. setting_some s allowed v h) rest _
      ((made_form (Unit {0}) (Limits 1 10000) never Runs_of (limited_at 1 10000) (limited_form (Unit {0}) 1 10000 never)).meets tt rest real.1)
  runs_case false is r e = absurd cc

  shrink_case : (b : Bool) → b ≡ true → allowed.shrink ≡ b → t.kind ≡ kind.Word word.Shrink → Outcome (One_setting allowed) never (t ∷ rest) (cond {A = Reading Setting} b (limited_at 0 1000 rest >>= λ n. Ok (Shrink_of n.0, n.1)) (Err (at sort.Syntax (t ∷ rest))))
  shrink_case true is r e = behind (Made Shrink_of (Limits 0 1000)) (One_setting allowed) never t (ap is_last e) (shrink_from e) (λ s v x h. subst (λ w. IsSetting s allowed w (t ∷ x)) (sym h.1) (r, one_first _ _ t x e h.2)) (λ s v h. setting_some s allowed v h) rest _
      ((made_form (Unit {0}) (Limits 0 1000) never Shrink_of (limited_at 0 1000) (limited_form (Unit {0}) 0 1000 never)).meets tt rest real.1)
  shrink_case false is r e = absurd cc

  steps_case : (b : Bool) → b ≡ true → allowed.steps ≡ b → t.kind ≡ kind.Word word.Steps → Outcome (One_setting allowed) never (t ∷ rest) (cond {A = Reading Setting} b (limited_at 1 64 rest >>= λ n. Ok (Steps_of n.0, n.1)) (Err (at sort.Syntax (t ∷ rest))))
  steps_case true is r e = behind (Made Steps_of (Limits 1 64)) (One_setting allowed) never t (ap is_last e) (steps_from e) (λ s v x h. subst (λ w. IsSetting s allowed w (t ∷ x)) (sym h.1) (r, one_first _ _ t x e h.2)) (λ s v h. setting_some s allowed v h) rest _
      ((made_form (Unit {0}) (Limits 1 64) never Steps_of (limited_at 1 64) (limited_form (Unit {0}) 1 64 never)).meets tt rest real.1)
  steps_case false is r e = absurd cc

  setting_kind : (k : Kind) → begins_setting allowed k ≡ true → t.kind ≡ k → Outcome (One_setting allowed) never (t ∷ rest) (setting_on allowed (t ∷ rest) rest k)
  unfolding setting_on
  setting_kind (kind.Word word.Runs) is e = runs_case allowed.runs is refl e
  setting_kind (kind.Word word.Shrink) is e = shrink_case allowed.shrink is refl e
  setting_kind (kind.Word word.Steps) is e = steps_case allowed.steps is refl e
  setting_kind other is e = absurd cc

abbrev pub Settled : Bool → Family Settings
Settled steps s = AreSettings s steps

settings_form : (steps : Bool) → Form (Unit {0}) (Settled steps) is_setting (settings_at steps)
settings_form steps =
    made_form (Unit {0}) (Many One_setting without (all_settings steps)) is_setting (settled defaults) _
    (many_where (Unit {0}) One_setting begins_setting without never is_setting setting_at (λ c allowed t rest e real. setting_kind allowed t rest real t.kind e refl)
    (λ s allowed a t ts h. setting_begins s allowed a t ts h) (λ s allowed a h. setting_some s allowed a h) (λ allowed k e. refl) (λ k e. refl) (λ allowed k e stop. not_both (is_setting k) (setting_is allowed k e) stop) (all_settings steps))

-- ---- items

abbrev pub Items : ℕ → Family ItemTree
Items from s = IsItem s from

abbrev made_check : Place → Ident → Settings → ItemTree
made_check place name settings = record { at = place; name = name; settings = settings; body = Check_of }

abbrev Checked : Place → Family ItemTree
Checked place = Seq Names (λ name. Made (made_check place name) (Settled false))

check_form : (place : Place) → Form (Unit {0}) (Checked place) is_setting (check_at place)
unfolding check_at
check_form place = then_form (Unit {0}) Names (λ name. Made (made_check place name) (Settled false)) is_setting name_at _ (name_form (Unit {0}) never)
    (λ name. made_form (Unit {0}) (Settled false) is_setting (made_check place name) (settings_at false) (settings_form false))

-- settings stop before the brace
settings_then : {V : Type 0} (name : Ident) (steps : Bool) (Q : Settings → Family V) (r : Settings → List Token → Reading V)
    → ((s : Sort) (settings : Settings) (v : V) (ts z : List Token) → Q settings s v ts → Stops is_setting (ts ++ z)) → ((settings : Settings) → Form (Unit {0}) (Q settings) is_setting (r settings))
    → Form (Unit {0}) (Seq (Settled steps) Q) is_setting (λ tokens. settings_at steps tokens >>= λ x. r x.0 x.1)
settings_then name steps Q r stops f = seq_form (Settled steps) Q is_setting is_setting (λ s a v ts z h stop. stops s a v ts z h) (λ a. (f a).some) (Unit {0}) (settings_at steps) r (settings_form steps) f

abbrev made_property : Place → Ident → Settings → List StmtTree → ItemTree
made_property place name settings stmts = record { at = place; name = name; settings = settings; body = Property_of stmts }

abbrev Braced : ℕ → Place → Ident → Settings → Family ItemTree
Braced from place name settings = Seq (Openings 64 open_brace) (λ u. Closed close_brace (made_property place name settings) (Many (Stmts 63 false) next_stmt from))

abbrev Proper : ℕ → Place → Family ItemTree
Proper from place = Seq Names (λ name. Seq (Settled false) (Braced from place name))

braced_stop : (from : ℕ) (place : Place) (name : Ident) (s : Sort) (settings : Settings) (v : ItemTree) (ts z : List Token) → Braced from place name settings s v ts → Stops is_setting (ts ++ z)
braced_stop from place name s settings v ts z (u, (x, y, (t, k, only, room), q, e)) = subst (λ w. Stops is_setting (w ++ z)) (sym (e ∙ ap (λ w. w ++ y) only)) (ap is_setting k)

braced_form : (from : ℕ) (place : Place) (name : Ident) (settings : Settings)
    → Form (Unit {0}) (Braced from place name settings) is_setting (λ tokens. open_at is_open_brace 64 tokens >>= λ opened. stmts_at 63 false from opened.1 >>= λ x. one_at is_close_brace x.1 >>= λ y. Ok (made_property place name settings x.0, y.1))
braced_form from place name settings =
    then_form (Unit {0}) (Openings 64 open_brace) (λ u. Closed close_brace (made_property place name settings) (Many (Stmts 63 false) next_stmt from)) is_setting (open_at is_open_brace 64) _
    (open_form (Unit {0}) is_open_brace open_brace open_brace_tests refl 64 never)
    (λ u. closed_form (Unit {0}) is_close_brace close_brace close_brace_tests refl (Many (Stmts 63 false) next_stmt from) (begins_stmt false) is_setting (made_property place name settings) (stmts_at 63 false from) refl (stmts_form 63 false from))

property_form : (from : ℕ) (place : Place) → Form (Unit {0}) (Proper from place) is_setting (property_at from place)
unfolding property_at
property_form from place =
    then_form (Unit {0}) Names (λ name. Seq (Settled false) (Braced from place name)) is_setting name_at _ (name_form (Unit {0}) never)
    (λ name. settings_then name false (Braced from place name) _ (braced_stop from place name) (braced_form from place name))

abbrev made_machine : Place → Ident → Settings → MachineTree → ItemTree
made_machine place name settings machine = record { at = place; name = name; settings = settings; body = Machine_of machine }

abbrev Mechanic : ℕ → Place → Ident → Settings → Family ItemTree
Mechanic from place name settings = Made (made_machine place name settings) (Machines 64 from)

abbrev Working : ℕ → Place → Family ItemTree
Working from place = Seq Names (λ name. Seq (Settled true) (Mechanic from place name))

machine_item_form : (from : ℕ) (place : Place) → Form (Unit {0}) (Working from place) is_setting (machine_item_at from place)
unfolding machine_item_at
machine_item_form from place =
    then_form (Unit {0}) Names (λ name. Seq (Settled true) (Mechanic from place name)) is_setting name_at _ (name_form (Unit {0}) never)
    (λ name. settings_then name true (Mechanic from place name) _ (λ s settings v ts z h. machine_opens 64 from is_setting refl s h.0 ts z h.2)
    (λ settings. weaker_form (Unit {0}) (Mechanic from place name settings) never is_setting _ (λ k e. refl) (made_form (Unit {0}) (Machines 64 from) never (made_machine place name settings) (machine_at 64 from) (machine_form 64 from))))

-- an item by its body
abbrev item_of : Place → Ident → Settings → BodyTree → ItemTree
item_of place name settings body = record { at = place; name = name; settings = settings; body = body }

body_some : (s : Sort) (from : ℕ) (place : Place) (name : Ident) (settings : Settings) (body : BodyTree) → ItemOf s from place name settings body [] → ⊥
body_some s from place name settings Check_of h = at_some _ _ _ h
body_some s from place name settings (Property_of stmts) h = at_some _ _ _ h
body_some s from place name settings (Machine_of machine) h = at_some _ _ _ h

pub item_some : (s : Sort) (from : ℕ) (v : ItemTree) → IsItem s from v [] → ⊥
item_some s from v h = body_some s from v.at v.name v.settings v.body h

body_begins : (s : Sort) (from : ℕ) (place : Place) (name : Ident) (settings : Settings) (body : BodyTree) (t : Token) (x : List Token) → ItemOf s from place name settings body (t ∷ x) → begins_item t.kind ≡ true
body_begins s from place name settings Check_of t x h = ap begins_item (at_then _ _ _ t x h).0
body_begins s from place name settings (Property_of stmts) t x h = ap begins_item (at_then _ _ _ t x h).0
body_begins s from place name settings (Machine_of machine) t x h = ap begins_item (at_then _ _ _ t x h).0

item_begins : (s : Sort) (from : ℕ) (v : ItemTree) (t : Token) (x : List Token) → IsItem s from v (t ∷ x) → begins_item t.kind ≡ true
item_begins s from v t x h = body_begins s from v.at v.name v.settings v.body t x h

module _ (from : ℕ) where
  module _ (t : Token) where
    check_from : t.kind ≡ kind.Word word.Check → (s : Sort) (place : Place) (name : Ident) (settings : Settings) (body : BodyTree) (x : List Token) → ItemOf s from place name settings body (t ∷ x) → Checked t.at s (item_of place name settings body) x
    check_from e s place name settings Check_of x h = form (at_then _ _ _ t x h) where
      form : (t.kind ≡ kind.Word word.Check) × (t.at ≡ place) × (IsName s name ⨾ AreSettings s false settings) x → Checked t.at s (item_of place name settings Check_of) x
      form (k, p, (a, b, n, q, e1)) = (name, (a, b, n, (settings, ap (λ r. item_of r name settings Check_of) (sym p), q), e1))
    check_from e s place name settings (Property_of stmts) x h = absurd (let clash = sym e ∙ (at_then _ _ _ t x h).0 in cc)
    check_from e s place name settings (Machine_of machine) x h = absurd (let clash = sym e ∙ (at_then _ _ _ t x h).0 in cc)

    check_put : t.kind ≡ kind.Word word.Check → (s : Sort) (v : ItemTree) (x : List Token) → Checked t.at s v x → IsItem s from v (t ∷ x)
    check_put e s v x (name, (a, b, n, (settings, same, q), e1)) = subst (λ w. IsItem s from w (t ∷ x)) (sym same) (at_first _ _ t x e (a, b, n, q, e1))

    property_from : t.kind ≡ kind.Word word.Property → (s : Sort) (place : Place) (name : Ident) (settings : Settings) (body : BodyTree) (x : List Token) → ItemOf s from place name settings body (t ∷ x) → Proper from t.at s (item_of place name settings body) x
    property_from e s place name settings (Property_of stmts) x h = form (at_then _ _ _ t x h) where
      form : (t.kind ≡ kind.Word word.Property) × (t.at ≡ place) × (IsName s name ⨾ AreSettings s false settings ⨾ Opens s 64 open_brace ⨾ AreStmts s 63 false from stmts ⨾ One close_brace) x
          → Proper from t.at s (item_of place name settings (Property_of stmts)) x
      form (k, p, (a, b, n, (c, d, q, (f, g, o, last, e3), e2), e1)) = (name, (a, b, n, (settings, (c, d, q, (tt, (f, g, o, (stmts, ap (λ r. item_of r name settings (Property_of stmts)) (sym p), last), e3)), e2)), e1))
    property_from e s place name settings Check_of x h = absurd (let clash = sym e ∙ (at_then _ _ _ t x h).0 in cc)
    property_from e s place name settings (Machine_of machine) x h = absurd (let clash = sym e ∙ (at_then _ _ _ t x h).0 in cc)

    property_put : t.kind ≡ kind.Word word.Property → (s : Sort) (v : ItemTree) (x : List Token) → Proper from t.at s v x → IsItem s from v (t ∷ x)
    property_put e s v x (name, (a, b, n, (settings, (c, d, q, (u, (f, g, o, (stmts, same, last), e3)), e2)), e1)) =
        subst (λ w. IsItem s from w (t ∷ x)) (sym same) (at_first _ _ t x e (a, b, n, (c, d, q, (f, g, o, last, e3), e2), e1))

    machine_from : t.kind ≡ kind.Word word.Machine → (s : Sort) (place : Place) (name : Ident) (settings : Settings) (body : BodyTree) (x : List Token) → ItemOf s from place name settings body (t ∷ x) → Working from t.at s (item_of place name settings body) x
    machine_from e s place name settings (Machine_of machine) x h = form (at_then _ _ _ t x h) where
      form : (t.kind ≡ kind.Word word.Machine) × (t.at ≡ place) × (IsName s name ⨾ AreSettings s true settings ⨾ IsMachine s 64 from machine) x → Working from t.at s (item_of place name settings (Machine_of machine)) x
      form (k, p, (a, b, n, (c, d, q, m, e2), e1)) = (name, (a, b, n, (settings, (c, d, q, (machine, ap (λ r. item_of r name settings (Machine_of machine)) (sym p), m), e2)), e1))
    machine_from e s place name settings Check_of x h = absurd (let clash = sym e ∙ (at_then _ _ _ t x h).0 in cc)
    machine_from e s place name settings (Property_of stmts) x h = absurd (let clash = sym e ∙ (at_then _ _ _ t x h).0 in cc)

    machine_put : t.kind ≡ kind.Word word.Machine → (s : Sort) (v : ItemTree) (x : List Token) → Working from t.at s v x → IsItem s from v (t ∷ x)
    machine_put e s v x (name, (a, b, n, (settings, (c, d, q, (machine, same, m), e2)), e1)) =
        subst (λ w. IsItem s from w (t ∷ x)) (sym same) (at_first _ _ t x e (a, b, n, (c, d, q, m, e2), e1))

  some_item : Some_of (Items from)
  some_item = let some = (check_form (made (kind.Word word.Check)).at).some in
      (some.0, made (kind.Word word.Check) ∷ some.1, λ s. check_put (made (kind.Word word.Check)) refl s some.0 some.1 (some.2 s), λ real. unreal (kind.Word word.Check) real)

  module _ (t : Token) (rest : List Token) (real : AllReal (t ∷ rest)) where
    item_kind : (k : Kind) → t.kind ≡ k → Outcome (Items from) is_setting (t ∷ rest) (item_on from t.at (t ∷ rest) rest k)
    unfolding item_on
    item_kind (kind.Word word.Check) e = behind (Checked t.at) (Items from) is_setting t (ap is_last e) (λ s v x h. check_from t e s v.at v.name v.settings v.body x h) (check_put t e) (λ s v h. item_some s from v h) rest _ ((check_form t.at).meets tt rest real.1)
    item_kind (kind.Word word.Property) e = behind (Proper from t.at) (Items from) is_setting t (ap is_last e) (λ s v x h. property_from t e s v.at v.name v.settings v.body x h) (property_put t e) (λ s v h. item_some s from v h) rest _ ((property_form from t.at).meets tt rest real.1)
    item_kind (kind.Word word.Machine) e = behind (Working from t.at) (Items from) is_setting t (ap is_last e) (λ s v x h. machine_from t e s v.at v.name v.settings v.body x h) (machine_put t e) (λ s v h. item_some s from v h) rest _ ((machine_item_form from t.at).meets tt rest real.1)
    item_kind other e = syntax_here (Items from) is_setting t rest some_item (λ s v h. item_some s from v h) (λ s v x h. not_both (begins_item t.kind) (item_begins s from v t x h) (ap begins_item e))

  item_form : Form (Unit {0}) (Items from) is_setting (item_at from)
  item_form = record { some = some_item; meets = λ u tokens real. cases tokens real } where
    cases : (tokens : List Token) → AllReal tokens → Outcome (Items from) is_setting tokens (item_at from tokens)
    cases [] real = ended (Items from) is_setting some_item
    cases (t ∷ rest) real = item_kind t rest real t.kind refl

-- ---- items in a row

abbrev pub on_items : Kind → Bool
on_items k = begins_item k || is_setting k

begins_no_setting : (k : Kind) → begins_item k ≡ true → is_setting k ≡ false
begins_no_setting (kind.Word word.Check) e = refl
begins_no_setting (kind.Word word.Property) e = refl
begins_no_setting (kind.Word word.Machine) e = refl
begins_no_setting other e = absurd cc

abbrev pub Row : Family (List ItemTree)
Row s items ts = AreItems s 200 0 items ts

pub items_form : Form (Unit {0}) Row on_items items_at
items_form =
    many_form (Unit {0}) (λ (given : ℕ × ℕ). Roomy given.0 (Items given.1)) (λ given. begins_item) next_item is_setting on_items (λ given. room_at (item_at given.1) given.0)
    (λ given. room_form (Unit {0}) (Items given.1) is_setting (item_at given.1) (item_form given.1) (λ s v h. item_some s given.1 v h) given.0)
    (λ s given a t ts h. item_begins s given.1 a t ts h.0) (λ s given a h. item_some s given.1 a h.0) (λ given k e. begins_no_setting k e)
    (λ k e. (or_false (begins_item k) (is_setting k) e).1) (λ given k e stop. not_both (begins_item k) e (or_false (begins_item k) (is_setting k) stop).0) (200, 0)
