-- Reading settings, of which a loop keeps what they come to.
use Rattle.std.proofs.Common.{◌≡◌, Bool, true, false, length, ◌<◌, List, [], ◌∷◌, ◌++◌, Ok, refl, sym, ap, subst, ◌∙◌}
use Rattle.pt_ast.specs.declared.suite.Settings.{Settings}
use Rattle.pt_token.specs.declared.token.Token.{Token}
use Rattle.pt_grammar.specs.Reading.{Reading, ◌>>=◌, goes_on, all_at}
use Rattle.pt_grammar.specs.SuiteGrammar.{Setting, Allowed, all_settings, without, with_setting, settled, defaults}
use Rattle.pt_grammar.specs.SuiteReading.{begins_setting, setting_at, settings_at}
use Rattle.pt_taking.specs.declared.stop.Stop.{Stop}
use Rattle.pt_taking.specs.Gives.{Fails}
use Rattle.pt_taking.proofs.Rows.{Row, with_front_none, row_begins, row_on, row_ends, row_fails, fails_then, some_left}

-- the settings that were read, and what they come to
pub record Settling (steps : Bool) (tokens : List Token) (settings : Settings) (allowed : Allowed) (rest : List Token) : Type 0 where
  pub list : List Setting
  pub is : settings ≡ settled defaults list
  pub row : Row setting_at begins_setting without [] (all_settings steps) tokens list allowed rest

settled_more : (settings : Settings) (list : List Setting) (one : Setting) → settled settings (list ++ one ∷ []) ≡ with_setting (settled settings list) one
settled_more settings [] one = refl
settled_more settings (first ∷ others) one = settled_more (with_setting settings first) others one

module _ (steps : Bool) (tokens : List Token) where
  abbrev All : Reading (List Setting)
  All = all_at setting_at begins_setting without (all_settings steps) tokens

  pub settling_begins : Settling steps tokens defaults (all_settings steps) tokens
  settling_begins = record { list = []; is = refl; row = row_begins setting_at begins_setting without [] (all_settings steps) tokens }

  module _ (settings : Settings) (allowed : Allowed) (rest : List Token) (h : Settling steps tokens settings allowed rest) where
    pub settling_on : goes_on (begins_setting allowed) rest ≡ true → (one : Setting) (after : List Token) → setting_at allowed rest ≡ Ok (one, after)
        → length after < length rest → Settling steps tokens (with_setting settings one) (without allowed one) after
    settling_on goes one after read shorter = record {
      list = h.list ++ one ∷ [];
      is = ap (λ s. with_setting s one) h.is ∙ sym (settled_more defaults h.list one);
      row = row_on h.row goes one after read shorter;
    }

    pub settling_ends : goes_on (begins_setting allowed) rest ≡ false → settings_at steps tokens ≡ Ok (settings, rest)
    settling_ends ends =
        ap (λ (r : Reading (List Setting)). r >>= λ list. Ok (settled defaults list.0, list.1))
        (sym (with_front_none All) ∙ row_ends h.row ends)
        ∙ ap (λ (s : Settings). Ok (s, rest)) (sym h.is)

    pub settling_fails : goes_on (begins_setting allowed) rest ≡ true → (e : Stop) → Fails e (setting_at allowed rest) → Fails e (settings_at steps tokens)
    settling_fails goes e read =
        fails_then All (λ list. Ok (settled defaults list.0, list.1)) e
        (subst (Fails e) (with_front_none All) (row_fails h.row goes (some_left (begins_setting allowed) rest goes) e read))
