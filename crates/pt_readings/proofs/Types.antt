-- Types.
use Rattle.std.proofs.Common.{◌≡◌, ℕ, zero, suc, ◌-◌, ◌<◌, Bool, true, false, List, [], ◌∷◌, ◌++◌, Result, Ok, Err, refl, sym, ap, subst, ◌∙◌, arith}
use Rattle.pt_ast.specs.Types.{TypeTree, Int_type, Bool_type, Text_type, Bytes_type, Tree_type, List_type, Tuple_type, TypeTrees, no_type, more_type, types_of, types_in}
use Rattle.pt_token.specs.declared.token.Token.{Token}
use Rattle.pt_token.specs.declared.token.Kind.{Kind}
use Rattle.pt_token.specs.declared.token.Kind.TheVariants as kind
use Rattle.pt_token.specs.declared.token.Word.TheVariants as word
use Rattle.pt_token.specs.Ending.{is_last}
use Rattle.pt_grammar.specs.declared.sort.Sort.{Sort}
use Rattle.pt_grammar.specs.declared.sort.Sort.TheVariants as sort
use Rattle.pt_grammar.specs.Tokens.{opening, close, comma}
use Rattle.pt_grammar.specs.Forms.{◌⨾◌, One, Opens, Part}
use Rattle.pt_grammar.specs.TypeGrammar.{IsType, MoreTypes}
use Rattle.pt_readings.specs.Faults.{Family}
use Rattle.pt_grammar.specs.Reading.{Fault, at, Reading, ◌>>=◌, one_at, open_at, is_open, is_close, is_comma, all_at, less_room}
use Rattle.pt_grammar.specs.TypeReading.{more_type_at, more_types_at, list_type_at, tuple_type_at, type_on, type_step, type_below, type_at}
use Rattle.pt_readings.proofs.Outcomes.{AllReal, never, Some_of, Outcome, Form, Seq}
use Rattle.pt_readings.proofs.Forms.{made, unreal, then_form, form_read, fronted, Made, made_form, Nothing, returned, behind, syntax_here, ended, Openings, within_form, After, after_form, marked_form, Closed, closed_form, one_head, one_some, one_then, one_first, then_some, lowered}
use Rattle.pt_readings.proofs.Lists.{Roomy, room_form, Many, many_form}
use Rattle.pt_readings.proofs.Tested.{open_tests, close_tests, comma_tests}

abbrev pub Types : ℕ → Family TypeTree
Types left s = IsType s left

-- the kind of a type's first token
abbrev head : TypeTree → Kind
head Int_type = kind.Word word.Int
head Bool_type = kind.Word word.Bool
head Text_type = kind.Word word.Text
head Bytes_type = kind.Word word.Bytes
head Tree_type = kind.Word word.Tree
head (List_type member) = kind.Word word.List
head (Tuple_type parts) = kind.Word word.Tuple

type_head : (s : Sort) (left : ℕ) (tree : TypeTree) (t : Token) (x : List Token) → IsType s left tree (t ∷ x) → t.kind ≡ head tree
type_head s left Int_type t x h = (one_head _ t x h).0
type_head s left Bool_type t x h = (one_head _ t x h).0
type_head s left Text_type t x h = (one_head _ t x h).0
type_head s left Bytes_type t x h = (one_head _ t x h).0
type_head s left Tree_type t x h = (one_head _ t x h).0
type_head s left (List_type member) t x h = (one_then _ _ t x h).0
type_head s left (Tuple_type (more_type first (more_type second others))) t x h = (one_then _ _ t x h).0
type_head s left (Tuple_type other) t x h = absurd h

pub type_some : (s : Sort) (left : ℕ) (tree : TypeTree) → IsType s left tree [] → ⊥
type_some s left Int_type h = one_some _ h
type_some s left Bool_type h = one_some _ h
type_some s left Text_type h = one_some _ h
type_some s left Bytes_type h = one_some _ h
type_some s left Tree_type h = one_some _ h
type_some s left (List_type member) h = then_some _ _ h
type_some s left (Tuple_type (more_type first (more_type second others))) h = then_some _ _ h
type_some s left (Tuple_type other) h = h

some_type : (left : ℕ) → Some_of (Types left)
some_type left = (Int_type, made (kind.Word word.Int) ∷ [], λ s. (made (kind.Word word.Int), refl, refl), λ real. unreal (kind.Word word.Int) real)

-- types behind commas, in a list
abbrev Behind : ℕ → ℕ → Family TypeTree
Behind left room = After comma (Roomy room (Types left))

more_to : (s : Sort) (left room : ℕ) (trees : TypeTrees) (ts : List Token) → MoreTypes s left room trees ts → Many (Behind left) less_room room s (types_in trees) ts
more_to s left room no_type ts h = h
more_to s left room (more_type first others) ts (x, y, p, q, e) = (x, y, p, more_to s left (room - 1) others y q, e)

more_from : (s : Sort) (left room : ℕ) (list : List TypeTree) (ts : List Token) → Many (Behind left) less_room room s list ts → MoreTypes s left room (types_of list) ts
more_from s left room [] ts h = h
more_from s left room (first ∷ others) ts (x, y, p, q, e) = (x, y, p, more_from s left (room - 1) others y q, e)

types_again : (trees : TypeTrees) → trees ≡ types_of (types_in trees)
types_again no_type = refl
types_again (more_type first others) = ap (λ t. more_type first t) (types_again others)

module _ (left : ℕ) (item : List Token → Reading TypeTree) (item_form : Form (0 < left) (Types (left - 1)) never item) where
  abbrev List_form : Family TypeTree
  List_form = Seq (Openings left opening) (λ u. Closed close List_type (Types (left - 1)))

  list_form : Form (Unit {0}) List_form never (list_type_at left item)
  unfolding list_type_at
  list_form =
      within_form (Unit {0}) is_open opening open_tests refl left (Closed close List_type (Types (left - 1))) never (λ tokens. item tokens >>= λ one. one_at is_close one.1 >>= λ last. Ok (List_type one.0, last.1))
      (closed_form (0 < left) is_close close close_tests refl (Types (left - 1)) never never List_type item refl item_form)

  more_form : (room : ℕ) → Form (0 < left) (Many (Behind (left - 1)) less_room room) is_comma (more_types_at item room)
  more_form room =
      many_form (0 < left) (Behind (left - 1)) (λ room. is_comma) less_room never is_comma (more_type_at item)
      (λ room. after_form (0 < left) is_comma comma comma_tests refl (Roomy room (Types (left - 1))) never _ (room_form (0 < left) (Types (left - 1)) never item item_form (λ s a h. type_some s (left - 1) a h) room))
      (λ s room a t ts h. ap is_comma (one_then comma _ t ts h).0) (λ s room a h. then_some comma _ h) (λ room k e. refl) (λ k e. refl) (λ room k e stop. let both : true ≡ false = sym e ∙ stop in cc) room

  abbrev Rest_of : TypeTree → TypeTree → Family TypeTree
  Rest_of first second = Closed close (λ others. Tuple_type (types_of (first ∷ second ∷ others))) (Many (Behind (left - 1)) less_room 6)

  abbrev Tuple_form : Family TypeTree
  Tuple_form = Seq (Openings left opening) (λ u. Seq (Types (left - 1)) (λ first. After comma (Seq (Types (left - 1)) (Rest_of first))))

  tuple_form : Form (Unit {0}) Tuple_form never (tuple_type_at left item)
  unfolding tuple_type_at
  tuple_form =
      within_form (Unit {0}) is_open opening open_tests refl left (Seq (Types (left - 1)) (λ first. After comma (Seq (Types (left - 1)) (Rest_of first)))) never _
      (marked_form (0 < left) is_comma comma comma_tests refl (Types (left - 1)) (λ first. Seq (Types (left - 1)) (Rest_of first)) never never item _ refl item_form
      (λ first. then_form (0 < left) (Types (left - 1)) (Rest_of first) never item _ item_form
      (λ second. form_read (0 < left) (Rest_of first second) never _ _ (λ tokens. fronted (first ∷ second ∷ []) is_close (λ all. Tuple_type (types_of all)) (more_types_at item 6 tokens))
      (closed_form (0 < left) is_close close close_tests refl (Many (Behind (left - 1)) less_room 6) is_comma never (λ others. Tuple_type (types_of (first ∷ second ∷ others))) (more_types_at item 6) refl (more_form 6)))))

  -- a first token of each kind
  module _ (t : Token) (rest : List Token) (real : AllReal (t ∷ rest)) where
    leaf : (w : TypeTree) → is_last t.kind ≡ false → ((s : Sort) (v : TypeTree) (x : List Token) → IsType s left v (t ∷ x) → (v ≡ w) × (x ≡ [])) → ((s : Sort) → IsType s left w (t ∷ []))
        → Outcome (Types left) never (t ∷ rest) (Ok (w, rest))
    leaf w clean out put = behind (Nothing w) (Types left) never t clean out (λ s v x h. both s v x h.0 h.1) (λ s v h. type_some s left v h) rest (Ok (w, rest)) (returned never w rest) where
      both : (s : Sort) (v : TypeTree) (x : List Token) → v ≡ w → x ≡ [] → IsType s left v (t ∷ x)
      both s v x same nil = subst (λ u. IsType s left u (t ∷ x)) (sym same) (subst (λ y. IsType s left w (t ∷ y)) (sym nil) (put s))

    out_int : t.kind ≡ kind.Word word.Int → (s : Sort) (v : TypeTree) (x : List Token) → IsType s left v (t ∷ x) → (v ≡ Int_type) × (x ≡ [])
    out_int e s Int_type x h = (refl, (one_head _ t x h).1)
    out_int e s other x h = let k = type_head s left other t x h in absurd cc

    out_bool : t.kind ≡ kind.Word word.Bool → (s : Sort) (v : TypeTree) (x : List Token) → IsType s left v (t ∷ x) → (v ≡ Bool_type) × (x ≡ [])
    out_bool e s Bool_type x h = (refl, (one_head _ t x h).1)
    out_bool e s other x h = let k = type_head s left other t x h in absurd cc

    out_text : t.kind ≡ kind.Word word.Text → (s : Sort) (v : TypeTree) (x : List Token) → IsType s left v (t ∷ x) → (v ≡ Text_type) × (x ≡ [])
    out_text e s Text_type x h = (refl, (one_head _ t x h).1)
    out_text e s other x h = let k = type_head s left other t x h in absurd cc

    out_bytes : t.kind ≡ kind.Word word.Bytes → (s : Sort) (v : TypeTree) (x : List Token) → IsType s left v (t ∷ x) → (v ≡ Bytes_type) × (x ≡ [])
    out_bytes e s Bytes_type x h = (refl, (one_head _ t x h).1)
    out_bytes e s other x h = let k = type_head s left other t x h in absurd cc

    out_tree : t.kind ≡ kind.Word word.Tree → (s : Sort) (v : TypeTree) (x : List Token) → IsType s left v (t ∷ x) → (v ≡ Tree_type) × (x ≡ [])
    out_tree e s Tree_type x h = (refl, (one_head _ t x h).1)
    out_tree e s other x h = let k = type_head s left other t x h in absurd cc

    out_list : t.kind ≡ kind.Word word.List → (s : Sort) (v : TypeTree) (x : List Token) → IsType s left v (t ∷ x) → List_form s v x
    out_list e s (List_type member) x h = inside (one_then _ _ t x h).1 where
      inside : (Opens s left opening ⨾ IsType s (left - 1) member ⨾ One close) x → List_form s (List_type member) x
      inside (a, b, o, last, e1) = (tt, (a, b, o, (member, refl, last), e1))
    out_list e s other x h = let k = type_head s left other t x h in absurd cc

    put_list : t.kind ≡ kind.Word word.List → (s : Sort) (v : TypeTree) (x : List Token) → List_form s v x → IsType s left v (t ∷ x)
    put_list e s v x (u, (a, b, o, (member, same, last), e1)) = subst (λ w. IsType s left w (t ∷ x)) (sym same) (one_first _ _ t x e (a, b, o, last, e1))

    out_tuple : t.kind ≡ kind.Word word.Tuple → (s : Sort) (v : TypeTree) (x : List Token) → IsType s left v (t ∷ x) → Tuple_form s v x
    out_tuple e s (Tuple_type (more_type first (more_type second others))) x h = inside (one_then _ _ t x h).1 where
      inside : (Opens s left opening ⨾ IsType s (left - 1) first ⨾ One comma ⨾ IsType s (left - 1) second ⨾ MoreTypes s (left - 1) 6 others ⨾ One close) x
          → Tuple_form s (Tuple_type (more_type first (more_type second others))) x
      inside (a, b, o, (c, d, p, (f, g, m, (i, j, q, (k, l, more, last, e5), e4), e3), e2), e1) =
          (tt, (a, b, o, (first, (c, d, p, (f, g, m, (second, (i, j, q, (types_in others, ap (λ w. Tuple_type (more_type first (more_type second w))) (types_again others), (k, l, more_to s (left - 1) 6 others k more, last, e5)), e4)), e3), e2)), e1))
    out_tuple e s (Tuple_type other) x h = absurd h
    out_tuple e s other x h = let k = type_head s left other t x h in absurd cc

    put_tuple : t.kind ≡ kind.Word word.Tuple → (s : Sort) (v : TypeTree) (x : List Token) → Tuple_form s v x → IsType s left v (t ∷ x)
    put_tuple e s v x (u, (a, b, o, (first, (c, d, p, (f, g, m, (second, (i, j, q, (others, same, (k, l, more, last, e5)), e4)), e3), e2)), e1)) =
        subst (λ w. IsType s left w (t ∷ x)) (sym same) (one_first _ _ t x e (a, b, o, (c, d, p, (f, g, m, (i, j, q, (k, l, more_from s (left - 1) 6 others k more, last, e5), e4), e3), e2), e1))

    begins : Kind → Bool
    begins (kind.Word word.Int) = true
    begins (kind.Word word.Bool) = true
    begins (kind.Word word.Text) = true
    begins (kind.Word word.Bytes) = true
    begins (kind.Word word.Tree) = true
    begins (kind.Word word.List) = true
    begins (kind.Word word.Tuple) = true
    begins other = false

    head_begins : (tree : TypeTree) → begins (head tree) ≡ true
    unfolding begins
    head_begins Int_type = refl
    head_begins Bool_type = refl
    head_begins Text_type = refl
    head_begins Bytes_type = refl
    head_begins Tree_type = refl
    head_begins (List_type member) = refl
    head_begins (Tuple_type types) = refl

    nothing : begins t.kind ≡ false → Outcome (Types left) never (t ∷ rest) (Err (at sort.Syntax (t ∷ rest)))
    nothing not = syntax_here (Types left) never t rest (some_type left) (λ s v h. type_some s left v h)
        (λ s v x h. let both : true ≡ false = sym (ap begins (type_head s left v t x h) ∙ head_begins v) ∙ not in cc)

    on_kind : (k : Kind) → t.kind ≡ k → Outcome (Types left) never (t ∷ rest) (type_on left item (t ∷ rest) rest k)
    unfolding type_on begins
    on_kind (kind.Word word.Int) e = leaf Int_type (ap is_last e) (out_int e) (λ s. (t, e, refl))
    on_kind (kind.Word word.Bool) e = leaf Bool_type (ap is_last e) (out_bool e) (λ s. (t, e, refl))
    on_kind (kind.Word word.Text) e = leaf Text_type (ap is_last e) (out_text e) (λ s. (t, e, refl))
    on_kind (kind.Word word.Bytes) e = leaf Bytes_type (ap is_last e) (out_bytes e) (λ s. (t, e, refl))
    on_kind (kind.Word word.Tree) e = leaf Tree_type (ap is_last e) (out_tree e) (λ s. (t, e, refl))
    on_kind (kind.Word word.List) e = behind List_form (Types left) never t (ap is_last e) (out_list e) (put_list e) (λ s v h. type_some s left v h) rest _ (list_form.meets tt rest real.1)
    on_kind (kind.Word word.Tuple) e = behind Tuple_form (Types left) never t (ap is_last e) (out_tuple e) (put_tuple e) (λ s v h. type_some s left v h) rest _ (tuple_form.meets tt rest real.1)
    on_kind other e = nothing (ap begins e)

  step_form : Form (Unit {0}) (Types left) never (type_step left item)
  step_form = record { some = some_type left; meets = λ u tokens real. cases tokens real } where
    cases : (tokens : List Token) → AllReal tokens → Outcome (Types left) never tokens (type_step left item tokens)
    cases [] real = ended (Types left) never (some_type left)
    cases (t ∷ rest) real = on_kind t rest real t.kind refl

-- reading a type comes to what the grammar says
pub type_form : (left : ℕ) → Form (Unit {0}) (Types left) never (type_at left)
unfolding type_below
type_form zero = step_form zero (type_below zero) (record { some = some_type (zero - 1); meets = λ lt. absurd (omega (arith, lt)) })
type_form (suc left) = step_form (suc left) (type_below (suc left)) (lowered Types never (type_at left) left (type_form left))
