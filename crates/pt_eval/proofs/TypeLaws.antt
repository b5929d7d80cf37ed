-- The value of a well typed expression has its type.
use Rattle.std.proofs.Common.{◌≡◌, ℕ, zero, suc, ℤ, Bool, true, false, Option, Some, None, Result, Ok, Err, List, [], ◌∷◌, ◌++◌, map, reverse, refl, sym, ◌∙◌, ap, subst}
use Rattle.std.specs.Prelude.{IfOk, ◌==◌, if◌then◌else◌, cond, int_le, int_div, int_rem, neg_ℤ, negsuc, pos, ◌+ℤ◌, ◌-ℤ◌, ◌*ℤ◌, ◌&&◌, ◌||◌, not, slice_get}
use Rattle.std.specs.Ordering.{int_eq}
use Rattle.std.specs.Option.{option_or, ok_or}
use Rattle.std.specs.Cmp.Lexicographic.{pointwise, bytes_decides, nat_list_eq_equiv}
use Rattle.std.specs.List.{AllByRecursion, list_any}
use Rattle.std.proofs.Math.Bool.{beq}
use Rattle.std.proofs.lemmas.Grind.{reverse_onto}
use Rattle.std.proofs.lemmas.Map.Keys.{IsDistinct-push, IsDistinct-head, IsDistinct-tail}
use Rattle.pt_val.specs.declared.val.Val.{Val}
use Rattle.pt_val.specs.declared.val.Val.TheVariants as val
use Rattle.pt_val.specs.declared.val.Val.TheOpen.{Val-F}
use Rattle.pt_val.specs.declared.val.Val.TheOpen as shape
use Rattle.pt_val.specs.declared.val.Val.TheViews.{out-Val}
use Rattle.pt_val.specs.declared.place.Place.{Place}
use Rattle.pt_case.specs.declared.ending.Origin.{Origin}
use Rattle.pt_case.specs.declared.ending.Origin.TheVariants.{Suite}
use Rattle.pt_case.specs.declared.ending.What.TheVariants as what
use Rattle.pt_ast.specs.declared.binding.Binding.{Binding}
use Rattle.pt_ast.specs.declared.ident.Ident.{Ident}
use Rattle.pt_ast.specs.declared.expr.Binder.{Binder}
use Rattle.pt_ast.specs.declared.expr.Binder.TheVariants.{All, Any, Each}
use Rattle.pt_ast.specs.declared.expr.Func.{Func}
use Rattle.pt_ast.specs.declared.expr.Func.TheVariants.{Len, Has, Sum, Cat, Rev, Leaf, Node, Label, Kids, Labels}
use Rattle.pt_ast.specs.declared.expr.Op.{Op}
use Rattle.pt_ast.specs.declared.expr.Op.TheVariants.{Add, Sub, Mul, Div, Rem}
use Rattle.pt_ast.specs.Types.{TypeTree, Int_type, Bool_type, Text_type, Bytes_type, Tree_type, List_type, Tuple_type, TypeTrees, no_type, more_type, types_in}
use Rattle.pt_ast.specs.Trees.{ExprTree, Num, Text_of, Bytes_of, Flag, Var, If_of, Or_of, And_of, Not_of, Compare_of, Sum_of, Prod_of, Neg_of, Post_of, Call_of, Bind_of, Bracket_of, Tuple_of, List_of, ExprTrees, no_expr, more_expr, TailTree, tail_of, TailTrees, no_tail, more_tail, index_of, part_of, PostTrees, no_post, more_post}
use Rattle.pt_ast.specs.Names.{Scope, type_in, IsFree, with_name, AreDistinct}
use Rattle.pt_ast.specs.Typing.{IsSequence, HasMember, part_type, HasPart, Takes, Yields, HasType, HaveType, HaveTypes, AreNumbers, Reaches}
use Rattle.pt_ast.specs.Values.{IsTree, AreTrees, no_tree, more_tree, a_tree, IsOf, AreOf, Fits}
use Rattle.pt_ast.proofs.TreeValues.{are_trees, all_trees}
use Rattle.pt_eval.specs.Env.{value_in, bound}
use Rattle.pt_eval.specs.Parts.{or_zero, number_of, truth_of, members_of, parts_of, items_in, items_of, children_of, label_of, labels_of}
use Rattle.pt_eval.specs.Steps.{after, in_range, applied, compared, indexed, part_at, each_gives, seek_gives}
use Rattle.pt_eval.specs.Calls.{total, joined_in, joined, reversed_in, reversed, call_value}
use Rattle.pt_eval.specs.Value.{bind_value, value_of, values_of, sought_value, tail_value, chain_value, post_value, posts_value}
use Rattle.pt_eval.specs.Laws.{ValuesKeepTypes}
use Rattle.pt_eval.proofs.Shaped.{out-Text, out-Bytes, out-List, members-are, items-are, parts-are, children-are}
use Rattle.pt_eval.proofs.EnvLemmas.{value-push, value-cons}

-- what follows from a value
after-keeps : {A B : Type 0} (P : A → Type 0) (Q : B → Type 0) (given : Result A Origin) (next : A → Result B Origin) → IfOk given P →
    ((value : A) → P value → IfOk (next value) Q) → IfOk (after given next) Q
after-keeps P Q (Ok value) next is more = more value is
after-keeps P Q (Err origin) next is more = tt

-- what follows, whatever comes before it
after-any : {A B : Type 0} (Q : B → Type 0) (given : Result A Origin) (next : A → Result B Origin) → ((value : A) → IfOk (next value) Q) → IfOk (after given next) Q
after-any Q (Ok value) next more = more value
after-any Q (Err origin) next more = tt

-- one or the other
either-keeps : {A : Type 0} (Q : A → Type 0) (test : Bool) (first other : Result A Origin) → IfOk first Q → IfOk other Q → IfOk (if test then first else other) Q
either-keeps Q true first other is is_other = is
either-keeps Q false first other is is_other = is_other

-- a value of this type, which is that one
of-type : (type known : TypeTree) (given : Result Val Origin) → type ≡ known → IfOk given (IsOf known) → IfOk given (IsOf type)
of-type type known given same is = subst (λ t. IfOk given (IsOf t)) (sym same) is

flag-keeps : (truth : Bool) → IsOf Bool_type (val.Bool truth)
flag-keeps truth = (truth, refl)

-- a number of 64 bits is a number
range-keeps : (at : Place) (number : ℤ) → IfOk (in_range at number) (IsOf Int_type)
range-keeps at number = either-keeps (IsOf Int_type) (int_le (negsuc 9223372036854775807) number && int_le number (pos 9223372036854775807)) _ _ (number, refl) tt

applied-keeps : (op : Op) (at : Place) (left right : ℤ) → IfOk (applied op at left right) (IsOf Int_type)
applied-keeps Add at left right = range-keeps at (left +ℤ right)
applied-keeps Sub at left right = range-keeps at (left -ℤ right)
applied-keeps Mul at left right = range-keeps at (left *ℤ right)
applied-keeps Div at left right = either-keeps (IsOf Int_type) (int_eq right (pos 0)) _ _ tt (range-keeps at (int_div left right))
applied-keeps Rem at left right = either-keeps (IsOf Int_type) (int_eq right (pos 0)) _ _ tt
    (after-any (IsOf Int_type) (in_range at (int_div left right)) (λ quotient. Ok (val.Int (int_rem left right))) (λ quotient. (int_rem left right, refl)))

-- a value for each member
each-keeps : (P Q : Val → Type 0) (gives : List Binding → Result Val Origin) (name : List ℕ) (env : List Binding) (members : List Val) →
    AllByRecursion P members → ((member : Val) → P member → IfOk (gives (env ++ bound name member ∷ [])) Q) →
    IfOk (each_gives gives name env members) (AllByRecursion Q)
each-keeps P Q gives name env [] all keeps = tt
each-keeps P Q gives name env (member ∷ members) all keeps =
    after-keeps Q (AllByRecursion Q) (gives (env ++ bound name member ∷ [])) _ (keeps member all.0) (λ value is.
    after-keeps (AllByRecursion Q) (AllByRecursion Q) (each_gives gives name env members) _ (each-keeps P Q gives name env members all.1 keeps) (λ values are. (is, are)))

seek-keeps : (sought : Bool) (gives : List Binding → Result Val Origin) (name : List ℕ) (env : List Binding) (members : List Val) →
    IfOk (seek_gives sought gives name env members) (IsOf Bool_type)
seek-keeps sought gives name env [] = flag-keeps (not sought)
seek-keeps sought gives name env (member ∷ members) = after-any (IsOf Bool_type) (gives (env ++ bound name member ∷ [])) _ (λ value.
    either-keeps (IsOf Bool_type) (beq (truth_of value) sought) _ _ (flag-keeps sought) (seek-keeps sought gives name env members))

-- lists of values of one type
at-keeps : (P : Val → Type 0) (values : List Val) (place : ℕ) (at : Origin) → AllByRecursion P values → IfOk (ok_or (slice_get values place) at) P
at-keeps P [] place at all = tt
at-keeps P (value ∷ values) zero at all = all.0
at-keeps P (value ∷ values) (suc place) at all = at-keeps P values place at all.1

append-keeps : (P : Val → Type 0) (values others : List Val) → AllByRecursion P values → AllByRecursion P others → AllByRecursion P (values ++ others)
append-keeps P [] others all are = are
append-keeps P (value ∷ values) others all are = (all.0, append-keeps P values others all.1 are)

reverse-keeps : (P : Val → Type 0) (values : List Val) → AllByRecursion P values → AllByRecursion P (reverse values)
reverse-keeps P [] all = tt
reverse-keeps P (value ∷ values) all =
    subst (AllByRecursion P) (sym (reverse_onto values value [])) (append-keeps P (reverse values) (value ∷ []) (reverse-keeps P values all.1) (all.0, tt))

numbers-keep : (numbers : List ℤ) → AllByRecursion (IsOf Int_type) (map (λ number. val.Int number) numbers)
numbers-keep [] = tt
numbers-keep (number ∷ numbers) = ((number, refl), numbers-keep numbers)

bytes-keep : (bytes : List ℕ) → AllByRecursion (IsOf Int_type) (map (λ byte. val.Int (pos byte)) bytes)
bytes-keep [] = tt
bytes-keep (byte ∷ bytes) = ((pos byte, refl), bytes-keep bytes)

-- the members of a list are of its member's type
members-keep : (member : TypeTree) (value : Val) → IsOf (List_type member) value → AllByRecursion (IsOf member) (members_of value)
members-keep member value is =
    subst (λ v. AllByRecursion (IsOf member) (members_of v)) (sym is.1) (subst (λ ms. AllByRecursion (IsOf member) ms) (sym (members-are is.0)) is.2)

-- an index, and a part
indexed-keeps : (at : Place) (value : Val) (index : ℤ) (from member : TypeTree) → IsOf from value → HasMember from member → IfOk (indexed at value index) (IsOf member)
indexed-keeps at value (negsuc index) from member is has = tt
indexed-keeps at value (pos index) (List_type type) member is has =
    of-type member type (indexed at value (pos index)) has
    (subst (λ v. IfOk (indexed at v (pos index)) (IsOf type)) (sym is.1)
    (at-keeps (IsOf type) (items_of (val.List is.0)) index (Suite what.Index at) (subst (λ ms. AllByRecursion (IsOf type) ms) (sym (items-are is.0)) is.2)))
indexed-keeps at value (pos index) Bytes_type member is has =
    of-type member Int_type (indexed at value (pos index)) has
    (subst (λ v. IfOk (indexed at v (pos index)) (IsOf Int_type)) (sym is.1)
    (at-keeps (IsOf Int_type) (items_of (val.Bytes is.0)) index (Suite what.Index at)
    (subst (λ ms. AllByRecursion (IsOf Int_type) ms) (sym (ap items_in (out-Bytes is.0))) (bytes-keep is.0))))
indexed-keeps at value (pos index) from member is has = absurd has

slot-keeps : (place : ℕ) (types : TypeTrees) (values : List Val) (member : TypeTree) → AreOf types values → part_type place types ≡ Some member → IsOf member (or_zero (slice_get values place))
slot-keeps place no_type values member are is = cc
slot-keeps zero (more_type type types) (value ∷ values) member are is = let same : type ≡ member = cc in subst (λ t. IsOf t value) same are.0
slot-keeps (suc place) (more_type type types) (value ∷ values) member are is = slot-keeps place types values member are.1 is
slot-keeps place (more_type type types) [] member are is = absurd are

part-keeps : (value : Val) (part : ℤ) (types : TypeTrees) (member : TypeTree) → IsOf (Tuple_type types) value → HasPart part types member → IsOf member (part_at value part)
part-keeps value (pos place) types member is has =
    subst (λ v. IsOf member (part_at v (pos place))) (sym is.1)
    (subst (λ vs. IsOf member (or_zero (slice_get vs place))) (sym (parts-are is.0)) (slot-keeps place types is.0 member is.2 has))
part-keeps value (negsuc place) types member is has = absurd has

-- the functions
total-keeps : (at : Place) (so_far : ℤ) (members : List Val) → IfOk (total at so_far members) (IsOf Int_type)
total-keeps at so_far [] = (so_far, refl)
total-keeps at so_far (member ∷ members) = after-any (IsOf Int_type) (in_range at (so_far +ℤ number_of member)) _ (λ sum. total-keeps at (number_of sum) members)

joined-is : (first second : Val) (one other : Val-F Val) → out-Val first ≡ one → out-Val second ≡ other → joined first second ≡ joined_in one other
joined-is first second one other is_one is_other = ap (λ f. joined_in f (out-Val second)) is_one ∙ ap (joined_in one) is_other

joined-keeps : (from : TypeTree) (first second : Val) → IsSequence from → IsOf from first → IsOf from second → IsOf from (joined first second)
joined-keeps Text_type first second sequence is is_other =
    (is.0 ++ is_other.0, joined-is first second _ _ (ap out-Val is.1 ∙ out-Text is.0) (ap out-Val is_other.1 ∙ out-Text is_other.0))
joined-keeps Bytes_type first second sequence is is_other =
    (is.0 ++ is_other.0, joined-is first second _ _ (ap out-Val is.1 ∙ out-Bytes is.0) (ap out-Val is_other.1 ∙ out-Bytes is_other.0))
joined-keeps (List_type member) first second sequence is is_other = (
  is.0 ++ is_other.0,
  joined-is first second _ _ (ap out-Val is.1 ∙ out-List is.0) (ap out-Val is_other.1 ∙ out-List is_other.0),
  append-keeps (IsOf member) is.0 is_other.0 is.2 is_other.2,
)
joined-keeps from first second sequence is is_other = absurd sequence

reversed-keeps : (from : TypeTree) (value : Val) → IsSequence from → IsOf from value → IsOf from (reversed value)
reversed-keeps Text_type value sequence is = (reverse is.0, ap reversed_in (ap out-Val is.1 ∙ out-Text is.0))
reversed-keeps Bytes_type value sequence is = (reverse is.0, ap reversed_in (ap out-Val is.1 ∙ out-Bytes is.0))
reversed-keeps (List_type member) value sequence is =
    (reverse is.0, ap reversed_in (ap out-Val is.1 ∙ out-List is.0), reverse-keeps (IsOf member) is.0 is.2)
reversed-keeps from value sequence is = absurd sequence

children-keep : (tree : Val) → IsTree tree → AllByRecursion IsTree (children_of tree)
children-keep _ (a_tree label children are) = subst (AllByRecursion IsTree) (sym (children-are label children)) (all_trees children are)

one-keeps : (func : Func) (at : Place) (from type : TypeTree) (value : Val) → IsOf from value → Takes func (from ∷ []) type → IfOk (call_value func at (value ∷ [])) (IsOf type)
one-keeps Len at from type value is takes = of-type type Int_type (call_value Len at (value ∷ [])) takes.1 (_, refl)
one-keeps Sum at from type value is takes = of-type type Int_type (call_value Sum at (value ∷ [])) takes.1 (total-keeps at (pos 0) (members_of value))
one-keeps Rev at from type value is takes = of-type type from (call_value Rev at (value ∷ [])) takes.1 (reversed-keeps from value takes.0 is)
one-keeps Leaf at from type value is takes = of-type type Tree_type (call_value Leaf at (value ∷ [])) takes.1 (a_tree (number_of value) [] no_tree)
one-keeps Label at from type value is takes = of-type type Int_type (call_value Label at (value ∷ [])) takes.1 (label_of value, refl)
one-keeps Kids at from type value is takes = of-type type (List_type Tree_type) (call_value Kids at (value ∷ [])) takes.1
    (children_of value, refl, children-keep value (subst (λ t. IsOf t value) takes.0 is))
one-keeps Labels at from type value is takes = of-type type (List_type Int_type) (call_value Labels at (value ∷ [])) takes.1
    (_, refl, numbers-keep (labels_of value))
one-keeps func at from type value is takes = absurd takes

two-keep : (func : Func) (at : Place) (from second type : TypeTree) (value other : Val) → IsOf from value → IsOf second other → Takes func (from ∷ second ∷ []) type →
    IfOk (call_value func at (value ∷ other ∷ [])) (IsOf type)
two-keep Has at from second type value other is is_other takes = of-type type Bool_type (call_value Has at (value ∷ other ∷ [])) takes.1 (_, refl)
two-keep Cat at from second type value other is is_other takes = of-type type from (call_value Cat at (value ∷ other ∷ [])) takes.2
    (joined-keeps from value other takes.0 is (subst (λ t. IsOf t other) takes.1 is_other))
two-keep Node at from second type value other is is_other takes = of-type type Tree_type (call_value Node at (value ∷ other ∷ [])) takes.2
    (a_tree (number_of value) (members_of other) (are_trees (members_of other) (members-keep Tree_type other (subst (λ t. IsOf t other) takes.1 is_other))))
two-keep func at from second type value other is is_other takes = absurd takes

-- a function takes one value or two
none-takes : (func : Func) (type : TypeTree) → Takes func [] type → ⊥
none-takes Len type takes = takes
none-takes func type takes = takes

three-take : (func : Func) (one second third : TypeTree) (types : List TypeTree) (type : TypeTree) → Takes func (one ∷ second ∷ third ∷ types) type → ⊥
three-take Len one second third types type takes = takes
three-take func one second third types type takes = takes

call-keeps : (func : Func) (at : Place) (types : TypeTrees) (type : TypeTree) (values : List Val) → AreOf types values → Takes func (types_in types) type →
    IfOk (call_value func at values) (IsOf type)
call-keeps func at no_type type values are takes = absurd (none-takes func type takes)
call-keeps func at (more_type one no_type) type (value ∷ []) are takes = one-keeps func at one type value are.0 takes
call-keeps func at (more_type one (more_type second no_type)) type (value ∷ other ∷ []) are takes = two-keep func at one second type value other are.0 are.1.0 takes
call-keeps func at (more_type one (more_type second (more_type third types))) type values are takes = absurd (three-take func one second third (types_in types) type takes)
call-keeps func at (more_type one no_type) type [] are takes = absurd are
call-keeps func at (more_type one no_type) type (value ∷ other ∷ values) are takes = absurd are.1
call-keeps func at (more_type one (more_type second no_type)) type [] are takes = absurd are
call-keeps func at (more_type one (more_type second no_type)) type (value ∷ []) are takes = absurd are.1
call-keeps func at (more_type one (more_type second no_type)) type (value ∷ other ∷ third ∷ values) are takes = absurd are.1.1

-- one more name
fits-more : (scope : Scope) (env : List Binding) (given : Ident) (type : TypeTree) (value : Val) → Fits scope env → IsOf type value →
    Fits (with_name scope given type) (env ++ bound given.name value ∷ [])
fits-more [] [] given type value fits is = (refl, is, tt)
fits-more (first ∷ scope) (one ∷ env) given type value fits is = (fits.0, fits.1, fits-more scope env given type value fits.2 is)
fits-more [] (one ∷ env) given type value fits is = absurd fits
fits-more (first ∷ scope) [] given type value fits is = absurd fits

abbrev names_in : Scope → List (List ℕ)
names_in scope = map (λ declared. declared.0) scope

names-more : (scope : Scope) (given : Ident) (type : TypeTree) → names_in (with_name scope given type) ≡ names_in scope ++ given.name ∷ []
names-more [] given type = refl
names-more (first ∷ scope) given type = ap (λ ns. first.0 ∷ ns) (names-more scope given type)

free-any : (scope : Scope) (name : List ℕ) → type_in name scope ≡ None → list_any (pointwise ◌==◌ name) (names_in scope) ≡ false
free-any [] name free = refl
free-any (first ∷ scope) name free =
    elim (pointwise ◌==◌ name first.0) as (λ b. cond b (Some first.1) (type_in name scope) ≡ None → (b || list_any (pointwise ◌==◌ name) (names_in scope)) ≡ false)
    [ true ↦ (λ e. cc) | false ↦ free-any scope name ] free

distinct-more : (scope : Scope) (given : Ident) (type : TypeTree) → AreDistinct (names_in scope) → IsFree scope given → AreDistinct (names_in (with_name scope given type))
distinct-more scope given type distinct free =
    subst AreDistinct (sym (names-more scope given type)) (IsDistinct-push nat_list_eq_equiv (names_in scope) given.name distinct (free-any scope given.name free))

-- a name in scope has a value of its type, and another has none
abbrev Agree : Option TypeTree → Option Val → Type 0
Agree (Some type) (Some value) = IsOf type value
Agree None None = Unit {0}
Agree _ _ = ⊥

no-value : (value : Option Val) → Agree None value → value ≡ None
no-value None agree = refl
no-value (Some value) agree = absurd agree

or-one : (value : Option Val) → option_or value None ≡ value
or-one (Some value) = refl
or-one None = refl

agree-one : (same : Bool) (type : TypeTree) (types : Option TypeTree) (value : Val) (values : Option Val) → IsOf type value → Agree types values →
    (same ≡ true → types ≡ None) → Agree (cond same (Some type) types) (option_or values (cond same (Some value) None))
agree-one true type types value values is agree past =
    subst (λ vs. Agree (Some type) (option_or vs (Some value))) (sym (no-value values (subst (λ ts. Agree ts values) (past refl) agree))) is
agree-one false type types value values is agree past = subst (Agree types) (sym (or-one values)) agree

all-past : (name : List ℕ) (scope : Scope) → AllByRecursion (λ y. pointwise ◌==◌ name y ≡ false) (names_in scope) → type_in name scope ≡ None
all-past name [] all = refl
all-past name (first ∷ scope) all = ap (λ b. cond b (Some first.1) (type_in name scope)) all.0 ∙ all-past name scope all.1

none-past : (name : List ℕ) (first : List ℕ × TypeTree) (scope : Scope) → AreDistinct (names_in (first ∷ scope)) → pointwise ◌==◌ name first.0 ≡ true → type_in name scope ≡ None
none-past name first scope distinct same =
    all-past name scope (subst (λ n. AllByRecursion (λ y. pointwise ◌==◌ n y ≡ false) (names_in scope)) (sym ((bytes_decides name first.0).0 same))
    (IsDistinct-head (pointwise ◌==◌) first.0 (names_in scope) distinct))

agree : (scope : Scope) (env : List Binding) (name : List ℕ) → Fits scope env → AreDistinct (names_in scope) → Agree (type_in name scope) (value_in name env)
agree [] [] name fits distinct = tt
agree (first ∷ scope) (one ∷ env) name fits distinct =
    subst (Agree (type_in name (first ∷ scope))) (sym (value-cons name one env))
    (subst (λ n. Agree (cond (pointwise ◌==◌ name first.0) (Some first.1) (type_in name scope)) (option_or (value_in name env) (cond (pointwise ◌==◌ name n) (Some one.val) None)))
    (sym fits.0)
    (agree-one (pointwise ◌==◌ name first.0) first.1 (type_in name scope) one.val (value_in name env) fits.1
    (agree scope env name fits.2 (IsDistinct-tail (pointwise ◌==◌) first.0 (names_in scope) distinct)) (none-past name first scope distinct)))
agree [] (one ∷ env) name fits distinct = absurd fits
agree (first ∷ scope) [] name fits distinct = absurd fits

found : (type : TypeTree) (types : Option TypeTree) (value : Option Val) → types ≡ Some type → Agree types value → IsOf type (or_zero value)
found type (Some other) (Some value) is agree = let same : other ≡ type = cc in subst (λ t. IsOf t value) same agree
found type None value is agree = cc
found type (Some other) None is agree = absurd agree

-- what is known of the names in scope
record InScope (scope : Scope) (env : List Binding) : Type 0 where
  fits : Fits scope env
  distinct : AreDistinct (names_in scope)

in-more : (scope : Scope) (env : List Binding) (given : Ident) (type : TypeTree) (value : Val) → InScope scope env → IsFree scope given → IsOf type value →
    InScope (with_name scope given type) (env ++ bound given.name value ∷ [])
in-more scope env given type value in_scope free is =
    record { fits = fits-more scope env given type value in_scope.fits is; distinct = distinct-more scope given type in_scope.distinct free }

bind-keeps : (binder : Binder) (body : List Binding → Result Val Origin) (name : List ℕ) (env : List Binding) (members : List Val) (member item type : TypeTree) →
    AllByRecursion (IsOf member) members → ((one : Val) → IsOf member one → IfOk (body (env ++ bound name one ∷ [])) (IsOf item)) → Yields binder item type →
    IfOk (bind_value binder body name env members) (IsOf type)
bind-keeps All body name env members member item type all keeps yields = of-type type Bool_type (seek_gives false body name env members) yields.1 (seek-keeps false body name env members)
bind-keeps Any body name env members member item type all keeps yields = of-type type Bool_type (seek_gives true body name env members) yields.1 (seek-keeps true body name env members)
bind-keeps Each body name env members member item type all keeps yields =
    of-type type (List_type item) (bind_value Each body name env members) yields
    (after-keeps (AllByRecursion (IsOf item)) (IsOf (List_type item)) (each_gives body name env members) _
    (each-keeps (IsOf member) (IsOf item) body name env members all keeps) (λ values are. (values, refl, are)))

sought-keeps : (sought : Bool) (parts : ExprTrees) (env : List Binding) → IfOk (sought_value sought parts env) (IsOf Bool_type)
sought-keeps sought no_expr env = flag-keeps (not sought)
sought-keeps sought (more_expr part parts) env = after-any (IsOf Bool_type) (value_of part env) _ (λ value.
    either-keeps (IsOf Bool_type) (beq (truth_of value) sought) _ _ (flag-keeps sought) (sought-keeps sought parts env))

chain-keeps : (tails : TailTrees) (env : List Binding) (left : Val) → IsOf Int_type left → IfOk (chain_value tails env left) (IsOf Int_type)
chain-keeps no_tail env left is = is
chain-keeps (more_tail (tail_of at op right) tails) env left is =
    after-keeps (IsOf Int_type) (IsOf Int_type) (tail_value (tail_of at op right) env left) (chain_value tails env)
    (after-any (IsOf Int_type) (value_of right env) _ (λ y. applied-keeps op at (number_of left) (number_of y))) (λ value value_is.
    chain-keeps tails env value value_is)

posts-keep : (posts : PostTrees) (scope : Scope) (env : List Binding) (base : Val) (from type : TypeTree) → IsOf from base → Reaches scope from posts type →
    IfOk (posts_value posts env base) (IsOf type)
posts-keep no_post scope env base from type is reaches = subst (λ t. IsOf t base) (sym reaches) is
posts-keep (more_post (index_of at index) posts) scope env base from type is (member, has, number, reaches) =
    after-keeps (IsOf member) (IsOf type) (post_value (index_of at index) env base) (posts_value posts env)
    (after-any (IsOf member) (value_of index env) _ (λ place. indexed-keeps at base (number_of place) from member is has)) (λ value value_is.
    posts-keep posts scope env value member type value_is reaches)
posts-keep (more_post (part_of at part) posts) scope env base from type is (types, member, tuple, has, reaches) =
    posts-keep posts scope env (part_at base part) member type (part-keeps base part types member (subst (λ t. IsOf t base) tuple is) has) reaches

mutual
  keeps : (tree : ExprTree) (scope : Scope) (type : TypeTree) (env : List Binding) → InScope scope env → HasType scope tree type → IfOk (value_of tree env) (IsOf type)
  keeps (Num at number) scope type env in_scope is = of-type type Int_type (Ok (val.Int number)) is (number, refl)
  keeps (Text_of at chars) scope type env in_scope is = of-type type Text_type (Ok (val.Text chars)) is (chars, refl)
  keeps (Bytes_of at bytes) scope type env in_scope is = of-type type Bytes_type (Ok (val.Bytes bytes)) is (bytes, refl)
  keeps (Flag at truth) scope type env in_scope is = of-type type Bool_type (Ok (val.Bool truth)) is (truth, refl)
  keeps (Var at name) scope type env in_scope is = found type (type_in name scope) (value_in name env) is (agree scope env name in_scope.fits in_scope.distinct)
  keeps (If_of at test first other) scope type env in_scope is = after-any (IsOf type) (value_of test env) _ (λ truth.
      either-keeps (IsOf type) (truth_of truth) (value_of first env) (value_of other env)
      (keeps first scope type env in_scope is.1) (keeps other scope type env in_scope is.2))
  keeps (Or_of at parts) scope type env in_scope is = of-type type Bool_type (sought_value true parts env) is.1 (sought-keeps true parts env)
  keeps (And_of at parts) scope type env in_scope is = of-type type Bool_type (sought_value false parts env) is.1 (sought-keeps false parts env)
  keeps (Not_of at part) scope type env in_scope is = of-type type Bool_type (value_of (Not_of at part) env) is.1
      (after-any (IsOf Bool_type) (value_of part env) _ (λ truth. flag-keeps (not (truth_of truth))))
  keeps (Compare_of at left op right) scope type env in_scope is = of-type type Bool_type (value_of (Compare_of at left op right) env) is.4
      (after-any (IsOf Bool_type) (value_of left env) _ (λ x. after-any (IsOf Bool_type) (value_of right env) _ (λ y. flag-keeps (compared op x y))))
  keeps (Sum_of at first tails) scope type env in_scope is = of-type type Int_type (value_of (Sum_of at first tails) env) is.2
      (after-keeps (IsOf Int_type) (IsOf Int_type) (value_of first env) (chain_value tails env) (keeps first scope Int_type env in_scope is.0) (λ left left_is.
      chain-keeps tails env left left_is))
  keeps (Prod_of at first tails) scope type env in_scope is = of-type type Int_type (value_of (Prod_of at first tails) env) is.2
      (after-keeps (IsOf Int_type) (IsOf Int_type) (value_of first env) (chain_value tails env) (keeps first scope Int_type env in_scope is.0) (λ left left_is.
      chain-keeps tails env left left_is))
  keeps (Neg_of at part) scope type env in_scope is = of-type type Int_type (value_of (Neg_of at part) env) is.1
      (after-any (IsOf Int_type) (value_of part env) _ (λ x. range-keeps at (neg_ℤ (number_of x))))
  keeps (Post_of at base posts) scope type env in_scope is =
      after-keeps (IsOf is.0) (IsOf type) (value_of base env) (posts_value posts env) (keeps base scope is.0 env in_scope is.1) (λ value value_is.
      posts-keep posts scope env value is.0 type value_is is.2)
  keeps (Call_of at func parts) scope type env in_scope is =
      after-keeps (AreOf is.0) (IsOf type) (values_of parts env) (call_value func at) (types-keep parts scope is.0 env in_scope is.1) (λ values are.
      call-keeps func at is.0 type values are is.2)
  keeps (Bind_of at binder given list body) scope type env in_scope (member, item, free, list_is, body_is, yields) =
      after-keeps (IsOf (List_type member)) (IsOf type) (value_of list env) _ (keeps list scope (List_type member) env in_scope list_is) (λ value value_is.
      bind-keeps binder (value_of body) given.name env (members_of value) member item type (members-keep member value value_is) (λ one one_is.
      keeps body (with_name scope given member) item (env ++ bound given.name one ∷ []) (in-more scope env given member one in_scope free one_is) body_is) yields)
  keeps (Bracket_of at part) scope type env in_scope is = keeps part scope type env in_scope is
  keeps (Tuple_of at parts) scope type env in_scope is = of-type type (Tuple_type is.0) (value_of (Tuple_of at parts) env) is.2
      (after-keeps (AreOf is.0) (IsOf (Tuple_type is.0)) (values_of parts env) _ (types-keep parts scope is.0 env in_scope is.1) (λ values are. (values, refl, are)))
  keeps (List_of at no_expr) scope type env in_scope is = absurd is
  keeps (List_of at (more_expr first others)) scope type env in_scope is =
      of-type type (List_type is.0) (value_of (List_of at (more_expr first others)) env) is.3
      (after-keeps (AllByRecursion (IsOf is.0)) (IsOf (List_type is.0)) (values_of (more_expr first others) env) _
      (all-keep (more_expr first others) scope is.0 env in_scope (is.1, is.2)) (λ values are. (values, refl, are)))

  all-keep : (parts : ExprTrees) (scope : Scope) (type : TypeTree) (env : List Binding) → InScope scope env → HaveType scope parts type →
      IfOk (values_of parts env) (AllByRecursion (IsOf type))
  all-keep no_expr scope type env in_scope are = tt
  all-keep (more_expr part parts) scope type env in_scope are =
      after-keeps (IsOf type) (AllByRecursion (IsOf type)) (value_of part env) _ (keeps part scope type env in_scope are.0) (λ value is.
      after-keeps (AllByRecursion (IsOf type)) (AllByRecursion (IsOf type)) (values_of parts env) _ (all-keep parts scope type env in_scope are.1) (λ values each. (is, each)))

  types-keep : (parts : ExprTrees) (scope : Scope) (types : TypeTrees) (env : List Binding) → InScope scope env → HaveTypes scope parts types →
      IfOk (values_of parts env) (AreOf types)
  types-keep no_expr scope no_type env in_scope are = tt
  types-keep no_expr scope (more_type type types) env in_scope are = absurd are
  types-keep (more_expr part parts) scope no_type env in_scope are = absurd are
  types-keep (more_expr part parts) scope (more_type type types) env in_scope are =
      after-keeps (IsOf type) (AreOf (more_type type types)) (value_of part env) _ (keeps part scope type env in_scope are.0) (λ value is.
      after-keeps (AreOf types) (AreOf (more_type type types)) (values_of parts env) _ (types-keep parts scope types env in_scope are.1) (λ values each. (is, each)))

pub values-keep-types : ValuesKeepTypes
values-keep-types scope tree type env fits distinct is = keeps tree scope type env (record { fits = fits; distinct = distinct }) is
