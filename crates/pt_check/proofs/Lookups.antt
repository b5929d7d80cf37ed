-- Look-ups in tables.
use Rattle.std.proofs.Common.{◌≡◌, ℕ, zero, suc, ◌<◌, Bool, true, false, cond, Option, Some, None, List, [], ◌∷◌, ◌++◌, map, refl, sym, ◌∙◌, ap, subst, take, length}
use Rattle.std.specs.Prelude.{◌==◌, ◌||◌, not, option_map}
use Rattle.std.specs.List.{list_any}
use Rattle.std.specs.Borrow.{Bor}
use Rattle.std.proofs.lemmas.List.{take-map}
use Rattle.std.specs.Cmp.Lexicographic.{pointwise}
use Rattle.std_collections.specs.Map.{lookup}
use Rattle.pt_ast.specs.declared.ident.Ident.{Ident}
use Rattle.pt_ast.specs.Types.{TypeTree}
use Rattle.pt_ast.specs.Names.{Scope, type_in, with_name}
use Rattle.pt_types.specs.declared.shape.Shape.{Shape}
use Rattle.pt_types.specs.Kept.{type_of}
use Rattle.pt_check.specs.Tables.{named}
use Rattle.pt_check.specs.Numbers.{Table, scope_of, AreNumbered}

pub named-lookup : (name : List ℕ) (entries : List (Bor (List ℕ) × ℕ)) → lookup (λ key. pointwise ◌==◌ name key.now) entries ≡ lookup (pointwise ◌==◌ name) (named entries)
named-lookup name [] = refl
named-lookup name (first ∷ others) = ap (λ rest. cond (pointwise ◌==◌ name first.0.now) (Some first.1) rest) (named-lookup name others)

-- the type of a name is that of its number
mapped : (shapes : List Shape) (found : Bool) (number : ℕ) (rest : Option ℕ) →
    option_map (type_of shapes) (cond found (Some number) rest) ≡ cond found (Some (type_of shapes number)) (option_map (type_of shapes) rest)
mapped shapes true number rest = refl
mapped shapes false number rest = refl

pub scope-lookup : (shapes : List Shape) (name : List ℕ) (names : Table) → type_in name (scope_of shapes names) ≡ option_map (type_of shapes) (lookup (pointwise ◌==◌ name) names)
scope-lookup shapes name [] = refl
scope-lookup shapes name (first ∷ others) =
    ap (λ rest. cond (pointwise ◌==◌ name first.0) (Some (type_of shapes first.1)) rest) (scope-lookup shapes name others)
    ∙ sym (mapped shapes (pointwise ◌==◌ name first.0) first.1 (lookup (pointwise ◌==◌ name) others))

pub found-type : (shapes : List Shape) (names : Table) (scope : Scope) (name : List ℕ) (number : ℕ) → scope_of shapes names ≡ scope → lookup (pointwise ◌==◌ name) names ≡ Some number →
    type_in name scope ≡ Some (type_of shapes number)
found-type shapes names scope name number is found = ap (type_in name) (sym is) ∙ scope-lookup shapes name names ∙ ap (option_map (type_of shapes)) found

pub lost-type : (shapes : List Shape) (names : Table) (scope : Scope) (name : List ℕ) → scope_of shapes names ≡ scope → lookup (pointwise ◌==◌ name) names ≡ None → type_in name scope ≡ None
lost-type shapes names scope name is lost = ap (type_in name) (sym is) ∙ scope-lookup shapes name names ∙ ap (option_map (type_of shapes)) lost

none-mapped : (shapes : List Shape) (found : Option ℕ) → option_map (type_of shapes) found ≡ None → found ≡ None
none-mapped shapes None is = refl
none-mapped shapes (Some number) is = cc

-- a name that is free has no number
pub free-lookup : (shapes : List Shape) (names : Table) (scope : Scope) (name : List ℕ) → scope_of shapes names ≡ scope → type_in name scope ≡ None → lookup (pointwise ◌==◌ name) names ≡ None
free-lookup shapes names scope name is free =
    none-mapped shapes (lookup (pointwise ◌==◌ name) names) (sym (scope-lookup shapes name names) ∙ ap (type_in name) is ∙ free)

-- the number of a name is that of a type
either-within : (found : Bool) (limit one : ℕ) (rest : Option ℕ) (number : ℕ) → one < limit → (rest ≡ Some number → number < limit) → cond found (Some one) rest ≡ Some number → number < limit
either-within true limit one rest number here there is = let same : one ≡ number = cc in subst (λ n. n < limit) same here
either-within false limit one rest number here there is = there is

pub lookup-within : (shapes : List Shape) (names : Table) (name : List ℕ) (number : ℕ) → AreNumbered shapes names → lookup (pointwise ◌==◌ name) names ≡ Some number → number < length shapes
lookup-within shapes [] name number numbered is = cc
lookup-within shapes (first ∷ others) name number numbered is =
    either-within (pointwise ◌==◌ name first.0) (length shapes) first.1 (lookup (pointwise ◌==◌ name) others) number numbered.0 (lookup-within shapes others name number numbered.1) is

-- tables that are cut, and that grow
pub scope-more : (shapes : List Shape) (names more : Table) → scope_of shapes (names ++ more) ≡ scope_of shapes names ++ scope_of shapes more
scope-more shapes [] more = refl
scope-more shapes (first ∷ others) more = ap (λ scope. (first.0, type_of shapes first.1) ∷ scope) (scope-more shapes others more)

pub numbered-more : (shapes : List Shape) (names : Table) (name : List ℕ) (number : ℕ) → AreNumbered shapes names → number < length shapes → AreNumbered shapes (names ++ (name, number) ∷ [])
numbered-more shapes [] name number numbered within = (within, tt)
numbered-more shapes (first ∷ others) name number numbered within = (numbered.0, numbered-more shapes others name number numbered.1 within)

pub scope-cut : (shapes : List Shape) (len : ℕ) (names : Table) → scope_of shapes (take len names) ≡ take len (scope_of shapes names)
scope-cut shapes len names = sym (take-map (λ one. (one.0, type_of shapes one.1)) len names)

pub numbered-cut : (shapes : List Shape) (len : ℕ) (names : Table) → AreNumbered shapes names → AreNumbered shapes (take len names)
numbered-cut shapes zero names numbered = tt
numbered-cut shapes (suc len) [] numbered = tt
numbered-cut shapes (suc len) (first ∷ others) numbered = (numbered.0, numbered-cut shapes len others numbered.1)

pub named-cut : (len : ℕ) (entries : List (Bor (List ℕ) × ℕ)) → named (take len entries) ≡ take len (named entries)
named-cut len entries = sym (take-map (λ entry. (entry.0.now, entry.1)) len entries)

-- one more name
pub named-scope : (shapes : List Shape) (names new : Table) (scope : Scope) (given : Ident) (number : ℕ) (type : TypeTree) → scope_of shapes names ≡ scope →
    new ≡ names ++ (given.name, number) ∷ [] → type_of shapes number ≡ type → scope_of shapes new ≡ with_name scope given type
named-scope shapes names new scope given number type is entered typed =
    ap (scope_of shapes) entered ∙ scope-more shapes names ((given.name, number) ∷ []) ∙ ap (λ t. scope_of shapes names ++ (given.name, t) ∷ []) typed
    ∙ ap (λ s. s ++ (given.name, type) ∷ []) is

pub named-more : (entries more : List (Bor (List ℕ) × ℕ)) → named (entries ++ more) ≡ named entries ++ named more
named-more [] more = refl
named-more (first ∷ others) more = ap (λ names. (first.0.now, first.1) ∷ names) (named-more others more)

-- names that were met
pub any-named : (name : List ℕ) (keys : List (Bor (List ℕ))) → list_any (λ other. pointwise ◌==◌ name other.now) keys ≡ list_any (pointwise ◌==◌ name) (map (λ key. key.now) keys)
any-named name [] = refl
any-named name (first ∷ others) = ap (λ rest. pointwise ◌==◌ name first.now || rest) (any-named name others)

pub not-not : (test : Bool) → not (not test) ≡ test
not-not true = refl
not-not false = refl
