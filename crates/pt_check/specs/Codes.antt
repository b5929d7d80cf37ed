-- How what is known is told apart.
use Rattle.std.specs.Prelude.{◌≡◌, ℕ, ◌==◌, Option, List, [], ◌∷◌, ◌++◌, if◌then◌else◌}
use Rattle.std.proofs.Common.{refl, ◌∙◌, ap}
use Rattle.std.specs.Coded.{Coded, code_by, coded_ℕ, coded_list, coded×, coded_option}
use Rattle.pt_ast.specs.Types.{TypeTree, Int_type, Bool_type, Text_type, Bytes_type, Tree_type, List_type, Tuple_type, TypeTrees, no_type, more_type}
use Rattle.pt_ast.specs.Names.{Scope}
use Rattle.pt_ast.specs.Suites.{Context}
use Rattle.pt_types.specs.Kept.{types_under}
use Rattle.pt_check.specs.Stacks.{newest, behind}
use Rattle.pt_check.specs.Known.{Known}

abbrev mutual
  -- a type as numbers, its parts before it
  spelled : TypeTree → List ℕ
  spelled Int_type = 0 ∷ []
  spelled Bool_type = 1 ∷ []
  spelled Text_type = 2 ∷ []
  spelled Bytes_type = 3 ∷ []
  spelled Tree_type = 4 ∷ []
  spelled (List_type member) = spelled member ++ 5 ∷ []
  spelled (Tuple_type types) = spelled_all types

  spelled_all : TypeTrees → List ℕ
  spelled_all no_type = 6 ∷ []
  spelled_all (more_type type types) = spelled type ++ (spelled_all types ++ 7 ∷ [])

-- the types so far, and one that is made of them
abbrev made : List TypeTree → ℕ → List TypeTree
made types number =
    if number == 0 then Int_type ∷ types
    else if number == 1 then Bool_type ∷ types
    else if number == 2 then Text_type ∷ types
    else if number == 3 then Bytes_type ∷ types
    else if number == 4 then Tree_type ∷ types
    else if number == 5 then List_type (newest Int_type types) ∷ behind types
    else if number == 6 then Tuple_type no_type ∷ types
    else Tuple_type (more_type (newest Int_type (behind types)) (types_under (newest Int_type types))) ∷ behind (behind types)

abbrev made_all : List TypeTree → List ℕ → List TypeTree
made_all types [] = types
made_all types (first ∷ others) = made_all (made types first) others

made-append : (types : List TypeTree) (first second : List ℕ) → made_all types (first ++ second) ≡ made_all (made_all types first) second
made-append types [] second = refl
made-append types (one ∷ first) second = made-append (made types one) first second

mutual
  pub made-back : (type : TypeTree) (types : List TypeTree) → made_all types (spelled type) ≡ type ∷ types
  made-back Int_type types = refl
  made-back Bool_type types = refl
  made-back Text_type types = refl
  made-back Bytes_type types = refl
  made-back Tree_type types = refl
  made-back (List_type member) types = made-append types (spelled member) (5 ∷ []) ∙ ap (λ ts. made_all ts (5 ∷ [])) (made-back member types)
  made-back (Tuple_type parts) types = all-back parts types

  pub all-back : (parts : TypeTrees) (types : List TypeTree) → made_all types (spelled_all parts) ≡ Tuple_type parts ∷ types
  all-back no_type types = refl
  all-back (more_type type parts) types =
      made-append types (spelled type) (spelled_all parts ++ 7 ∷ []) ∙ ap (λ ts. made_all ts (spelled_all parts ++ 7 ∷ [])) (made-back type types)
      ∙ made-append (type ∷ types) (spelled_all parts) (7 ∷ []) ∙ ap (λ ts. made_all ts (7 ∷ [])) (all-back parts (type ∷ types))

abbrev pub type_code : Coded TypeTree
type_code = code_by (List ℕ) (coded_list coded_ℕ) spelled (λ numbers. newest Int_type (made_all [] numbers)) (λ type. ap (newest Int_type) (made-back type []))

abbrev scope_code : Coded Scope
scope_code = coded_list (coded× (coded_list coded_ℕ) type_code)

abbrev context_code : Coded Context
context_code = code_by (Scope × (Scope × Option TypeTree)) (coded× scope_code (coded× scope_code (coded_option type_code)))
    (λ c. (c.states, (c.bundles, c.target))) (λ p. record { states = p.0; bundles = p.1.0; target = p.1.1 }) (λ _. refl)

abbrev pub known_code : Coded Known
known_code = code_by (Context × (Scope × (List TypeTree × List TypeTree))) (coded× context_code (coded× scope_code (coded× (coded_list type_code) (coded_list type_code))))
    (λ k. (k.context, (k.scope, (k.selves, k.held)))) (λ p. record { context = p.0; scope = p.1.0; selves = p.1.1.0; held = p.1.1.1 }) (λ _. refl)
