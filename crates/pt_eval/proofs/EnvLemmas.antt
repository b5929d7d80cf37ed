-- Names among those in scope.
use Rattle.std.proofs.Common.{◌≡◌, ℕ, ◌==◌, zero, suc, ◌<◌, Bool, true, false, cond, Option, Some, None, List, [], ◌∷◌, ◌++◌, length, take, drop, get_or, set, reverse, refl, sym, ◌∙◌, ap, arith, append_assoc, drop-cons}
use Rattle.std.specs.Prelude.{option_map}
use Rattle.std.specs.Option.{option_or}
use Rattle.std.specs.List.{find}
use Rattle.std.specs.Cmp.Lexicographic.{pointwise, bytes_decides}
use Rattle.std.proofs.Math.Seq.{take-suc}
use Rattle.std.proofs.lemmas.Grind.{reverse_onto}
use Rattle.std.proofs.lemmas.List.{reverse-append, reverse-reverse}
use Rattle.std.proofs.lemmas.List.Folds.{find-append}
use Rattle.pt_val.specs.declared.val.Val.{Val}
use Rattle.pt_ast.specs.declared.binding.Binding.{Binding}
use Rattle.pt_eval.specs.Env.{bound, value_in, first_changed, with_value}

abbrev pub bears : List ℕ → Binding → Bool
bears name binding = pointwise ◌==◌ name binding.name

or-map : (first other : Option Binding) → option_map (λ b. b.val) (option_or first other) ≡ option_or (option_map (λ b. b.val) first) (option_map (λ b. b.val) other)
or-map (Some b) other = refl
or-map None other = refl

-- names behind others
pub value-append : (name : List ℕ) (env others : List Binding) → value_in name (env ++ others) ≡ option_or (value_in name others) (value_in name env)
value-append name env others =
    ap (λ bs. option_map (λ b. b.val) (find (bears name) bs)) (reverse-append env others)
    ∙ ap (option_map (λ b. b.val)) (find-append (bears name) (reverse others) (reverse env))
    ∙ or-map (find (bears name) (reverse others)) (find (bears name) (reverse env))

-- one more name
pub value-push : (name : List ℕ) (env : List Binding) (one : Binding) → value_in name (env ++ one ∷ []) ≡ cond (bears name one) (Some one.val) (value_in name env)
value-push name env one =
    value-append name env (one ∷ [])
    ∙ elim (bears name one) as (λ b. option_or (option_map (λ b. b.val) (cond b (Some one) None)) (value_in name env) ≡ cond b (Some one.val) (value_in name env)) [ true ↦ refl | false ↦ refl ]

pub value-cons : (name : List ℕ) (one : Binding) (env : List Binding) → value_in name (one ∷ env) ≡ option_or (value_in name env) (cond (bears name one) (Some one.val) None)
value-cons name one env =
    value-append name (one ∷ []) env
    ∙ ap (option_or (value_in name env)) (elim (bears name one) as (λ b. option_map (λ b. b.val) (cond b (Some one) None) ≡ cond b (Some one.val) None) [ true ↦ refl | false ↦ refl ])

-- another value of the last name, or of one before it
pub changed-push : (name : List ℕ) (val : Val) (env : List Binding) (one : Binding) →
    with_value name val (env ++ one ∷ []) ≡ cond (bears name one) (env ++ bound name val ∷ []) (with_value name val env ++ one ∷ [])
changed-push name val env one =
    ap (λ bs. reverse (first_changed name val bs)) (reverse-append env (one ∷ []))
    ∙ elim (bears name one) as (λ b. reverse (cond b (bound name val ∷ reverse env) (one ∷ first_changed name val (reverse env)))
    ≡ cond b (env ++ bound name val ∷ []) (with_value name val env ++ one ∷ [])) [
      | true ↦ reverse_onto (reverse env) (bound name val) [] ∙ ap (λ bs. bs ++ bound name val ∷ []) (reverse-reverse env)
      | false ↦ reverse_onto (first_changed name val (reverse env)) one []
    ]

set-split : {A : Type 0} (items : List A) (place : ℕ) (item : A) → place < length items → set items place item ≡ take place items ++ (item ∷ drop (suc place) items)
set-split [] place item within = absurd (omega arith)
set-split (one ∷ items) zero item within = refl
set-split (one ∷ items) (suc place) item within = ap (λ others. one ∷ others) (set-split items place item (omega arith))

renamed : (name : List ℕ) (val : Val) (one : Binding) → bears name one ≡ true → record { name = one.name; val = val } ≡ bound name val
renamed name val one same = ap (λ n. bound n val) (sym ((bytes_decides name one.name).0 same))

-- the newest binding of the name gets another value
pub set-here : (name : List ℕ) (val : Val) (env : List Binding) (place : ℕ) (one : Binding) → place < length env → one ≡ get_or env place one → bears name one ≡ true →
    set env place (record { name = one.name; val = val }) ≡ with_value name val (take (suc place) env) ++ drop (suc place) env
set-here name val env place one within is same =
    set-split env place (record { name = one.name; val = val }) within
    ∙ ap (λ b. take place env ++ (b ∷ drop (suc place) env)) (renamed name val one same)
    ∙ sym (append_assoc (take place env) (bound name val ∷ []) (drop (suc place) env))
    ∙ ap (λ bs. bs ++ drop (suc place) env) (sym (
    ap (with_value name val) (take-suc env place one within ∙ ap (λ b. take place env ++ b ∷ []) (sym is))
    ∙ changed-push name val (take place env) one
    ∙ ap (λ b. cond b (take place env ++ bound name val ∷ []) (with_value name val (take place env) ++ one ∷ [])) same))

-- another name stays
pub set-past : (name : List ℕ) (val : Val) (env : List Binding) (place : ℕ) (one : Binding) → place < length env → one ≡ get_or env place one → bears name one ≡ false →
    with_value name val (take (suc place) env) ++ drop (suc place) env ≡ with_value name val (take place env) ++ drop place env
set-past name val env place one within is other =
    ap (λ bs. bs ++ drop (suc place) env) (
    ap (with_value name val) (take-suc env place one within ∙ ap (λ b. take place env ++ b ∷ []) (sym is))
    ∙ changed-push name val (take place env) one
    ∙ ap (λ b. cond b (take place env ++ bound name val ∷ []) (with_value name val (take place env) ++ one ∷ [])) other)
    ∙ append_assoc (with_value name val (take place env)) (one ∷ []) (drop (suc place) env)
    ∙ ap (λ bs. with_value name val (take place env) ++ bs) (sym (drop-cons env place one within ∙ ap (λ b. b ∷ drop (suc place) env) (sym is)))
