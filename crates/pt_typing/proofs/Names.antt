-- Characters and names that stand once.
use Rattle.std.proofs.Common.{◌≡◌, ℕ, Bool, true, false, Result, List, [], ◌∷◌, ◌++◌, map, refl, sym, ◌∙◌, ap, subst, append_assoc}
use Rattle.std.specs.Prelude.{◌==◌, ◌||◌}
use Rattle.std.specs.Cmp.Lexicographic.{pointwise, nat_list_eq_equiv, bytes_decides}
use Rattle.std.specs.List.{IsDistinct, AllByRecursion, list_any, Contains}
use Rattle.std.proofs.lemmas.List.{append-nil}
use Rattle.std.proofs.lemmas.Map.Keys.{IsDistinct-head, IsDistinct-tail, IsDistinct-push}
use Rattle.std.proofs.lemmas.Map.Views.{Contains-from_any, list_any-from_Contains}
use Rattle.pt_ast.specs.declared.ident.Ident.{Ident}
use Rattle.pt_ast.specs.declared.strat.Alphabet.{Alphabet}
use Rattle.pt_ast.specs.Names.{AreDistinct}
use Rattle.pt_typing.specs.Fault.{Fault, Twice}
use Rattle.pt_typing.specs.StratChecks.{repeats, once_each}
use Rattle.pt_typing.specs.StratFaults.{Repeats}
use Rattle.pt_typing.specs.SuiteChecks.{fresh, each_named}
use Rattle.pt_typing.specs.SuiteFaults.{IsRepeated, FaultInNamed}
use Rattle.pt_typing.specs.Laws.{IsCheck}
use Rattle.pt_typing.proofs.Steps.{means, ok-check, next-check, unless-check}

-- a test of each
either-false : (here there : Bool) → here || there ≡ false → (here ≡ false) × (there ≡ false)
either-false false false is = (refl, refl)
either-false true there is = cc
either-false false true is = cc

none-of : {A : Type 0} (same : A → A → Bool) (one : A) (others : List A) → list_any (same one) others ≡ false → AllByRecursion (λ other. same one other ≡ false) others
none-of same one [] none = tt
none-of same one (first ∷ others) none =
    let so = either-false (same one first) (list_any (same one) others) none in (so.0, none-of same one others so.1)

none-back : {A : Type 0} (same : A → A → Bool) (one : A) (others : List A) → AllByRecursion (λ other. same one other ≡ false) others → list_any (same one) others ≡ false
none-back same one [] none = refl
none-back same one (first ∷ others) none = ap (λ here. here || list_any (same one) others) none.0 ∙ none-back same one others none.1

all-at : {A : Type 0} (Holds : A → Type 0) (before : List A) (one : A) (rest : List A) → AllByRecursion Holds (before ++ one ∷ rest) → Holds one
all-at Holds [] one rest all = all.0
all-at Holds (first ∷ before) one rest all = all-at Holds before one rest all.1

-- characters
once-distinct : (chars : List ℕ) → repeats chars ≡ false → IsDistinct ◌==◌ chars
unfolding IsDistinct
once-distinct [] once = tt
once-distinct (first ∷ others) once =
    let so = either-false (list_any (λ other. first == other) others) (repeats others) once in
    (none-of ◌==◌ first others so.0, once-distinct others so.1)

distinct-once : (chars : List ℕ) → IsDistinct ◌==◌ chars → repeats chars ≡ false
unfolding IsDistinct
distinct-once [] distinct = refl
distinct-once (first ∷ others) distinct =
    ap (λ here. here || repeats others) (none-back ◌==◌ first others distinct.0) ∙ distinct-once others distinct.1

pub once_each-check : (alphabet : Alphabet) → IsCheck (λ _. IsDistinct ◌==◌ alphabet.chars) (Repeats alphabet) (once_each alphabet)
once_each-check alphabet =
    unless-check (repeats alphabet.chars) (Twice alphabet.at) (IsDistinct ◌==◌ alphabet.chars) (¬ IsDistinct ◌==◌ alphabet.chars)
    (λ twice distinct. let once = distinct-once alphabet.chars distinct in cc)
    (once-distinct alphabet.chars) (λ distinct twice. twice distinct)

-- names
pub found-contained : (name : List ℕ) (names : List (List ℕ)) → list_any (pointwise ◌==◌ name) names ≡ true → Contains names name
found-contained name names found = Contains-from_any (λ x y. (bytes_decides x y).0) name names found

pub contained-found : (name : List ℕ) (names : List (List ℕ)) → Contains names name → list_any (pointwise ◌==◌ name) names ≡ true
contained-found name names contained = list_any-from_Contains nat_list_eq_equiv name names contained

lost : (name : List ℕ) (names : List (List ℕ)) (found : Bool) → list_any (pointwise ◌==◌ name) names ≡ found → ¬ Contains names name → found ≡ false
lost name names true found absent = absurd (absent (found-contained name names found))
lost name names false found absent = refl

fresh-check : (seen : List (List ℕ)) (given : Ident) → IsCheck (λ _. ¬ Contains seen given.name) (IsRepeated seen given) (fresh seen given)
fresh-check seen given =
    unless-check (list_any (pointwise ◌==◌ given.name) seen) (Twice given.at) (¬ Contains seen given.name) (Contains seen given.name)
    (found-contained given.name seen) (λ found contained. let here = contained-found given.name seen contained in cc) (λ absent contained. absent contained)

differs : (one other : List ℕ) (same : Bool) → pointwise ◌==◌ one other ≡ same → pointwise ◌==◌ other one ≡ false → same ≡ false
differs one other true is apart =
    let back : pointwise ◌==◌ other one ≡ true = (bytes_decides other one).1 (sym ((bytes_decides one other).0 is)) in cc
differs one other false is apart = refl

new-name : (seen : List (List ℕ)) (name : List ℕ) (rest : List (List ℕ)) → AreDistinct (seen ++ name ∷ rest) → list_any (pointwise ◌==◌ name) seen ≡ false
new-name [] name rest distinct = refl
new-name (first ∷ seen) name rest distinct =
    let apart : pointwise ◌==◌ first name ≡ false = all-at (λ other. pointwise ◌==◌ first other ≡ false) seen name rest (IsDistinct-head (pointwise ◌==◌) first (seen ++ name ∷ rest) distinct) in
    ap (λ here. here || list_any (pointwise ◌==◌ name) seen) (differs name first (pointwise ◌==◌ name first) refl apart)
    ∙ new-name seen name rest (IsDistinct-tail (pointwise ◌==◌) first (seen ++ name ∷ rest) distinct)

pub none-seen : AreDistinct []
unfolding IsDistinct
none-seen = tt

pub named-check : {A : Type 0} (named : A → Ident) (Good : A → Type 0) (Faulty : A → Fault → Type 0) (check : A → Result (Unit {0}) Fault) →
    ((one : A) → IsCheck (λ _. Good one) (Faulty one) (check one)) → (list : List A) (seen : List (List ℕ)) → AreDistinct seen →
    IsCheck (λ _. AreDistinct (seen ++ map (λ one. (named one).name) list) × AllByRecursion Good list) (FaultInNamed named Good Faulty seen list) (each_named named check seen list)
named-check named Good Faulty check each [] seen distinct =
    means (ok-check tt) (λ v is. (subst AreDistinct (sym (append-nil seen)) distinct, tt)) (λ v so. refl)
named-check named Good Faulty check each (first ∷ others) seen distinct =
    let name = (named first).name in
    let rest = map (λ one. (named one).name) others in
    means (next-check (fresh-check seen (named first)) (λ new. next-check (each first)
    (λ good. named-check named Good Faulty check each others (seen ++ name ∷ [])
    (IsDistinct-push nat_list_eq_equiv seen name distinct (lost name seen (list_any (pointwise ◌==◌ name) seen) refl new)))))
    (λ v so. (subst AreDistinct (append_assoc seen (name ∷ []) rest) so.1.1.0, (so.1.0, so.1.1.1)))
    (λ v so. (
      (λ contained. let found = contained-found name seen contained in let none = new-name seen name rest so.0 in cc),
      (so.1.0, (subst AreDistinct (sym (append_assoc seen (name ∷ []) rest)) so.0, so.1.1)),
    ))
