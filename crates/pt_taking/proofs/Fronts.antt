-- A first part, and the parts behind it.
use Rattle.std.proofs.Common.{◌≡◌, Bool, true, length, List, [], ◌∷◌, Ok, Err, sym, ap, ◌∙◌}
use Rattle.pt_token.specs.declared.token.Token.{Token}
use Rattle.pt_token.specs.declared.token.Kind.{Kind}
use Rattle.pt_grammar.specs.Reading.{Reading, ◌>>=◌, goes_on, many_at, many_then, all_at, with_front}

abbrev list_read : {A : Type 0} → Reading (List A) → List A
list_read (Ok x) = x.0
list_read (Err fault) = []

abbrev rest_read : {A : Type 0} → Reading (List A) → List Token
rest_read (Ok x) = x.1
rest_read (Err fault) = []

abbrev read_of : {A : Type 0} → List A → List Token → Reading (List A)
read_of list rest = Ok (list, rest)

-- what stands behind the first part was read, and with it
pub behind_front : {A : Type 0} (first : A) (read : Reading (List A)) (list : List A) (rest : List Token)
    → with_front (first ∷ []) read ≡ Ok (list, rest) → (others : List A) × (read ≡ Ok (others, rest)) × (list ≡ first ∷ others)
behind_front first (Ok x) list rest e = (x.0, ap (read_of x.0) (ap rest_read e), sym (ap list_read e))
behind_front first (Err fault) list rest e = absurd cc

abbrev added : {A : Type 0} → A → Reading (List A) → Reading (List A)
added first read = read >>= λ more. Ok (first ∷ more.0, more.1)

some_added : {A : Type 0} (first : A) (read : Reading (List A)) (list : List A) (rest : List Token)
    → added first read ≡ Ok (list, rest) → (others : List A) × (list ≡ first ∷ others)
some_added first (Ok x) list rest e = (x.0, sym (ap list_read e))
some_added first (Err fault) list rest e = absurd cc

some_then : {A : Type 0} (read : Reading A) (others : A → List Token → Reading (List A)) (list : List A) (rest : List Token)
    → (read >>= λ first. added first.0 (others first.0 first.1)) ≡ Ok (list, rest) → (second : A) × (more : List A) × (list ≡ second ∷ more)
some_then (Ok x) others list rest e = let found = some_added x.0 (others x.0 x.1) list rest e in (x.0, found.0, found.1)
some_then (Err fault) others list rest e = absurd cc

-- where a part begins, one is read
pub some_read : {A Given : Type 0} (part : Given → List Token → Reading A) (begins : Given → Kind → Bool) (leaves : Given → A → Given) (given : Given)
    (tokens : List Token) (list : List A) (rest : List Token) → goes_on (begins given) tokens ≡ true → all_at part begins leaves given tokens ≡ Ok (list, rest)
    → (second : A) × (more : List A) × (list ≡ second ∷ more)
unfolding many_at
some_read part begins leaves given [] list rest goes e = absurd cc
some_read part begins leaves given (t ∷ ts) list rest goes e =
    some_then (part given (t ∷ ts)) (λ a after. many_at part begins leaves (length ts) (leaves given a) after) list rest
    (sym (ap (λ b. many_then (part given) (λ a after. many_at part begins leaves (length ts) (leaves given a) after) (t ∷ ts) b) goes) ∙ e)

-- a first part and more of them make the tree of all
pub tree_of_all : {A B Given : Type 0} (part : Given → List Token → Reading A) (begins : Given → Kind → Bool) (leaves : Given → A → Given) (given : Given)
    (tokens : List Token) (first : A) (list : List A) (rest : List Token) (tree : List A → B) (made : List A → B)
    → ((second : A) (more : List A) → tree (second ∷ more) ≡ made (first ∷ second ∷ more)) → goes_on (begins given) tokens ≡ true
    → with_front (first ∷ []) (all_at part begins leaves given tokens) ≡ Ok (list, rest)
    → (others : List A) × (all_at part begins leaves given tokens ≡ Ok (others, rest)) × (tree others ≡ made list)
tree_of_all part begins leaves given tokens first list rest tree made same goes e =
    let behind = behind_front first (all_at part begins leaves given tokens) list rest e in
    let some = some_read part begins leaves given tokens behind.0 rest goes behind.1 in (
      behind.0,
      behind.1,
      ap tree some.2 ∙ same some.0 some.1 ∙ ap (λ l. made (first ∷ l)) (sym some.2) ∙ ap made (sym behind.2),
    )
