-- Reading forms in a row, as a loop does.
use Rattle.std.proofs.Common.{◌≡◌, ℕ, Bool, true, false, zero, length, suc, ◌-◌, ◌≤◌, ◌<◌, List, [], ◌∷◌, ◌++◌, Result, Ok, Err, refl, sym, ap, ◌∙◌, append_assoc, arith}
use Rattle.std.proofs.lemmas.List.{append-nil}
use Rattle.pt_token.specs.declared.token.Token.{Token}
use Rattle.pt_token.specs.declared.token.Kind.{Kind}
use Rattle.pt_grammar.specs.Reading.{Fault, Reading, ◌>>=◌, goes_on, many_at, many_then, all_at, with_front}
use Rattle.pt_taking.specs.declared.stop.Stop.{Stop}
use Rattle.pt_taking.specs.declared.stop.Stop.TheVariants as stop
use Rattle.pt_taking.specs.Gives.{Fails}

-- What a loop has read: the parts with what stood there before, what they leave, and the tokens behind them, for which there are turns enough.
-- It is on its way from the first tokens and what was given there.
pub record Row {A Given : Type 0} (part : Given → List Token → Reading A) (begins : Given → Kind → Bool) (leaves : Given → A → Given) (before : List A) (first : Given)
    (tokens : List Token) (so_far : List A) (given : Given) (rest : List Token) : Type 0 where
  pub turns : ℕ
  pub enough : length rest ≤ turns
  pub within : length rest ≤ length tokens
  pub total : with_front so_far (many_at part begins leaves turns given rest) ≡ with_front before (all_at part begins leaves first tokens)

pub with_front_none : {A : Type 0} (read : Reading (List A)) → with_front [] read ≡ read
with_front_none (Ok x) = refl
with_front_none (Err fault) = refl

regroup : {A : Type 0} (front : List A) (a : A) (read : Reading (List A))
    → with_front front (read >>= λ more. Ok (a ∷ more.0, more.1)) ≡ with_front (front ++ a ∷ []) read
regroup {A} front a (Ok x) = ap (λ (all : List A). Ok (all, x.1)) (simp append_assoc)
regroup front a (Err fault) = refl

-- what is read behind something that was read
pub then_ok : {A B : Type 0} {r : Result A Fault} {x : A} (f : A → Result B Fault) {y : Result B Fault} → r ≡ Ok x → f x ≡ y → (r >>= f) ≡ y
then_ok f e read = ap (λ r. r >>= f) e ∙ read

pub then_fails : {A B : Type 0} {r : Result A Fault} {x : A} (f : A → Result B Fault) (e : Stop) → r ≡ Ok x → Fails e (f x) → Fails e (r >>= f)
then_fails f (stop.At which rest) e read = ap (λ r. r >>= f) e ∙ read
then_fails f stop.NoMemory e read = tt

-- a fault stays one, whatever would be read behind it
pub fails_then : {A B : Type 0} (r : Result A Fault) (f : A → Result B Fault) (e : Stop) → Fails e r → Fails e (r >>= f)
fails_then r f (stop.At which rest) read = ap (λ r. r >>= f) read
fails_then r f stop.NoMemory read = tt

-- what goes on has a token left
pub some_left : (begins : Kind → Bool) (tokens : List Token) → goes_on begins tokens ≡ true → 0 < length tokens
some_left begins [] goes = absurd cc
some_left begins (t ∷ rest) goes = omega arith

-- nothing more is read
pub no_more : {A Given : Type 0} (part : Given → List Token → Reading A) (begins : Given → Kind → Bool) (leaves : Given → A → Given)
    (turns : ℕ) (given : Given) (tokens : List Token) → goes_on (begins given) tokens ≡ false → many_at part begins leaves turns given tokens ≡ Ok ([], tokens)
unfolding many_at
no_more part begins leaves zero given tokens ends = refl
no_more part begins leaves (suc turns) given tokens ends =
    ap (many_then (part given) (λ a rest. many_at part begins leaves turns (leaves given a) rest) tokens) ends

-- a loop begins
pub row_begins : {A Given : Type 0} (part : Given → List Token → Reading A) (begins : Given → Kind → Bool) (leaves : Given → A → Given)
    (before : List A) (given : Given) (tokens : List Token) → Row part begins leaves before given tokens before given tokens
row_begins part begins leaves before given tokens = record { turns = length tokens; enough = omega arith; within = omega arith; total = refl }

module _ {A Given : Type 0} {part : Given → List Token → Reading A} {begins : Given → Kind → Bool} {leaves : Given → A → Given} {before : List A} {first : Given}
    {tokens : List Token} {so_far : List A} {given : Given} {rest : List Token} (row : Row part begins leaves before first tokens so_far given rest) where
  -- one part more
  pub row_on : goes_on (begins given) rest ≡ true → (a : A) (after : List Token) → part given rest ≡ Ok (a, after) → length after < length rest
      → Row part begins leaves before first tokens (so_far ++ a ∷ []) (leaves given a) after
  unfolding many_at
  row_on goes a after read shorter =
      let k : row.turns ≡ suc (row.turns - 1) = omega (arith, row.enough) in
      let one : with_front so_far (many_at part begins leaves (suc (row.turns - 1)) given rest)
      ≡ with_front (so_far ++ a ∷ []) (many_at part begins leaves (row.turns - 1) (leaves given a) after) =
      ap (λ b. with_front so_far (many_then (part given) (λ x y. many_at part begins leaves (row.turns - 1) (leaves given x) y) rest b)) goes
      ∙ ap (λ r. with_front so_far (r >>= λ x. many_at part begins leaves (row.turns - 1) (leaves given x.0) x.1 >>= λ more. Ok (x.0 ∷ more.0, more.1))) read
      ∙ regroup so_far a (many_at part begins leaves (row.turns - 1) (leaves given a) after) in
      record {
        turns = row.turns - 1;
        enough = omega (arith, row.enough);
        within = omega (arith, row.within);
        total = sym one ∙ ap (λ n. with_front so_far (many_at part begins leaves n given rest)) (sym k) ∙ row.total;
      }

  -- the loop ends
  pub row_ends : goes_on (begins given) rest ≡ false → with_front before (all_at part begins leaves first tokens) ≡ Ok (so_far, rest)
  row_ends ends = sym row.total ∙ ap (with_front so_far) (no_more part begins leaves row.turns given rest ends) ∙ ap (λ l. Ok (l, rest)) (append-nil so_far)

  -- a part fails
  pub row_fails : goes_on (begins given) rest ≡ true → 0 < length rest → (e : Stop) → Fails e (part given rest)
      → Fails e (with_front before (all_at part begins leaves first tokens))
  unfolding many_at
  row_fails goes some (stop.At which bad) read =
      let k : row.turns ≡ suc (row.turns - 1) = omega (arith, row.enough) in
      let one : with_front so_far (many_at part begins leaves (suc (row.turns - 1)) given rest) ≡ Err _ =
      ap (λ b. with_front so_far (many_then (part given) (λ x y. many_at part begins leaves (row.turns - 1) (leaves given x) y) rest b)) goes
      ∙ ap (λ r. with_front so_far (r >>= λ x. many_at part begins leaves (row.turns - 1) (leaves given x.0) x.1 >>= λ more. Ok (x.0 ∷ more.0, more.1))) read in
      sym row.total ∙ ap (λ n. with_front so_far (many_at part begins leaves n given rest)) k ∙ one
  row_fails goes some stop.NoMemory read = tt
