-- The fault of a part too many.
use Rattle.std.proofs.Common.{◌≡◌, ◌<◌, length, take, List, [], ◌∷◌, Result, Ok, Err, refl, sym, ap, ◌∙◌, arith}
use Rattle.pt_token.specs.declared.token.Token.{Token}
use Rattle.pt_grammar.specs.declared.sort.Sort.{Sort}
use Rattle.pt_grammar.specs.declared.sort.Sort.TheVariants as sort
use Rattle.pt_grammar.specs.Reading.{at, Reading, too_many, refused_at}
use Rattle.pt_taking.specs.declared.stop.Stop.{Stop}
use Rattle.pt_taking.specs.declared.stop.Stop.TheVariants as stop
use Rattle.pt_taking.specs.Gives.{Gives, Refuses}

-- the sort of the fault, from what was answered at the first token alone
pub refusal_is : {X A : Type 0} (view : X → A × List Token) (found : Result X Stop) (read : Reading A) (which : Sort)
    → Gives view found read → Refuses found which → which ≡ too_many read
refusal_is view (Ok x) read which h k = k ∙ ap too_many (sym h)
refusal_is view (Err (stop.At first rest)) read which h k = k ∙ ap too_many (sym h)
refusal_is view (Err stop.NoMemory) read which h k = absurd k

pub refused_here : {A : Type 0} (part : List Token → Reading A) (tokens : List Token) (which : Sort) → 0 < length tokens
    → which ≡ too_many (part (take 1 tokens)) → refused_at part tokens ≡ Err (at which tokens)
refused_here part [] which some is = absurd (omega (arith, some))
refused_here part (t ∷ rest) which some is = ap (λ s. Err (at s (t ∷ rest))) (sym is)

pub refused_at_end : {A : Type 0} (part : List Token → Reading A) (tokens : List Token) → length tokens ≡ 0
    → refused_at part tokens ≡ Err (at sort.Syntax tokens)
refused_at_end part [] none = refl
refused_at_end part (t ∷ rest) none = absurd (omega (arith, none))
