use Rattle.std.proofs.Common.{◌≡◌, ℕ, ◌+◌, ◌*◌, ◌-◌, ◌^◌, ◌<◌, ◌≤◌, [], ◌∷◌, ◌++◌, IfSome, Option, Some, None, unwrap_or, true, false, eqb, sym, ap, ◌∙◌, arith}
use Rattle.std.specs.Fmt.{decimal}
use Rattle.std.specs.Option.{option_eq}
use Rattle.std.proofs.lemmas.Bool.{eqb-true}
use Rattle.pt_wire.specs.Number.{digits_of}
use Rattle.pt_wire.proofs.Decimals.{digit_within, nothing_after_zero, at_least_front, digits_more}
use Rattle.pt_wire.proofs.number.with_digit.Goals as goal

pub returns-then-not-is_ascii_digit : goal.returns-then-not-is_ascii_digit
returns-then-not-is_ascii_digit c = λ greater rest few e.
    let range = digit_within greater c.args.byte (digits_of c.args.number) rest (omega arith) e in
    let test = c.if-not-is_ascii_digit.ensures.cases in omega arith

-- what the test for zero says
is_zero : (number : Option ℕ) → true ≡ option_eq eqb number (Some 0) → number ≡ Some 0
is_zero None e = absurd cc
is_zero (Some value) e = ap (λ v. Some v) (eqb-true value 0 (sym e))

not_zero : (number : Option ℕ) → false ≡ option_eq eqb number (Some 0) → number ≡ Some 0 → ⊥
not_zero number e zero = let both : false ≡ true = e ∙ ap (λ n. option_eq eqb n (Some 0)) zero in cc

pub returns-then-eq : goal.returns-then-eq
returns-then-eq c = λ greater rest few e.
    nothing_after_zero greater c.args.byte rest (omega arith) (rw (is_zero c.args.number c.if-eq.ensures) at e)

pub returns-then-greater-most : goal.returns-then-greater-most
returns-then-greater-most c = λ greater rest few e.
    let least = at_least_front greater c.args.byte c.args.number rest (omega arith) (within c.args.number c.requires.small) e in omega arith where
      within : (number : Option ℕ) → IfSome number (λ value. value ≤ c.args.most) → IfSome number (λ value. value < 2 ^ 64)
      within None small = tt
      within (Some value) small = omega arith

pub returns : goal.returns
returns c =
    let digit = c.args.byte - 48 in
    let range = c.if-not-is_ascii_digit.ensures.cases in
    let greater : 10 * c.unwrap_or.result + c.from.result ≡ 10 * unwrap_or c.args.number 0 + digit = omega (arith, c.unwrap_or.ensures) in
    let byte : 48 + digit ≡ c.args.byte = omega arith in
    (c.if-greater-most.false, ap decimal greater ∙ digits_more c.args.number digit (not_zero c.args.number c.if-eq.ensures) (omega arith) (omega arith) ∙ ap (λ b. digits_of c.args.number ++ b ∷ []) byte)
