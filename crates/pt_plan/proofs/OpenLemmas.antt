-- Which spans are open.
use Rattle.std.proofs.Common.{◌≡◌, ◌≢◌, ℕ, suc, ◌+◌, Bool, true, false, Option, Some, None, List, [], ◌∷◌, ◌++◌, length, refl, sym, ◌∙◌, ap, arith}
use Rattle.std.specs.Prelude.{IsSome, if◌then◌else◌}
use Rattle.std.specs.Option.{option_or, option_map}
use Rattle.pt_case.specs.declared.region.Region.{Region}
use Rattle.pt_case.specs.Region.{is_open, innermost, leave_innermost}
use Rattle.pt_plan.specs.Open.{open_before}

-- the open ones of a list that goes on
pub open_before-append : (number : ℕ) (regions more : List Region) (outer : List ℕ) →
    open_before number (regions ++ more) outer ≡ open_before (number + length regions) more (open_before number regions outer)
open_before-append number [] more outer = ap (λ n. open_before n more outer) (let e : number ≡ number + 0 = omega arith in e)
open_before-append number (region ∷ regions) more outer =
    let later : List ℕ = if is_open region then number ∷ outer else outer in
    open_before-append (suc number) regions more later
    ∙ ap (λ n. open_before n more (open_before (suc number) regions later)) (let e : suc number + length regions ≡ number + suc (length regions) = omega arith in e)

-- where none is innermost, none is open
pub open_before-none : (number : ℕ) (regions : List Region) (outer : List ℕ) → innermost regions ≡ None → open_before number regions outer ≡ outer
open_before-none number [] outer none = refl
open_before-none number (region ∷ regions) outer none =
    split (open_before-none (suc number) regions outer) (innermost regions) (is_open region) refl refl none
  where
    split : (innermost regions ≡ None → open_before (suc number) regions outer ≡ outer) → (later : Option ℕ) (here : Bool) → innermost regions ≡ later → is_open region ≡ here →
        option_or (option_map suc later) (if here then Some 0 else None) ≡ None → open_before number (region ∷ regions) outer ≡ outer
    split none (Some found) here el eh e = cc
    split none None true el eh e = cc
    split none None false el eh e = rw eh (none el)

-- where some are open, one is the innermost
pub some-open : (regions : List Region) → open_before 0 regions [] ≢ [] → IsSome (innermost regions)
some-open regions some = split (innermost regions) refl
  where
    split : (found : Option ℕ) → innermost regions ≡ found → IsSome found
    split (Some number) is = refl
    split None is = absurd (some (open_before-none 0 regions [] is))

-- a span that is entered is the first of them
pub open-entered : (regions : List Region) (last : Region) → is_open last ≡ true →
    open_before 0 (regions ++ last ∷ []) [] ≡ length regions ∷ open_before 0 regions []
open-entered regions last is =
    open_before-append 0 regions (last ∷ []) [] ∙ rw is (ap (λ n. n ∷ open_before 0 regions []) (let e : 0 + length regions ≡ length regions = omega arith in e))

-- and the innermost that is left is no longer there
pub open-left : (here number : ℕ) (regions : List Region) (outer : List ℕ) → IsSome (innermost regions) →
    (found : ℕ) × (open_before number regions outer ≡ found ∷ open_before number (leave_innermost here regions) outer)
open-left here number [] outer some = cc
open-left here number (region ∷ regions) outer some =
    split (open-left here (suc number) regions (if is_open region then number ∷ outer else outer)) (innermost regions) (is_open region) refl refl some
  where
    split : (IsSome (innermost regions) → (found : ℕ) × (open_before (suc number) regions (if is_open region then number ∷ outer else outer)
        ≡ found ∷ open_before (suc number) (leave_innermost here regions) (if is_open region then number ∷ outer else outer))) → (found : Option ℕ) (first : Bool) → innermost regions ≡ found → is_open region ≡ first →
        IsSome (option_or (option_map suc found) (if first then Some 0 else None)) →
        (found : ℕ) × (open_before number (region ∷ regions) outer ≡ found ∷ open_before number (leave_innermost here (region ∷ regions)) outer)
    split further (Some inner) first el eh some = rw el (further (rw el refl))
    split further None true el eh some = (
      number,
      rw (eh, el) (open_before-none (suc number) regions (number ∷ outer) el
          ∙ ap (λ ns. number ∷ ns) (sym (open_before-none (suc number) regions outer el))),
    )
    split further None false el eh some = cc

-- where none is open, none is innermost
pub none-open : (regions : List Region) → length (open_before 0 regions []) ≡ 0 → innermost regions ≡ None
none-open regions none = split (innermost regions) refl
  where
    split : (found : Option ℕ) → innermost regions ≡ found → found ≡ None
    split None is = refl
    split (Some number) is =
        let one = open-left 0 0 regions [] (rw is refl) in
        let e = ap length one.1 in
        absurd (omega (arith, e, none))

-- one that is open behind others is the innermost of all
innermost-behind : (base own : List Region) → IsSome (innermost own) → IsSome (innermost (base ++ own))
innermost-behind [] own some = some
innermost-behind (region ∷ base) own some = split (innermost-behind base own some) (innermost (base ++ own)) refl
  where
    split : IsSome (innermost (base ++ own)) → (found : Option ℕ) → innermost (base ++ own) ≡ found → IsSome (innermost ((region ∷ base) ++ own))
    split later (Some number) is = rw is refl
    split later None is = let e = rw is at later in cc

pub leave-behind : (here : ℕ) (base own : List Region) → IsSome (innermost own) → leave_innermost here (base ++ own) ≡ base ++ leave_innermost here own
leave-behind here [] own some = refl
leave-behind here (region ∷ base) own some =
    rw (innermost-behind base own some) (ap (λ rs. region ∷ rs) (leave-behind here base own some))
