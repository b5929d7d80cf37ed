-- When a choice is admitted.
use Rattle.std.proofs.Common.{◌≡◌, ℕ, zero, suc, ◌<◌, Bool, true, false, replicate, refl, sym, arith}
use Rattle.std.specs.Prelude.{nat_lt, if◌then◌else◌}
use Rattle.std.specs.List.{list_all}
use Rattle.std.proofs.lemmas.Bool.Decides.{nat_tests}
use Rattle.std.proofs.lemmas.Int.{ints}
use Rattle.std.proofs.lemmas.List.{length-replicate}
use Rattle.pt_choice.specs.Kind.{IsShape, admits, simplest, fit}
use Rattle.pt_choice.specs.declared.kind.Shape.{Shape}
use Rattle.pt_choice.specs.declared.kind.Shape.TheVariants as shape
use Rattle.pt_choice.specs.declared.choice.Choice.{Choice}

-- so many zeros are so many places of an alphabet
zeros_below : (size count : ℕ) → 0 < size → list_all (λ place. nat_lt place size) (replicate count 0) ≡ true
zeros_below size zero some = refl
zeros_below size (suc count) some = grind (arith, nat_tests, zeros_below size count some)

-- the simplest choice is one of those that it stands for
pub admits-simplest : (asked : Shape) → IsShape asked → admits asked (simplest asked) ≡ true
admits-simplest (shape.Bool chance) is = refl
admits-simplest (shape.Int lo hi) is = grind (arith, ints)
admits-simplest (shape.Bytes min max) is = grind (arith, nat_tests, length-replicate {A = ℕ})
admits-simplest (shape.Text min max size) is =
    let zeros = zeros_below size min (omega arith) in
    grind (arith, nat_tests, length-replicate {A = ℕ})

-- so what is given in place of an answer always is one
pub admits-fit : (asked : Shape) (given : Choice) → IsShape asked → admits asked (fit asked given) ≡ true
admits-fit asked given is = fitted (admits asked given) refl
  where
    fitted : (test : Bool) → test ≡ admits asked given → admits asked (if test then given else simplest asked) ≡ true
    fitted true e = sym e
    fitted false e = admits-simplest asked is

-- and what is admitted stays
pub fit-kept : (asked : Shape) (given : Choice) → admits asked given ≡ true → fit asked given ≡ given
fit-kept asked given e = rw e
