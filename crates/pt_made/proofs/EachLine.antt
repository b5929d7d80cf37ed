-- Each kind of line keeps the bounds and is well typed.
use Rattle.std.proofs.Common.{◌≡◌, ℕ, zero, suc, ◌+◌, ◌%◌, ◌≤◌, ◌==◌, Bool, true, false, if◌then◌else◌, List, [], ◌∷◌, map, refl, arith}
use Rattle.std.specs.Prelude.{codes}
use Rattle.std.specs.List.{AllByRecursion, range_with_len}
use Rattle.std.specs.Fmt.{decimal}
use Rattle.pt_ast.specs.Types.{Int_type, List_type}
use Rattle.pt_ast.specs.Trees.{ItemTree}
use Rattle.pt_ast.specs.Bounds.{IsBoundedItem}
use Rattle.pt_ast.specs.Levels.{body_levels}
use Rattle.pt_ast.specs.Names.{Scope}
use Rattle.pt_ast.specs.Suites.{IsTypedItem}
use Rattle.pt_made.specs.Lines.{passing, failing, rejecting, bounded, bound, made_item}

-- what holds of the four kinds holds of each line
chosen : (P : ItemTree → Type 0) (first second third : Bool) (a b c d : ItemTree) → P a → P b → P c → P d → P (if first then a else (if second then b else (if third then c else d)))
chosen P true second third a b c d pa pb pc pd = pa
chosen P false true third a b c d pa pb pc pd = pb
chosen P false false true a b c d pa pb pc pd = pc
chosen P false false false a b c d pa pb pc pd = pd

pub each_kind : (P : ItemTree → Type 0) (seed k : ℕ) → P (passing k) → P (failing k) → P (rejecting k) → P (bounded (bound seed k) k) → P (made_item seed k)
each_kind P seed k = chosen P (k % 4 == 0) (k % 4 == 1) (k % 4 == 2) (passing k) (failing k) (rejecting k) (bounded (bound seed k) k)

-- what holds of each line holds of all
pub all_lines : (P : ItemTree → Type 0) (seed : ℕ) → ((k : ℕ) → P (made_item seed k)) → (from count : ℕ) → AllByRecursion P (map (made_item seed) (range_with_len from count))
all_lines P seed each from zero = tt
all_lines P seed each from (suc count) = (each from, all_lines P seed each (from + 1) count)

-- a line keeps the bounds, is not deep, and is well typed
pub record IsLine (known : List (List ℕ)) (item : ItemTree) : Type 0 where
  pub bounded : IsBoundedItem item
  pub shallow : body_levels item.body ≤ 64
  pub typed : IsTypedItem known item

-- what the first statement of a line leaves in scope
abbrev x_scope : Scope
x_scope = (codes "x", Int_type) ∷ []

abbrev xs_scope : Scope
xs_scope = (codes "xs", List_type Int_type) ∷ []

pub passing_line : (known : List (List ℕ)) (k : ℕ) → IsLine known (passing k)
passing_line known k = record {
  bounded = (((omega arith, omega arith), omega arith, (omega arith, omega arith)), (((tt, tt), ((tt, tt), tt)), (tt, (tt, tt))));
  shallow = omega arith;
  typed = (x_scope, (x_scope, (Int_type, refl, (refl, refl, refl), refl), (x_scope, ((Int_type, refl, refl, refl, refl), refl), refl)));
}

pub failing_line : (known : List (List ℕ)) (k : ℕ) → IsLine known (failing k)
failing_line known k = record {
  bounded = (((omega arith, omega arith), omega arith, (omega arith, omega arith)), ((((tt, tt), tt, tt), (tt, tt)), (tt, (tt, tt))));
  shallow = omega arith;
  typed = (xs_scope, (xs_scope, (List_type Int_type, refl, (Int_type, (refl, refl, refl), refl, refl, refl), refl), (xs_scope, (refl, refl), refl)));
}

pub rejecting_line : (known : List (List ℕ)) (k : ℕ) → IsLine known (rejecting k)
rejecting_line known k = record {
  bounded = (((omega arith, omega arith), omega arith, (omega arith, omega arith)), (((tt, tt), ((tt, tt), tt)), (tt, (tt, tt))));
  shallow = omega arith;
  typed = (x_scope, (x_scope, (Int_type, refl, (refl, refl, refl), refl), (x_scope, ((Int_type, refl, refl, refl, refl), refl), refl)));
}

pub bounded_line : (known : List (List ℕ)) (limit k : ℕ) → IsLine known (bounded limit k)
bounded_line known limit k = record {
  bounded = (((omega arith, omega arith), omega arith, (omega arith, omega arith)), (((tt, tt), ((tt, tt), tt)), (tt, (tt, tt))));
  shallow = omega arith;
  typed = (x_scope, (x_scope, (Int_type, refl, (refl, refl, refl), refl), (x_scope, ((Int_type, refl, refl, refl, refl), refl), refl)));
}

pub each_line : (known : List (List ℕ)) (seed k : ℕ) → IsLine known (made_item seed k)
each_line known seed k = each_kind (IsLine known) seed k (passing_line known k) (failing_line known k) (rejecting_line known k) (bounded_line known (bound seed k) k)

pub line_name : (seed k : ℕ) → (made_item seed k).name.name ≡ 112 ∷ decimal k
line_name seed k = each_kind (λ item. item.name.name ≡ 112 ∷ decimal k) seed k refl refl refl refl
