-- Files by name.
use Rattle.std.proofs.Common.{◌≡◌, ◌≢◌, ◌⊎◌, inl, inr, ℕ, Bool, true, false, List, Option, refl, sym, ◌∙◌, ap, subst}
use Rattle.std.specs.Prelude.{if◌then◌else◌}
use Rattle.std.specs.Cmp.Lexicographic.{bytes_decides, nat_list_eq_equiv}
use Rattle.pt_disk.specs.Files.{Files, is_name, with_file}

pub name-same : (name : List ℕ) → is_name name name ≡ true
name-same name = (bytes_decides name name).1 refl

pub name-is : (a b : List ℕ) → is_name a b ≡ true → a ≡ b
name-is a b = (bytes_decides a b).0

pub name-symm : (a b : List ℕ) → is_name a b ≡ is_name b a
name-symm = nat_list_eq_equiv.symm

pub not_true : (b : Bool) → (b ≡ true → ⊥) → b ≡ false
not_true true never = absurd (never refl)
not_true false never = refl

pub name-other : (a b : List ℕ) → a ≢ b → is_name a b ≡ false
name-other a b other = not_true (is_name a b) (λ is. other (name-is a b is))

pub with_file-at : (name : List ℕ) (file : Option (List ℕ)) (files : Files) → with_file name file files name ≡ file
with_file-at name file files = ap (λ (b : Bool). if b then file else files name) (name-same name)

pub with_file-other : (name : List ℕ) (file : Option (List ℕ)) (files : Files) (other : List ℕ) → other ≢ name → with_file name file files other ≡ files other
with_file-other name file files other differs = ap (λ (b : Bool). if b then file else files other) (name-other other name differs)

-- a name is this one or another
pub name-cases : (a b : List ℕ) → (a ≡ b) ⊎ ((a ≢ b) × (is_name a b ≡ false))
name-cases a b = cases (is_name a b) refl
  where
    cases : (t : Bool) → is_name a b ≡ t → (a ≡ b) ⊎ ((a ≢ b) × (is_name a b ≡ false))
    cases true is = inl (name-is a b is)
    cases false is = inr ((λ same. absurd (cc (sym is ∙ subst (λ (n : List ℕ). is_name a n ≡ true) same (name-same a)))), is)
