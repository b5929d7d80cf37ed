-- Names that may be there, in order, and of these the ones that are.
use Rattle.std.proofs.Common.{◌≡◌, ◌≢◌, ℕ, zero, suc, Bool, true, false, List, [], ◌∷◌, Option, Some, None, refl, sym, ◌∙◌, ap, subst, arith, Ordering}
use Rattle.std.specs.Prelude.{if◌then◌else◌, ◌||◌, IsSome, All, AllPairs, Contains, find}
use Rattle.std.specs.Option.{option_map}
use Rattle.std.specs.Ordering.{nat_cmp}
use Rattle.std.specs.Cmp.Lexicographic.{slice_cmp}
use Rattle.std.proofs.lemmas.Cmp.{nat_list_cmp_total, tied_itself}
use Rattle.std.specs.List.{cons_option, filter_map, list_any}
use Rattle.std.specs.List.Sorted.{IsStrictlySortedBy}
use Rattle.std.specs.declared.cmp.Ordering.TheVariants.{Less}
use Rattle.std.proofs.lemmas.List.Elements.{All-from_recursion, All-nil, All-cons, All-contains, Contains-push, Contains-append_left, Contains-append_right}
use Rattle.std.proofs.lemmas.List.Kept.{AllPairs-cons}
use Rattle.std.proofs.lemmas.Option.{same_Some}
use Rattle.pt_disk.specs.Files.{Files, is_name}
use Rattle.pt_disk.specs.DiskInMemory.{content_of}
use Rattle.pt_disk.proofs.Names.{name-is, name-symm}

AllPairs-nil : {X : Type 0} (R : X → X → Type 0) → AllPairs R []
AllPairs-nil R = λ i j d before within. absurd (omega arith)

-- strictly sorted is in order, each pair
pub AllPairs-sorted : {X : Type 0} (cmp : X → X → Ordering) (xs : List X) → IsStrictlySortedBy cmp xs → AllPairs (λ x y. cmp x y ≡ Less) xs
unfolding IsStrictlySortedBy
AllPairs-sorted cmp [] sorted = AllPairs-nil (λ x y. cmp x y ≡ Less)
AllPairs-sorted cmp (x ∷ xs) sorted =
    AllPairs-cons (λ x y. cmp x y ≡ Less) x xs (All-from_recursion (λ y. cmp x y ≡ Less) xs sorted.0) (AllPairs-sorted cmp xs sorted.1)

pairs-head : {X : Type 0} (R : X → X → Type 0) (x : X) (xs : List X) → AllPairs R (x ∷ xs) → All (R x) xs
pairs-head R x xs pairs = λ k d within. pairs zero (suc k) d (omega arith) (omega (arith, within))

pairs-tail : {X : Type 0} (R : X → X → Type 0) (x : X) (xs : List X) → AllPairs R (x ∷ xs) → AllPairs R xs
pairs-tail R x xs pairs = λ i j d before within. pairs (suc i) (suc j) d (omega (arith, before)) (omega (arith, within))

module _ {X Y : Type 0} (h : X → Option Y) where
  All-cons_option : (P : Y → Type 0) (o : Option Y) (ys : List Y) → ((y : Y) → o ≡ Some y → P y) → All P ys → All P (cons_option o ys)
  All-cons_option P None ys holds all = all
  All-cons_option P (Some y) ys holds all = All-cons P y ys (holds y refl) all

  -- what holds of each element that gives one holds of what it gives
  pub All-filter_map : (P : Y → Type 0) (Q : X → Type 0) → ((x : X) (y : Y) → h x ≡ Some y → Q x → P y) →
      (xs : List X) → All Q xs → All P (filter_map h xs)
  All-filter_map P Q holds [] all = All-nil P
  All-filter_map P Q holds (x ∷ xs) all = All-cons_option P (h x) (filter_map h xs)
      (λ y is. holds x y is (all zero x (omega arith)))
      (All-filter_map P Q holds xs (λ k d within. all (suc k) d (omega (arith, within))))

  AllPairs-cons_option : (R : Y → Y → Type 0) (o : Option Y) (ys : List Y) → ((y : Y) → o ≡ Some y → All (R y) ys) → AllPairs R ys → AllPairs R (cons_option o ys)
  AllPairs-cons_option R None ys holds pairs = pairs
  AllPairs-cons_option R (Some y) ys holds pairs = AllPairs-cons R y ys (holds y refl) pairs

  pub AllPairs-filter_map : (R : Y → Y → Type 0) (S : X → X → Type 0) → ((x z : X) (y w : Y) → h x ≡ Some y → h z ≡ Some w → S x z → R y w) →
      (xs : List X) → AllPairs S xs → AllPairs R (filter_map h xs)
  AllPairs-filter_map R S holds [] pairs = AllPairs-nil R
  AllPairs-filter_map R S holds (x ∷ xs) pairs = AllPairs-cons_option R (h x) (filter_map h xs)
      (λ y is. All-filter_map (R y) (S x) (λ z w gives ordered. holds x z y w is gives ordered) xs (pairs-head S x xs pairs))
      (AllPairs-filter_map R S holds xs (pairs-tail S x xs pairs))

module _ {X : Type 0} (name_of : X → List ℕ) (files : Files) where
  abbrev pub file_at : X → Option (List ℕ × List ℕ)
  file_at x = option_map (λ bytes. (name_of x, bytes)) (files (name_of x))

  abbrev pub name_at : X → Option (List ℕ)
  name_at x = option_map (λ bytes. name_of x) (files (name_of x))

  -- the name is one of these
  abbrev pub is_among : List X → List ℕ → Bool
  is_among xs name = list_any (λ x. is_name name (name_of x)) xs

  gives : (o : Option (List ℕ)) (name found : List ℕ) → option_map (λ bytes. name) o ≡ Some found → (name ≡ found) × IsSome o
  gives None name found is = absurd (cc is)
  gives (Some bytes) name found is = (same_Some name found is, refl)

  gives-file : (o : Option (List ℕ)) (name : List ℕ) (found : List ℕ × List ℕ) → option_map (λ bytes. (name, bytes)) o ≡ Some found → name ≡ found.0
  gives-file None name found is = absurd (cc is)
  gives-file (Some bytes) name found is = ap (λ (file : List ℕ × List ℕ). file.0) (same_Some (name, bytes) found is)

  -- names in order are in order without those that are absent
  pub names-ordered : (xs : List X) → AllPairs (λ x z. slice_cmp nat_cmp (name_of x) (name_of z) ≡ Less) xs →
      AllPairs (λ one other. slice_cmp nat_cmp one other ≡ Less) (filter_map name_at xs)
  names-ordered = AllPairs-filter_map name_at (λ one other. slice_cmp nat_cmp one other ≡ Less) (λ x z. slice_cmp nat_cmp (name_of x) (name_of z) ≡ Less)
      (λ x z y w first second less.
      (λ i. slice_cmp nat_cmp (sym (gives (files (name_of x)) (name_of x) y first).0 i) (sym (gives (files (name_of z)) (name_of z) w second).0 i)) ∙ less)

  -- and files with such names have different ones
  pub files-distinct : (xs : List X) → AllPairs (λ x z. slice_cmp nat_cmp (name_of x) (name_of z) ≡ Less) xs →
      AllPairs (λ one other. one.0 ≢ other.0) (filter_map file_at xs)
  files-distinct = AllPairs-filter_map file_at (λ one other. one.0 ≢ other.0) (λ x z. slice_cmp nat_cmp (name_of x) (name_of z) ≡ Less)
      (λ x z y w first second less same.
      let named : name_of x ≡ name_of z = gives-file (files (name_of x)) (name_of x) y first ∙ same ∙ sym (gives-file (files (name_of z)) (name_of z) w second) in
      absurd (cc (sym less, ap (slice_cmp nat_cmp (name_of x)) (sym named), tied_itself nat_list_cmp_total (name_of x))))

  neither : (b : Bool) (o : Option (List ℕ)) → o ≡ None → (if b then o else None) ≡ None
  neither true o is = is
  neither false o is = refl

  -- the files of these names are these files, at these names
  abbrev IsContent : List X → List ℕ → Type 0
  IsContent xs name = content_of (filter_map file_at xs) name ≡ (if is_among xs name then files name else None)

  with_head : (x : X) (xs : List X) (name : List ℕ) (o : Option (List ℕ)) (b : Bool) → files (name_of x) ≡ o → is_name name (name_of x) ≡ b → IsContent xs name →
      content_of (cons_option (option_map (λ bytes. (name_of x, bytes)) o) (filter_map file_at xs)) name ≡ (if b || is_among xs name then files name else None)
  with_head x xs name (Some bytes) true has is rest =
      ap (λ (c : Bool). option_map (λ file. file.1) (if c then Some (name_of x, bytes) else find (λ file. is_name file.0 name) (filter_map file_at xs))) (name-symm (name_of x) name ∙ is)
      ∙ sym has ∙ ap files (sym (name-is name (name_of x) is))
  with_head x xs name (Some bytes) false has is rest =
      ap (λ (c : Bool). option_map (λ file. file.1) (if c then Some (name_of x, bytes) else find (λ file. is_name file.0 name) (filter_map file_at xs))) (name-symm (name_of x) name ∙ is)
      ∙ rest
  with_head x xs name None true has is rest =
      let absent : files name ≡ None = ap files (name-is name (name_of x) is) ∙ has in
      rest ∙ neither (is_among xs name) (files name) absent ∙ sym absent
  with_head x xs name None false has is rest = rest

  pub content-listed : (xs : List X) (name : List ℕ) → IsContent xs name
  content-listed [] name = refl
  content-listed (x ∷ xs) name = with_head x xs name (files (name_of x)) (is_name name (name_of x)) refl refl (content-listed xs name)

  -- a name that is listed is there
  pub there-from_listed : (xs : List X) (name : List ℕ) → Contains (filter_map name_at xs) name → IsSome (files name)
  there-from_listed xs name listed = All-contains (λ n. IsSome (files n)) (filter_map name_at xs) name
      (All-filter_map name_at (λ n. IsSome (files n)) (λ x. Unit {0})
      (λ x n is anything. let g = gives (files (name_of x)) (name_of x) n is in subst (λ (m : List ℕ). IsSome (files m)) g.0 g.1)
      xs (λ k d within. tt))
      listed

  Contains-cons_option : (o : Option (List ℕ)) (names : List (List ℕ)) (name : List ℕ) → Contains names name → Contains (cons_option o names) name
  Contains-cons_option None names name contains = contains
  Contains-cons_option (Some first) names name contains = Contains-append_right (first ∷ []) names name contains

  Contains-first : (o : Option (List ℕ)) (first : List ℕ) (names : List (List ℕ)) → IsSome o → Contains (cons_option (option_map (λ bytes. first) o) names) first
  Contains-first None first names is = absurd (cc is)
  Contains-first (Some bytes) first names is = Contains-append_left (first ∷ []) names first (Contains-push [] first)

  -- a name that is there, and may be there, is listed
  listed-head : (x : X) (xs : List X) (name : List ℕ) (b : Bool) → is_name name (name_of x) ≡ b → (b || is_among xs name) ≡ true → IsSome (files name) →
      (is_among xs name ≡ true → Contains (filter_map name_at xs) name) → Contains (filter_map name_at (x ∷ xs)) name
  listed-head x xs name true is among there rest =
      let same : name_of x ≡ name = sym (name-is name (name_of x) is) in
      subst (λ (n : List ℕ). Contains (filter_map name_at (x ∷ xs)) n) same
      (Contains-first (files (name_of x)) (name_of x) (filter_map name_at xs) (subst (λ (n : List ℕ). IsSome (files n)) (sym same) there))
  listed-head x xs name false is among there rest = Contains-cons_option (name_at x) (filter_map name_at xs) name (rest among)

  pub listed-from_there : (xs : List X) (name : List ℕ) → is_among xs name ≡ true → IsSome (files name) → Contains (filter_map name_at xs) name
  listed-from_there [] name among there = absurd (cc among)
  listed-from_there (x ∷ xs) name among there =
      listed-head x xs name (is_name name (name_of x)) refl among there (λ rest. listed-from_there xs name rest there)
