-- The names of files and of changes, gathered.
use Rattle.std.proofs.Common.{◌≡◌, ℕ, ◌+◌, ◌<◌, get_or, length, take, Bool, true, false, List, [], ◌∷◌, ◌++◌, Option, Some, None, refl, sym, ◌∙◌, ap, subst}
use Rattle.std.specs.Prelude.{if◌then◌else◌, ◌||◌, is_some, nat_eq, AllPairs, find}
use Rattle.std.specs.Borrow.{Bor}
use Rattle.std.specs.Option.{option_map}
use Rattle.std.specs.List.{list_any, dedup, filter_map, cons_option}
use Rattle.std.specs.List.Sorted.{IsSorted}
use Rattle.std.specs.Ordering.{nat_cmp}
use Rattle.std.specs.declared.cmp.Ordering.TheVariants.{Less}
use Rattle.std.specs.Cmp.{unsigned_ties}
use Rattle.std.specs.Cmp.Lexicographic.{pointwise, slice_cmp, lists_ties}
use Rattle.std.proofs.lemmas.Cmp.{on_total, on_equiv, nat_list_cmp_total, nat_list_eq_equiv}
use Rattle.std.proofs.lemmas.List.Folds.{Any-from_list_any, list_any-from_Any}
use Rattle.std.proofs.lemmas.List.Kept.{Any-dedup, IsStrictlySortedBy-dedup}
use Rattle.std.proofs.lemmas.List.{take_more}
use Rattle.std.proofs.lemmas.List.Elements.{filter_map-append}
use Rattle.pt_disk.specs.Files.{is_name}
use Rattle.pt_disk.specs.Folder.{Folder, After}
use Rattle.pt_disk.specs.Named.{name_given, is_given, mentions}
use Rattle.pt_disk.specs.DiskInMemory.{content_of, folder_after}
use Rattle.pt_disk.specs.declared.change.Change.{Change}
use Rattle.pt_disk.proofs.Memory.{folder_after-push}
use Rattle.pt_disk.proofs.Names.{name-is, name-symm}
use Rattle.pt_disk.proofs.Listed.{AllPairs-sorted}

or-swap : (a b c : Bool) → (a || (b || c)) ≡ (b || (a || c))
or-swap true true c = refl
or-swap true false c = refl
or-swap false b c = refl

-- one element more
pub any-push : {X : Type 0} (test : X → Bool) (xs : List X) (y : X) → list_any test (xs ++ y ∷ []) ≡ (test y || list_any test xs)
any-push test [] y = refl
any-push test (x ∷ xs) y = ap (λ (b : Bool). test x || b) (any-push test xs y) ∙ or-swap (test x) (test y) (list_any test xs)

found : {X Y : Type 0} (f : X → Y) (b : Bool) (x : X) (o : Option X) → is_some (option_map f (if b then Some x else o)) ≡ (b || is_some (option_map f o))
found f true x o = refl
found f false x o = refl

-- a name is there where a file has it
pub any-file : (files : List (List ℕ × List ℕ)) (name : List ℕ) → list_any (λ file. is_name name file.0) files ≡ is_some (content_of files name)
any-file [] name = refl
any-file (file ∷ files) name =
    (λ i. name-symm name file.0 i || any-file files name i)
    ∙ sym (found (λ f. f.1) (is_name file.0 name) file (find (λ f. is_name f.0 name) files))

abbrev pub same_bytes : Bor (List ℕ) → Bor (List ℕ) → Bool
same_bytes x y = pointwise nat_eq x.now y.now

-- a name that is there once is there after the others were dropped
pub any-dedup : (names : List (Bor (List ℕ))) (name : List ℕ) → list_any (λ one. is_name name one.now) names ≡ true →
    list_any (λ one. is_name name one.now) (dedup same_bytes names) ≡ true
any-dedup names name there =
    let one = Any-from_list_any (λ one. is_name name one.now) names there in
    let kept = Any-dedup (on_equiv (λ (x : Bor (List ℕ)). x.now) nat_list_eq_equiv) names one.1 (one.0, one.2, one.3) in
    list_any-from_Any (λ one. is_name name one.now) (dedup same_bytes names)
    (kept.0, kept.1, kept.2, kept.3, subst (λ (bytes : List ℕ). is_name name bytes ≡ true) (name-is one.1.now kept.1.now kept.4) one.4)

-- sorted names stand in order once the others were dropped
pub ordered-dedup : (names : List (Bor (List ℕ))) → IsSorted (λ x y. slice_cmp nat_cmp x.now y.now) names →
    AllPairs (λ x y. slice_cmp nat_cmp x.now y.now ≡ Less) (dedup same_bytes names)
ordered-dedup names sorted = AllPairs-sorted (λ x y. slice_cmp nat_cmp x.now y.now) (dedup same_bytes names)
    (IsStrictlySortedBy-dedup (on_total (λ (x : Bor (List ℕ)). x.now) nat_list_cmp_total) (λ x y. lists_ties nat_cmp unsigned_ties x.now y.now) names sorted)

-- the folder after one change more
pub folder-more : (start : Folder) (changes : List Change) (i : ℕ) (item : Change) → i < length changes → item ≡ get_or changes i item →
    folder_after start (take (i + 1) changes) ≡ After item (folder_after start (take i changes))
folder-more start changes i item within is =
    ap (folder_after start) (take_more changes i item within ∙ ap (λ (last : Change). take i changes ++ last ∷ []) (sym is))
    ∙ folder_after-push start (take i changes) item

-- and what it mentions
pub mentions-more : (start : Folder) (changes : List Change) (i : ℕ) (item : Change) → i < length changes → item ≡ get_or changes i item →
    (name : List ℕ) (given : Option (List ℕ)) (before after : Bool) → given ≡ name_given item → before ≡ mentions (folder_after start (take i changes)) name →
    after ≡ (is_given given name || before) → after ≡ mentions (folder_after start (take (i + 1) changes)) name
mentions-more start changes i item within is name given before after gives so_far one =
    one ∙ (λ k. is_given (gives k) name || so_far k) ∙ sym (ap (λ (f : Folder). mentions f name) (folder-more start changes i item within is))

-- one element more of what a function gives
pub filter_map-more : {X Y : Type 0} (h : X → Option Y) (xs : List X) (i : ℕ) (d : X) (given : Option Y) → i < length xs → h (get_or xs i d) ≡ given →
    filter_map h (take (i + 1) xs) ≡ filter_map h (take i xs) ++ cons_option given []
filter_map-more h xs i d given within gives =
    ap (filter_map h) (take_more xs i d within)
    ∙ filter_map-append h (take i xs) (get_or xs i d ∷ [])
    ∙ ap (λ (o : _). filter_map h (take i xs) ++ cons_option o []) gives

-- a name, where something is there
pub name-there : {X : Type 0} (shows : X → List ℕ) (sought : Option X) (file : Option (List ℕ)) (name : List ℕ) →
    option_map shows sought ≡ file → is_some sought ≡ true → option_map (λ bytes. name) file ≡ Some name
name-there shows None file name copied there = absurd (cc there)
name-there shows (Some x) file name copied there = sym (ap (option_map (λ bytes. name)) copied)

pub name-absent : {X : Type 0} (shows : X → List ℕ) (sought : Option X) (file : Option (List ℕ)) (name : List ℕ) →
    option_map shows sought ≡ file → is_some sought ≡ false → option_map (λ bytes. name) file ≡ None
name-absent shows None file name copied absent = sym (ap (option_map (λ bytes. name)) copied)
name-absent shows (Some x) file name copied absent = absurd (cc absent)
