-- A name that no file has, and that no change gave one, is absent.
use Rattle.std.proofs.Common.{◌≡◌, ℕ, Bool, true, false, List, Option, Some, None, refl, sym, ◌∙◌, ap}
use Rattle.std.specs.Prelude.{if◌then◌else◌, ◌&&◌, ◌||◌, is_some, IsSome}
use Rattle.std.proofs.lemmas.Bool.{false_from_ne_true}
use Rattle.pt_disk.specs.Files.{is_name}
use Rattle.pt_disk.specs.Folder.{Folder, Stable, After, reads, settled, is_unsynced}
use Rattle.pt_disk.specs.Kept.{left_of, without_unstable, kept}
use Rattle.pt_disk.specs.Named.{mentions}
use Rattle.pt_disk.specs.declared.change.Change.TheVariants.{Put, Sync, Rename, Remove, Settle}
use Rattle.pt_disk.specs.declared.image.Keep.{Keep}
use Rattle.pt_disk.specs.declared.image.Keep.TheVariants.{Least, Most, Torn}

is_none : (file : Option (List ℕ)) → is_some file ≡ false → file ≡ None
is_none None is = refl
is_none (Some bytes) is = absurd (cc is)

pub or-first : (a b : Bool) → (a || b) ≡ false → a ≡ false
or-first true b is = is
or-first false b is = refl

pub or-second : (a b : Bool) → (a || b) ≡ false → b ≡ false
or-second true b is = absurd (cc is)
or-second false b is = is

neither : (b : Bool) (one other : Option (List ℕ)) → one ≡ None → other ≡ None → (if b then one else other) ≡ None
neither true one other first second = first
neither false one other first second = second

pub unmentioned-reads : (folder : Folder) (name : List ℕ) → mentions folder name ≡ false → reads folder name ≡ None
unmentioned-reads (Stable files) name not = is_none (files name) not
unmentioned-reads (After (Put put bytes) before) name not =
    ap (λ (b : Bool). if b then Some bytes else reads before name) (or-first (is_name name put) (mentions before name) not)
    ∙ unmentioned-reads before name (or-second (is_name name put) (mentions before name) not)
unmentioned-reads (After (Sync synced) before) name not = unmentioned-reads before name not
unmentioned-reads (After (Rename from to) before) name not =
    ap (λ (b : Bool). if b then reads before from else (if is_name name from then None else reads before name)) (or-first (is_name name to) (mentions before name) not)
    ∙ neither (is_name name from) None (reads before name) refl (unmentioned-reads before name (or-second (is_name name to) (mentions before name) not))
unmentioned-reads (After (Remove removed) before) name not = neither (is_name name removed) None (reads before name) refl (unmentioned-reads before name not)
unmentioned-reads (After Settle before) name not = unmentioned-reads before name not

unmentioned-settled : (folder : Folder) (name : List ℕ) → mentions folder name ≡ false → settled folder name ≡ None
unmentioned-settled (Stable files) name not = is_none (files name) not
unmentioned-settled (After (Put put bytes) before) name not = unmentioned-settled before name (or-second (is_name name put) (mentions before name) not)
unmentioned-settled (After (Sync synced) before) name not = unmentioned-settled before name not
unmentioned-settled (After (Rename from to) before) name not = unmentioned-settled before name (or-second (is_name name to) (mentions before name) not)
unmentioned-settled (After (Remove removed) before) name not = unmentioned-settled before name not
unmentioned-settled (After Settle before) name not = unmentioned-reads before name not

unmentioned-without : (keep : Keep) (folder : Folder) (name : List ℕ) → mentions folder name ≡ false → without_unstable keep folder name ≡ None
unmentioned-without keep (Stable files) name not = is_none (files name) not
unmentioned-without keep (After (Put put bytes) before) name not =
    ap (λ (b : Bool). if b then left_of keep (without_unstable keep before name) (Some bytes) else without_unstable keep before name)
    (or-first (is_name name put) (mentions before name) not)
    ∙ unmentioned-without keep before name (or-second (is_name name put) (mentions before name) not)
unmentioned-without keep (After (Sync synced) before) name not =
    neither (is_name name synced && is_unsynced before name) (settled before name) (without_unstable keep before name)
    (unmentioned-settled before name not) (unmentioned-without keep before name not)
unmentioned-without keep (After (Rename from to) before) name not = unmentioned-without keep before name (or-second (is_name name to) (mentions before name) not)
unmentioned-without keep (After (Remove removed) before) name not = unmentioned-without keep before name not
unmentioned-without keep (After Settle before) name not =
    let none : reads before name ≡ None = unmentioned-reads before name not in
    neither (is_unsynced before name) (left_of keep (without_unstable keep before name) (reads before name)) (reads before name)
    (ap (λ (put : Option (List ℕ)). left_of keep (without_unstable keep before name) put) none ∙ unmentioned-without keep before name not)
    none

pub unmentioned-kept : (keep : Keep) (folder : Folder) (name : List ℕ) → mentions folder name ≡ false → kept keep folder name ≡ None
unmentioned-kept Least folder name not = unmentioned-without Least folder name not
unmentioned-kept Most folder name not = unmentioned-reads folder name not
unmentioned-kept Torn folder name not = unmentioned-without Torn folder name not

-- what is there is mentioned
there : (mentioned : Bool) (file : Option (List ℕ)) → (mentioned ≡ false → file ≡ None) → IsSome file → mentioned ≡ true
there true file absent is = refl
there false file absent is = absurd (cc (is, absent refl))

pub mentions-there : (folder : Folder) (name : List ℕ) → IsSome (reads folder name) → mentions folder name ≡ true
mentions-there folder name = there (mentions folder name) (reads folder name) (unmentioned-reads folder name)

-- files that are found among names are all that are kept, where each name that is mentioned is among them
pub kept-among : (keep : Keep) (folder : Folder) (name : List ℕ) (among : Bool) → (mentions folder name ≡ true → among ≡ true) →
    (if among then kept keep folder name else None) ≡ kept keep folder name
kept-among keep folder name true has = refl
kept-among keep folder name false has = sym (unmentioned-kept keep folder name (false_from_ne_true (mentions folder name) (λ is. absurd (cc (has is)))))
