-- What holds of what two disks tell.
use Rattle.std.proofs.Common.{◌≡◌, Option, Some, None, refl, ◌∙◌, subst}
use Rattle.std.specs.Prelude.{Result, Ok, Err, is_err, false, IfSome, OnOk}
use Rattle.pt_disk.specs.Folder.{Folder}
use Rattle.pt_disk.specs.Moments.{Told, now, Elapsed, BothTell}
use Rattle.pt_disk.specs.Calls.{Rests}
use Rattle.pt_disk.proofs.Times.{elapsed-none, elapsed-then, elapsed-weaker, elapsed-now}

pub both-then : (P Q R : Told → Told → Type 0) (old mid new : Option Told) → ((a b c : Told) → P a b → Q b c → R a c) →
    BothTell P old mid → BothTell Q mid new → BothTell R old new
both-then P Q R None None None chain first second = tt
both-then P Q R (Some old) (Some mid) (Some new) chain first second = chain old mid new first second
both-then P Q R None (Some mid) new chain first second = absurd first
both-then P Q R (Some old) None new chain first second = absurd first
both-then P Q R None None (Some new) chain first second = absurd second
both-then P Q R (Some old) (Some mid) None chain first second = absurd second

pub both-weaker : (P Q : Told → Told → Type 0) (old new : Option Told) → ((a b : Told) → P a b → Q a b) → BothTell P old new → BothTell Q old new
both-weaker P Q None None weaker both = tt
both-weaker P Q (Some old) (Some new) weaker both = weaker old new both
both-weaker P Q None (Some new) weaker both = absurd both
both-weaker P Q (Some old) None weaker both = absurd both

-- ---- calls that read

abbrev pub IsAsAt : Told → Folder → Type 0
IsAsAt old folder = folder ≡ now old

pub rested : (old new : Told) → Elapsed (IsAsAt old) old new → now new ≡ now old
rested old new elapsed = elapsed-now (IsAsAt old) old new elapsed refl

pub rests-none : (told : Option Told) → Rests told told
rests-none None = tt
rests-none (Some told) = elapsed-none (IsAsAt told) told

pub rests-then : (old mid new : Option Told) → Rests old mid → Rests mid new → Rests old new
rests-then old mid new = both-then (λ old new. Elapsed (IsAsAt old) old new) (λ old new. Elapsed (IsAsAt old) old new) (λ old new. Elapsed (IsAsAt old) old new) old mid new
    (λ a b c first second. elapsed-then (IsAsAt a) a b c first (elapsed-weaker (IsAsAt b) (IsAsAt a) b c (λ folder is. is ∙ rested a b first) second))

-- what holds of the folder after a call that reads held before it
pub rests-back : (Is : Folder → Type 0) (old new : Option Told) → Rests old new → IfSome new (λ told. Is (now told)) → IfSome old (λ told. Is (now told))
rests-back Is None None rests holds = tt
rests-back Is (Some old) (Some new) rests holds = subst Is (rested old new rests) holds
rests-back Is None (Some new) rests holds = absurd rests
rests-back Is (Some old) None rests holds = absurd rests

-- what a call says of its answer
pub ok-holds : {A E : Type 0} (result : Result A E) (P : Type 0) → is_err result ≡ false → OnOk result P → P
ok-holds (Ok answer) P is holds = holds
ok-holds (Err fault) P is holds = absurd (cc is)
