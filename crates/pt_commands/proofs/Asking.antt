-- Words ask for one thing.
use Rattle.std.proofs.Common.{◌≡◌, ℕ, ◌<◌, ◌^◌, List, sym, ◌∙◌, ap, subst, Global}
use Rattle.std.specs.Prelude.{String}
use Rattle.std.specs.Fmt.{decimal}
use Rattle.std.specs.Str.Parse.{digits_value}
use Rattle.std.proofs.lemmas.Fmt.{decimal_is_IsNumeral}
use Rattle.pt_wire.specs.Printed.{Printed}
use Rattle.pt_wire.proofs.PrintedLists.{one_printed}
use Rattle.pt_commands.specs.Words.{Asked, Run, Replay, Stored, Make, Explain, Asks, AskNothing, AskNoFile}

-- numbers that are written alike are the same
same_number : (n m : ℕ) → n < 2 ^ 64 → m < 2 ^ 64 → decimal n ≡ decimal m → n ≡ m
same_number n m small fits same =
    let here = (decimal_is_IsNumeral n small).1 in
    let there = (decimal_is_IsNumeral m fits).1 in
    sym here ∙ ap (digits_value 10) same ∙ there

-- the same is asked for, but perhaps with other workers, or of another made suite
abbrev pub Alike : Asked → Asked → Type 0
Alike (Run file seed workers) (Run file' seed' workers') = (file ≡ file') × (seed ≡ seed')
Alike (Replay file item list) (Replay file' item' list') = (file ≡ file') × (item ≡ item') × (list ≡ list')
Alike Stored Stored = Unit {0}
Alike (Make seed count) (Make seed' count') = Unit {0}
Alike (Explain file item list) (Explain file' item' list') = (file ≡ file') × (item ≡ item') × (list ≡ list')
Alike one other = ⊥

-- two readings of the words ask for the same
pub asks_alike : (words : List (String Global)) (one other : Asked) → Asks words one → Asks words other → Alike one other
asks_alike words (Run file seed workers) (Run file' seed' workers') one other =
    let same = sym one.spelled ∙ other.spelled in
    let written : decimal seed ≡ decimal seed' = cc in
    (cc, same_number seed seed' one.seed_fits other.seed_fits written)
asks_alike words (Run file seed workers) (Replay file' item list) one other = absurd (let same = sym one.spelled ∙ other.spelled in cc)
asks_alike words (Run file seed workers) Stored one other = absurd (let same = sym one.spelled ∙ other in cc)
asks_alike words (Run file seed workers) (Make seed' count) one other = absurd (let same = sym one.spelled ∙ other.spelled in cc)
asks_alike words (Run file seed workers) (Explain file' item list) one other = absurd (let same = sym one.spelled ∙ other.spelled in cc)
asks_alike words (Replay file item list) (Run file' seed workers) one other = absurd (let same = sym one.spelled ∙ other.spelled in cc)
asks_alike words (Replay file item list) (Replay file' item' list') one other =
    let same = sym one.spelled ∙ other.spelled in
    let word : one.word ≡ other.word = cc in
    (cc, cc, one_printed list list' other.word (subst (λ (w : List ℕ). Printed list w) word one.printed) other.printed)
asks_alike words (Replay file item list) Stored one other = absurd (let same = sym one.spelled ∙ other in cc)
asks_alike words (Replay file item list) (Make seed count) one other = absurd (let same = sym one.spelled ∙ other.spelled in cc)
asks_alike words (Replay file item list) (Explain file' item' list') one other = absurd (let same = sym one.spelled ∙ other.spelled in cc)
asks_alike words Stored (Run file seed workers) one other = absurd (let same = sym one ∙ other.spelled in cc)
asks_alike words Stored (Replay file item list) one other = absurd (let same = sym one ∙ other.spelled in cc)
asks_alike words Stored Stored one other = tt
asks_alike words Stored (Make seed count) one other = absurd (let same = sym one ∙ other.spelled in cc)
asks_alike words Stored (Explain file item list) one other = absurd (let same = sym one ∙ other.spelled in cc)
asks_alike words (Make seed count) (Run file seed' workers) one other = absurd (let same = sym one.spelled ∙ other.spelled in cc)
asks_alike words (Make seed count) (Replay file item list) one other = absurd (let same = sym one.spelled ∙ other.spelled in cc)
asks_alike words (Make seed count) Stored one other = absurd (let same = sym one.spelled ∙ other in cc)
asks_alike words (Make seed count) (Make seed' count') one other = tt
asks_alike words (Make seed count) (Explain file item list) one other = absurd (let same = sym one.spelled ∙ other.spelled in cc)
asks_alike words (Explain file item list) (Run file' seed workers) one other = absurd (let same = sym one.spelled ∙ other.spelled in cc)
asks_alike words (Explain file item list) (Replay file' item' list') one other = absurd (let same = sym one.spelled ∙ other.spelled in cc)
asks_alike words (Explain file item list) Stored one other = absurd (let same = sym one.spelled ∙ other in cc)
asks_alike words (Explain file item list) (Make seed count) one other = absurd (let same = sym one.spelled ∙ other.spelled in cc)
asks_alike words (Explain file item list) (Explain file' item' list') one other =
    let same = sym one.spelled ∙ other.spelled in
    let word : one.word ≡ other.word = cc in
    (cc, cc, one_printed list list' other.word (subst (λ (w : List ℕ). Printed list w) word one.printed) other.printed)

-- what needs no file, and what needs no disk
pub nothing_no_file : (words : List (String Global)) → AskNothing words → AskNoFile words
nothing_no_file words nothing suite item seed workers list = (
  λ asks. nothing (Run suite seed workers) asks,
  λ asks. nothing (Replay suite item list) asks,
  λ asks. nothing (Explain suite item list) asks,
)

pub stored_no_file : (words : List (String Global)) → Asks words Stored → AskNoFile words
stored_no_file words asks suite item seed workers list = (
  λ other. asks_alike words Stored (Run suite seed workers) asks other,
  λ other. asks_alike words Stored (Replay suite item list) asks other,
  λ other. asks_alike words Stored (Explain suite item list) asks other,
)

pub make_no_file : (words : List (String Global)) (seed count : ℕ) → Asks words (Make seed count) → AskNoFile words
make_no_file words seed count asks suite item seed' workers list = (
  λ other. asks_alike words (Make seed count) (Run suite seed' workers) asks other,
  λ other. asks_alike words (Make seed count) (Replay suite item list) asks other,
  λ other. asks_alike words (Make seed count) (Explain suite item list) asks other,
)
