-- What the first part of a file tells of it.
use Rattle.std.proofs.Common.{◌≡◌, ◌≢◌, ⊎_elim, ℕ, ◌<◌, ◌≤◌, List, length, take, Option, Some, None, sym, ◌∙◌, ap, arith}
use Rattle.std.proofs.lemmas.List.{take_all, length-take-le}
use Rattle.std.proofs.lemmas.Bool.{cases_lt}
use Rattle.std.specs.Option.{option_map}
use Rattle.pt_disk.specs.Folder.{reads}
use Rattle.pt_disk.specs.Moments.{Told, now}
use Rattle.pt_disk.specs.Calls.{IsFirstPart}
use Rattle.pt_stored.specs.Digest.{digest_text}
use Rattle.pt_stored.specs.Digest.{AreAlike}
use Rattle.pt_stored.specs.Stored.{IsClash}
use Rattle.pt_db.specs.Reading.{Holds, IsFree}
use Rattle.std.specs.Prelude.{IfSome}

-- a part that is shorter than what was asked for is the whole file
pub whole : (read : Option (List ℕ)) (part : List ℕ) → Some part ≡ option_map (λ bytes. take 65537 bytes) read → length part ≤ 65536 → read ≡ Some part
whole None part is short = absurd (cc is)
whole (Some bytes) part is short =
    let first : part ≡ take 65537 bytes = cc is in
    ⊎_elim
    (λ long.
    let size = length-take-le 65537 bytes (omega (arith, long)) in
    absurd (omega (arith, size, ap length first, short)))
    (λ fits. ap (λ (b : List ℕ). Some b) (sym (first ∙ take_all 65537 bytes (omega (arith, fits)))))
    (cases_lt 65537 (length bytes))

-- and a short file is its own first part
pub part-is : (read : Option (List ℕ)) (part b : List ℕ) → Some part ≡ option_map (λ bytes. take 65537 bytes) read → read ≡ Some b → length b ≤ 65536 → part ≡ b
part-is None part b is has short = absurd (cc has)
part-is (Some bytes) part b is has short =
    let same : bytes ≡ b = cc has in
    let first : part ≡ take 65537 bytes = cc is in
    first ∙ ap (λ (l : List ℕ). take 65537 l) same ∙ take_all 65537 b (omega (arith, short))

pub held : (told : Option Told) (name part : List ℕ) → IsFirstPart told name 65537 (Some part) → length part ≤ 65536 → Holds told name part
held None name part is short = tt
held (Some told) name part is short = whole (reads (now told) name) part is short

pub free-absent : (told : Option Told) (name value : List ℕ) → IsFirstPart told name 65537 None → IsFree told name value
free-absent None name value is = tt
free-absent (Some told) name value is = λ b short has alike. no_part (reads (now told) name) b is has
  where
    no_part : (read : Option (List ℕ)) (b : List ℕ) → None ≡ option_map (λ bytes. take 65537 bytes) read → read ≡ Some b → ⊥
    no_part None b is has = cc has
    no_part (Some bytes) b is has = cc is

pub free-long : (told : Option Told) (name part value : List ℕ) → IsFirstPart told name 65537 (Some part) → 65536 < length part → IsFree told name value
free-long None name part value is long = tt
free-long (Some told) name part value is long = λ b short has alike.
    let same = part-is (reads (now told) name) part b is has short in
    omega (arith, ap length same, short, long)

pub free-different : (told : Option Told) (name part value : List ℕ) → IsFirstPart told name 65537 (Some part) → digest_text part ≢ digest_text value → IsFree told name value
free-different None name part value is other = tt
free-different (Some told) name part value is other = λ b short has alike.
    let same = part-is (reads (now told) name) part b is has short in
    other (ap digest_text same ∙ alike)

-- a clash, where the disk tells
pub clash-there : (told : Option Told) (name value kept : List ℕ) → Holds told name kept → length kept ≤ 65536 → AreAlike kept value → IfSome told (λ told. IsClash (reads (now told)) name value kept)
clash-there None name value kept held short alike = tt
clash-there (Some told) name value kept held short alike = record { short = short; there = held; alike = alike }
