-- Three of the images: what a crash leaves that keeps least, that keeps all, and that tears what was not synced.
use Rattle.std.specs.Prelude.{ℕ, ◌/◌, ◌&&◌, if◌then◌else◌, List, length, take, Option, Some, None}
use Rattle.pt_disk.specs.Files.{Files, is_name}
use Rattle.pt_disk.specs.Folder.{Folder, Stable, After, reads, settled, is_unsynced}
use Rattle.pt_disk.specs.declared.change.Change.TheVariants.{Put, Sync, Rename, Remove, Settle}
use Rattle.pt_disk.specs.declared.image.Keep.{Keep}
use Rattle.pt_disk.specs.declared.image.Keep.TheVariants.{Least, Most, Torn}

-- the first half of the bytes, rounded down
abbrev pub first_half : List ℕ → List ℕ
first_half bytes = take (length bytes / 2) bytes

-- what is left of a put that was not synced: the file from before it, the whole, or the first half
abbrev pub left_of : Keep → Option (List ℕ) → Option (List ℕ) → Option (List ℕ)
left_of keep old None = old
left_of Least old (Some bytes) = old
left_of Most old (Some bytes) = Some bytes
left_of Torn old (Some bytes) = Some (first_half bytes)

-- the files without any change that is not stable, but for what is left of puts that were not synced
abbrev pub without_unstable : Keep → Folder → Files
without_unstable keep (Stable files) name = files name
without_unstable keep (After (Put put bytes) before) name = if is_name name put then left_of keep (without_unstable keep before name) (Some bytes) else without_unstable keep before name
without_unstable keep (After (Sync synced) before) name = if is_name name synced && is_unsynced before name then settled before name else without_unstable keep before name
without_unstable keep (After (Rename from to) before) name = without_unstable keep before name
without_unstable keep (After (Remove removed) before) name = without_unstable keep before name
without_unstable keep (After Settle before) name = if is_unsynced before name then left_of keep (without_unstable keep before name) (reads before name) else reads before name

-- the files that are kept
abbrev pub kept : Keep → Folder → Files
kept Least folder = without_unstable Least folder
kept Most folder = reads folder
kept Torn folder = without_unstable Torn folder
