use Rattle.std.proofs.Common.{◌≡◌, drop}
use Rattle.pt_disk.specs.DiskInMemory.{content_of}
use Rattle.pt_disk.proofs.history.content_of.Given as goal

-- none of the files so far has the name
abbrev pub invariant-loop-file : goal.invariant-loop-file
invariant-loop-file l = content_of l.files l.name ≡ content_of (drop l.file-index l.files) l.name
