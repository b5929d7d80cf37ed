use Rattle.std.proofs.Common.{◌≡◌, drop}
use Rattle.pt_io.specs.FilesInMemory.{content_of}
use Rattle.pt_io.proofs.memory_files.place_of.Given as goal

-- none of the files so far has the name
abbrev pub invariant-loop-place : goal.invariant-loop-place
invariant-loop-place l = content_of l.files l.name ≡ content_of (drop l.place l.files) l.name
