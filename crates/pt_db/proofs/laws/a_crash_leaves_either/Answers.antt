use Rattle.std.specs.Prelude.{Some, None}
use Rattle.pt_stored.specs.Digest.{file_name}
use Rattle.pt_stored.specs.Stored.{StoredWith, StoredWithout}
use Rattle.pt_db.proofs.Saving.{either-since}
use Rattle.pt_db.proofs.laws.a_crash_leaves_either.Goals as goal

pub returns-clause-saved : goal.returns-clause-saved
returns-clause-saved c = λ digest bytes. either-since (StoredWith digest bytes) (file_name digest bytes) (Some bytes)

pub returns-clause-deleted : goal.returns-clause-deleted
returns-clause-deleted c = λ digest bytes. either-since (StoredWithout digest bytes) (file_name digest bytes) None
