use Rattle.std.proofs.Common.{◌≡◌, ◌-◌, ◌≤◌, ℕ, List, ◌++◌, Some, IfSome, vec_len}
use Rattle.pt_choice.specs.Faults.{next_count}
use Rattle.pt_io.specs.Files.{IsSame}
use Rattle.pt_io.proofs.reading.read_whole.Given as goal

-- the file was chosen, no call failed, and what was read and what is left are the whole file
abbrev pub invariant-loop-n : goal.invariant-loop-n
invariant-loop-n g l =
    let shows = g.F.Files.shows in
    record {
      small : vec_len l.bytes ≤ 1048576;
      same : IsSame (shows l.fn.files) (shows l.files);
      once : (shows l.files).chosen ≡ next_count (shows l.fn.files).chosen;
      quiet : (shows l.files).faults ≡ (shows l.fn.files).faults;
      whole : IfSome (shows l.fn.files).named (λ content.
          (left : List ℕ) × ((shows l.files).left ≡ Some left) × (content l.fn.name ≡ Some (l.bytes.items ++ left)));
    }

abbrev pub decreases-loop-n : goal.decreases-loop-n
decreases-loop-n g l = 1048576 - vec_len l.bytes
