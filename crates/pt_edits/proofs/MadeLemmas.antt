-- How edits that were made follow one another.
use Rattle.std.proofs.Common.{◌⊎◌, inl, inr, Bool, true, false, List, [], ◌++◌, Option, refl, sym, ap, subst}
use Rattle.pt_disk.specs.Files.{SameBut}
use Rattle.pt_disk.specs.Folder.{Folder, reads, IsImage}
use Rattle.pt_disk.specs.Moments.{Told, now, Elapsed, BothTell}
use Rattle.pt_disk.specs.Calls.{Rests}
use Rattle.pt_disk.specs.Leaves.{Leaves, IsAtRest, IsTidy}
use Rattle.pt_disk.proofs.Folders.{leaves-weaker}
use Rattle.pt_disk.proofs.Times.{elapsed-then, elapsed-weaker}
use Rattle.pt_stored.specs.Stored.{pending}
use Rattle.pt_db.specs.Attaching.{Attached}
use Rattle.pt_db.proofs.Telling.{both-then, both-weaker, IsAsAt, rested}
use Rattle.pt_edits.specs.Pairs.{PairEdit, IsAfterSome}
use Rattle.pt_edits.specs.Made.{Made, Settled}
use Rattle.pt_edits.proofs.SetLemmas.{is-after-none, is-after-then, is-after-from, some-of-first, some-of-more, some-from}

-- what a crash leaves since this folder, where it is edited
abbrev pub LeavesSome : List PairEdit → Folder → Folder → Type 0
LeavesSome edits start = Leaves pending (IsAfterSome edits (reads start))

-- of a folder at rest a crash leaves the files of its start
pub rest-some : (edits : List PairEdit) (folder : Folder) → IsAtRest pending folder → LeavesSome edits folder folder
rest-some edits folder =
    leaves-weaker pending (SameBut pending (reads folder)) (IsAfterSome edits (reads folder)) folder
    (λ image but. ([], edits, refl, is-after-none (reads folder) image but))

-- where the folder rests, no edit was made
pub made-none : (ok : Bool) (old new : Told) → Elapsed (IsAsAt old) old new → Made [] ok old new
made-none ok old new elapsed =
    let same = rested old new elapsed in
    record {
      edited = λ went. is-after-none (reads (now old)) (reads (now new)) (λ name other. ap (λ (f : Folder). reads f name) same);
      rests = λ rests went. subst (IsAtRest pending) (sym same) rests;
      any_moment = λ rests. elapsed-weaker (IsAsAt old) (LeavesSome [] (now old)) old new
          (λ folder is. subst (LeavesSome [] (now old)) (sym is) (rest-some [] (now old) rests))
          elapsed;
    }

-- all of them are also some first ones
pub made-some : (edits : List PairEdit) (old new : Told) → Made edits true old new → Made edits false old new
made-some edits old new made = record {
  edited = λ went. absurd (cc went);
  rests = λ rests went. absurd (cc went);
  any_moment = made.any_moment;
}

-- some first ones of the edits, also where there are more
pub made-first : (one more : List PairEdit) (old new : Told) → Made one false old new → Made (one ++ more) false old new
made-first one more old new made = record {
  edited = λ went. absurd (cc went);
  rests = λ rests went. absurd (cc went);
  any_moment = λ rests. elapsed-weaker (LeavesSome one (now old)) (LeavesSome (one ++ more) (now old)) old new
      (λ folder. leaves-weaker pending (IsAfterSome one (reads (now old))) (IsAfterSome (one ++ more) (reads (now old))) folder
      (some-of-first one more (reads (now old))))
      (made.any_moment rests);
}

-- some edits were made, and then more
pub made-then : (one more : List PairEdit) (ok : Bool) (old mid new : Told) → Made one true old mid → Made more ok mid new → Made (one ++ more) ok old new
made-then one more ok old mid new first second =
    let start = reads (now old) in
    let half = reads (now mid) in
    record {
      edited = λ went. is-after-then one more start half (reads (now new)) (first.edited refl) (second.edited went);
      rests = λ rests went. second.rests (first.rests rests refl) went;
      any_moment = λ rests. elapsed-then (LeavesSome (one ++ more) (now old)) old mid new
          (elapsed-weaker (LeavesSome one (now old)) (LeavesSome (one ++ more) (now old)) old mid
          (λ folder. leaves-weaker pending (IsAfterSome one start) (IsAfterSome (one ++ more) start) folder (some-of-first one more start))
          (first.any_moment rests))
          (elapsed-weaker (LeavesSome more (now mid)) (LeavesSome (one ++ more) (now old)) mid new
          (λ folder. leaves-weaker pending (IsAfterSome more half) (IsAfterSome (one ++ more) start) folder
          (λ image. some-of-more one more start half image (first.edited refl)))
          (second.any_moment (first.rests rests refl)));
    }

-- ---- after an attach

-- the files that are read are as before
pub after-settle : (old new : Told) → Attached true old new → SameBut pending (reads (now old)) (reads (now new))
after-settle old new attached = λ name other. attached.same refl name

abbrev pub LeavesOrSome : List PairEdit → Folder → Folder → Type 0
LeavesOrSome edits start = Leaves pending (λ image. IsImage start image ⊎ IsAfterSome edits (reads start) image)

settling : (edits : List PairEdit) (ok : Bool) (old new : Told) → Attached ok old new → IsTidy pending (now old) → Elapsed (LeavesOrSome edits (now old)) old new
settling edits ok old new attached tidy = record {
  later = attached.moments.later;
  kept = attached.moments.kept;
  since = λ t after within. record {
    images = λ image left. inl (attached.moments.since t after within image left);
    tidy = (attached.tidy tidy).since t after within;
  };
}

pub settled-of : (edits : List PairEdit) (ok : Bool) (old mid new : Told) → Attached true old mid → Made edits ok mid new → Settled edits ok old new
settled-of edits ok old mid new attached made =
    let start = reads (now old) in
    let half = reads (now mid) in
    let same = after-settle old mid attached in
    record {
      edited = λ went. is-after-from edits start half (reads (now new)) same (made.edited went);
      rests = λ tidy went. made.rests (attached.rests tidy refl) went;
      any_moment = λ tidy. elapsed-then (LeavesOrSome edits (now old)) old mid new
          (settling edits true old mid attached tidy)
          (elapsed-weaker (LeavesSome edits (now mid)) (LeavesOrSome edits (now old)) mid new
          (λ folder. leaves-weaker pending (IsAfterSome edits half) (λ image. IsImage (now old) image ⊎ IsAfterSome edits start image) folder
          (λ image some. inr (some-from edits start half image same some)))
          (made.any_moment (attached.rests tidy refl)));
    }

-- where the folder was not settled, no edit was made
pub settled-not : (edits : List PairEdit) (old new : Told) → Attached false old new → Settled edits false old new
settled-not edits old new attached = record {
  edited = λ went. absurd (cc went);
  rests = λ tidy went. absurd (cc went);
  any_moment = λ tidy. settling edits false old new attached tidy;
}

-- ---- the same of what two disks tell

pub both-made-none : (ok : Bool) (old new : Option Told) → Rests old new → BothTell (Made [] ok) old new
both-made-none ok old new = both-weaker (λ old new. Elapsed (IsAsAt old) old new) (Made [] ok) old new (made-none ok)

pub both-made-some : (edits : List PairEdit) (old new : Option Told) → BothTell (Made edits true) old new → BothTell (Made edits false) old new
both-made-some edits old new = both-weaker (Made edits true) (Made edits false) old new (made-some edits)

pub both-made-first : (one more : List PairEdit) (old new : Option Told) → BothTell (Made one false) old new → BothTell (Made (one ++ more) false) old new
both-made-first one more old new = both-weaker (Made one false) (Made (one ++ more) false) old new (made-first one more)

pub both-made-then : (one more : List PairEdit) (ok : Bool) (old mid new : Option Told) →
    BothTell (Made one true) old mid → BothTell (Made more ok) mid new → BothTell (Made (one ++ more) ok) old new
both-made-then one more ok old mid new = both-then (Made one true) (Made more ok) (Made (one ++ more) ok) old mid new (made-then one more ok)

pub both-settled-of : (edits : List PairEdit) (ok : Bool) (old mid new : Option Told) →
    BothTell (Attached true) old mid → BothTell (Made edits ok) mid new → BothTell (Settled edits ok) old new
both-settled-of edits ok old mid new = both-then (Attached true) (Made edits ok) (Settled edits ok) old mid new (settled-of edits ok)

pub both-settled-not : (edits : List PairEdit) (old new : Option Told) → BothTell (Attached false) old new → BothTell (Settled edits false) old new
both-settled-not edits old new = both-weaker (Attached false) (Settled edits false) old new (settled-not edits)
