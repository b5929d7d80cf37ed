use Rattle.std.proofs.Common.{◌⊎◌, ◌≤◌, List, length, inl, inr}
use Rattle.pt_choice.specs.declared.choice.Choice.{Choice}
use Rattle.pt_wire.specs.Stored.{Stored, StoredOne}
use Rattle.pt_wire.proofs.StoredLists.{one_version}
use Rattle.pt_wire.proofs.unpacking.unpack.Goals as goal

pub returns-in-Some-clause-found : goal.returns-in-Some-clause-found
returns-in-Some-clause-found c =
    let found = rw c.in-Some.is at c.in_ok-list.ensures.some in
    let read = rw found at c.decode.ensures.reads in
    ((inl read.0, read.1), ((λ same. absurd cc), (λ old. absurd (one_version c.in-Some.list old.0 c.args.bytes.now read.0 old.1))))

pub returns-in-None-clause-found : goal.returns-in-None-clause-found
returns-in-None-clause-found c = λ list unpacks. none list unpacks.0 unpacks.1 where
  none : (list : List Choice) → Stored list c.args.bytes.now ⊎ StoredOne list c.args.bytes.now → length list ≤ 256 → ⊥
  none list (inl new) few = let some = rw c.in_default.is at (c.in_ok-list.ensures.none list (c.decode.ensures.only list new) few) in cc
  none list (inr old) few = let some = rw c.in-None.is at (c.in_ok-list-2.ensures.none list (c.decode_one.ensures.only list old) few) in cc
