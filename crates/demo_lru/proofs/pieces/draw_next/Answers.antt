use Rattle.std.proofs.Common.{◌++◌}
use Rattle.pt_val.specs.declared.val.Val.{Val}
use Rattle.pt_plan.specs.Plan.{Plan, Notes, and_then}
use Rattle.pt_plan.proofs.DrewLemmas.{Leads, leads-new, leads-call, leads-noted, drew-rest}
use Rattle.pt_typed.specs.Plans.{blobs_plan}
use Rattle.pt_typed.specs.Reading.{bytes_of}
use Rattle.demo_lru.specs.Pieces.{piece_note, whole_plan, append_plan}
use Rattle.demo_lru.proofs.pieces.draw_next.Goals as goal

pub returns : goal.returns
returns c =
    let next : Val → Plan Val = λ piece. Notes (piece_note piece) (whole_plan (bytes_of c.args.state.now ++ bytes_of piece)) in
    let started : Leads (append_plan c.args.state.now) c.args.case.now (and_then (blobs_plan c.of.result.min c.of.result.max) next) c.args.case.now =
    rw (c.of.ensures.min, c.of.ensures.max) (leads-new (append_plan c.args.state.now) c.args.case.now) in
    let drawn = leads-call c.in_ok-piece.ensures.drew next started in
    let noted = leads-noted (rw c.in_ok-piece_word.ensures at c.in_ok-note.ensures.drew) drawn in
    record { drew = drew-rest (rw (c.in_ok-whole.ensures, c.bytes_of.ensures, c.as_slice.ensures) at (c.read_whole.ensures.drew c.note.new.case)) noted }
