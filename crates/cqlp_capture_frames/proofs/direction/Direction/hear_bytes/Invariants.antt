use Rattle.cqlp_capture_frames.specs.Directions.{IsSame, all_reported, bytes_reported}
use Rattle.cqlp_capture_frames.proofs.Directions.{Goes}
use Rattle.cqlp_capture_frames.proofs.direction.Direction.hear_bytes.Given as goal

abbrev pub invariant-loop-unread : goal.invariant-loop-unread
invariant-loop-unread g l =
    let t = g.T.Transcript in
    (Goes (bytes_reported t.manner l.has_room l.at l.begins l.bytes (t.state l.fn.transcript) l.fn.self)
    (all_reported t.manner l.has_room l.unread.steps l.end l.unread.begins l.unread.bytes.now (t.state l.transcript) l.self) l.fn.writer l.writer) × IsSame l.fn.self l.self

abbrev pub decreases-loop-unread : goal.decreases-loop-unread
decreases-loop-unread g l = l.unread.steps
