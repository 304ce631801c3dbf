use Rattle.std.proofs.Common.{◌≡◌, ◌+◌, ◌-◌, length}
use Rattle.std.specs.Prelude.{None}
use Rattle.cqlp_capture.specs.Places.{due}
use Rattle.cqlp_capture.specs.Progress.{Moves}
use Rattle.cqlp_capture.proofs.reader.CaptureReader.go_ahead.Given as goal

abbrev pub invariant-steps : goal.invariant-steps
invariant-steps g l = record {
  moves : Moves l.fn.self.limits l.fn.self.spot l.fn.self.pending l.input l.from l.self.spot l.self.pending;
  limits : l.self.limits ≡ l.fn.self.limits;
  unrefused : l.self.refusal ≡ None;
}

abbrev pub decreases-steps : goal.decreases-steps
decreases-steps g l = due l.self.spot.place.stage + length l.self.pending + (length l.input - l.from)
