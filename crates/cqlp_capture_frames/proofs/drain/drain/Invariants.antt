use Rattle.std.proofs.Common.{◌≡◌, ◌+◌, ◌-◌, ◌*◌, ◌≤◌, List, ℕ, length}
use Rattle.cqlp_decode.specs.Progress.{ends_due}
use Rattle.cqlp_decode.specs.Streams.{state}
use Rattle.cqlp_capture_frames.specs.Frames.{nodes_of}
use Rattle.cqlp_capture_frames.specs.Reading.{IsReading}
use Rattle.cqlp_capture_frames.proofs.Reading.{Drained}
use Rattle.cqlp_capture_frames.proofs.drain.drain.Given as goal

abbrev pub invariant-events : goal.invariant-events
invariant-events g l =
    let first = state l.fn.decoder in
    record {
      within : l.used ≤ length l.input;
      rules : (state l.decoder).rules ≡ first.rules;
      held : (state l.decoder).given ≡ first.given;
      drained : (bytes : List ℕ) → IsReading first bytes → Drained g.T.Transcript.manner first.rules (nodes_of first.given) l.at bytes l.input (g.T.Transcript.state l.fn.transcript) (state l.decoder) (g.T.Transcript.state l.transcript) l.used l.fn.writer l.writer;
    }

-- an event takes some byte, or is the end of the frame or of a value that is open
abbrev pub decreases-events : goal.decreases-events
decreases-events g l = ends_due (state l.decoder).place.symbols + (state l.decoder).open_values + 2 * (length l.input - l.used)
