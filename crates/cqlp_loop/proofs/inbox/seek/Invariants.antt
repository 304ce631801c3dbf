use Rattle.std.proofs.Common.{◌+◌, ◌-◌, ◌*◌, ◌≤◌, List, length, take}
use Rattle.cqlp_note.specs.declared.header.Header.{Header}
use Rattle.cqlp_decode.specs.Progress.{ends_due}
use Rattle.cqlp_decode.specs.Streams.{state}
use Rattle.cqlp_loop.specs.Inboxes.{Emits, awaiting}
use Rattle.cqlp_loop.proofs.inbox.seek.Given as goal

-- the events of what is used were not waited for
abbrev pub invariant-events : goal.invariant-events
invariant-events l = record {
  within : l.used ≤ length l.piece;
  emits : (hs : List Header) → Emits (state l.fn.decoder) (take l.used l.piece) (state l.decoder) (awaiting l.edge hs) (awaiting l.edge hs);
}

-- an event takes some byte, or is the end of the frame or of a value that is open
abbrev pub decreases-events : goal.decreases-events
decreases-events l = ends_due (state l.decoder).place.symbols + (state l.decoder).open_values + 2 * (length l.piece - l.used)
