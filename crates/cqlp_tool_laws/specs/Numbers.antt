-- The numbers that are promised of captures.
use Rattle.std.specs.Prelude.{◌≡◌, true, ℕ, List, Option, Result, Err, ◌⊎◌}
use Rattle.cqlp_capture.specs.declared.event.CaptureEnd.{CaptureEnd}
use Rattle.cqlp_capture_streams.specs.declared.capturing.CaptureRead.{CaptureRead}
use Rattle.cqlp_capture_streams.specs.declared.fault.StreamsFault.{StreamsFault}
use Rattle.cqlp_capture_streams.specs.declared.fault.StreamsFault.TheVariants as fault
use Rattle.cqlp_capture_streams.specs.declared.limits.StreamsLimits.{StreamsLimits}
use Rattle.cqlp_capture_streams.specs.Captures.{ReadsMade, SplitsTo}
use Rattle.cqlp_capture_streams.specs.Packets.{SplitState}
use Rattle.cqlp_capture_streams.specs.Recordings.{Recording, StopsAt, with_connection_event}
use Rattle.cqlp_capture_streams.specs.Streams.{ReadsCapture, default_limits, no_connections, read_of}
use Rattle.cqlp_capture_events.specs.declared.limits.TheConstants as events
use Rattle.cqlp_capture_rows.specs.declared.limits.TheConstants as rows

-- A reading of a capture makes at most 2^32 reads, and ends with too many turns after no fewer, or where there is no end to what is reported; or there was
-- no memory for it.
abbrev pub TurnsOfCaptures : Type 0
TurnsOfCaptures =
    (limits : StreamsLimits) (ports xs : List ℕ) (m : ReadsMade) (r : Result CaptureRead StreamsFault) (left : Option (List ℕ))
    (before v : Recording)
    → ReadsCapture with_connection_event StopsAt limits ports xs m r left before v
    → ((e : Result CaptureEnd StreamsFault) × (u : SplitState)
    × SplitsTo with_connection_event StopsAt default_limits (no_connections limits ports) 4294967296 m before xs e left u v × (r ≡ read_of e u))
    ⊎ (r ≡ Err fault.NoMemory)

-- Where the lines of its frames are written, so many frames are read at one time, each within these limits.
abbrev pub NumbersOfEvents : Type 0
NumbersOfEvents =
    (events.OPEN_FRAMES ≡ 128)
    × (events.LIMITS ≡ record { text = 65536; cell = 65536; entries = 1024; depth = 16; types = true; parts = true })

-- Where its pages are written, so many statements are known, so many EXECUTEs wait, and each frame is read within these limits.
abbrev pub NumbersOfRows : Type 0
NumbersOfRows =
    (rows.STATEMENTS ≡ 256) × (rows.EXECUTES ≡ 1024)
    × (rows.LIMITS ≡ record { text = 1048576; cell = 1048576; entries = 4096; depth = 16; types = true; parts = true })
