-- What becomes of a capture that is read, and of one whose streams are written.
use Rattle.std.specs.Prelude.{◌≡◌, ℕ, List, Option, Some, Result, Ok, Err, ◌⊎◌}
use Rattle.cqlp_text.specs.Outputs.{Output}
use Rattle.cqlp_capture.specs.declared.event.CaptureEnd.{CaptureEnd}
use Rattle.cqlp_capture.specs.declared.limits.CaptureLimits.{CaptureLimits}
use Rattle.cqlp_tcp_connections.specs.Tables.{new_table}
use Rattle.cqlp_packet_order.specs.Orders.{new_order}
use Rattle.cqlp_capture_streams.specs.declared.capturing.CaptureRead.{CaptureRead}
use Rattle.cqlp_capture_streams.specs.declared.limits.StreamsLimits.{StreamsLimits}
use Rattle.cqlp_capture_streams.specs.declared.fault.StreamsFault.{StreamsFault}
use Rattle.cqlp_capture_streams.specs.declared.fault.StreamsFault.TheVariants as fault
use Rattle.cqlp_capture_streams.specs.declared.recorder.Sums.{Sums}
use Rattle.cqlp_capture_streams.specs.Files.{Call}
use Rattle.cqlp_capture_streams.specs.ConnectionEvents.{ConnectionEvent}
use Rattle.cqlp_capture_streams.specs.Recordings.{StopsAt, no_sums, recording, with_connection_event}
use Rattle.cqlp_capture_streams.specs.Packets.{SplitState, busiest_elsewhere, new_split}
use Rattle.cqlp_capture_streams.specs.Captures.{ReadsMade, SplitsTo, no_reads}
use Rattle.cqlp_capture_streams.specs.Endings.{Concludes, sums_words}

-- the limits on a capture where none are given
abbrev pub default_limits : CaptureLimits
default_limits = record { packet = 1048576; interfaces = 256 }

-- how many reads are made at most: 2 to the power of 32
abbrev pub turns : ℕ
turns = 4294967296

-- no connections yet, for nodes that listen on these ports, and no packets
abbrev pub no_connections : StreamsLimits → (ports : List ℕ) → SplitState
no_connections limits ports = new_split (new_table limits.connections ports) (new_order limits.order)

abbrev pub read_of : Result CaptureEnd StreamsFault → SplitState → Result CaptureRead StreamsFault
read_of (Ok e) u =
    Ok (record { end = e; packets = u.counts; order = u.order.counts; connections = u.table.counts; busiest = busiest_elsewhere u.table })
read_of (Err f) u = Err f

-- What a listener has got of an input with the bytes xs, under these limits, by so many reads, and what that was; or memory was wanting, and nothing was read or reported. A listener's view goes on by `after`, and a fault leaves what `faulted` says.
abbrev pub ReadsCapture : {V : Type 0} → (after : V → ConnectionEvent → V) → (faulted : V → ConnectionEvent → StreamsFault → V → Type 0)
    → StreamsLimits → (ports : List ℕ) → (xs : List ℕ) → ReadsMade → Result CaptureRead StreamsFault → (left : Option (List ℕ))
    → (before v : V) → Type 0
ReadsCapture after faulted limits ports xs m r left before v =
    ((e : Result CaptureEnd StreamsFault) × (u : SplitState)
    × SplitsTo after faulted default_limits (no_connections limits ports) turns m before xs e left u v × (r ≡ read_of e u))
    ⊎ ((r ≡ Err fault.NoMemory) × (m ≡ no_reads) × (left ≡ Some xs) × (v ≡ before))

-- The streams of an input with the bytes xs were written, by so many reads: the calls that files got and what the output was given, and
-- then the line of how it ended, with its status.
abbrev pub WritesStreamsBy : ReadsMade → StreamsLimits → (ports : List ℕ) → (xs : List ℕ) → (left : Option (List ℕ)) → (calls : Option (List Call))
    → (out err : Output) → (status : ℕ) → (calls' : Option (List Call)) → (out' err' : Output) → Type 0
WritesStreamsBy m limits ports xs left calls out err status calls' out' err' =
    (r : Result CaptureRead StreamsFault) × (sums : Sums)
    × ReadsCapture with_connection_event StopsAt limits ports xs m r left (recording calls out no_sums) (recording calls' out' sums)
    × Concludes ports (sums_words sums) r err status err'

-- by some reads
abbrev pub WritesStreams : StreamsLimits → (ports : List ℕ) → (xs : List ℕ) → (left : Option (List ℕ)) → (calls : Option (List Call)) → (out err : Output)
    → (status : ℕ) → (calls' : Option (List Call)) → (out' err' : Output) → Type 0
WritesStreams limits ports xs left calls out err status calls' out' err' =
    (m : ReadsMade) × WritesStreamsBy m limits ports xs left calls out err status calls' out' err'
