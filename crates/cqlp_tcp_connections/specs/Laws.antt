-- Laws: two answers of one call are the same, and no connection changes the streams of another.
use Rattle.std.specs.Prelude.{◌≡◌, ℕ, ◌≤◌, ◌⊎◌, List, ◌∷◌, length, map, drop, Option}
use Rattle.cqlp_tcp_segment.specs.declared.segments.SegmentHead.{SegmentHead}
use Rattle.cqlp_tcp_segment.specs.Segment.{Seen}
use Rattle.cqlp_tcp_reassembly.specs.Streams.{StreamState, unseen}
use Rattle.cqlp_tcp_connections.specs.declared.ends.TheConstants.{DEFAULT_PORT}
use Rattle.cqlp_tcp_connections.specs.declared.ends.Way.{Way}
use Rattle.cqlp_tcp_connections.specs.declared.limits.TheConstants.ConnectionLimits.{DEFAULT}
use Rattle.cqlp_tcp_connections.specs.declared.limits.ConnectionLimits.{ConnectionLimits}
use Rattle.cqlp_tcp_connections.specs.declared.delivery.Departure.{Departure}
use Rattle.cqlp_tcp_connections.specs.declared.delivery.Admission.{Admission}
use Rattle.cqlp_tcp_connections.specs.declared.delivery.Delivery.{Delivery}
use Rattle.cqlp_tcp_connections.specs.Sides as sides
use Rattle.cqlp_tcp_connections.specs.Known as one
use Rattle.cqlp_tcp_connections.specs.Known.{Flows, Known, side_of}
use Rattle.cqlp_tcp_connections.specs.Tables.{Table, departing, left, new_table, passed, pulled, pulling, taken, taking, to_front}

-- ---- one answer

-- where memory is granted, one table
abbrev pub OneAnswerOfNew : Type 0
OneAnswerOfNew =
    (limits : ConnectionLimits) (ports : List ℕ) (t u : Table)
    → t ≡ new_table limits ports → u ≡ new_table limits ports → u ≡ t

-- ---- connections are apart

pub record Pair : Type 0 where
  pub requests : StreamState
  pub responses : StreamState

abbrev pub pair_of : Known → Pair
pair_of k = record { requests = k.flows.requests.stream; responses = k.flows.responses.stream }

abbrev pub pairs : List Known → List Pair
pairs ks = map pair_of ks

-- `take` leaves the streams in their order, or brings those of one connection to the front, or puts two before them of which nothing
-- was seen.
pub data Keeps (old new : Table) : Type 0 where
  same : pairs new.known ≡ pairs old.known → Keeps old new
  front : (at : ℕ) → pairs new.known ≡ pairs (to_front at old.known) → Keeps old new
  begun : pairs new.known ≡ record { requests = unseen; responses = unseen } ∷ pairs old.known → Keeps old new

abbrev pub ChangesNoStream : Type 0
ChangesNoStream = (h : SegmentHead) (s : Admission) (old new : Table) → taking s new ≡ taken old h → Keeps old new

-- The calls that deliver leave all connections but the first as they are.
abbrev pub OthersStay : (old new : Table) → Type 0
OthersStay old new = (drop 1 new.known ≡ drop 1 old.known) × (length old.known ≤ length new.known)

abbrev pub LeavesTheOthers : Type 0
LeavesTheOthers =
    ((g : Seen) (time : Option ℕ) (delivered : Option Delivery) (old new : Table) → pulling delivered new ≡ pulled g time old → OthersStay old new)
    × ((way : Way) (old new : Table) → new ≡ passed way old → OthersStay old new)
    × ((d : Departure) (old new : Table)
    → departing d new ≡ left old → OthersStay old new ⊎ (new.known ≡ drop 1 old.known))

-- ---- room for all

-- Of what comes early a direction holds no more than before, or than the room that `pull` gives it: its own limit, or what is left for all.
abbrev pub SharesRoom : Type 0
SharesRoom =
    (way of : Way) (g : Seen) (time : Option ℕ) (room : ℕ) (f : Flows) (most : ℕ)
    → room ≤ most → sides.size_of (side_of of f) ≤ most → sides.size_of (side_of of (one.pulled way g time room f).after) ≤ most

-- ---- numbers

-- the port of a node, and the limits where none are given: 65,536 connections, and of what comes early 24 MiB in all and 1 MiB for
-- each direction
pub record PromisedNumbers : Type 0 where
  pub port : DEFAULT_PORT ≡ 9042
  pub limits : DEFAULT ≡ record { connections = 65536; early = 25165824; early_each = 1048576 }
