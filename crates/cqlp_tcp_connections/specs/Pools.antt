-- The pool: the connections that are there, within the caller's limits.
use Rattle.std.specs.Prelude.{ℕ, List, [], ◌∷◌, map, Option, Some, None}
use Rattle.cqlp_tcp_segment.specs.declared.segments.SegmentHead.{SegmentHead}
use Rattle.cqlp_tcp_segment.specs.Segment.{Seen}
use Rattle.cqlp_tcp_connections.specs.declared.delivery.Admission.{Admission}
use Rattle.cqlp_tcp_connections.specs.declared.delivery.Admission.TheVariants.{Foreign}
use Rattle.cqlp_tcp_connections.specs.declared.ends.Ends.{Ends}
use Rattle.cqlp_tcp_connections.specs.declared.limits.ConnectionLimits.{ConnectionLimits}
use Rattle.cqlp_tcp_connections.specs.declared.ends.Way.{Way}
use Rattle.cqlp_tcp_connections.specs.Known.{Flows, Known, known, met, pulled}
use Rattle.cqlp_tcp_connections.specs.Tables.{FirstDelivering, first_delivers, found_in, room_in, to_front}

pub record PoolState : Type 0 where
  pub limits : ConnectionLimits
  pub known : List Known

abbrev pub pool : ConnectionLimits → List Known → PoolState
pool limits ks = record { limits = limits; known = ks }

abbrev pub with_known : List Known → PoolState → PoolState
with_known ks p = pool p.limits ks

-- the connections as the entries of a cache
abbrev pub known_of : List (Ends × Flows) → List Known
known_of es = map (λ e. known e.0 e.1) es

-- ---- what a segment that goes this way is to a connection, if it is there, and the connections after it

pub record Seeing : Type 0 where
  pub admission : Option Admission
  pub after : List Known

abbrev pub seeing : Option Admission → List Known → Seeing
seeing a ks = record { admission = a; after = ks }

abbrev pub seen_by_first : Way → SegmentHead → List Known → Seeing
seen_by_first way h [] = seeing (Some Foreign) []
seen_by_first way h (k ∷ ks) = let m = met way h k.flows in seeing (Some m.admission) (known k.ends m.after ∷ ks)

abbrev pub seen_at : Option ℕ → Way → SegmentHead → List Known → Seeing
seen_at None way h ks = seeing None ks
seen_at (Some at) way h ks = seen_by_first way h (to_front at ks)

-- the one between these ends, which is brought to the front
abbrev pub seen_between : Ends → Way → SegmentHead → List Known → Seeing
seen_between e way h ks = seen_at (found_in e ks) way h ks

-- the ends of the first, and all else of it
abbrev pub first_of : List Known → Option (Ends × Flows)
first_of [] = None
first_of (k ∷ ks) = Some (k.ends, k.flows)

-- what a segment that goes this way of the first reports, with the room that there is, and the connections after it
abbrev pub pulled_first : Way → Seen → (time : Option ℕ) → PoolState → FirstDelivering
pulled_first way g time p = first_delivers (pulled way g time (room_in p.limits p.known)) p.known
