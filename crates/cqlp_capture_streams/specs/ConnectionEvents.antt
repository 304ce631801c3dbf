-- The events of the connections of a capture, wherever its bytes lie.
use Rattle.std.specs.Prelude.{ℕ, List, Option}
use Rattle.cqlp_tcp_connections.specs.declared.delivery.Delivery.{Delivery}
use Rattle.cqlp_tcp_connections.specs.declared.totals.ConnectionTotals.{ConnectionTotals}
use Rattle.cqlp_capture_streams.specs.declared.connection_event as declared
use Rattle.cqlp_capture_streams.specs.declared.connection_event.ConnectionEvent.TheVariants as event

-- A packet with a segment comes, that was captured at this time; a connection begins; one of its directions delivers something, with
-- these bytes; it has left.
pub data ConnectionEvent : Type 0 where
  Packet : (time : Option ℕ) → ConnectionEvent
  New : ℕ → ConnectionEvent
  Of : Delivery → List ℕ → ConnectionEvent
  Left : ConnectionTotals → ConnectionEvent

abbrev pub connection_event_of : declared.ConnectionEvent.ConnectionEvent → ConnectionEvent
connection_event_of (event.Packet time) = Packet time
connection_event_of (event.New n) = New n
connection_event_of (event.Of delivered bytes) = Of delivered bytes.now
connection_event_of (event.Left totals) = Left totals
