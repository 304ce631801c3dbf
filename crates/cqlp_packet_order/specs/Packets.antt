-- Captured packets, wherever their bytes lie.
use Rattle.std.specs.Prelude.{ℕ, List, Option}
use Rattle.cqlp_packet_order.specs.declared.packet.KeptPacket.{KeptPacket}
use Rattle.cqlp_packet_order.specs.declared.packet as declared

-- the number of its link type, when it was captured, how many bytes it had on the wire, and those that were captured
pub record Packet : Type 0 where
  pub link : ℕ
  pub time : Option ℕ
  pub original : ℕ
  pub bytes : List ℕ

abbrev pub packet : (link : ℕ) → (time : Option ℕ) → (original : ℕ) → (bytes : List ℕ) → Packet
packet link time original bytes = record { link = link; time = time; original = original; bytes = bytes }

-- one that is lent
abbrev pub packet_of : declared.Packet.Packet → Packet
packet_of p = packet p.link p.time p.original p.bytes.now

-- one in memory of its own
abbrev pub packet_in : {A : Type 0} → KeptPacket A → Packet
packet_in p = packet p.link p.time p.original p.bytes.items
