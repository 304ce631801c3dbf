-- The connections that are watched, by their numbers, the newest first.
use Rattle.std.specs.Prelude.{ℕ, List, [], Option, Some, None}
use Rattle.std.specs.BTreeMap.{insert_entry, is_at}
use Rattle.std.specs.Map.{lookup, remove_entry, set_value}
use Rattle.std.specs.Ordering.{nat_cmp}
use Rattle.cqlp_tcp_connections.specs.declared.delivery.Delivery.{Delivery}
use Rattle.cqlp_tcp_connections.specs.declared.totals.ConnectionTotals.{ConnectionTotals}
use Rattle.cqlp_capture_streams.specs.NewestFirst.{newest_first}
use Rattle.cqlp_observer.specs.declared.missed.Missed.{Missed}
use Rattle.cqlp_observer.specs.Misses.{added, none_missed}
use Rattle.cqlp_capture_exchanges.specs.declared.pool.ExchangeLimits.{ExchangeLimits}
use Rattle.cqlp_capture_exchanges.specs.Pools.{Pool, amount, exchanged, held_in, new_pool, room_for}
use Rattle.cqlp_capture_exchanges.specs.Reports.{Report, end_of}
use Rattle.cqlp_capture_exchanges.specs.Talks.{Slot, Talk, left, new_slot, delivery_heard}

-- the connections, the one with the greatest number first; how much of them waits; and what was missed of those that have left
pub record Table : Type 0 where
  pub slots : List (ℕ × Slot)
  pub pool : Pool
  pub missed : Missed

abbrev pub table : List (ℕ × Slot) → Pool → Missed → Table
table slots pool missed = record { slots = slots; pool = pool; missed = missed }

abbrev pub new_table : ExchangeLimits → Table
new_table limits = table [] (new_pool limits) none_missed

abbrev pub slot_of : (number : ℕ) → Table → Option Slot
slot_of n w = lookup (is_at (nat_cmp (newest_first n))) w.slots

-- what is reported of a connection, and the table after it
pub record Change : Type 0 where
  pub reports : List Report
  pub table : Table

abbrev pub change : List Report → Table → Change
change reports w = record { reports = reports; table = w }

-- ---- a connection begins

abbrev pub begins : (number : ℕ) → Table → Change
begins n w = change [] (table (insert_entry nat_cmp w.slots (newest_first n) new_slot) w.pool w.missed)

-- ---- its streams deliver something; where there is no such connection, nothing is reported

abbrev pub becomes : (number : ℕ) → Slot → Talk → Table → Change
becomes n s t w =
    change t.reports (table (set_value (is_at (nat_cmp (newest_first n))) w.slots t.after) (exchanged (held_in s) (held_in t.after) w.pool) w.missed)

abbrev pub takes_delivery_at : Option Slot → (present : Option ℕ) → Delivery → List ℕ → Table → Change
takes_delivery_at None present t b w = change [] w
takes_delivery_at (Some s) present t b w = becomes t.number s (delivery_heard present t (room_for (held_in s) w.pool) b s) w

abbrev pub takes_delivery : (present : Option ℕ) → Delivery → List ℕ → Table → Change
takes_delivery present t b w = takes_delivery_at (slot_of t.number w) present t b w

-- ---- it leaves

abbrev pub gone : (number : ℕ) → Slot → Talk → Table → Change
gone n s t w =
    change t.reports (table (remove_entry (is_at (nat_cmp (newest_first n))) w.slots) (exchanged (held_in s) (amount 0 0) w.pool) (added w.missed t.after.watch.missed))

abbrev pub leaves_at : Option Slot → ConnectionTotals → Table → Change
leaves_at None totals w = change [] w
leaves_at (Some s) totals w = gone totals.number s (left (end_of totals) (room_for (held_in s) w.pool) s) w

abbrev pub leaves : ConnectionTotals → Table → Change
leaves totals w = leaves_at (slot_of totals.number w) totals w
