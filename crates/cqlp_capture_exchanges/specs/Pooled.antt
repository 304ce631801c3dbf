-- Laws: the pools are the sums over the connections, so that the room that each is given is what the others leave.
use Rattle.std.specs.Prelude.{◌≡◌, ℕ, ◌-◌, ◌^◌, ◌<◌, ◌≤◌, List, Option, Some, None, length, sum_by}
use Rattle.std.specs.List.{AllByRecursion}
use Rattle.std.specs.List.Sorted.{IsStrictlySortedBy}
use Rattle.std.specs.BTreeMap.{is_at}
use Rattle.std.specs.Map.{keys_of, remove_entry, values_of}
use Rattle.std.specs.Ordering.{nat_cmp}
use Rattle.cqlp_tcp_connections.specs.declared.delivery.Delivery.{Delivery}
use Rattle.cqlp_tcp_connections.specs.declared.totals.ConnectionTotals.{ConnectionTotals}
use Rattle.cqlp_capture_streams.specs.NewestFirst.{newest_first}
use Rattle.cqlp_observer.specs.Rooms.{IsCounted}
use Rattle.cqlp_capture_exchanges.specs.declared.pool.ExchangeLimits.{ExchangeLimits}
use Rattle.cqlp_capture_exchanges.specs.Pools.{amount, held_in, room_for}
use Rattle.cqlp_capture_exchanges.specs.Tables.{Table, begins, leaves, new_table, slot_of, takes_delivery}
use Rattle.cqlp_capture_exchanges.specs.Talks.{Slot}

-- on several connections: messages that wait, and the room that texts take
abbrev pub messages_on : List (ℕ × Slot) → ℕ
messages_on slots = sum_by (λ s. length s.watch.waiting) (values_of slots)

abbrev pub text_on : List (ℕ × Slot) → ℕ
text_on slots = sum_by (λ s. s.watch.text) (values_of slots)

-- The limits are numbers of 64 bits.
pub record AreNumbers (limits : ExchangeLimits) : Type 0 where
  pub messages : limits.open < 2 ^ 64
  pub text : limits.text < 2 ^ 64

-- What the pools hold is what the connections do, and no more than the limits.
pub record IsPooled (w : Table) : Type 0 where
  pub limits : AreNumbers w.pool.limits
  pub ordered : IsStrictlySortedBy nat_cmp (keys_of w.slots)
  pub counted : AllByRecursion (λ s. IsCounted s.watch) (values_of w.slots)
  pub messages : w.pool.held.messages ≡ messages_on w.slots
  pub text : w.pool.held.text ≡ text_on w.slots
  pub few : messages_on w.slots ≤ w.pool.limits.open
  pub little : text_on w.slots ≤ w.pool.limits.text

-- the other connections
abbrev pub others : (number : ℕ) → Table → List (ℕ × Slot)
others n w = remove_entry (is_at (nat_cmp (newest_first n))) w.slots

-- A connection may have what the others leave.
abbrev pub GetsWhatIsLeft : Table → Type 0
GetsWhatIsLeft w =
    (n : ℕ) (s : Slot) → slot_of n w ≡ Some s
    → room_for (held_in s) w.pool
    ≡ amount (w.pool.limits.open - messages_on (others n w)) (w.pool.limits.text - text_on (others n w))

-- A connection that begins has a number that no other has.
abbrev pub KeepsPools : Type 0
KeepsPools =
    ((limits : ExchangeLimits) → AreNumbers limits → IsPooled (new_table limits))
    × ((n : ℕ) (w : Table) → slot_of n w ≡ None → IsPooled w → IsPooled (begins n w).table)
    × ((present : Option ℕ) (delivered : Delivery) (b : List ℕ) (w : Table) → IsPooled w → IsPooled (takes_delivery present delivered b w).table)
    × ((totals : ConnectionTotals) (w : Table) → IsPooled w → IsPooled (leaves totals w).table)
    × ((w : Table) → IsPooled w → GetsWhatIsLeft w)
