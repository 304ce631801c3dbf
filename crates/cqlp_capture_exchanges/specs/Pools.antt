-- How much of all connections together waits.
use Rattle.std.specs.Prelude.{ℕ, ◌-◌, length}
use Rattle.cqlp_note.specs.Streams.{counted_up}
use Rattle.cqlp_observer.specs.declared.room.WatchRoom.{WatchRoom}
use Rattle.cqlp_capture_exchanges.specs.declared.pool.ExchangeLimits.{ExchangeLimits}
use Rattle.cqlp_capture_exchanges.specs.Talks.{Slot}

abbrev pub amount : (messages text : ℕ) → WatchRoom
amount messages text = record { messages = messages; text = text }

-- messages that wait on a connection, and their first bytes
abbrev pub held_in : Slot → WatchRoom
held_in s = amount (length s.watch.waiting) s.watch.text

-- what may wait in all, and what does
pub record Pool : Type 0 where
  pub limits : ExchangeLimits
  pub held : WatchRoom

abbrev pub pool : ExchangeLimits → (held : WatchRoom) → Pool
pool limits held = record { limits = limits; held = held }

abbrev pub new_pool : ExchangeLimits → Pool
new_pool limits = pool limits (amount 0 0)

-- what may wait in all on a connection on which so much waits: what the others leave
abbrev pub room_for : (own : WatchRoom) → Pool → WatchRoom
room_for own p =
    amount (p.limits.open - (p.held.messages - own.messages)) (p.limits.text - (p.held.text - own.text))

-- so much waits on a connection, where so much did
abbrev pub exchanged : (old new : WatchRoom) → Pool → Pool
exchanged old new p =
    pool p.limits (amount (counted_up new.messages (p.held.messages - old.messages)) (counted_up new.text (p.held.text - old.text)))
