-- What segments deliver, and connections that leave.
use Rattle.std.proofs.Common.{◌≡◌, ℕ, Bool, true, false, List, [], ◌∷◌, ◌++◌, Option, Result, Ok, Err, refl, sym, inl, inr, append-nil}
use Rattle.cqlp_tcp_segment.specs.Segment.{Seen}
use Rattle.cqlp_tcp_connections.specs.declared.delivery.Departure.TheVariants as departure
use Rattle.cqlp_tcp_connections.specs.declared.delivery.Admission.TheVariants as admission
use Rattle.cqlp_tcp_connections.specs.declared.totals.ConnectionTotals.{ConnectionTotals}
use Rattle.cqlp_tcp_connections.specs.Tables.{Table, departing, finished, left}
use Rattle.cqlp_capture_streams.specs.declared.fault.StreamsFault.{StreamsFault}
use Rattle.cqlp_capture_streams.specs.declared.listener.Listener as listener
use Rattle.cqlp_capture_streams.specs.ConnectionEvents.{ConnectionEvent, Packet, Left}
use Rattle.cqlp_capture_streams.specs.Listening.{GetsOne}
use Rattle.cqlp_capture_streams.specs.Reportings.{Departs, GetsNext, Leaves, Path, StillReports, ReportsAfterTaking, ReportsAgain, ReportsFirst, ReportsOf, ReportsTaken, ReportsTimed, is_done}

-- after a connection has left for it
pub crowded_first : (n : ℕ) (is_full all : Bool) (g : Seen) (time : Option ℕ) (t m u : Table) (front rest : List ConnectionEvent) → Leaves true t front m → ReportsAgain all g time m rest u → ReportsFirst (admission.Crowded n is_full) all g time t (front ++ rest) u
crowded_first n f true g time t m u front rest a b = (m, front, rest, refl, a, b)
crowded_first n f false g time t m u front rest a b = inr (m, front, rest, refl, a, b)

-- it was taken
pub taken_again : (all : Bool) (g : Seen) (time : Option ℕ) (t u : Table) (ss : List ConnectionEvent) → ReportsTaken all g time t ss u → ReportsAgain all g time t ss u
taken_again true g time t u ss a = a
taken_again false g time t u ss a = inr a

pub taken_first : (all : Bool) (g : Seen) (time : Option ℕ) (t u : Table) (ss : List ConnectionEvent) → ReportsAfterTaking all g time t ss u → ReportsOf all g time t ss u
taken_first true g time t u ss a = a
taken_first false g time t u ss a = inr a

-- at last it has left
pub parted : (r : Result (Unit {0}) StreamsFault) (t m u : Table) (front : List ConnectionEvent) (c : ConnectionTotals) → Path (StillReports left) t front m → departing (departure.Left c) u ≡ left m → Leaves (is_done r) t (front ++ Left c ∷ []) u
parted (Ok x) t m u front c p e = (m, front, Left c ∷ [], refl, p, e)
parted (Err x) t m u front c p e = inr (m, front, Left c ∷ [], refl, p, e)

pub parted_none : (t m u : Table) (front : List ConnectionEvent) → Path (StillReports left) t front m → departing departure.Empty u ≡ left m → Leaves true t front u
parted_none t m u front p e = (m, front, [], sym (append-nil front), p, e)

-- whether there was none
module _ {L : Type 0} (m : listener.Ghosts L) where
  pub one_more : (b : Bool) (t u : Table) (old new : L) → b ≡ false → GetsNext m (Ok b) t old u new → (s : ConnectionEvent) × Departs t s u × GetsOne m old s (Ok tt) new
  one_more true t u old new e a = absurd (let z = e in cc)
  one_more false t u old new e a = a

  pub no_more : (b : Bool) (t u : Table) (old new : L) → b ≡ true → GetsNext m (Ok b) t old u new → (departing departure.Empty u ≡ finished t) × (new ≡ old)
  no_more true t u old new e a = a
  no_more false t u old new e a = absurd (let z = e in cc)

-- first that a packet with it comes
pub timed_fails : (time : Option ℕ) (g : Seen) (t : Table) → ReportsTimed false time g t (Packet time ∷ []) t
timed_fails time g t = inl (refl, refl)

pub timed : (all : Bool) (time : Option ℕ) (g : Seen) (t u : Table) (ss : List ConnectionEvent) → ReportsOf all g time t ss u → ReportsTimed all time g t (Packet time ∷ ss) u
timed true time g t u ss a = (ss, refl, a)
timed false time g t u ss a = inr (ss, refl, a)
