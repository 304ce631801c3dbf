-- What a table of connections reports of a segment, and where connections leave.
use Rattle.std.specs.Prelude.{◌≡◌, ℕ, Bool, true, false, List, [], ◌∷◌, ◌++◌, take, drop, Option, Some, None, Result, Ok, Err, ◌⊎◌}
use Rattle.cqlp_tcp_reassembly.specs.declared.step.StreamStep.{StreamStep}
use Rattle.cqlp_tcp_reassembly.specs.declared.step.StreamStep.TheVariants as step
use Rattle.cqlp_tcp_segment.specs.Segment.{Seen}
use Rattle.cqlp_tcp_connections.specs.declared.ends.Way.{Way}
use Rattle.cqlp_tcp_connections.specs.declared.delivery.Departure.TheVariants as departure
use Rattle.cqlp_tcp_connections.specs.declared.delivery.Admission.{Admission}
use Rattle.cqlp_tcp_connections.specs.declared.delivery.Admission.TheVariants as admission
use Rattle.cqlp_tcp_connections.specs.Tables.{Table, Departing, departing, finished, held_of, left, passed, pulled, pulling, refused, taken, taking}
use Rattle.cqlp_capture_streams.specs.declared.fault.StreamsFault.{StreamsFault}
use Rattle.cqlp_capture_streams.specs.declared.listener.Listener as listener
use Rattle.cqlp_capture_streams.specs.ConnectionEvents.{ConnectionEvent, Packet, New, Of, Left}
use Rattle.cqlp_capture_streams.specs.Listening.{GetsOne}

-- The bytes of a delivery: those of the payload that it names, or those that the connection held, which it goes on behind.
abbrev pub HandsHeld : Way → Table → (bytes : List ℕ) → Table → Type 0
HandsHeld way t bytes u = (bytes ≡ held_of way t.known) × (u ≡ passed way t)

abbrev pub HandsOn : StreamStep → Way → (payload : List ℕ) → Table → (bytes : List ℕ) → Table → Type 0
HandsOn (step.Payload from count) way payload t bytes u = (bytes ≡ take count (drop from payload)) × (u ≡ t)
HandsOn (step.Held time begins) way payload t bytes u = HandsHeld way t bytes u
HandsOn s way payload t bytes u = (bytes ≡ []) × (u ≡ t)

-- ---- steps, which may be many

-- from one to another, a step for each
module _ {S X : Type 0} (Step : S → X → S → Type 0) where
  abbrev pub Path : S → List X → S → Type 0
  Path s [] t = t ≡ s
  Path s (x ∷ xs) t = (m : S) × Step s x m × Path m xs t

-- A segment that was taken, of a packet of this time, delivers something.
abbrev pub Pulls : Seen → (time : Option ℕ) → Table → ConnectionEvent → Table → Type 0
Pulls g time t (Of delivered bytes) u =
    (m : Table) × (pulling (Some delivered) m ≡ pulled g time t) × HandsOn delivered.step delivered.way g.payload m bytes u
Pulls g time t s u = ⊥

-- All that it delivers; or where something fails, or memory is refused, the first of that.
abbrev pub PullsAll : (all : Bool) → Seen → (time : Option ℕ) → Table → List ConnectionEvent → Table → Type 0
PullsAll true g time t ss u = (m : Table) × Path (Pulls g time) t ss m × (pulling None u ≡ pulled g time m)
PullsAll false g time t ss u =
    Path (Pulls g time) t ss u ⊎ ((m : Table) × Path (Pulls g time) t ss m × (u ≡ refused g time m))

-- A connection that leaves delivers what it still has.
abbrev pub StillReports : (Table → Departing) → Table → ConnectionEvent → Table → Type 0
StillReports leaves t (Of delivered bytes) u =
    (m : Table) × (departing (departure.Delivery delivered) m ≡ leaves t) × HandsOn delivered.step delivered.way [] m bytes u
StillReports leaves t s u = ⊥

-- At last it has left.
abbrev pub Parts : (Table → Departing) → Table → List ConnectionEvent → Table → Type 0
Parts leaves t (Left totals ∷ []) u = departing (departure.Left totals) u ≡ leaves t
Parts leaves t [] u = departing departure.Empty u ≡ leaves t
Parts leaves t ss u = ⊥

abbrev pub Leaves : (all : Bool) → Table → List ConnectionEvent → Table → Type 0
Leaves true t ss u =
    (m : Table) × (front : List ConnectionEvent) × (last : List ConnectionEvent) × (ss ≡ front ++ last)
    × Path (StillReports left) t front m × Parts left m last u
Leaves false t ss u =
    Path (StillReports left) t ss u
    ⊎ ((m : Table) × (front : List ConnectionEvent) × (last : List ConnectionEvent) × (ss ≡ front ++ last)
    × Path (StillReports left) t front m × Parts left m last u)

-- So do all, one after the other.
abbrev pub Departs : Table → ConnectionEvent → Table → Type 0
Departs t (Left totals) u = departing (departure.Left totals) u ≡ finished t
Departs t s u = StillReports finished t s u

abbrev pub FinishesAll : (all : Bool) → Table → List ConnectionEvent → Table → Type 0
FinishesAll true t ss u = (m : Table) × Path Departs t ss m × (departing departure.Empty u ≡ finished m)
FinishesAll false t ss u = Path Departs t ss u

-- ---- a segment

abbrev pub beginning : (is_new : Bool) → (number : ℕ) → List ConnectionEvent
beginning true n = New n ∷ []
beginning false n = []

-- What a segment delivers that was admitted so; nothing, where it has no connection.
abbrev pub ReportsSeen : Admission → (all : Bool) → Seen → (time : Option ℕ) → Table → List ConnectionEvent → Table → Type 0
ReportsSeen admission.Foreign all g time t ss u = (ss ≡ []) × (u ≡ t)
ReportsSeen (admission.Taken n way is_new) all g time t ss u =
    (rest : List ConnectionEvent) × (ss ≡ beginning is_new n ++ rest) × PullsAll all g time t rest u
ReportsSeen (admission.Crowded n is_full) all g time t ss u = (ss ≡ []) × (u ≡ t)

-- taken once more after a connection has left for it
abbrev pub ReportsTaken : (all : Bool) → Seen → (time : Option ℕ) → Table → List ConnectionEvent → Table → Type 0
ReportsTaken all g time t ss u = (s : Admission) × (m : Table) × (taking s m ≡ taken t g.head) × ReportsSeen s all g time m ss u

-- unless memory for it is refused
abbrev pub ReportsAgain : (all : Bool) → Seen → (time : Option ℕ) → Table → List ConnectionEvent → Table → Type 0
ReportsAgain true g time t ss u = ReportsTaken true g time t ss u
ReportsAgain false g time t ss u = ((ss ≡ []) × (u ≡ t)) ⊎ ReportsTaken false g time t ss u

abbrev pub ReportsFirst : Admission → (all : Bool) → Seen → (time : Option ℕ) → Table → List ConnectionEvent → Table → Type 0
ReportsFirst (admission.Crowded n is_full) true g time t ss u =
    (m : Table) × (front : List ConnectionEvent) × (rest : List ConnectionEvent) × (ss ≡ front ++ rest)
    × Leaves true t front m × ReportsAgain true g time m rest u
ReportsFirst (admission.Crowded n is_full) false g time t ss u =
    Leaves false t ss u
    ⊎ ((m : Table) × (front : List ConnectionEvent) × (rest : List ConnectionEvent) × (ss ≡ front ++ rest)
    × Leaves true t front m × ReportsAgain false g time m rest u)
ReportsFirst s all g time t ss u = ReportsSeen s all g time t ss u

abbrev pub ReportsAfterTaking : (all : Bool) → Seen → (time : Option ℕ) → Table → List ConnectionEvent → Table → Type 0
ReportsAfterTaking all g time t ss u = (s : Admission) × (m : Table) × (taking s m ≡ taken t g.head) × ReportsFirst s all g time m ss u

abbrev pub ReportsOf : (all : Bool) → Seen → (time : Option ℕ) → Table → List ConnectionEvent → Table → Type 0
ReportsOf true g time t ss u = ReportsAfterTaking true g time t ss u
ReportsOf false g time t ss u = ((ss ≡ []) × (u ≡ t)) ⊎ ReportsAfterTaking false g time t ss u

-- first that a packet with it comes
abbrev pub ReportsTimed : (all : Bool) → (time : Option ℕ) → Seen → Table → List ConnectionEvent → Table → Type 0
ReportsTimed true time g t ss u = (rest : List ConnectionEvent) × (ss ≡ Packet time ∷ rest) × ReportsOf true g time t rest u
ReportsTimed false time g t ss u =
    ((ss ≡ Packet time ∷ []) × (u ≡ t))
    ⊎ ((rest : List ConnectionEvent) × (ss ≡ Packet time ∷ rest) × ReportsOf false g time t rest u)

-- ---- what a listener has got of it

abbrev pub is_done : Result (Unit {0}) StreamsFault → Bool
is_done (Ok u) = true
is_done (Err e) = false

-- It has got the next event of connections that leave, or failed at it; or there was none.
abbrev pub GetsNext : {L : Type 0} → listener.Ghosts L → Result Bool StreamsFault → Table → L → Table → L → Type 0
GetsNext m (Ok false) t old u new = (s : ConnectionEvent) × Departs t s u × GetsOne m old s (Ok tt) new
GetsNext m (Ok true) t old u new = (departing departure.Empty u ≡ finished t) × (new ≡ old)
GetsNext m (Err e) t old u new = (s : ConnectionEvent) × Departs t s u × GetsOne m old s (Err e) new
