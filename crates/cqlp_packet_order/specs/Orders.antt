-- A window: the packets that wait in it, in the order of their times.
use Rattle.std.specs.Prelude.{ℕ, ◌+◌, ◌-◌, ◌^◌, suc, min, max, Bool, true, false, ◌||◌, ◌==◌, nat_lt, if◌then◌else◌, List, [], ◌∷◌, insert, length, sum_by, Option, Some, None}
use Rattle.std.specs.List.{list_all}
use Rattle.cqlp_packet_order.specs.declared.limits.OrderLimits.{OrderLimits}
use Rattle.cqlp_packet_order.specs.declared.limits.OrderCounts.{OrderCounts}
use Rattle.cqlp_packet_order.specs.Packets.{Packet}

-- the packets that wait; the latest time of those that left, 0 where there is none; and what was counted
pub record Order : Type 0 where
  pub limits : OrderLimits
  pub waiting : List Packet
  pub passed : ℕ
  pub counts : OrderCounts

abbrev pub order : OrderLimits → List Packet → (passed : ℕ) → OrderCounts → Order
order l ps passed counts = record { limits = l; waiting = ps; passed = passed; counts = counts }

abbrev pub none_counted : OrderCounts
none_counted = record { reordered = 0; late = 0; out_of_order = 0 }

abbrev pub new_order : OrderLimits → Order
new_order l = order l [] 0 none_counted

-- ---- a packet comes

-- The first time is later. One that is not known is not.
abbrev pub is_later : Option ℕ → Option ℕ → Bool
is_later (Some s) (Some t) = nat_lt t s
is_later s t = false

abbrev pub are_later : (time : Option ℕ) → List Packet → Bool
are_later time ps = list_all (λ p. is_later p.time time) ps

-- how many of those that wait stay before it: all but those at the end that are later
abbrev pub place : (time : Option ℕ) → List Packet → ℕ
place time [] = 0
place time (p ∷ ps) = if are_later time (p ∷ ps) then 0 else suc (place time ps)

-- One with a later time has left.
abbrev pub is_late : (passed : ℕ) → (time : Option ℕ) → Bool
is_late passed time = is_later (Some passed) time

-- A count stays at its greatest value.
abbrev pub one_more : ℕ → ℕ
one_more n = min (n + 1) (2 ^ 64 - 1)

-- late where there is a window, and only out of order where it is off
abbrev pub with_late : (off : Bool) → OrderCounts → OrderCounts
with_late true c = record c { out_of_order = one_more c.out_of_order }
with_late false c = record c { late = one_more c.late }

abbrev pub with_reordered : OrderCounts → OrderCounts
with_reordered c = record c { reordered = one_more c.reordered }

-- late, or before others that wait
abbrev pub counted_by : (late last off : Bool) → OrderCounts → OrderCounts
counted_by true last off c = with_late off c
counted_by false true off c = c
counted_by false false off c = with_reordered c

abbrev pub is_off : OrderLimits → Bool
is_off l = l.packets == 0

abbrev pub counted : (time : Option ℕ) → Order → OrderCounts
counted time o = counted_by (is_late o.passed time) (place time o.waiting == length o.waiting) (is_off o.limits) o.counts

-- It waits behind all but those at the end that are later.
abbrev pub arrived : Packet → Order → Order
arrived p o = record o { waiting = insert o.waiting (place p.time o.waiting) p; counts = counted p.time o }

-- ---- the first one leaves

abbrev pub last_time : (first : Packet) → List Packet → Option ℕ
last_time p [] = p.time
last_time p (q ∷ qs) = last_time q qs

abbrev pub bytes_in : List Packet → ℕ
bytes_in ps = sum_by (λ p. length p.bytes) ps

-- The first and the last were captured too far apart, or the first is late, or one has no time.
abbrev pub is_past : (nanoseconds passed : ℕ) → (first last : Option ℕ) → Bool
is_past nanoseconds passed (Some s) (Some t) = nat_lt s passed || nat_lt nanoseconds (t - s)
is_past nanoseconds passed s t = true

-- The first has to leave: a limit is passed, or it is late, or one has no time.
abbrev pub must_leave_by : OrderLimits → (passed count bytes : ℕ) → (first last : Option ℕ) → Bool
must_leave_by l passed count bytes first last = nat_lt l.packets count || nat_lt l.bytes bytes || is_past l.nanoseconds passed first last

abbrev pub must_leave : OrderLimits → (passed : ℕ) → List Packet → Bool
must_leave l passed [] = false
must_leave l passed (p ∷ ps) = must_leave_by l passed (length (p ∷ ps)) (bytes_in (p ∷ ps)) p.time (last_time p ps)

abbrev pub is_due : Order → Bool
is_due o = must_leave o.limits o.passed o.waiting

abbrev pub passed_with : Option ℕ → ℕ → ℕ
passed_with (Some t) passed = max passed t
passed_with None passed = passed

-- a window, and which packet has left it, if one has
pub record Release : Type 0 where
  pub packet : Option Packet
  pub order : Order

abbrev pub releasing : Option Packet → Order → Release
releasing p o = record { packet = p; order = o }

abbrev pub without_first : Order → List Packet → Release
without_first o [] = releasing None o
without_first o (p ∷ ps) = releasing (Some p) (record o { waiting = ps; passed = passed_with p.time o.passed })

-- the first one leaves,
abbrev pub first_left : Order → Release
first_left o = without_first o o.waiting

-- if it has to
abbrev pub due_left : Order → Release
due_left o = if is_due o then first_left o else releasing None o

-- ---- a packet that need not wait

abbrev pub if_none : List Packet → Bool → Bool
if_none [] b = b
if_none (p ∷ ps) b = false

-- None waits, and this one would have to leave at once.
abbrev pub passes : Packet → Order → Bool
passes p o = if_none o.waiting (must_leave o.limits o.passed (p ∷ []))

-- It has come and left.
abbrev pub with_passed : Packet → Order → Order
with_passed p o = record o { passed = passed_with p.time o.passed; counts = counted p.time o }
