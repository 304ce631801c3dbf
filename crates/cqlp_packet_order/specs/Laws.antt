-- Laws of a window: nothing is lost or made, what comes in time leaves in order, and nothing waits past a limit.
use Rattle.std.specs.Prelude.{◌≡◌, ℕ, ◌-◌, ◌≤◌, true, List, [], ◌∷◌, ◌++◌, IsPermutation, IsSome, length, Some, None, unwrap_or, ⊤}
use Rattle.cqlp_packet_order.specs.declared.limits.OrderLimits.{OrderLimits}
use Rattle.cqlp_packet_order.specs.Packets.{Packet}
use Rattle.cqlp_packet_order.specs.Orders.{Order, arrived, bytes_in, due_left, first_left, last_time, new_order, passes, releasing, with_passed}

-- From a new window: packets came, and packets left, in whatever turns.
pub data Runs (limits : OrderLimits) : (came left : List Packet) → Order → Type 0 where
  Begins : Runs limits [] [] (new_order limits)
  Comes : {came left : List Packet} {o : Order} → Runs limits came left o → (p : Packet) → Runs limits (came ++ p ∷ []) left (arrived p o)
  Leaves : {came left : List Packet} {o : Order} → Runs limits came left o → (p : Packet) (u : Order) → releasing (Some p) u ≡ first_left o
      → Runs limits came (left ++ p ∷ []) u

-- ---- nothing is lost or made

-- What left and what waits is what came.
abbrev pub KeepsAll : Type 0
KeepsAll = (limits : OrderLimits) (came left : List Packet) (o : Order) → Runs limits came left o → IsPermutation came (left ++ o.waiting)

-- ---- order

abbrev pub moment : Packet → ℕ
moment p = unwrap_or p.time 0

abbrev pub HaveTimes : List Packet → Type 0
HaveTimes [] = ⊤
HaveTimes (p ∷ ps) = IsSome p.time × HaveTimes ps

-- None is of an earlier time.
abbrev pub NoneBefore : (time : ℕ) → List Packet → Type 0
NoneBefore t [] = ⊤
NoneBefore t (p ∷ ps) = (t ≤ moment p) × NoneBefore t ps

-- None is of an earlier time than one before it.
abbrev pub Ascends : List Packet → Type 0
Ascends [] = ⊤
Ascends (p ∷ ps) = NoneBefore (moment p) ps × Ascends ps

-- Where all have a time and none was late, or out of order with no window, they leave in the order of their times.
abbrev pub LeavesInOrder : Type 0
LeavesInOrder =
    (limits : OrderLimits) (came left : List Packet) (o : Order) → Runs limits came left o
    → HaveTimes came → o.counts.late ≡ 0 → o.counts.out_of_order ≡ 0 → Ascends (left ++ o.waiting)

-- ---- limits

abbrev pub IsWithin : OrderLimits → List Packet → Type 0
IsWithin l [] = ⊤
IsWithin l (p ∷ ps) =
    (length (p ∷ ps) ≤ l.packets) × (bytes_in (p ∷ ps) ≤ l.bytes) × IsSome p.time × IsSome (last_time p ps)
    × (unwrap_or (last_time p ps) 0 - moment p ≤ l.nanoseconds)

-- Where none has to leave, those that wait are within the limits.
abbrev pub WaitsWithin : Type 0
WaitsWithin = (o : Order) → due_left o ≡ releasing None o → IsWithin o.limits o.waiting

-- ---- a packet that passes

-- It does what it would if it waited.
abbrev pub PassesAsKept : Type 0
PassesAsKept = (p : Packet) (o : Order) → passes p o ≡ true → due_left (arrived p o) ≡ releasing (Some p) (with_passed p o)
