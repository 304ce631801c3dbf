-- How much a connection holds after a call.
use Rattle.std.proofs.Common.{◌≡◌, ℕ, ◌+◌, ◌≤◌, Bool, true, false, cond, refl, sym, subst, arith}
use Rattle.std.specs.Prelude.{IfOk, OnErr, Result, Ok, Err, Option, Some, None}
use Rattle.cqlp_tcp_segment.specs.declared.segments.SegmentHead.{SegmentHead}
use Rattle.cqlp_tcp_segment.specs.Segment.{Seen}
use Rattle.cqlp_tcp_reassembly.specs.Segments.{Segment}
use Rattle.cqlp_tcp_reassembly.proofs.Bounds.{size_acknowledgement, size_close, size_passed, size_segment}
use Rattle.cqlp_tcp_connections.specs.declared.ends.Way.{Way}
use Rattle.cqlp_tcp_connections.specs.declared.ends.Way.TheVariants.{Requests, Responses}
use Rattle.cqlp_tcp_connections.specs.declared.delivery.WayStep.{WayStep}
use Rattle.cqlp_tcp_connections.specs.Ends.{other}
use Rattle.cqlp_tcp_connections.specs.Sides as sides
use Rattle.cqlp_tcp_connections.specs.Sides.{SideState}
use Rattle.cqlp_tcp_connections.specs.Laws.{SharesRoom}
use Rattle.cqlp_tcp_connections.specs.Known.{Flows, Delivering, acknowledged, answered, begins_anew, closed, closed_way, counted_on, met, met_if, or_next_as, own_of, passed as one_passed, pull_refused, pulled, side_of, size_of, taken, delivering, with_side}

with_size : (way : Way) (s : SideState) (f : Flows) (more : ℕ) → sides.size_of s ≤ more + sides.size_of (side_of way f) → size_of (with_side way s f) ≤ more + size_of f
with_size Requests s f more h = omega (arith, h)
with_size Responses s f more h = omega (arith, h)

with_less : (way : Way) (s : SideState) (f : Flows) → sides.size_of s ≤ sides.size_of (side_of way f) → size_of (with_side way s f) ≤ size_of f
with_less Requests s f h = omega (arith, h)
with_less Responses s f h = omega (arith, h)

acknowledged_size : (way : Way) (n : ℕ) (f : Flows) → size_of (acknowledged way n f).after ≤ size_of f
acknowledged_size way n f =
    with_less way (sides.acknowledged (side_of way f) n).after f (size_acknowledgement (side_of way f).stream n)

answered_if : (b : Bool) (x y : Delivering) (n : ℕ) → size_of x.after ≤ n → size_of y.after ≤ n → size_of (cond b x y).after ≤ n
answered_if true x y n p q = p
answered_if false x y n p q = q

next_size : (o : Option WayStep) (t : Delivering) (next : Flows → Delivering) (n : ℕ) → size_of t.after ≤ n → size_of (next t.after).after ≤ n → size_of (or_next_as o t next).after ≤ n
next_size None t next n p q = q
next_size (Some delivered) t next n p q = p

taken_size : (way : Way) (g : Segment) (room : ℕ) (f : Flows) → size_of (taken way g room f).after ≤ room + size_of f
taken_size way g room f =
    with_size way (sides.taken (side_of way f) g room).after f room (size_segment (side_of way f).stream g room (room + sides.size_of (side_of way f)) (omega arith) (omega arith))

answered_size : (way : Way) (g : Seen) (f : Flows) → size_of (answered way g.head f).after ≤ size_of f
answered_size way g f =
    answered_if g.head.flags.ack (acknowledged (other way) g.head.acknowledgement f) (delivering None f) (size_of f) (acknowledged_size (other way) g.head.acknowledgement f) (omega arith)

pub pulled_size : (way : Way) (g : Seen) (time : Option ℕ) (room : ℕ) (f : Flows) → size_of (pulled way g time room f).after ≤ room + size_of f
pulled_size way g time room f =
    let a = answered way g.head f in
    let h = answered_size way g f in
    let t = taken_size way (own_of g time) room a.after in
    next_size a.delivered a (λ c. taken way (own_of g time) room c) (room + size_of f) (omega (arith, h)) (omega (arith, h, t))

pub refused_size : (way : Way) (g : Seen) (time : Option ℕ) (f : Flows) → size_of (pull_refused way g time f) ≤ size_of f
refused_size way g time f =
    let a = answered way g.head f in
    let h = answered_size way g f in
    let t = with_less way (sides.refused (side_of way a.after) (own_of g time)) a.after (omega arith) in
    omega (arith, h, t)

closed_way_size : (way : Way) (f : Flows) → size_of (closed_way way f).after ≤ size_of f
closed_way_size way f =
    with_less way (sides.closed (side_of way f)).after f (size_close (side_of way f).stream)

pub closed_size : (f : Flows) → size_of (closed f).after ≤ size_of f
closed_size f =
    let h = closed_way_size Requests f in
    let t = closed_way_size Responses (closed_way Requests f).after in
    next_size (closed_way Requests f).delivered (closed_way Requests f) (λ c. closed_way Responses c) (size_of f) h (omega (arith, h, t))

pub passed_size : (way : Way) (f : Flows) → size_of (one_passed way f) ≤ size_of f
passed_size way f = with_less way (sides.passed (side_of way f)) f (size_passed (side_of way f).stream)

pub counted_size : (way : Way) (f : Flows) → size_of (counted_on way f) ≡ size_of f
counted_size Requests f = refl
counted_size Responses f = refl

met_size_if : (b : Bool) (way : Way) (f : Flows) → size_of (met_if b way f).after ≡ size_of f
met_size_if true way f = refl
met_size_if false way f = counted_size way f

pub met_size : (way : Way) (h : SegmentHead) (f : Flows) → size_of (met way h f).after ≡ size_of f
met_size way h f = met_size_if (begins_anew way h f) way f

pub pull_sized : {E : Type 0} (r : Result (Option WayStep) E) (way : Way) (g : Seen) (time : Option ℕ) (room : ℕ) (old new : Flows)
    → IfOk r (λ delivered. delivering delivered new ≡ pulled way g time room old) → OnErr r (new ≡ pull_refused way g time old) → size_of new ≤ room + size_of old
pull_sized (Ok delivered) way g time room old new e f =
    subst (λ (t : Delivering). size_of t.after ≤ room + size_of old) (sym e) (pulled_size way g time room old)
pull_sized (Err x) way g time room old new e f =
    let h = refused_size way g time old in
    subst (λ (t : Flows). size_of t ≤ room + size_of old) (sym f) (omega (arith, h))

-- ---- of one direction

side_with : (way of : Way) (s : SideState) (f : Flows) (n : ℕ)
    → (sides.size_of (side_of way f) ≤ n → sides.size_of s ≤ n) → sides.size_of (side_of of f) ≤ n → sides.size_of (side_of of (with_side way s f)) ≤ n
side_with Requests Requests s f n h q = h q
side_with Requests Responses s f n h q = q
side_with Responses Requests s f n h q = q
side_with Responses Responses s f n h q = h q

answered_side : (b : Bool) (way of : Way) (number : ℕ) (f : Flows) (n : ℕ) → sides.size_of (side_of of f) ≤ n → sides.size_of (side_of of (cond b (acknowledged way number f) (delivering None f)).after) ≤ n
answered_side true way of number f n q =
    let h = size_acknowledgement (side_of way f).stream number in
    side_with way of (sides.acknowledged (side_of way f) number).after f n (λ p. omega (arith, h, p)) q
answered_side false way of number f n q = q

next_side : (o : Option WayStep) (t : Delivering) (next : Flows → Delivering) (of : Way) (n : ℕ)
    → sides.size_of (side_of of t.after) ≤ n → sides.size_of (side_of of (next t.after).after) ≤ n → sides.size_of (side_of of (or_next_as o t next).after) ≤ n
next_side None t next of n p q = q
next_side (Some delivered) t next of n p q = p

pub shares_room : SharesRoom
shares_room way of g time room f n most now =
    let a = answered way g.head f in
    let h = answered_side g.head.flags.ack (other way) of g.head.acknowledgement f n now in
    let t = side_with way of (sides.taken (side_of way a.after) (own_of g time) room).after a.after n (λ p. size_segment (side_of way a.after).stream (own_of g time) room n most p) h in
    next_side a.delivered a (λ c. taken way (own_of g time) room c) of n h t
