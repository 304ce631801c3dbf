-- What a stream holds after a call.
use Rattle.std.proofs.Common.{◌≡◌, ℕ, ◌+◌, ◌-◌, ◌≤◌, Bool, true, false, cond, List, [], ◌∷◌, length, refl, sym, arith}
use Rattle.std.proofs.lemmas.Bool.{leb-true}
use Rattle.std.specs.Prelude.{◌==◌, ◌&&◌, Option, Some, None, insert, min, nat_le, nat_lt}
use Rattle.cqlp_tcp_reassembly.specs.declared.run.Part.{Part}
use Rattle.cqlp_tcp_reassembly.specs.declared.run.RunSummary.{RunSummary}
use Rattle.cqlp_tcp_reassembly.specs.declared.segment.Place.{Place}
use Rattle.cqlp_tcp_reassembly.specs.declared.step.GapCause.TheVariants.{Snapped}
use Rattle.cqlp_tcp_reassembly.specs.declared.step.StreamStep.{StreamStep}
use Rattle.cqlp_tcp_reassembly.specs.declared.step.StreamStep.TheVariants as step
use Rattle.cqlp_tcp_reassembly.specs.declared.stream.Stage.{Stage}
use Rattle.cqlp_tcp_reassembly.specs.declared.stream.Stage.TheVariants.{Unseen, Open, Over}
use Rattle.cqlp_tcp_reassembly.specs.Runs.{EarlyRun, behind_first, first_at, first_free, size_of as runs_size, summary_at, without_bytes}
use Rattle.cqlp_tcp_reassembly.specs.Segments.{Segment, begins_stream, first_number}
use Rattle.cqlp_tcp_reassembly.proofs.Sizes.{size_insert}
use Rattle.cqlp_tcp_reassembly.specs.Streams.{Settling, StreamState, Delivery, after_acknowledgement, after_acknowledgement_at, after_close, after_close_at, after_segment, after_segment_at, begun, early_bytes, early_part, early_run_of, ended, hole, is_lost, knows_hole, lost, lost_or_done, moved, next_bytes, or_else, or_step, passed, passed_by, place_in, placed, received, settled, settled_by, settling, size, stop, stream_state, delivered, up_to_stop, with_end, with_runs}

delivered_if : (b : Bool) (x y : Delivery) (n : ℕ) → size x.state ≤ n → size y.state ≤ n → size (cond b x y).state ≤ n
delivered_if true x y n p q = p
delivered_if false x y n p q = q

settling_if : (b : Bool) (x y : Settling) (n : ℕ) → size x.state ≤ n → size y.state ≤ n → size (cond b x y).state ≤ n
settling_if true x y n p q = p
settling_if false x y n p q = q

runs_if : (b : Bool) (x y : List EarlyRun) (n : ℕ) → runs_size x ≤ n → runs_size y ≤ n → runs_size (cond b x y) ≤ n
runs_if true x y n p q = p
runs_if false x y n p q = q

size_behind : (runs : List EarlyRun) → runs_size (behind_first runs) ≤ runs_size runs
size_behind [] = omega arith
size_behind (r ∷ runs) =
    runs_if (nat_lt 0 (length r.bytes) && nat_lt 0 r.missing) (without_bytes r ∷ runs) runs (runs_size (r ∷ runs)) (omega arith) (omega arith)

size_settled_by : (o : Option RunSummary) (s : StreamState) → size (settled_by o s).state ≤ size s
size_settled_by None s = omega arith
size_settled_by (Some r) s =
    settling_if
    (nat_lt 0 r.length)
    (settling (Some (step.Held r.time r.begins)) s)
    (settling (Some (step.Gap (up_to_stop s r.missing) Snapped r.time)) (moved (up_to_stop s r.missing) (behind_first s.runs) s))
    (size s)
    (omega arith)
    (size_behind s.runs)

size_settled : (s : StreamState) → size (settled s).state ≤ size s
size_settled s =
    settling_if (nat_le (stop s) s.position) (settling (Some step.Ended) (ended s)) (settled_by (summary_at s.position s.runs) s) (size s) (omega arith) (size_settled_by (summary_at s.position s.runs) s)

size_or_step : (t : Option StreamStep) (s : StreamState) (o : Delivery) (n : ℕ) → size s ≤ n → size o.state ≤ n → size (or_step t s o).state ≤ n
size_or_step (Some t) s o n p q = p
size_or_step None s o n p q = q

size_or_else : (s : StreamState) (o : Delivery) (n : ℕ) → size s ≤ n → size o.state ≤ n → size (or_else s o).state ≤ n
size_or_else s o n p q =
    let h = size_settled s in
    size_or_step (settled s).step (settled s).state o n (omega (arith, h, p)) q

-- ---- a segment

size_early_if : (b : Bool) (runs : List EarlyRun) (i : ℕ) (r : EarlyRun) (s : StreamState) (y : Delivery) (room n : ℕ)
    → room ≤ n → b ≡ nat_le (runs_size runs + length r.bytes + 144) room → size y.state ≤ n → size (cond b (delivered step.Kept (with_runs (insert runs i r) s)) y).state ≤ n
size_early_if true runs i r s y room n p e q =
    let le = leb-true (runs_size runs + length r.bytes + 144) room (sym e) in
    let h = size_insert runs i r in
    omega (arith, le, h, p)
size_early_if false runs i r s y room n p e q = q

size_placed : (s : StreamState) (g : Segment) (l : Place) (p : Part) (room n : ℕ) → room ≤ n → size s ≤ n → size (placed s g l p room).state ≤ n
size_placed s g l p room n most now =
    delivered_if
    (nat_le p.to p.from)
    (delivered step.Done s)
    _
    n
    now
    (delivered_if
    (p.from == s.position)
    (next_bytes (min (length g.bytes - l.skip) (p.to - p.from)) s g l p)
    (early_part s g l p room)
    n
    (delivered_if (nat_lt 0 (min (length g.bytes - l.skip) (p.to - p.from))) _ _ n now now)
    (size_early_if (nat_le (size s + length (early_bytes g l p) + 144) room) s.runs p.index (early_run_of g l p) s (lost (first_at p.from s.runs - s.position) s) room n most refl now))

size_received : (s : StreamState) (g : Segment) (room n : ℕ) → room ≤ n → size s ≤ n → size (received s g room).state ≤ n
size_received s g room n most now =
    let l = place_in s g in
    let t = with_end g.control.fin l.to s in
    let part = first_free l.at (min l.to (stop t)) t.runs in
    size_or_else t (placed t g l part room) n now (size_placed t g l part room n most now)

size_segment_at : (x : Stage) (s : StreamState) (g : Segment) (room n : ℕ) → room ≤ n → size s ≤ n → size (after_segment_at x s g room).state ≤ n
size_segment_at Over s g room n most now = now
size_segment_at Unseen s g room n most now =
    delivered_if g.control.rst (delivered step.Reset (ended s)) (begun s g) n (omega arith)
    (delivered_if (begins_stream g) (delivered (step.Began g.control.syn) (stream_state Open (first_number g.control) 0 [] None)) (delivered step.Done s) n (omega arith) now)
size_segment_at Open s g room n most now =
    delivered_if g.control.rst (delivered step.Reset (ended s)) (received s g room) n (omega arith) (size_received s g room n most now)

-- no more than before, or than its room
pub size_segment : (s : StreamState) (g : Segment) (room n : ℕ) → room ≤ n → size s ≤ n → size (after_segment s g room).state ≤ n
size_segment s g room n most now = size_segment_at s.stage s g room n most now

-- ---- an acknowledgement, no more segments, bytes that are passed

size_lost : (b : Bool) (s : StreamState) → size (lost_or_done b s).state ≤ size s
size_lost b s = delivered_if b (lost (hole s) s) (delivered step.Done s) (size s) (omega arith) (omega arith)

size_acknowledgement_at : (x : Stage) (s : StreamState) (number : ℕ) → size (after_acknowledgement_at x s number).state ≤ size s
size_acknowledgement_at Over s number = omega arith
size_acknowledgement_at Unseen s number = omega arith
size_acknowledgement_at Open s number =
    size_or_else s (lost_or_done (is_lost s number) s) (size s) (omega arith) (size_lost (is_lost s number) s)

pub size_acknowledgement : (s : StreamState) (number : ℕ) → size (after_acknowledgement s number).state ≤ size s
size_acknowledgement s number = size_acknowledgement_at s.stage s number

size_close_at : (x : Stage) (s : StreamState) → size (after_close_at x s).state ≤ size s
size_close_at Over s = omega arith
size_close_at Unseen s = omega arith
size_close_at Open s =
    size_or_else s (lost_or_done (knows_hole s) s) (size s) (omega arith) (size_lost (knows_hole s) s)

pub size_close : (s : StreamState) → size (after_close s).state ≤ size s
size_close s = size_close_at s.stage s

state_if : (b : Bool) (x y : StreamState) (n : ℕ) → size x ≤ n → size y ≤ n → size (cond b x y) ≤ n
state_if true x y n p q = p
state_if false x y n p q = q

size_passed_by : (o : Option RunSummary) (s : StreamState) → size (passed_by o s) ≤ size s
size_passed_by None s = omega arith
size_passed_by (Some r) s =
    state_if (nat_lt 0 r.length) (moved (up_to_stop s r.length) (behind_first s.runs) s) s (size s) (size_behind s.runs) (omega arith)

pub size_passed : (s : StreamState) → size (passed s) ≤ size s
size_passed s = size_passed_by (summary_at s.position s.runs) s
