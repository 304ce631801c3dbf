-- Bytes are given up only where it must be.
use Rattle.std.proofs.Common.{◌≡◌, ℕ, ◌+◌, ◌-◌, Bool, true, false, [], length, refl, sym, inl, inr, arith}
use Rattle.std.specs.Prelude.{Option, Some, None, min, nat_eq, nat_le, if◌then◌else◌}
use Rattle.std.proofs.lemmas.Bool.{and_parts, cases_lt, le-leb, le-ltb, lt-leb, lt-ltb}
use Rattle.cqlp_tcp_reassembly.specs.declared.run.Part.{Part}
use Rattle.cqlp_tcp_reassembly.specs.declared.run.RunSummary.{RunSummary}
use Rattle.cqlp_tcp_reassembly.specs.declared.segment.Place.{Place}
use Rattle.cqlp_tcp_reassembly.specs.declared.stream.Stage.{Stage}
use Rattle.cqlp_tcp_reassembly.specs.declared.stream.Stage.TheVariants.{Unseen, Open, Over}
use Rattle.cqlp_tcp_reassembly.specs.declared.step.GapCause.TheVariants.{Snapped}
use Rattle.cqlp_tcp_reassembly.specs.declared.step.StreamStep.TheVariants.{Began, Held, Gap, Ended, Reset, Done}
use Rattle.cqlp_tcp_reassembly.specs.Sequence.{distance}
use Rattle.cqlp_tcp_reassembly.specs.Segments.{Segment, begins_stream, first_number, next_number}
use Rattle.cqlp_tcp_reassembly.specs.Runs.{behind_first, first_free, summary_at}
use Rattle.cqlp_tcp_reassembly.specs.Streams.{StreamState, Delivery, after_acknowledgement_at, after_segment_at, begun, early_bytes, early_part}
use Rattle.cqlp_tcp_reassembly.specs.Streams.{early_run_of, ended, hole, is_acknowledged, is_lost, knows_hole, lost_or_done, moved, next_bytes}
use Rattle.cqlp_tcp_reassembly.specs.Streams.{next_part, or_else, or_step, place_in, placed, received, settled_by, size, stop, stream_state, delivered}
use Rattle.cqlp_tcp_reassembly.specs.Streams.{with_end}
use Rattle.cqlp_tcp_reassembly.specs.StreamLaws.{IsAcknowledged, IsInTime}
use Rattle.cqlp_tcp_reassembly.proofs.Carries.{early_length}
use Rattle.cqlp_tcp_reassembly.proofs.Sizes.{size_insert}

chosen : (b : Bool) (x y : Delivery) (P : Delivery → Type 0) → P x → P y → P (if b then x else y)
chosen true x y P hx hy = hx
chosen false x y P hx hy = hy

-- what is settled is no loss
settled_run : (r : Option RunSummary) (s : StreamState) (otherwise : Delivery) (P : Delivery → Type 0)
    → ((b : Bool) (time : Option ℕ) (z : StreamState) → P (delivered (Held time b) z))
    → ((n : ℕ) (time : Option ℕ) (z : StreamState) → P (delivered (Gap n Snapped time) z)) → P otherwise
    → P (or_step (settled_by r s).step (settled_by r s).state otherwise)
settled_run None s otherwise P helds gaps other = other
settled_run (Some r) s otherwise P helds gaps other =
    elim (cases_lt 0 r.length) [
      | inl some ↦ rw (lt-ltb 0 r.length some) (helds r.begins r.time s)
      | inr none ↦ rw (le-ltb 0 r.length none) (gaps (min r.missing (stop s - s.position)) r.time
          (moved (min r.missing (stop s - s.position)) (behind_first s.runs) s))
    ]

settled_any : (s : StreamState) (otherwise : Delivery) (P : Delivery → Type 0)
    → ((z : StreamState) → P (delivered Ended z)) → ((b : Bool) (time : Option ℕ) (z : StreamState) → P (delivered (Held time b) z))
    → ((n : ℕ) (time : Option ℕ) (z : StreamState) → P (delivered (Gap n Snapped time) z))
    → P otherwise → P (or_else s otherwise)
settled_any s otherwise P ends helds gaps other = elim (cases_lt s.position (stop s)) [
  | inl going ↦ rw (lt-leb (stop s) s.position going) (settled_run (summary_at s.position s.runs) s otherwise P helds gaps other)
  | inr past ↦ rw (le-leb (stop s) s.position past) (ends (ended s))
]

next_in_time : (count : ℕ) (old s : StreamState) (g : Segment) (l : Place) (p : Part) (room : ℕ)
    → IsInTime (next_bytes count s g l p).step old (next_bytes count s g l p).state g room
next_in_time count old s g l p room = elim (cases_lt 0 count) [
  | inl some ↦ rw (lt-ltb 0 count some) tt
  | inr none ↦ rw (le-ltb 0 count none) tt
]

early_in_time : (old s : StreamState) (g : Segment) (l : Place) (p : Part) (room : ℕ) → size s ≡ size old
    → IsInTime (early_part s g l p room).step old (early_part s g l p room).state g room
early_in_time old s g l p room same =
    let count = size s + length (early_bytes g l p) + 144 in
    let few = early_length g l p in
    elim (cases_lt room count) [
      | inl full ↦ rw (lt-leb count room full) (omega arith)
      | inr enough ↦ rw (le-leb count room enough) (let e = size_insert s.runs p.index (early_run_of g l p) in omega arith)
    ]

placed_in_time : (old s : StreamState) (g : Segment) (l : Place) (p : Part) (room : ℕ) → size s ≡ size old
    → IsInTime (placed s g l p room).step old (placed s g l p room).state g room
placed_in_time old s g l p room same =
    let P : Delivery → Type 0 = λ t. IsInTime t.step old t.state g room in
    chosen (nat_le p.to p.from) (delivered Done s) (if nat_eq p.from s.position then next_part s g l p else early_part s g l p room) P tt
    (chosen (nat_eq p.from s.position) (next_part s g l p) (early_part s g l p room) P
    (next_in_time (min (length g.bytes - l.skip) (p.to - p.from)) old s g l p room) (early_in_time old s g l p room same))

pub in_time : (stage : Stage) (old : StreamState) (g : Segment) (room : ℕ)
    → IsInTime (after_segment_at stage old g room).step old (after_segment_at stage old g room).state g room
in_time Over old g room = tt
in_time Unseen old g room =
    let P : Delivery → Type 0 = λ t. IsInTime t.step old t.state g room in
    chosen g.control.rst (delivered Reset (ended old)) (begun old g) P tt
    (chosen (begins_stream g) (delivered (Began g.control.syn) (stream_state Open (first_number g.control) 0 [] None)) (delivered Done old) P tt tt)
in_time Open old g room =
    let P : Delivery → Type 0 = λ t. IsInTime t.step old t.state g room in
    let l = place_in old g in
    let s = with_end g.control.fin l.to old in
    chosen g.control.rst (delivered Reset (ended old)) (received old g room) P tt
    (settled_any s (placed s g l (first_free l.at (min l.to (stop s)) s.runs) room) P (λ z. tt) (λ b time z. tt) (λ n time z. tt)
    (placed_in_time old s g l (first_free l.at (min l.to (stop s)) s.runs) room refl))

-- ---- an acknowledgement

due : (lose : Bool) (s : StreamState) (number : ℕ) → lose ≡ is_lost s number → IsAcknowledged (lost_or_done lose s).step s number
due true s number is = (and_parts (knows_hole s) (is_acknowledged (distance (next_number s.first s.position) number) (hole s)) (sym is)).1
due false s number is = tt

pub acknowledged : (stage : Stage) (old : StreamState) (number : ℕ) → IsAcknowledged (after_acknowledgement_at stage old number).step old number
acknowledged Over old number = tt
acknowledged Unseen old number = tt
acknowledged Open old number =
    settled_any old (lost_or_done (is_lost old number) old) (λ (t : Delivery). IsAcknowledged t.step old number) (λ z. tt) (λ b time z. tt)
    (λ n time z. tt) (due (is_lost old number) old number refl)
