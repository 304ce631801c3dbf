-- What a stream reports is what the segments carried.
use Rattle.std.proofs.Common.{◌≡◌, ℕ, suc, ◌+◌, ◌-◌, ◌%◌, ◌^◌, ◌<◌, ◌≤◌, Bool, true, false, List, [], ◌∷◌, length, take, drop, get_or, refl, sym, ap}
use Rattle.std.proofs.Common.{◌∙◌, subst, inl, inr, arith}
use Rattle.std.specs.Prelude.{Option, Some, None, insert, min, ◌&&◌, nat_eq, if◌then◌else◌}
use Rattle.std.proofs.lemmas.Bool.{cases_lt, cases_eq, lt-ltb, le-ltb, le-leb, lt-leb, eq-eqb, ne_eqb}
use Rattle.std.proofs.lemmas.List.{get_or-take, length-drop, length-take}
use Rattle.cqlp_tcp_reassembly.specs.declared.run.Part.{Part}
use Rattle.cqlp_tcp_reassembly.specs.declared.segment.Place.{Place}
use Rattle.cqlp_tcp_reassembly.specs.declared.stream.Stage.{Stage}
use Rattle.cqlp_tcp_reassembly.specs.declared.stream.Stage.TheVariants.{Open}
use Rattle.cqlp_tcp_reassembly.specs.declared.step.GapCause.TheVariants.{Lost, Snapped}
use Rattle.cqlp_tcp_reassembly.specs.declared.step.StreamStep.{StreamStep}
use Rattle.cqlp_tcp_reassembly.specs.declared.step.StreamStep.TheVariants.{Began, Payload, Held, Gap, Kept, Ended, Reset, Done}
use Rattle.cqlp_tcp_reassembly.specs.Segments.{Segment, begins_stream, first_number}
use Rattle.cqlp_tcp_reassembly.specs.Runs.{EarlyRun, behind_first, first_at, first_free, run_end, summary, summary_at, without_bytes}
use Rattle.cqlp_tcp_reassembly.specs.Streams.{StreamState, Delivery, after_acknowledgement, after_acknowledgement_at, after_close, after_close_at}
use Rattle.cqlp_tcp_reassembly.specs.Streams.{after_segment, after_segment_at, begun, early_bytes, early_part, early_run_of, end_with, ended, held}
use Rattle.cqlp_tcp_reassembly.specs.Streams.{hole, is_lost, knows_hole, lost_or_done, moved, next_part, or_else, or_step, passed, place_in, placed}
use Rattle.cqlp_tcp_reassembly.specs.Streams.{received, settled_by, size, stop, stop_at, stream_state, delivered, with_end}
use Rattle.cqlp_tcp_reassembly.specs.Laws.{AreInOrder, Carried, Entry, Holds, captured_byte, cut_off, early_entry, first, first_entry, run_entry, with_more}
use Rattle.cqlp_tcp_reassembly.specs.StreamLaws.{Follows, HandsOn, IsAt, IsNear, Delivers, WereCutOff}
use Rattle.cqlp_tcp_reassembly.proofs.Entries.{entry_byte, entry_cut, entry_past, more_past, more_some}
use Rattle.cqlp_tcp_reassembly.proofs.Places.{Lies, lies}
use Rattle.cqlp_tcp_reassembly.proofs.Parts.{IsFree, is_first_free, order_from, past_first}
use Rattle.cqlp_tcp_reassembly.proofs.Carries.{all_taken, first_above, hands_bytes, kept, lacks, lacks_it, order_first, run_ends, was_cut}

-- ---- further on

-- the stream moves on, and what it holds lies behind
goes_on : (s : StreamState) (n origin : ℕ) (segments : List Carried) → Holds s origin segments → AreInOrder (s.position + n) s.runs
    → IsAt (moved n s.runs s) origin (s.position + n) segments
goes_on s n origin segments holds order = record {
  at = refl;
  holds = record { first = holds.first; order = order; entries = λ x le lt. holds.entries x (omega arith) lt };
}

-- and so where a segment was taken up to there
goes_past : (s : StreamState) (n origin start end : ℕ) (g : Segment) (segments : List Carried) → IsAt s origin n segments → end ≤ origin + n
    → IsAt s origin n (with_more segments start g end)
goes_past s n origin start end g segments is few =
    let at = is.at in
    record {
      at = is.at;
      holds = record {
        first = is.holds.first;
        order = is.holds.order;
        entries = λ x le lt. is.holds.entries x le lt ∙ sym (more_past segments start g end (origin + x) (omega arith));
      };
    }

-- ---- FIN

stop_less : (end : Option ℕ) (fin : Bool) (to : ℕ) → stop_at (end_with end fin to) ≤ stop_at end
stop_less (Some e) fin to = omega arith
stop_less None true to = omega arith
stop_less None false to = omega arith

holds_end : (s : StreamState) (fin : Bool) (to origin : ℕ) (segments : List Carried) → Holds s origin segments → Holds (with_end fin to s) origin segments
holds_end s fin to origin segments holds =
    let less = stop_less s.end fin to in
    record { first = holds.first; order = holds.order; entries = λ x le lt. holds.entries x le (omega arith) }

-- ---- what is settled

-- the steps that it may be
abbrev pub Settles : StreamStep → List Carried → (origin position : ℕ) → StreamState → Type 0
Settles (Gap n Snapped time) segments origin position s = WereCutOff segments (origin + position) n time × IsAt s origin (position + n) segments
Settles (Held time begins) segments origin position s = HandsOn segments (origin + position) (held s) begins time × IsAt s origin position segments
Settles Ended segments origin position s = stop s ≤ position
Settles t segments origin position s = ⊥

settles_follow : (t : StreamStep) (segments : List Carried) (origin position : ℕ) (s : StreamState) → Settles t segments origin position s
    → Follows t segments origin position s
settles_follow (Gap n Snapped time) segments origin position s h = h
settles_follow (Gap n Lost time) segments origin position s h = absurd h
settles_follow (Held time begins) segments origin position s h = h
settles_follow Ended segments origin position s h = h
settles_follow (Began b) segments origin position s h = absurd h
settles_follow (Payload from count) segments origin position s h = absurd h
settles_follow Kept segments origin position s h = absurd h
settles_follow Reset segments origin position s h = absurd h
settles_follow Done segments origin position s h = absurd h

cut_before : (segments : List Carried) (position n start end : ℕ) (g : Segment) (time : Option ℕ) → WereCutOff segments position n time
    → WereCutOff (with_more segments start g end) position n time
cut_before segments position n start end g time h =
    record { some = h.some; each = λ i lt. more_some segments start g end (position + i) (cut_off time) (h.each i lt) }

settles_deliver : (t : StreamStep) (segments : List Carried) (origin position start : ℕ) (g : Segment) (s : StreamState)
    → Settles t segments origin position s → Delivers t segments origin position start g s
settles_deliver (Gap n Snapped time) segments origin position start g s h = (
  cut_before segments (origin + position) n start (origin + position + n) g time h.0,
  goes_past s (position + n) origin start
      (origin + position + n) g segments h.1 (omega arith),
)
settles_deliver (Gap n Lost time) segments origin position start g s h = absurd h
settles_deliver (Held time begins) segments origin position start g s h = h
settles_deliver Ended segments origin position start g s h = h
settles_deliver (Began b) segments origin position start g s h = absurd h
settles_deliver (Payload from count) segments origin position start g s h = absurd h
settles_deliver Kept segments origin position start g s h = absurd h
settles_deliver Reset segments origin position start g s h = absurd h
settles_deliver Done segments origin position start g s h = absurd h

begins_at : (begins : Bool) (a i : ℕ) → (begins && nat_eq (a + i) a) ≡ (begins && nat_eq i 0)
begins_at begins a i = elim (cases_eq i 0) [
  | inl here ↦ rw (eq-eqb i 0 here, eq-eqb (a + i) a (omega arith)) refl
  | inr past ↦ rw (ne_eqb i 0 past, ne_eqb (a + i) a (λ e. past (omega arith))) refl
]

-- the entries of the first run, from its first position on
first_run : (s : StreamState) (origin i : ℕ) (segments : List Carried) (r : EarlyRun) (runs : List EarlyRun) (e : Entry) → Holds s origin segments
    → s.runs ≡ r ∷ runs → s.position + i < stop s
    → run_entry r (s.position + i) ≡ Some e → first_entry segments (origin + s.position + i) ≡ Some e
first_run s origin i segments r runs e holds is lt there =
    ap (first_entry segments) (let h : origin + s.position + i ≡ origin + (s.position + i) = omega arith in h)
    ∙ sym (holds.entries (s.position + i) (omega arith) lt)
    ∙ ap (λ (rs : List EarlyRun). early_entry rs (s.position + i)) is
    ∙ ap (λ (o : Option Entry). first o (early_entry runs (s.position + i))) there

hands_held : (s : StreamState) (origin : ℕ) (segments : List Carried) (r : EarlyRun) (runs : List EarlyRun) → Holds s origin segments
    → s.runs ≡ r ∷ runs → r.at ≡ s.position
    → s.position < stop s → 0 < length r.bytes
    → HandsOn segments (origin + s.position) (take (stop s - s.position) r.bytes) r.begins r.time
hands_held s origin segments r runs holds is at going some =
    let n = stop s - s.position in
    let long : length (take n r.bytes) ≡ min n (length r.bytes) = length-take n r.bytes in
    record {
      some = omega arith;
      each = λ i lt.
          let x = s.position + i in
          let same : get_or r.bytes (x - r.at) 0 ≡ get_or (take n r.bytes) i 0 =
          ap (λ (j : ℕ). get_or r.bytes j 0) (let e : x - r.at ≡ i = omega arith in e) ∙ sym (get_or-take n r.bytes i 0 (omega arith)) in
          let first_byte : (r.begins && nat_eq x r.at) ≡ (r.begins && nat_eq i 0) = rw at (begins_at r.begins s.position i) in
          first_run s origin i segments r runs (captured_byte (get_or (take n r.bytes) i 0) (r.begins && nat_eq i 0) r.time) holds is (omega arith)
          (entry_byte r.at r.bytes r.missing r.begins r.time x (omega arith) (omega arith)
          ∙ ap (λ (b : ℕ). Some (captured_byte b (r.begins && nat_eq x r.at) r.time)) same
          ∙ ap (λ (b : Bool). Some (captured_byte (get_or (take n r.bytes) i 0) b r.time)) first_byte);
    }

cut_held : (s : StreamState) (origin : ℕ) (segments : List Carried) (r : EarlyRun) (runs : List EarlyRun) → Holds s origin segments
    → s.runs ≡ r ∷ runs → r.at ≡ s.position
    → s.position < stop s → length r.bytes ≡ 0 → 0 < r.missing
    → WereCutOff segments (origin + s.position) (min r.missing (stop s - s.position)) r.time
cut_held s origin segments r runs holds is at going none some = record {
  some = omega arith;
  each = λ i lt.
      first_run s origin i segments r runs (cut_off r.time) holds is (omega arith)
      (entry_cut r.at r.bytes r.missing r.begins r.time (s.position + i) (omega arith) (omega arith));
}

-- behind the first run, or up to the end before that
behind_run : (s : StreamState) (origin n : ℕ) (segments : List Carried) (r : EarlyRun) (runs : List EarlyRun) → Holds s origin segments
    → s.runs ≡ r ∷ runs → AreInOrder s.position (r ∷ runs)
    → s.position + n ≤ run_end r → ((x : ℕ) → s.position + n ≤ x → x < stop s → run_end r ≤ x)
    → IsAt (moved n runs s) origin (s.position + n) segments
behind_run s origin n segments r runs holds is order few past = record {
  at = refl;
  holds = record {
    first = holds.first;
    order = order_from (run_end r) (s.position + n) runs order.2 few;
    entries = λ x le lt.
        sym (past_first r runs x (past x le lt)) ∙ ap (λ (rs : List EarlyRun). early_entry rs x) (sym is) ∙ holds.entries x (omega arith) lt;
  };
}

settled_run : (s : StreamState) (origin : ℕ) (segments : List Carried) (r : EarlyRun) (runs : List EarlyRun) (otherwise : Delivery) (P : Delivery → Type 0)
    → Holds s origin segments → s.runs ≡ r ∷ runs → AreInOrder s.position (r ∷ runs) → r.at ≡ s.position → s.position < stop s
    → held s ≡ take (stop s - s.position) r.bytes
    → ((t : StreamStep) (z : StreamState) → Settles t segments origin s.position z → P (delivered t z))
    → P (or_step (settled_by (Some (summary r)) s).step (settled_by (Some (summary r)) s).state otherwise)
settled_run s origin segments r runs otherwise P holds is order at going lends settles = elim (cases_lt 0 (length r.bytes)) [
  | inl some ↦
      rw (lt-ltb 0 (length r.bytes) some) (settles (Held r.time r.begins) s
      (rw lends (hands_held s origin segments r runs holds is at going some), record { at = refl; holds = holds }))
  | inr none ↦
      let more = order.1 in
      let n = min r.missing (stop s - s.position) in
      let rest : behind_first s.runs ≡ runs = rw (is, le-ltb 0 (length r.bytes) none) refl in
      rw (le-ltb 0 (length r.bytes) none, rest) (settles (Gap n Snapped r.time) (moved n runs s) (
        cut_held s origin segments r runs holds is at going (omega arith) (omega arith),
        behind_run s origin n segments r runs holds is order
            (omega arith) (λ x le lt. omega arith),
      ))
]

-- Either that, or what is delivered otherwise, where the first run lies behind the position.
settled_or : (stage : Stage) (first position : ℕ) (runs : List EarlyRun) (end : Option ℕ) (origin : ℕ) (segments : List Carried) (otherwise : Delivery)
    (P : Delivery → Type 0)
    → Holds (stream_state stage first position runs end) origin segments → position < stop_at end
    → ((t : StreamStep) (z : StreamState) → Settles t segments origin position z → P (delivered t z))
    → (AreInOrder (suc position) runs → P otherwise)
    → let s = stream_state stage first position runs end in P
    (or_step (settled_by (summary_at position runs) s).step (settled_by (summary_at position runs) s).state otherwise)
settled_or stage first position [] end origin segments otherwise P holds going settles other = other tt
settled_or stage first position (r ∷ runs) end origin segments otherwise P holds going settles other =
    let s = stream_state stage first position (r ∷ runs) end in
    elim (cases_eq r.at position) [
      | inl at ↦
          rw (eq-eqb r.at position at) (settled_run s origin segments r runs otherwise P holds refl holds.order at going
          (rw (eq-eqb r.at position at) refl) settles)
      | inr later ↦
          let low = holds.order.0 in
          rw (ne_eqb r.at position later) (other (omega arith, holds.order.1, holds.order.2))
    ]

or_else_by : (s : StreamState) (origin : ℕ) (segments : List Carried) (otherwise : Delivery) (P : Delivery → Type 0)
    → Holds s origin segments
    → ((t : StreamStep) (z : StreamState) → Settles t segments origin s.position z → P (delivered t z))
    → (s.position < stop s → AreInOrder (suc s.position) s.runs → P otherwise)
    → P (or_else s otherwise)
or_else_by s origin segments otherwise P holds settles other = elim (cases_lt s.position (stop s)) [
  | inl going ↦
      rw (lt-leb (stop s) s.position going)
      (settled_or s.stage s.first s.position s.runs s.end origin segments otherwise P holds going settles (other going))
  | inr past ↦ rw (le-leb (stop s) s.position past) (settles Ended (ended s) past)
]

-- ---- a part of a segment

put_next : (s : StreamState) (origin start : ℕ) (segments : List Carried) (g : Segment) (l : Place) (p : Part)
    → Holds s origin segments → Lies origin s.position start g l → IsFree 0 s.position l.at (min l.to (stop s)) s.runs p → p.from ≡ s.position → p.from < p.to
    → Delivers (next_part s g l p).step segments origin s.position start g (next_part s g l p).state
put_next s origin start segments g l p holds lies free next some =
    let count = min (length g.bytes - l.skip) (p.to - p.from) in
    let behind = free.next next some in
    elim (cases_lt 0 count) [
      | inl more ↦
          rw (lt-ltb 0 count more) (
            omega (arith, length-take count (drop l.skip g.bytes), length-drop l.skip g.bytes),
            hands_bytes s origin start segments g l p count holds lies free next more (omega arith) (omega arith),
            goes_past (moved count s.runs s) (s.position + count) origin start (origin + s.position + count) g segments
                (goes_on s count origin segments holds (order_from p.to (s.position + count) s.runs behind (omega arith))) (omega arith),
          )
      | inr none ↦
          let n = p.to - p.from in
          rw (le-ltb 0 count none) (
            was_cut s origin start segments g l p holds lies free next some (omega arith),
            goes_past (moved n s.runs s) (s.position + n) origin start (origin + s.position + n) g segments
                (goes_on s n origin segments holds (order_from p.to (s.position + n) s.runs behind (omega arith))) (omega arith),
          )
    ]

put_early : (s : StreamState) (origin start : ℕ) (segments : List Carried) (g : Segment) (l : Place) (p : Part) (room : ℕ)
    → Holds s origin segments → Lies origin s.position start g l → IsFree 0 s.position l.at (min l.to (stop s)) s.runs p → s.position < p.from
    → p.from < p.to → AreInOrder (suc s.position) s.runs
    → Delivers (early_part s g l p room).step segments origin s.position start g (early_part s g l p room).state
put_early s origin start segments g l p room holds lies free later some behind =
    let count = size s + length (early_bytes g l p) + 144 in
    elim (cases_lt room count) [
      | inl full ↦
          let n = first_at p.from s.runs - s.position in
          let above = first_above (suc s.position) p.from s.runs behind (omega arith) in
          rw (lt-leb count room full) (
            record { some = omega arith; none = λ i lt. lacks_it s origin start segments g l p i holds lies free some lt },
            refl,
            goes_on s n origin segments holds (order_from (first_at p.from s.runs) (s.position + n) s.runs
                (order_first s.position p.from s.runs holds.order) (omega arith)),
          )
      | inr enough ↦
          let run = early_run_of g l p in
          let ends = run_ends g l p some in
          rw (le-leb count room enough) (
            origin + p.to,
            record {
              at = refl;
              holds = record {
                first = holds.first;
                order = subst (λ (i : ℕ). AreInOrder s.position (insert s.runs i run)) (let e : p.index - 0 ≡ p.index = omega arith in e)
                    (free.fits run refl ends (omega arith));
                entries = kept s origin start segments g l p holds lies free some;
              };
            },
          )
    ]

put : (s : StreamState) (origin start : ℕ) (segments : List Carried) (g : Segment) (l : Place) (p : Part) (room : ℕ)
    → Holds s origin segments → Lies origin s.position start g l → IsFree 0 s.position l.at (min l.to (stop s)) s.runs p → AreInOrder (suc s.position) s.runs
    → Delivers (placed s g l p room).step segments origin s.position start g (placed s g l p room).state
put s origin start segments g l p room holds lies free behind = elim (cases_lt p.from p.to) [
  | inl some ↦
      rw (lt-leb p.to p.from some) (elim (cases_eq p.from s.position) [
        | inl next ↦ rw (eq-eqb p.from s.position next) (put_next s origin start segments g l p holds lies free next some)
        | inr early ↦
            let low = lies.from in
            let order = free.order in
            rw (ne_eqb p.from s.position early) (put_early s origin start segments g l p room holds lies free (omega arith) some behind)
      ])
  | inr none ↦ rw (le-leb p.to p.from none) (all_taken s origin start segments g l p holds lies free none)
]

-- ---- each call

received_delivers : (old : StreamState) (origin start : ℕ) (segments : List Carried) (g : Segment) (room : ℕ)
    → Holds old origin segments → IsNear (origin + old.position) start → first_number g.control ≡ start % 2 ^ 32
    → Delivers (received old g room).step segments origin old.position start g (received old g room).state
received_delivers old origin start segments g room holds near numbers =
    let l = place_in old g in
    let s = with_end g.control.fin l.to old in
    let there = lies old.first origin old.position start g holds.first numbers near.0 near.1 in
    let low = there.from in
    let h = holds_end old g.control.fin l.to origin segments holds in
    let p = first_free l.at (min l.to (stop s)) s.runs in
    let free = is_first_free s.position l.at (min l.to (stop s)) s.runs holds.order low in
    or_else_by s origin segments (placed s g l p room) (λ (t : Delivery). Delivers t.step segments origin old.position start g t.state) h
    (λ t z is. settles_deliver t segments origin old.position start g z is)
    (λ going behind. put s origin start segments g l p room h there free behind)

not_reset : (rst : Bool) (x y : Delivery) (P : Delivery → Type 0) → rst ≡ false → P y → P (if rst then x else y)
not_reset true x y P is h = absurd cc
not_reset false x y P is h = h

pub delivers : (old : StreamState) (origin start : ℕ) (segments : List Carried) (g : Segment) (room : ℕ)
    → old.stage ≡ Open → Holds old origin segments → IsNear (origin + old.position) start → g.control.rst ≡ false → first_number g.control ≡ start % 2 ^ 32
    → Delivers (after_segment old g room).step segments origin old.position start g (after_segment old g room).state
delivers old origin start segments g room at holds near goes numbers =
    let P : Delivery → Type 0 = λ t. Delivers t.step segments origin old.position start g t.state in
    subst (λ (k : Stage). P (after_segment_at k old g room)) (sym at)
    (not_reset g.control.rst (delivered Reset (ended old)) (received old g room) P goes (received_delivers old origin start segments g room holds near numbers))

lost_follows : (lose : Bool) (s : StreamState) (origin : ℕ) (segments : List Carried) → Holds s origin segments → s.position < stop s
    → AreInOrder (suc s.position) s.runs
    → Follows (lost_or_done lose s).step segments origin s.position (lost_or_done lose s).state
lost_follows true s origin segments holds going behind =
    let n = hole s in
    let above = first_above (suc s.position) (stop s) s.runs behind (omega arith) in (
      record { some = omega arith; none = λ i lt. lacks s origin (stop s) segments i holds (omega arith) lt },
      refl,
      goes_on s n origin segments holds (order_from (first_at (stop s) s.runs) (s.position + n) s.runs
          (order_first s.position (stop s) s.runs holds.order) (omega arith)),
    )
lost_follows false s origin segments holds going behind = record { at = refl; holds = holds }

loses : (s : StreamState) (lose : Bool) (origin : ℕ) (segments : List Carried) → Holds s origin segments
    → Follows (or_else s (lost_or_done lose s)).step segments origin s.position (or_else s (lost_or_done lose s)).state
loses s lose origin segments holds =
    or_else_by s origin segments (lost_or_done lose s) (λ (t : Delivery). Follows t.step segments origin s.position t.state) holds
    (λ t z is. settles_follow t segments origin s.position z is)
    (λ going behind. lost_follows lose s origin segments holds going behind)

pub loses_acknowledged : (old : StreamState) (origin : ℕ) (segments : List Carried) (number : ℕ) → old.stage ≡ Open → Holds old origin segments
    → Follows (after_acknowledgement old number).step segments origin old.position (after_acknowledgement old number).state
loses_acknowledged old origin segments number at holds =
    subst (λ (k : Stage). Follows (after_acknowledgement_at k old number).step segments origin old.position
    (after_acknowledgement_at k old number).state) (sym at)
    (loses old (is_lost old number) origin segments holds)

pub loses_at_close : (old : StreamState) (origin : ℕ) (segments : List Carried) → old.stage ≡ Open → Holds old origin segments
    → Follows (after_close old).step segments origin old.position (after_close old).state
loses_at_close old origin segments at holds =
    subst (λ (k : Stage). Follows (after_close_at k old).step segments origin old.position (after_close_at k old).state) (sym at)
    (loses old (knows_hole old) origin segments holds)

-- ---- the beginning

pub begins_empty : (begins : Bool) (old : StreamState) (g : Segment) (origin : ℕ) → begins ≡ begins_stream g → begins ≡ true
    → first_number g.control ≡ origin % 2 ^ 32
    → IsAt (begun old g).state origin 0 []
begins_empty true old g origin is begins numbers = rw (← is) (record { at = refl; holds = record { first = numbers; order = tt; entries = λ x le lt. refl } })
begins_empty false old g origin is begins numbers = absurd cc

-- ---- behind the bytes that were lent

-- a run goes on behind its bytes
behind_bytes : (r : EarlyRun) (runs : List EarlyRun) (x : ℕ) → r.at + length r.bytes ≤ x → early_entry (without_bytes r ∷ runs) x ≡ early_entry (r ∷ runs) x
behind_bytes r runs x le =
    let at = r.at + length r.bytes in
    ap (λ (o : Option Entry). first o (early_entry runs x)) (elim (cases_lt x (run_end r)) [
      | inl inside ↦ entry_cut at [] r.missing false r.time x (omega arith) (omega arith) ∙ sym (entry_cut r.at r.bytes r.missing r.begins r.time x le inside)
      | inr past ↦ entry_past at [] r.missing false r.time x (omega arith) ∙ sym (entry_past r.at r.bytes r.missing r.begins r.time x past)
    ])

pass_run : (s : StreamState) (origin n : ℕ) (segments : List Carried) (r : EarlyRun) (runs : List EarlyRun) → Holds s origin segments
    → s.runs ≡ r ∷ runs → AreInOrder s.position (r ∷ runs)
    → r.at ≡ s.position → 0 < length r.bytes → n ≡ min (length r.bytes) (stop s - s.position)
    → IsAt (moved n (behind_first (r ∷ runs)) s) origin (s.position + n) segments
pass_run s origin n segments r runs holds is order at some few = elim (cases_lt 0 r.missing) [
  | inl more ↦
      let low = order.0 in
      let e : run_end (without_bytes r) ≡ run_end r = omega arith in
      rw (lt-ltb 0 (length r.bytes) some, lt-ltb 0 r.missing more) (record {
        at = refl;
        holds = record {
          first = holds.first;
          order = (omega arith, omega arith, order_from (run_end r) (run_end (without_bytes r)) runs order.2 (omega arith));
          entries = λ x le lt.
              behind_bytes r runs x (omega arith) ∙ ap (λ (rs : List EarlyRun). early_entry rs x) (sym is) ∙ holds.entries x (omega arith) lt;
        };
      })
  | inr none ↦
      rw (lt-ltb 0 (length r.bytes) some, le-ltb 0 r.missing none)
      (behind_run s origin n segments r runs holds is order (omega arith) (λ x le lt. omega arith))
]

lent : (s : StreamState) (origin n m : ℕ) (segments : List Carried) → IsAt s origin n segments → n ≡ m → IsAt s origin m segments
lent s origin n m segments h e = subst (λ (k : ℕ). IsAt s origin k segments) e h

passes : (stage : Stage) (first position : ℕ) (runs : List EarlyRun) (end : Option ℕ) (origin : ℕ) (segments : List Carried)
    → let s = stream_state stage first position runs end in
    Holds s origin segments → IsAt (passed s) origin (position + length (held s)) segments
passes stage first position [] end origin segments holds =
    let s = stream_state stage first position [] end in
    record { at = omega (arith, length-take {A = ℕ} (stop s - position) []); holds = holds }
passes stage first position (r ∷ runs) end origin segments holds =
    let s = stream_state stage first position (r ∷ runs) end in
    elim (cases_eq r.at position) [
      | inl at ↦
          rw (eq-eqb r.at position at) (elim (cases_lt 0 (length r.bytes)) [
            | inl some ↦
                let n = min (length r.bytes) (stop s - position) in
                let h = lent (moved n (behind_first (r ∷ runs)) s) origin (position + n) (position + length (take (stop s - position) r.bytes)) segments
                (pass_run s origin n segments r runs holds refl holds.order at some refl) (omega (arith, length-take (stop s - position) r.bytes)) in
                rw (lt-ltb 0 (length r.bytes) some) (rw (lt-ltb 0 (length r.bytes) some) at h)
            | inr none ↦
                rw (le-ltb 0 (length r.bytes) none) (record { at = omega (arith, length-take (stop s - position) r.bytes); holds = holds })
          ])
      | inr later ↦
          rw (ne_eqb r.at position later) (record { at = omega (arith, length-take {A = ℕ} (stop s - position) []); holds = holds })
    ]

pub passes_held : (s : StreamState) (origin : ℕ) (segments : List Carried) → Holds s origin segments
    → IsAt (passed s) origin (s.position + length (held s)) segments
passes_held s origin segments holds = passes s.stage s.first s.position s.runs s.end origin segments holds
