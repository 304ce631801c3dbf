-- What draining a piece leaves.
use Rattle.std.proofs.Common.{◌≡◌, ◌∙◌, ℕ, ◌+◌, ◌≤◌, arith, List, ◌++◌, length, take, drop, Option, Some, None, Ok, Err, ◌⊎◌, true, false, sym, ap, subst, append_assoc, length-drop}
use Rattle.cqlp_note.specs.Reader.{More, says}
use Rattle.cqlp_capture.specs.declared.event.CaptureEvent.{CaptureEvent}
use Rattle.cqlp_capture.specs.declared.event.CaptureStep.TheVariants as answer
use Rattle.cqlp_capture.specs.declared.limits.CaptureLimits.{CaptureLimits}
use Rattle.cqlp_capture.specs.declared.refusal.CaptureRefusal.{CaptureRefusal}
use Rattle.cqlp_capture.specs.Reading.{Event, Refused, Says, start, step}
use Rattle.cqlp_capture.specs.Progress.{AnswersFrom, CaptureState, Leads, Refuses, event_of}
use Rattle.cqlp_capture.proofs.Moving.{take_two}
use Rattle.cqlp_capture_streams.specs.declared.fault.StreamsFault.{StreamsFault}
use Rattle.cqlp_capture_streams.specs.declared.fault.StreamsFault.TheVariants as fault
use Rattle.cqlp_capture_streams.specs.declared.running.Drained.TheVariants as drained
use Rattle.cqlp_capture_streams.specs.ConnectionEvents.{ConnectionEvent}
use Rattle.cqlp_capture_streams.specs.Listening.{AreEndless, FailsAtLast, after_all}
use Rattle.cqlp_capture_streams.specs.Packets.{SplitState, ReportsEvent}
use Rattle.cqlp_capture_streams.specs.Captures.{DrainsTo, Has, IsAtEndBy, ReportsFirst}
use Rattle.cqlp_capture_streams.proofs.Events.{fails_at, has_more, never_ends, parted_at, same_limits, wants_more}

-- nothing is refused at an event
pub still_free : (o : Option CaptureRefusal) (old new : CaptureState) (input : List ℕ) (at used : ℕ) (e : CaptureEvent) → o ≡ None → AnswersFrom o old input (answer.Event at used e) new → new.refusal ≡ None
still_free (Some r) old new input at used e none a = absurd (let x = none in cc)
still_free None old new input at used e none a = ap (λ (z : CaptureState). z.refusal) a.hands.left

joined : (s piece : List ℕ) (k n : ℕ) → (s ++ take k piece) ++ take n (drop k piece) ≡ s ++ take (k + n) piece
joined s piece k n = append_assoc s (take k piece) (take n (drop k piece)) ∙ ap (λ z. s ++ z) (sym (take_two k n piece))

-- an event of the piece
pub takes_event : {V : Type 0} (after : V → ConnectionEvent → V) (t : SplitState) (before : V) (s piece : List ℕ) (k : ℕ) (d d' : CaptureState) (u u' : SplitState) (v v' : V) (at used : ℕ) (e : CaptureEvent) (ts : List ConnectionEvent) → (h : Has after t before (s ++ take k piece) d u v) → Leads d (s ++ take k piece) h.events (drop k piece) (answer.Event at used e) d' → ReportsEvent true u (event_of e) ts u' → v' ≡ after_all after v ts → (n : ℕ) → n ≤ length h.events → (next : Has after t before (s ++ take (k + used) piece) d' u' v') × (n + 1 ≤ length next.events)
takes_event after t before s piece k d d' u u' v v' at used e ts h leads reports is n few =
    let next = has_more after t before (s ++ take k piece) (drop k piece) d d' u u' v v' at used e ts h leads reports is in
    let enough : n + 1 ≤ length next.0.events = omega (arith, few, next.1) in
    subst (λ z. (next : Has after t before z d' u' v') × (n + 1 ≤ length next.events)) (joined s piece k used) (next.0, enough)

at_end_none : (o : Option CaptureRefusal) (d : CaptureState) (read s : List ℕ) (es : List (ℕ × Event)) → o ≡ None → s ≡ read → says (step d.limits d.spot) 0 d.pending ≡ More → IsAtEndBy o d read s es
at_end_none None d read s es none same wants = (same, wants)
at_end_none (Some r) d read s es none same wants = absurd (let x = none in cc)

at_end_some : (o : Option CaptureRefusal) (d : CaptureState) (read s : List ℕ) (es : List (ℕ × Event)) (r : CaptureRefusal) → o ≡ Some r → Says d.limits start read es (Refused r) → IsAtEndBy o d read s es
at_end_some None d read s es r some says = absurd (let x = some in cc)
at_end_some (Some x) d read s es r some says = let same : r ≡ x = (let y = some in cc) in subst (λ z. Says d.limits start read es (Refused z)) same says

refuses_new : (o : Option CaptureRefusal) (old : CaptureState) (s : List ℕ) (es : List (ℕ × Event)) (input : List ℕ) (r : CaptureRefusal) → o ≡ None → Refuses o old s es input r → Says old.limits start (s ++ input) es (Refused r)
refuses_new None old s es input r none a = a
refuses_new (Some x) old s es input r none a = absurd (let y = none in cc)

pub drained_more : {V : Type 0} (after : V → ConnectionEvent → V) (faulted : V → ConnectionEvent → StreamsFault → V → Type 0) (l : CaptureLimits) (t : SplitState) (before : V) (s piece : List ℕ) (k : ℕ) (d d' : CaptureState) (u : SplitState) (v : V) (used : ℕ) → (h : Has after t before (s ++ take k piece) d u v) → d.limits ≡ l → d.refusal ≡ None → AnswersFrom d.refusal d (drop k piece) (answer.More used) d' → Leads d (s ++ take k piece) h.events (drop k piece) (answer.More used) d' → DrainsTo after faulted l t before s piece (Ok drained.More) d' u v
drained_more after faulted l t before s piece k d d' u v used h same none answers leads = (
  same_limits d.refusal d d' (drop k piece) (answer.More used) answers ∙ same,
  leads.1,
  (s ++ take k piece) ++ drop k piece,
  record {
    events = h.events;
    connection_events = h.connection_events;
    conforms = leads.2;
    reports = h.reports;
    got = h.got;
  },
  at_end_none d'.refusal d' (s ++ piece) ((s ++ take k piece) ++ drop k piece) h.events leads.1 (parted_at s piece k) (wants_more d.refusal d d' (drop k piece) used none answers),
)

pub drained_refused : {V : Type 0} (after : V → ConnectionEvent → V) (faulted : V → ConnectionEvent → StreamsFault → V → Type 0) (l : CaptureLimits) (t : SplitState) (before : V) (s piece : List ℕ) (k : ℕ) (d d' : CaptureState) (u : SplitState) (v : V) (r : CaptureRefusal) → (h : Has after t before (s ++ take k piece) d u v) → d.limits ≡ l → d.refusal ≡ None → AnswersFrom d.refusal d (drop k piece) (answer.Refused r) d' → Leads d (s ++ take k piece) h.events (drop k piece) (answer.Refused r) d' → DrainsTo after faulted l t before s piece (Ok drained.Refused) d' u v
drained_refused after faulted l t before s piece k d d' u v r h same none answers leads =
    let limits = same_limits d.refusal d d' (drop k piece) (answer.Refused r) answers in
    let says = refuses_new d.refusal d (s ++ take k piece) h.events (drop k piece) r none leads.2 in
    let there = subst (λ z. Says d.limits start z h.events (Refused r)) (parted_at s piece k) says in (
      limits ∙ same,
      (r, leads.0),
      s ++ take k piece,
      record {
        events = h.events;
        connection_events = h.connection_events;
        conforms = leads.1;
        reports = h.reports;
        got = h.got;
      },
      at_end_some d'.refusal d' (s ++ piece) (s ++ take k piece) h.events r leads.0 (subst (λ (z : CaptureLimits). Says z start (s ++ piece) h.events (Refused r)) (sym limits) there),
    )

-- something failed at an event of the piece
pub drain_fails : {V : Type 0} (after : V → ConnectionEvent → V) (faulted : V → ConnectionEvent → StreamsFault → V → Type 0) (l : CaptureLimits) (t : SplitState) (before : V) (s piece : List ℕ) (k : ℕ) (d d' : CaptureState) (u u' : SplitState) (v v' : V) (at used : ℕ) (e : CaptureEvent) (ts : List ConnectionEvent) (f' : StreamsFault) → (h : Has after t before (s ++ take k piece) d u v) → d.limits ≡ l → AnswersFrom d.refusal d (drop k piece) (answer.Event at used e) d' → Leads d (s ++ take k piece) h.events (drop k piece) (answer.Event at used e) d' → ReportsEvent false u (event_of e) ts u' → FailsAtLast after faulted (AreEndless ts) v ts f' v' → DrainsTo after faulted l t before s piece (Err f') d' u' v'
drain_fails after faulted l t before s piece k d d' u u' v v' at used e ts f' h same answers leads reports fails =
    let first = fails_at after faulted l t before (s ++ take k piece) (drop k piece) d d' u u' v v' at used e ts f' h leads (same_limits d.refusal d d' (drop k piece) (answer.Event at used e) answers ∙ same) reports fails in
    let there = subst (λ z. (f : ReportsFirst l t z first.0 u') × FailsAtLast after faulted (AreEndless first.0 ⊎ AreEndless f.events) before first.0 f' v' × (length f.later ≤ length piece)) (parted_at s piece k) (first.1, first.2, omega (arith, first.3, length-drop k piece)) in
    (first.0, there.0, there.1, there.2)

-- there was no end to its events
pub never_drained : {V : Type 0} (after : V → ConnectionEvent → V) (faulted : V → ConnectionEvent → StreamsFault → V → Type 0) (l : CaptureLimits) (t : SplitState) (before : V) (s piece : List ℕ) (k : ℕ) (d : CaptureState) (u : SplitState) (v : V) → (h : Has after t before (s ++ take k piece) d u v) → AreEndless h.events → d.refusal ≡ None → d.limits ≡ l → DrainsTo after faulted l t before s piece (Err fault.TooManyTurns) d u v
never_drained after faulted l t before s piece k d u v h many none same =
    let first = never_ends after faulted l t before (s ++ take k piece) (drop k piece) d u v h many none same in
    let there = subst (λ z. (f : ReportsFirst l t z first.0 u) × FailsAtLast after faulted (AreEndless first.0 ⊎ AreEndless f.events) before first.0 fault.TooManyTurns v × (length f.later ≤ length piece)) (parted_at s piece k) (first.1, first.2, omega (arith, first.3, length-drop k piece)) in
    (first.0, there.0, there.1, there.2)
