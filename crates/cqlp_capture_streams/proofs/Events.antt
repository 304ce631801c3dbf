-- What events report, one after the other, and what a listener has got of them.
use Rattle.std.proofs.Common.{◌≡◌, ◌∙◌, ◌⊎◌, ℕ, ◌+◌, ◌≤◌, ◌&&◌, true, false, List, [], ◌∷◌, ◌++◌, length, take, drop, Option, Some, None, Ok, Err, refl, sym, ap, subst, inl, inr, append_assoc, append-nil, cond, Bool, length-drop, arith}
use Rattle.std.proofs.lemmas.List.{take-append-drop}
use Rattle.cqlp_note.specs.Reader.{More, says}
use Rattle.cqlp_capture.specs.declared.event.CaptureEnd.{CaptureEnd}
use Rattle.cqlp_capture.specs.declared.event.CaptureEnd.TheVariants as end
use Rattle.cqlp_capture.specs.declared.event.CaptureEvent.{CaptureEvent}
use Rattle.cqlp_capture.specs.declared.event.CaptureStep.{CaptureStep}
use Rattle.cqlp_capture.specs.declared.event.CaptureStep.TheVariants as answer
use Rattle.cqlp_capture.specs.declared.limits.CaptureLimits.{CaptureLimits}
use Rattle.cqlp_capture.specs.declared.refusal.CaptureRefusal.{CaptureRefusal}
use Rattle.cqlp_capture.specs.Reading.{Event, Hears, start, step}
use Rattle.cqlp_capture.specs.Places.{began, is_between}
use Rattle.cqlp_capture.specs.Progress.{After, AfterBy, AnswersFrom, CaptureState, EndsAs, FinishesBy, Leads, ending, ending_by, event_of, is_empty}
use Rattle.cqlp_capture_streams.specs.declared.fault.StreamsFault.{StreamsFault}
use Rattle.cqlp_capture_streams.specs.declared.fault.StreamsFault.TheVariants as fault
use Rattle.cqlp_capture_streams.specs.ConnectionEvents.{ConnectionEvent}
use Rattle.cqlp_capture_streams.specs.Listening.{AreEndless, FailsAtLast, after_all}
use Rattle.cqlp_capture_streams.specs.Packets.{Finishes, SplitState, ReportsEvent, ReportsEvents}
use Rattle.cqlp_capture_streams.specs.Captures.{EndsSo, EndsTo, Has, HearsAll, IsAtEndBy, IsAtEndOf, ReadsMade, ReportsFirst}
use Rattle.cqlp_capture_streams.proofs.Getting.{after_others, endless_more, fails_others, one_longer}

-- one event more
pub events_more : (s m u : SplitState) (es : List (ℕ × Event)) (e : ℕ × Event) (ss ts : List ConnectionEvent) → ReportsEvents s es ss m → ReportsEvent true m e.1 ts u → ReportsEvents s (es ++ e ∷ []) (ss ++ ts) u
events_more s m u [] e ss ts (none, same) a =
    (u, ts, [], ap (λ z. z ++ ts) none ∙ sym (append-nil ts), subst (λ z. ReportsEvent true z e.1 ts u) same a, (refl, refl))
events_more s m u (x ∷ xs) e ss ts (k, first, rest, parts, head, tail) a =
    (k, first, rest ++ ts, ap (λ z. z ++ ts) parts ∙ append_assoc first rest ts, head, events_more k m u xs e rest ts tail a)

-- ---- a call of the reader

-- the limits stay
pub same_limits : (o : Option CaptureRefusal) (old new : CaptureState) (input : List ℕ) (x : CaptureStep) → AnswersFrom o old input x new → new.limits ≡ old.limits
same_limits (Some r) old new input x a = ap (λ (z : CaptureState). z.limits) a.1
same_limits None old new input (answer.More used) a = ap (λ (z : CaptureState). z.limits) a.goes.left
same_limits None old new input (answer.Event at used e) a = ap (λ (z : CaptureState). z.limits) a.hands.left
same_limits None old new input (answer.Refused r) a = ap (λ (z : CaptureState). z.limits) a.fails.left

-- more is wanted behind what is pending
pub wants_more : (o : Option CaptureRefusal) (old new : CaptureState) (input : List ℕ) (used : ℕ) → o ≡ None → AnswersFrom o old input (answer.More used) new → says (step new.limits new.spot) 0 new.pending ≡ More
wants_more (Some r) old new input used none a = absurd (let e = none in cc)
wants_more None old new input used none a = subst (λ (z : CaptureState). says (step z.limits z.spot) 0 z.pending ≡ More) (sym a.goes.left) a.goes.is

-- what was read of a file that was not refused
pub hears_by : (o : Option CaptureRefusal) (d : CaptureState) (s : List ℕ) (es : List (ℕ × Event)) → o ≡ None → AfterBy o d s es → Hears d.limits start s es d.spot d.pending
hears_by None d s es none a = a
hears_by (Some r) d s es none a = absurd (let e = none in cc)

pub hears_here : (d : CaptureState) (s : List ℕ) (es : List (ℕ × Event)) → d.refusal ≡ None → After d s es → Hears d.limits start s es d.spot d.pending
hears_here d s es none a = hears_by d.refusal d s es none a

-- one event more was reported
pub has_more : {V : Type 0} (after : V → ConnectionEvent → V) (t : SplitState) (before : V) (s input : List ℕ) (d d' : CaptureState) (u u' : SplitState) (v v' : V) (at used : ℕ) (e : CaptureEvent) (ts : List ConnectionEvent) → (h : Has after t before s d u v) → Leads d s h.events input (answer.Event at used e) d' → ReportsEvent true u (event_of e) ts u' → v' ≡ after_all after v ts → (next : Has after t before (s ++ take used input) d' u' v') × (length next.events ≡ length h.events + 1)
has_more after t before s input d d' u u' v v' at used e ts h leads reports is = (
  record {
    events = h.events ++ (at, event_of e) ∷ [];
    connection_events = h.connection_events ++ ts;
    conforms = leads.3;
    reports = events_more t u u' h.events (at, event_of e) h.connection_events ts h.reports reports;
    got = is ∙ ap (λ z. after_all after z ts) h.got ∙ sym (after_others after before h.connection_events ts);
  },
  one_longer h.events (at, event_of e) (length h.events) refl,
)

-- the bytes before an offset and those from there on
pub parted_at : (s piece : List ℕ) (n : ℕ) → (s ++ take n piece) ++ drop n piece ≡ s ++ piece
parted_at s piece n = append_assoc s (take n piece) (drop n piece) ∙ ap (λ z. s ++ z) (take-append-drop n piece)

-- at one event something failed
pub fails_at : {V : Type 0} (after : V → ConnectionEvent → V) (faulted : V → ConnectionEvent → StreamsFault → V → Type 0) (l : CaptureLimits) (t : SplitState) (before : V) (s input : List ℕ) (d d' : CaptureState) (u u' : SplitState) (v v' : V) (at used : ℕ) (e : CaptureEvent) (ts : List ConnectionEvent) (f : StreamsFault) → (h : Has after t before s d u v) → Leads d s h.events input (answer.Event at used e) d' → d'.limits ≡ l → ReportsEvent false u (event_of e) ts u' → FailsAtLast after faulted (AreEndless ts) v ts f v' → (ss : List ConnectionEvent) × (first : ReportsFirst l t (s ++ input) ss u') × FailsAtLast after faulted (AreEndless ss ⊎ AreEndless first.events) before ss f v' × (length first.later ≤ length input)
fails_at after faulted l t before s input d d' u u' v v' at used e ts f h leads same reports fails = (
  h.connection_events ++ ts,
  record {
    used = s ++ take used input;
    later = drop used input;
    parts = sym (parted_at s input used);
    events = h.events ++ (at, event_of e) ∷ [];
    spot = d'.spot;
    rest = d'.pending;
    hears = subst (λ (z : CaptureLimits). Hears z start (s ++ take used input) (h.events ++ (at, event_of e) ∷ []) d'.spot d'.pending) same (hears_here d' (s ++ take used input) (h.events ++ (at, event_of e) ∷ []) leads.1 leads.3);
    reports = inr (h.events, (at, event_of e), refl, u, h.connection_events, ts, refl, h.reports, reports);
  },
  fails_others after faulted (AreEndless ts) _ before v v' h.connection_events ts f (λ many. inl (endless_more h.connection_events ts many)) h.got fails,
  omega (arith, length-drop used input),
)

-- there was no end to it
pub never_ends : {V : Type 0} (after : V → ConnectionEvent → V) (faulted : V → ConnectionEvent → StreamsFault → V → Type 0) (l : CaptureLimits) (t : SplitState) (before : V) (s later : List ℕ) (d : CaptureState) (u : SplitState) (v : V) → (h : Has after t before s d u v) → AreEndless h.events → d.refusal ≡ None → d.limits ≡ l → (ss : List ConnectionEvent) × (first : ReportsFirst l t (s ++ later) ss u) × FailsAtLast after faulted (AreEndless ss ⊎ AreEndless first.events) before ss fault.TooManyTurns v × (length first.later ≤ length later)
never_ends after faulted l t before s later d u v h many none same = (
  h.connection_events,
  record {
    used = s;
    later = later;
    parts = refl;
    events = h.events;
    spot = d.spot;
    rest = d.pending;
    hears = subst (λ (z : CaptureLimits). Hears z start s h.events d.spot d.pending) same (hears_here d s h.events none h.conforms);
    reports = inl h.reports;
  },
  inl (refl, inr many, h.got),
  omega arith,
)

-- ---- the end of the file

ends_at : (b : Bool) (d : CaptureState) (s : List ℕ) (es : List (ℕ × Event)) (e : CaptureEnd) → is_between d.spot.place.stage && is_empty d.pending ≡ b → e ≡ cond b (end.Whole d.spot.place.offset) (end.Cut (began d.spot.place) (d.spot.place.offset + length d.pending)) → HearsAll d.limits s es d.spot d.pending → FinishesBy None d s e → EndsSo d.limits s es e
ends_at true d s es e test is h f =
    let there = subst (λ (z : CaptureEnd). FinishesBy None d s z) is f in
    subst (λ (z : CaptureEnd). EndsSo d.limits s es z) (sym is) (there.0, d.spot, d.pending, h, test)
ends_at false d s es e test is h f =
    let there = subst (λ (z : CaptureEnd). FinishesBy None d s z) is f in
    subst (λ (z : CaptureEnd). EndsSo d.limits s es z) (sym is) (there.0, d.spot, d.pending, h, test, refl)

pub ends_by : (o : Option CaptureRefusal) (d : CaptureState) (s read : List ℕ) (es : List (ℕ × Event)) (e : CaptureEnd) → AfterBy o d s es → IsAtEndBy o d read s es → e ≡ ending_by o d → FinishesBy o d s e → EndsSo d.limits read es e
ends_by (Some r) d s read es e a at is f = subst (λ (z : CaptureEnd). EndsSo d.limits read es z) (sym is) at
ends_by None d s read es e a at is f =
    subst (λ z. EndsSo d.limits z es e) at.0 (ends_at (is_between d.spot.place.stage && is_empty d.pending) d s es e refl is (record { hears = a; wants = at.1 }) f)

-- all connections left
pub ends_ok : {V : Type 0} (after : V → ConnectionEvent → V) (faulted : V → ConnectionEvent → StreamsFault → V → Type 0) (t : SplitState) (turns : ℕ) (m : ReadsMade) (before : V) (s read : List ℕ) (d : CaptureState) (u u' : SplitState) (v v' : V) (e : CaptureEnd) (last : List ConnectionEvent) → (h : Has after t before s d u v) → IsAtEndOf d read s h.events → e ≡ ending d → EndsAs d e → Finishes true u last u' → v' ≡ after_all after v last → EndsTo after faulted d.limits t turns m before read (Ok e) u' v'
ends_ok after faulted t turns m before s read d u u' v v' e last h at is f leave got = (
  h.connection_events ++ last,
  record {
    events = h.events;
    ends = ends_by d.refusal d s read h.events e h.conforms at is (f s h.events h.conforms);
    mid = u;
    front = h.connection_events;
    reports = h.reports;
    last = last;
    leave = leave;
    all = refl;
  },
  got ∙ ap (λ z. after_all after z last) h.got ∙ sym (after_others after before h.connection_events last),
)

-- something failed while they left
pub ends_err : {V : Type 0} (after : V → ConnectionEvent → V) (faulted : V → ConnectionEvent → StreamsFault → V → Type 0) (t : SplitState) (turns : ℕ) (m : ReadsMade) (before : V) (s read : List ℕ) (d : CaptureState) (u u' : SplitState) (v v' : V) (e : CaptureEnd) (f : StreamsFault) (last : List ConnectionEvent) → (h : Has after t before s d u v) → IsAtEndOf d read s h.events → e ≡ ending d → EndsAs d e → Finishes false u last u' → FailsAtLast after faulted (AreEndless last) v last f v' → EndsTo after faulted d.limits t turns m before read (Err f) u' v'
ends_err after faulted t turns m before s read d u u' v v' e f last h at is ends leave fails = (
  h.connection_events ++ last,
  inr (inr (
    record {
      events = h.events;
      end = e;
      ends = ends_by d.refusal d s read h.events e h.conforms at is (ends s h.events h.conforms);
      mid = u;
      front = h.connection_events;
      reports = h.reports;
      last = last;
      leave = leave;
      all = refl;
    },
    fails_others after faulted (AreEndless last) (AreEndless (h.connection_events ++ last)) before v v' h.connection_events last f (endless_more h.connection_events last) h.got fails,
  )),
)
