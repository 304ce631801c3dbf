-- What a file says is one list of events with one verdict, which goes on where more bytes come.
use Rattle.std.proofs.Common.{◌≡◌, ℕ, zero, suc, ◌+◌, ◌<◌, ◌≤◌, List, [], ◌∷◌, ◌++◌, length, take, drop, refl, sym, ap, subst, ◌∙◌, inl, inr, arith}
use Rattle.std.specs.Prelude.{Option, Some, None}
use Rattle.std.proofs.lemmas.List.{append-nil, length-drop, length-take-le}
use Rattle.std.proofs.lemmas.Bool.{cases_lt}
use Rattle.cqlp_note.specs.Reader.{Said, More, Got, Bad, says}
use Rattle.cqlp_note.proofs.Readers.{says_stays}
use Rattle.cqlp_note.proofs.Runs.{stays_bad}
use Rattle.cqlp_capture.specs.declared.limits.CaptureLimits.{CaptureLimits}
use Rattle.cqlp_capture.specs.declared.refusal.CaptureRefusal.{CaptureRefusal}
use Rattle.cqlp_capture.specs.Places.{IsSpot, due}
use Rattle.cqlp_capture.specs.Reading.{Event, Emitted, Spot, after_emission, wanted, step, start, heard, heard_first, Reads, Hears, Verdict, Waits, Refused, Ends, Says}
use Rattle.cqlp_capture.specs.Progress.{CaptureState, AfterBy, After}
use Rattle.cqlp_capture.proofs.Tests.{Fits}
use Rattle.cqlp_capture.proofs.Leading.{read_leads}
use Rattle.cqlp_capture.proofs.Runs.{reads_stay, reads_compare, reads_at, got_yields, heard-append, heard-length}

-- the place where a file begins
pub at_start : (l : CaptureLimits) → IsSpot l start
at_start l = record { place = (refl, tt); known = refl }

module _ (l : CaptureLimits) where
  pub no_step : (q r : Spot) (rest rest' : List ℕ) (v : Verdict) (es : List (ℕ × Option Event)) → Ends (says (step l q) 0 rest) v → Reads l q rest es r rest' → es ≡ []
  no_step q r rest rest' v [] ends run = refl
  no_step q r rest rest' v (e ∷ es) ends run = absurd (rw run.2 at ends)

  same_verdict : (d : Said Emitted CaptureRefusal) (v w : Verdict) → Ends d v → Ends d w → v ≡ w
  same_verdict More Waits Waits a b = refl
  same_verdict More Waits (Refused r) a b = absurd b
  same_verdict More (Refused r) w a b = absurd a
  same_verdict (Bad f) Waits w a b = absurd a
  same_verdict (Bad f) (Refused r) Waits a b = absurd b
  same_verdict (Bad f) (Refused r) (Refused s) a b = ap Refused (sym a ∙ b)
  same_verdict (Got x used) v w a b = absurd a

  ends_at : (q q' : Spot) (rest rest' : List ℕ) (v : Verdict) → q' ≡ q → rest' ≡ rest → Ends (says (step l q') 0 rest') v → Ends (says (step l q) 0 rest) v
  ends_at q q' rest rest' v there same h = subst (λ (z : List ℕ). Ends (says (step l q) 0 z) v) same (subst (λ (z : Spot). Ends (says (step l z) 0 rest') v) there h)

  is_bad : (d : Said Emitted CaptureRefusal) (r : CaptureRefusal) → Ends d (Refused r) → d ≡ Bad r
  is_bad More r h = absurd h
  is_bad (Bad f) r h = ap Bad h
  is_bad (Got x used) r h = absurd h

  -- the events of more steps
  more_heard : (steps steps' more : List (ℕ × Option Event)) (es es' : List (ℕ × Event)) → heard steps ≡ es → heard steps' ≡ es' → steps' ≡ steps ++ more → es' ≡ es ++ heard more
  more_heard steps steps' more es es' a b is = sym b ∙ ap heard is ∙ heard-append steps more ∙ ap (λ (x : List (ℕ × Event)). x ++ heard more) a

  none_heard : (more : List (ℕ × Option Event)) (es es' : List (ℕ × Event)) → more ≡ [] → es' ≡ es ++ heard more → es' ≡ es
  none_heard more es es' none is = is ∙ ap (λ (x : List (ℕ × Option Event)). es ++ heard x) none ∙ append-nil es

  module _ (p : Spot) (bytes t : List ℕ) (es es' : List (ℕ × Event)) (v v' : Verdict) (a : Says l p bytes es v) (b : Says l p (bytes ++ t) es' v') where
    goes_on : (more : List (ℕ × Option Event)) × (b.2.steps ≡ a.2.steps ++ more) × Reads l a.0 (a.1 ++ t) more b.0 b.1
    goes_on =
        let a' = reads_stay l p bytes t a.2.steps a.0 a.1 a.2.reads in
        elim (cases_lt (length b.2.steps) (length a.2.steps)) [
          | inl lt ↦
              let c = reads_compare l p b.0 a.0 (bytes ++ t) b.1 (a.1 ++ t) b.2.steps a.2.steps b.2.reads a' (omega arith) in
              let none = no_step b.0 a.0 b.1 (a.1 ++ t) v' c.0 b.3 c.2 in
              let same : a.2.steps ≡ b.2.steps = c.1 ∙ ap (λ (x : List (ℕ × Option Event)). b.2.steps ++ x) none ∙ append-nil b.2.steps in
              absurd (omega (arith, ap length same))
          | inr le ↦ reads_compare l p a.0 b.0 (bytes ++ t) (a.1 ++ t) b.1 a.2.steps b.2.steps a' b.2.reads le
        ]

    pub events_go_on : (more : List (ℕ × Event)) × (es' ≡ es ++ more)
    events_go_on = (heard goes_on.0, more_heard a.2.steps b.2.steps goes_on.0 es es' a.2.events b.2.events goes_on.1)

    pub refusal_stays : (r : CaptureRefusal) → v ≡ Refused r → (es' ≡ es) × (v' ≡ v)
    unfolding goes_on events_go_on
    refusal_stays r is =
        let bad : says (step l a.0) 0 a.1 ≡ Bad r = is_bad (says (step l a.0) 0 a.1) r (rw is at a.3) in
        let still : says (step l a.0) 0 (a.1 ++ t) ≡ Bad r = stays_bad r (says_stays (step l a.0) 0 a.1 t) bad in
        let ends : Ends (says (step l a.0) 0 (a.1 ++ t)) (Refused r) = rw still refl in
        let none = no_step a.0 b.0 (a.1 ++ t) b.1 (Refused r) goes_on.0 ends goes_on.2 in
        let there = rw none at goes_on.2 in
        (none_heard goes_on.0 es es' none events_go_on.1, same_verdict (says (step l a.0) 0 (a.1 ++ t)) v' (Refused r) (ends_at a.0 b.0 (a.1 ++ t) b.1 v' there.0 there.1 b.3) ends ∙ sym is)

  pub says_once : (p : Spot) (bytes : List ℕ) (es es' : List (ℕ × Event)) (v v' : Verdict) → Says l p bytes es v → Says l p bytes es' v' → (es' ≡ es) × (v' ≡ v)
  says_once p bytes es es' v v' a b = elim (cases_lt (length b.2.steps) (length a.2.steps)) [
    | inl lt ↦
        let c = reads_compare l p b.0 a.0 bytes b.1 a.1 b.2.steps a.2.steps b.2.reads a.2.reads (omega arith) in
        let none = no_step b.0 a.0 b.1 a.1 v' c.0 b.3 c.2 in
        absurd (omega (arith, ap length (c.1 ∙ ap (λ (x : List (ℕ × Option Event)). b.2.steps ++ x) none ∙ append-nil b.2.steps)))
    | inr le ↦
        let c = reads_compare l p a.0 b.0 bytes a.1 b.1 a.2.steps b.2.steps a.2.reads b.2.reads le in
        let none = no_step a.0 b.0 a.1 b.1 v c.0 a.3 c.2 in
        let there = rw none at c.2 in
        (none_heard c.0 es es' none (more_heard a.2.steps b.2.steps c.0 es es' a.2.events b.2.events c.1), same_verdict (says (step l a.0) 0 a.1) v' v (ends_at a.0 b.0 a.1 b.1 v' there.0 there.1 b.3) a.3)
  ]

-- ---- some reading

abbrev pub SomeReading : CaptureLimits → Spot → List ℕ → Type 0
SomeReading l p bytes = (es : List (ℕ × Event)) × (v : Verdict) × Says l p bytes es v

module _ (l : CaptureLimits) (fits : Fits l) where
  said_then : (p : Spot) (bytes : List ℕ) → ((q : Spot) (rest : List ℕ) → IsSpot l q → due q.place.stage + length rest < due p.place.stage + length bytes → SomeReading l q rest) → IsSpot l p → (d : Said Emitted CaptureRefusal) → says (step l p) 0 bytes ≡ d → SomeReading l p bytes
  said_then p bytes later here More is = ([], Waits, (p, bytes, record { steps = []; events = refl; reads = (refl, refl) }, rw is tt))
  said_then p bytes later here (Bad r) is = ([], Refused r, (p, bytes, record { steps = []; events = refl; reads = (refl, refl) }, rw is refl))
  said_then p bytes later here (Got x used) is =
      let t = got_yields l p bytes x used is in
      let b = take (wanted p.place.stage) bytes in
      let long : length b ≡ wanted p.place.stage = length-take-le (wanted p.place.stage) bytes (let c = t.count in let w = t.within in omega arith) in
      let to = read_leads l fits p b t.emission_is here long t.is in
      let after : x.after ≡ after_emission p.known t.emission_is = ap (λ (y : Emitted). y.after) t.emits in
      let more = later x.after (drop used bytes) (rw after to.near) (omega (arith, to.pays, ap (λ (y : Spot). due y.place.stage) after, t.count, t.within, length-drop used bytes)) in
      let said = more.2 in (
        heard_first x.at x.event more.0,
        more.1,
        (
          said.0,
          said.1,
          record {
            steps = (x.at, x.event) ∷ said.2.steps;
            events = ap (heard_first x.at x.event) said.2.events;
            reads = (used, x.after, is, said.2.reads);
          },
          said.3,
        ),
      )

  said_within : (n : ℕ) (p : Spot) (bytes : List ℕ) → IsSpot l p → due p.place.stage + length bytes < n → SomeReading l p bytes
  said_within zero p bytes here lt = absurd (omega arith)
  said_within (suc n) p bytes here lt = said_then p bytes (λ q rest near less. said_within n q rest near (omega arith)) here (says (step l p) 0 bytes) refl

  pub always_said : (bytes : List ℕ) → SomeReading l start bytes
  always_said bytes = said_within (suc (length bytes)) start bytes (at_start l) (omega arith)

  pub few_events : (bytes : List ℕ) (es : List (ℕ × Event)) (q : Spot) (rest : List ℕ) → Hears l start bytes es q rest → length es ≤ length bytes
  few_events bytes es q rest run =
      let at = reads_at l fits start q bytes rest run.steps (at_start l) run.reads in
      omega (arith, at.paid, heard-length run.steps, ap length run.events)

pub few_handed_out : (d : CaptureState) (s : List ℕ) (es : List (ℕ × Event)) → Fits d.limits → After d s es → length es ≤ length s
few_handed_out d s es fits after = by d.refusal after
  where
    by : (o : Option CaptureRefusal) → AfterBy o d s es → length es ≤ length s
    by None after = few_events d.limits fits s es d.spot d.pending after
    by (Some r) after = few_events d.limits fits s es after.at after.rest after.read
