-- Readings: one for each list of steps, which goes on, and stays whatever bytes follow.
use Rattle.std.proofs.Common.{◌≡◌, ℕ, ◌+◌, ◌-◌, ◌≤◌, List, [], ◌∷◌, ◌++◌, length, take, drop, Result, Ok, Err, refl, sym, ap, ◌∙◌, inl, inr, arith}
use Rattle.std.specs.Prelude.{Option, Some, None}
use Rattle.std.proofs.lemmas.Bool.{cases_lt}
use Rattle.std.proofs.lemmas.List.{drop-drop, drop-append-le, length-drop, length-take-le}
use Rattle.cqlp_note.specs.Reader.{Said, More, Got, says}
use Rattle.cqlp_note.proofs.Readers.{says_stays}
use Rattle.cqlp_note.proofs.Runs.{stays_got, same_got}
use Rattle.cqlp_capture.specs.declared.event.Emission.{Emission}
use Rattle.cqlp_capture.specs.declared.limits.CaptureLimits.{CaptureLimits}
use Rattle.cqlp_capture.specs.declared.refusal.CaptureRefusal.{CaptureRefusal}
use Rattle.cqlp_capture.specs.Places.{IsSpot, due}
use Rattle.cqlp_capture.specs.Laws.{count_from}
use Rattle.cqlp_capture.specs.Reading.{Event, Emitted, Spot, after_emission, event_if, wanted, emission, step, heard, heard_first, Reads, Hears}
use Rattle.cqlp_capture.proofs.Tests.{Fits}
use Rattle.cqlp_capture.proofs.Steps.{said_of, step_waits, step_says}
use Rattle.cqlp_capture.proofs.Leading.{read_leads, counted_if}

same_cons : {X : Type 0} (x y : X) (xs ys : List X) → x ≡ y → xs ≡ ys → x ∷ xs ≡ y ∷ ys
same_cons x y xs ys a b = cc

-- ---- the events of steps

heard_first-append : (at : ℕ) (o : Option Event) (es fs : List (ℕ × Event)) → heard_first at o (es ++ fs) ≡ heard_first at o es ++ fs
heard_first-append at None es fs = refl
heard_first-append at (Some e) es fs = refl

pub heard-append : (xs ys : List (ℕ × Option Event)) → heard (xs ++ ys) ≡ heard xs ++ heard ys
heard-append [] ys = refl
heard-append (x ∷ xs) ys = ap (heard_first x.0 x.1) (heard-append xs ys) ∙ heard_first-append x.0 x.1 (heard xs) (heard ys)

heard_first-length : (at : ℕ) (o : Option Event) (es : List (ℕ × Event)) → length (heard_first at o es) ≤ 1 + length es
heard_first-length at None es = omega arith
heard_first-length at (Some e) es = omega arith

pub heard-length : (xs : List (ℕ × Option Event)) → length (heard xs) ≤ length xs
heard-length [] = omega arith
heard-length (x ∷ xs) = omega (arith, heard_first-length x.0 x.1 (heard xs), heard-length xs)

pub count_first : (n at : ℕ) (o : Option Event) (es : List (ℕ × Event)) → count_from n (heard_first at o es) ≡ count_from (counted_if n o) es
count_first n at None es = refl
count_first n at (Some e) es = refl

module _ (l : CaptureLimits) where
  -- one reading after another
  pub reads_then : (p q r : Spot) (bytes rest rest' : List ℕ) (es fs : List (ℕ × Option Event)) → Reads l p bytes es q rest → Reads l q rest fs r rest' → Reads l p bytes (es ++ fs) r rest'
  reads_then p q r bytes rest rest' [] fs a b = rw (a.0, a.1) at b
  reads_then p q r bytes rest rest' (e ∷ es) fs a b = (a.0, a.1, a.2, reads_then a.1 q r (drop a.0 bytes) rest rest' es fs a.3 b)

  -- and one in two
  pub reads_split : (p r : Spot) (bytes rest : List ℕ) (es fs : List (ℕ × Option Event)) → Reads l p bytes (es ++ fs) r rest → (q : Spot) × (mid : List ℕ) × Reads l p bytes es q mid × Reads l q mid fs r rest
  reads_split p r bytes rest [] fs a = (p, bytes, (refl, refl), a)
  reads_split p r bytes rest (e ∷ es) fs a =
      let later = reads_split a.1 r (drop a.0 bytes) rest es fs a.3 in
      (later.0, later.1, (a.0, a.1, a.2, later.2), later.3)

  -- of two readings from one place one goes on where the other ends
  pub reads_compare : (p q q' : Spot) (bytes rest rest' : List ℕ) (es es' : List (ℕ × Option Event)) → Reads l p bytes es q rest → Reads l p bytes es' q' rest' → length es ≤ length es'
      → (more : List (ℕ × Option Event)) × (es' ≡ es ++ more) × Reads l q rest more q' rest'
  reads_compare p q q' bytes rest rest' [] es' a b le = (es', refl, rw (a.0, a.1) b)
  reads_compare p q q' bytes rest rest' (e ∷ es) [] a b le = absurd (omega arith)
  reads_compare p q q' bytes rest rest' (e ∷ es) (e' ∷ es') a b le =
      let same = same_got _ _ _ _ (sym b.2 ∙ a.2) in
      let mid : b.1 ≡ a.1 = ap (λ (x : Emitted). x.after) same.0 in
      let first : e' ≡ e = ap (λ (x : Emitted). (x.at, x.event)) same.0 in
      let r = reads_compare a.1 q q' (drop a.0 bytes) rest rest' es es' a.3 (rw (same.1, mid) at b.3) (omega arith) in
      (r.0, same_cons _ _ _ _ first r.1, r.2)

  -- a reading stays, whatever bytes follow
  pub reads_stay : (p : Spot) (bytes t : List ℕ) (es : List (ℕ × Option Event)) (q : Spot) (rest : List ℕ) → Reads l p bytes es q rest → Reads l p (bytes ++ t) es q (rest ++ t)
  reads_stay p bytes t [] q rest r = (r.0, ap (λ (x : List ℕ). x ++ t) r.1)
  reads_stay p bytes t (e ∷ es) q rest r =
      let s = stays_got _ r.0 (says_stays (step l p) 0 bytes t) r.2 in
      (r.0, r.1, s.0, rw (drop-append-le r.0 bytes t (omega (arith, s.1))) (reads_stay r.1 (drop r.0 bytes) t es q rest r.3))

  -- the same of events
  pub hears_then : (p q r : Spot) (bytes rest rest' : List ℕ) (es fs : List (ℕ × Event)) → Hears l p bytes es q rest → Hears l q rest fs r rest' → Hears l p bytes (es ++ fs) r rest'
  hears_then p q r bytes rest rest' es fs a b = record {
    steps = a.steps ++ b.steps;
    events = heard-append a.steps b.steps ∙ ap (λ (x : List (ℕ × Event)). x ++ heard b.steps) a.events ∙ ap (λ (x : List (ℕ × Event)). es ++ x) b.events;
    reads = reads_then p q r bytes rest rest' a.steps b.steps a.reads b.reads;
  }

  pub hears_stay : (p : Spot) (bytes t : List ℕ) (es : List (ℕ × Event)) (q : Spot) (rest : List ℕ) → Hears l p bytes es q rest → Hears l p (bytes ++ t) es q (rest ++ t)
  hears_stay p bytes t es q rest a = record { steps = a.steps; events = a.events; reads = reads_stay p bytes t a.steps q rest a.reads }

-- ---- how far a reading is

-- what was emitted where a step was got
pub record Yields (l : CaptureLimits) (p : Spot) (bytes : List ℕ) (x : Emitted) (used : ℕ) : Type 0 where
  pub emission_is : Emission
  pub is : emission l p (take (wanted p.place.stage) bytes) ≡ Ok emission_is
  pub emits : x ≡ record { at = emission_is.at; event = event_if emission_is.what (take (wanted p.place.stage) bytes); after = after_emission p.known emission_is }
  pub count : used ≡ wanted p.place.stage
  pub within : used ≤ length bytes

yields_by : (l : CaptureLimits) (p : Spot) (bytes : List ℕ) (x : Emitted) (used : ℕ) → wanted p.place.stage ≤ length bytes → (d : Result Emission CaptureRefusal) → emission l p (take (wanted p.place.stage) bytes) ≡ d → said_of p.known (wanted p.place.stage) (take (wanted p.place.stage) bytes) d ≡ Got x used → Yields l p bytes x used
yields_by l p bytes x used le (Err r) is said = absurd cc
yields_by l p bytes x used le (Ok t) is said =
    let same = same_got _ _ _ _ said in
    record { emission_is = t; is = is; emits = sym same.0; count = sym same.1; within = let n = same.1 in omega arith }

pub got_yields : (l : CaptureLimits) (p : Spot) (bytes : List ℕ) (x : Emitted) (used : ℕ) → says (step l p) 0 bytes ≡ Got x used → Yields l p bytes x used
got_yields l p bytes x used said = elim (cases_lt (length bytes) (wanted p.place.stage)) [
  | inl lt ↦ let no : ◌≡◌ {A = Said Emitted CaptureRefusal} More (Got x used) = sym (step_waits l p bytes lt) ∙ said in absurd cc
  | inr le ↦ yields_by l p bytes x used le (emission l p (take (wanted p.place.stage) bytes)) refl (sym (step_says l p bytes le) ∙ said)
]

-- The place that a reading comes to is as far as the bytes that were read, its interfaces are as many as the events say, and
-- each step is paid.
pub record IsAt (p : Spot) (l : CaptureLimits) (bytes : List ℕ) (es : List (ℕ × Option Event)) (q : Spot) (rest : List ℕ) : Type 0 where
  pub near : IsSpot l q
  pub count : p.place.offset + length bytes ≡ q.place.offset + length rest
  pub forward : p.place.offset ≤ q.place.offset
  pub is : rest ≡ drop (q.place.offset - p.place.offset) bytes
  pub paid : length es + (due q.place.stage + length rest) ≤ due p.place.stage + length bytes
  pub counted : length q.known ≡ count_from (length p.known) (heard es)

pub reads_at : (l : CaptureLimits) → Fits l → (p q : Spot) (bytes rest : List ℕ) (es : List (ℕ × Option Event)) → IsSpot l p → Reads l p bytes es q rest → IsAt p l bytes es q rest
reads_at l fits p q bytes rest [] here r = rw (r.0, r.1) (record { near = here; count = refl; forward = omega arith; is = (let none : p.place.offset - p.place.offset ≡ 0 = omega arith in rw none refl); paid = omega arith; counted = refl })
reads_at l fits p q bytes rest (e ∷ es) here r =
    let n = wanted p.place.stage in
    let t = got_yields l p bytes _ r.0 r.2 in
    let b = take n bytes in
    let long : length b ≡ n = length-take-le n bytes (let c = t.count in let w = t.within in omega arith) in
    let to = read_leads l fits p b t.emission_is here long t.is in
    let after : r.1 ≡ after_emission p.known t.emission_is = ap (λ (x : Emitted). x.after) t.emits in
    let event : e.1 ≡ event_if t.emission_is.what b = ap (λ (x : Emitted). x.event) t.emits in
    let later = reads_at l fits r.1 q (drop r.0 bytes) rest es (rw after to.near) r.3 in
    let offset : r.1.place.offset ≡ p.place.offset + n = ap (λ (x : Spot). x.place.offset) after ∙ to.offset_is in
    let counts : length r.1.known ≡ counted_if (length p.known) e.1 = ap (λ (x : Spot). length x.known) after ∙ to.counts ∙ ap (counted_if (length p.known)) (sym event) in
    record {
      near = later.near;
      count = omega (arith, later.count, offset, t.count, t.within, length-drop r.0 bytes);
      forward = omega (arith, later.forward, offset);
      is =
          let far : r.0 + (q.place.offset - r.1.place.offset) ≡ q.place.offset - p.place.offset = omega (arith, later.forward, offset, t.count) in
          later.is ∙ drop-drop (q.place.offset - r.1.place.offset) r.0 bytes ∙ ap (λ (k : ℕ). drop k bytes) far;
      paid = omega (arith, later.paid, to.pays, ap (λ (x : Spot). due x.place.stage) after, t.count, t.within, length-drop r.0 bytes);
      counted = later.counted ∙ ap (λ (k : ℕ). count_from k (heard es)) counts ∙ sym (count_first (length p.known) e.0 e.1 (heard es));
    }

-- ---- events among steps

-- the steps up to an event, and those after it
pub record Splits (steps : List (ℕ × Option Event)) (es : List (ℕ × Event)) (at : ℕ) (e : Event) (fs : List (ℕ × Event)) : Type 0 where
  pub before : List (ℕ × Option Event)
  pub after : List (ℕ × Option Event)
  pub is : steps ≡ before ++ (at, Some e) ∷ after
  pub front : heard before ≡ es
  pub back : heard after ≡ fs

split_later : (x : ℕ × Option Event) (steps : List (ℕ × Option Event)) (es es' : List (ℕ × Event)) (at : ℕ) (e : Event) (fs : List (ℕ × Event)) → heard_first x.0 x.1 es ≡ es' → Splits steps es at e fs → Splits (x ∷ steps) es' at e fs
split_later x steps es es' at e fs first s = record {
  before = x ∷ s.before;
  after = s.after;
  is = ap (λ (z : List (ℕ × Option Event)). x ∷ z) s.is;
  front = ap (heard_first x.0 x.1) s.front ∙ first;
  back = s.back;
}

split_by : (x : ℕ × Option Event) (steps : List (ℕ × Option Event)) (at : ℕ) (e : Event) (fs : List (ℕ × Event)) → ((es : List (ℕ × Event)) → heard steps ≡ es ++ (at, e) ∷ fs → Splits steps es at e fs) → (o : Option Event) (es : List (ℕ × Event)) → x.1 ≡ o → heard_first x.0 o (heard steps) ≡ es ++ (at, e) ∷ fs → Splits (x ∷ steps) es at e fs
split_by x steps at e fs later None es none is = split_later x steps es es at e fs (ap (λ (o : Option Event). heard_first x.0 o es) none) (later es is)
split_by x steps at e fs later (Some f) [] some is =
    let head : ◌≡◌ {A = ℕ × Event} (x.0, f) (at, e) = cc in
    let place : x.0 ≡ at = ap (λ (z : ℕ × Event). z.0) head in
    let event : x.1 ≡ Some e = some ∙ ap (λ (z : ℕ × Event). Some z.1) head in
    let first : x ≡ (at, Some e) = λ i. (place i, event i) in
    record { before = []; after = steps; is = ap (λ (z : ℕ × Option Event). z ∷ steps) first; front = refl; back = cc }
split_by x steps at e fs later (Some f) (g ∷ es) some is =
    let head : ◌≡◌ {A = ℕ × Event} (x.0, f) g = cc in
    let tail : heard steps ≡ es ++ (at, e) ∷ fs = cc in
    split_later x steps es (g ∷ es) at e fs (ap (λ (o : Option Event). heard_first x.0 o es) some ∙ ap (λ (z : ℕ × Event). z ∷ es) head) (later es tail)

pub heard_split : (steps : List (ℕ × Option Event)) (es : List (ℕ × Event)) (at : ℕ) (e : Event) (fs : List (ℕ × Event)) → heard steps ≡ es ++ (at, e) ∷ fs → Splits steps es at e fs
heard_split [] [] at e fs is = absurd (omega (arith, ap length is))
heard_split [] (f ∷ es) at e fs is = absurd (omega (arith, ap length is))
heard_split (x ∷ steps) es at e fs is = split_by x steps at e fs (λ es is. heard_split steps es at e fs is) x.1 es refl is
