-- Two answers are the same.
use Rattle.std.proofs.Common.{◌≡◌, ◌≢◌, ◌∙◌, ◌&&◌, ◌≤◌, ℕ, Bool, true, false, List, [], ◌∷◌, ◌++◌, length, Option, Result, Ok, Err, refl, sym, ap, subst, inl, inr, append-nil, arith}
use Rattle.std.proofs.lemmas.Bool.{cases_lt}
use Rattle.cqlp_text.specs.Outputs.{Output, with_text}
use Rattle.cqlp_note.specs.Reader.{Said, More, Got, says}
use Rattle.cqlp_capture.specs.declared.event.CaptureEnd.{CaptureEnd}
use Rattle.cqlp_capture.specs.declared.event.CaptureEnd.TheVariants as end
use Rattle.cqlp_capture.specs.declared.limits.CaptureLimits.{CaptureLimits}
use Rattle.cqlp_capture.specs.declared.refusal.CaptureRefusal.{CaptureRefusal}
use Rattle.cqlp_capture.specs.Reading.{Emitted, Ends, Event, Reads, Refused, Says, Spot, Verdict, Waits, start, step}
use Rattle.cqlp_capture.specs.Places.{began, is_between}
use Rattle.cqlp_capture.specs.Progress.{is_empty}
use Rattle.cqlp_capture.proofs.Tests.{Fits, in_range}
use Rattle.cqlp_capture.proofs.Runs.{reads_compare}
use Rattle.cqlp_capture.proofs.Whole.{always_said, refusal_stays, says_once}
use Rattle.cqlp_capture_streams.specs.declared.capturing.CaptureRead.{CaptureRead}
use Rattle.cqlp_capture_streams.specs.declared.fault.StreamsFault.{StreamsFault}
use Rattle.cqlp_capture_streams.specs.declared.limits.StreamsLimits.{StreamsLimits}
use Rattle.cqlp_capture_streams.specs.ConnectionEvents.{ConnectionEvent}
use Rattle.cqlp_capture_streams.specs.Listening.{after_all}
use Rattle.cqlp_capture_streams.specs.Recordings.{Recording, StopsAt, no_sums, recording, with_connection_event}
use Rattle.cqlp_capture_streams.specs.Packets.{Finishes, SplitState, ReportsEvents}
use Rattle.cqlp_capture_streams.specs.Captures.{EndsSo, HearsAll, IsAll, ReadsMade, SplitsTo}
use Rattle.cqlp_capture_streams.specs.Endings.{Concludes, ConcludesNoted, last_line, last_status, sums_words}
use Rattle.cqlp_capture_streams.specs.Streams.{ReadsCapture, default_limits, no_connections, read_of}
use Rattle.cqlp_capture_streams.specs.Laws.{OneAnswerOfReadCapture, OneAnswerOfWriteStreams}
use Rattle.cqlp_capture_streams.proofs.Once.{events_once, finishes_once}

-- ---- how a file ends

module _ (l : CaptureLimits) where
  no_more : (q q' : Spot) (rest rest' : List ℕ) (more : List (ℕ × Option Event)) → says (step l q) 0 rest ≡ More → Reads l q rest more q' rest' → more ≡ []
  no_more q q' rest rest' [] wants run = refl
  no_more q q' rest rest' (x ∷ xs) wants run =
      let no : ◌≡◌ {A = Said Emitted CaptureRefusal} More (Got (record { at = x.0; event = x.1; after = run.1 }) run.0) = sym wants ∙ run.2 in absurd cc

  heard_before : (bytes : List ℕ) (es es' : List (ℕ × Event)) (q q' : Spot) (rest rest' : List ℕ) (a : HearsAll l bytes es q rest) (b : HearsAll l bytes es' q' rest') → length a.hears.steps ≤ length b.hears.steps → (q' ≡ q) × (rest' ≡ rest)
  heard_before bytes es es' q q' rest rest' a b le =
      let c = reads_compare l start q q' bytes rest rest' a.hears.steps b.hears.steps a.hears.reads b.hears.reads le in
      rw (no_more q q' rest rest' c.0 a.wants c.2) at c.2

  -- more are wanted at one place alone
  heard_once : (bytes : List ℕ) (es es' : List (ℕ × Event)) (q q' : Spot) (rest rest' : List ℕ) → HearsAll l bytes es q rest → HearsAll l bytes es' q' rest' → (q' ≡ q) × (rest' ≡ rest)
  heard_once bytes es es' q q' rest rest' a b = elim (cases_lt (length b.hears.steps) (length a.hears.steps)) [
    | inl lt ↦ let c = heard_before bytes es' es q' q rest' rest b a (omega arith) in (sym c.0, sym c.1)
    | inr le ↦ heard_before bytes es es' q q' rest rest' a b le
  ]

  abbrev verdict_of : CaptureEnd → Verdict
  verdict_of (end.Whole n) = Waits
  verdict_of (end.Cut at n) = Waits
  verdict_of (end.Refused r) = Refused r

  heard_says : (bytes : List ℕ) (es : List (ℕ × Event)) (q : Spot) (rest : List ℕ) → HearsAll l bytes es q rest → Says l start bytes es Waits
  heard_says bytes es q rest a = (q, rest, a.hears, subst (λ (z : Said Emitted CaptureRefusal). Ends z Waits) (sym a.wants) tt)

  end_says : (bytes : List ℕ) (es : List (ℕ × Event)) (e : CaptureEnd) → EndsSo l bytes es e → Says l start bytes es (verdict_of e)
  end_says bytes es (end.Whole n) a = heard_says bytes es a.1 a.2 a.3
  end_says bytes es (end.Cut at n) a = heard_says bytes es a.1 a.2 a.3
  end_says bytes es (end.Refused r) a = a

  tests_differ : (q q' : Spot) (rest rest' : List ℕ) → q' ≡ q → rest' ≡ rest → is_between q.place.stage && is_empty rest ≡ true → is_between q'.place.stage && is_empty rest' ≡ false → ⊥
  tests_differ q q' rest rest' a b first second =
      let both : ◌≡◌ {A = Bool} true false = sym first ∙ sym (λ i. is_between (a i).place.stage && is_empty (b i)) ∙ second in absurd cc

  ends_by : (bytes : List ℕ) (es es' : List (ℕ × Event)) (e e' : CaptureEnd) → verdict_of e' ≡ verdict_of e → EndsSo l bytes es e → EndsSo l bytes es' e' → e' ≡ e
  ends_by bytes es es' (end.Whole n) (end.Whole m) v a b = ap (λ k. end.Whole k) (b.0 ∙ sym a.0)
  ends_by bytes es es' (end.Whole n) (end.Cut at m) v a b =
      let same = heard_once bytes es es' a.1 b.1 a.2 b.2 a.3 b.3 in absurd (tests_differ a.1 b.1 a.2 b.2 same.0 same.1 a.4 b.4)
  ends_by bytes es es' (end.Whole n) (end.Refused r) v a b = let no : ◌≡◌ {A = Verdict} (Refused r) Waits = v in absurd cc
  ends_by bytes es es' (end.Cut at n) (end.Whole m) v a b =
      let same = heard_once bytes es' es b.1 a.1 b.2 a.2 b.3 a.3 in absurd (tests_differ b.1 a.1 b.2 a.2 same.0 same.1 b.4 a.4)
  ends_by bytes es es' (end.Cut at n) (end.Cut at' m) v a b =
      let same = heard_once bytes es es' a.1 b.1 a.2 b.2 a.3 b.3 in
      let there : at' ≡ at = b.5 ∙ ap (λ (z : Spot). began z.place) same.0 ∙ sym a.5 in
      let long : m ≡ n = b.0 ∙ sym a.0 in
      λ i. end.Cut (there i) (long i)
  ends_by bytes es es' (end.Cut at n) (end.Refused r) v a b = let no : ◌≡◌ {A = Verdict} (Refused r) Waits = v in absurd cc
  ends_by bytes es es' (end.Refused r) (end.Whole m) v a b = let no : ◌≡◌ {A = Verdict} Waits (Refused r) = v in absurd cc
  ends_by bytes es es' (end.Refused r) (end.Cut at m) v a b = let no : ◌≡◌ {A = Verdict} Waits (Refused r) = v in absurd cc
  ends_by bytes es es' (end.Refused r) (end.Refused x) v a b =
      let are : ◌≡◌ {A = Verdict} (Refused x) (Refused r) = v in
      let same : x ≡ r = cc in ap (λ z. end.Refused z) same

  -- So a file ends in one way, after the same events,
  ends_once : (bytes : List ℕ) (es es' : List (ℕ × Event)) (e e' : CaptureEnd) → EndsSo l bytes es e → EndsSo l bytes es' e' → (es' ≡ es) × (e' ≡ e)
  ends_once bytes es es' e e' a b =
      let one = says_once l start bytes es es' (verdict_of e) (verdict_of e') (end_says bytes es e a) (end_says bytes es' e' b) in
      (one.0, ends_by bytes es es' e e' one.1 a b)

  all_there : (read rest xs : List ℕ) → xs ≡ read ++ rest → rest ≡ [] → read ≡ xs
  all_there read rest xs parts none = sym (append-nil read) ∙ ap (λ z. read ++ z) (sym none) ∙ sym parts

  -- also where the bytes read end after a refusal
  ends_there : Fits l → (read rest xs : List ℕ) (es : List (ℕ × Event)) (e : CaptureEnd) → xs ≡ read ++ rest → IsAll (Ok e) rest → EndsSo l read es e → EndsSo l xs es e
  ends_there fits read rest xs es (end.Whole n) parts all a = subst (λ z. EndsSo l z es (end.Whole n)) (all_there read rest xs parts all) a
  ends_there fits read rest xs es (end.Cut at n) parts all a = subst (λ z. EndsSo l z es (end.Cut at n)) (all_there read rest xs parts all) a
  ends_there fits read rest xs es (end.Refused r) parts all a =
      let some = always_said l fits (read ++ rest) in
      let same = refusal_stays l start read rest es some.0 (Refused r) some.1 a some.2 r refl in
      let there = subst (λ (z : List (ℕ × Event)). Says l start (read ++ rest) z some.1) same.0 some.2 in
      let refused = subst (λ (z : Verdict). Says l start (read ++ rest) es z) same.1 there in
      subst (λ z. Says l start z es (Refused r)) (sym parts) refused

-- ---- what a listener has got of it

ok_same : (x y : CaptureRead) → ◌≡◌ {A = Result CaptureRead StreamsFault} (Ok x) (Ok y) → x ≡ y
ok_same x y e = cc

module _ {V : Type 0} (after : V → ConnectionEvent → V) (faulted : V → ConnectionEvent → StreamsFault → V → Type 0) where
  pub splits_once : (l : CaptureLimits) → Fits l → (t : SplitState) (turns : ℕ) (made made' : ReadsMade) (before : V) (xs : List ℕ) (e e' : CaptureEnd) (left left' : Option (List ℕ)) (u u' : SplitState) (v w : V) → SplitsTo after faulted l t turns made before xs (Ok e) left u v → SplitsTo after faulted l t turns made' before xs (Ok e') left' u' w → (e' ≡ e) × (u' ≡ u) × (w ≡ v)
  splits_once l fits t turns made made' before xs e e' left left' u u' v w a b =
      let f = a.ends.1 in
      let g = b.ends.1 in
      let here = ends_there l fits a.read a.rest xs f.events e a.parts a.all f.ends in
      let there = ends_there l fits b.read b.rest xs g.events e' b.parts b.all g.ends in
      let same = ends_once l xs f.events g.events e e' here there in
      let delivered = events_once t f.mid g.mid f.events f.front g.front f.reports (subst (λ (z : List (ℕ × Event)). ReportsEvents t z g.front g.mid) same.0 g.reports) in
      let left = finishes_once f.mid u u' f.last g.last f.leave (subst (λ (z : SplitState). Finishes true z g.last u') delivered.1 g.leave) in
      let all : b.ends.0 ≡ a.ends.0 = g.all ∙ (λ i. delivered.0 i ++ left.0 i) ∙ sym f.all in
      (same.1, left.1, b.ends.2 ∙ ap (after_all after before) all ∙ sym a.ends.2)

  pub read_once : OneAnswerOfReadCapture after faulted
  read_once limits ports xs before v w made made' left left' r r' (inr (is, none, rest, same)) b = absurd (let x = is in cc)
  read_once limits ports xs before v w made made' left left' r r' (inl (Err f, u, a, is)) b = absurd (let x = is in cc)
  read_once limits ports xs before v w made made' left left' r r' (inl (Ok x, u, a, is)) (inr (is', none, rest, same)) = absurd (let y = is' in cc)
  read_once limits ports xs before v w made made' left left' r r' (inl (Ok x, u, a, is)) (inl (Err f, u', b, is')) = absurd (let y = is' in cc)
  read_once limits ports xs before v w made made' left left' r r' (inl (Ok x, u, a, is)) (inl (Ok x', u', b, is')) =
      let one = splits_once default_limits (in_range default_limits refl) (no_connections limits ports) _ made made' before xs x x' left left' u u' v w a b in
      let same : ◌≡◌ {A = Result CaptureRead StreamsFault} (Ok r') (Ok r) = is' ∙ (λ i. read_of (Ok (one.0 i)) (one.1 i)) ∙ sym is in
      (ok_same r' r same, one.2)

-- the lines were written, where nothing failed
pub concluded : (ports note words : List ℕ) (r : Result CaptureRead StreamsFault) (err err' : Output) (status : ℕ) → ConcludesNoted ports note words r err status err' → status ≢ 3 → (status ≡ last_status note r) × (err' ≡ with_text err (last_line ports note words r))
concluded ports note words r err err' status (inl a) well = a
concluded ports note words r err err' status (inr (is, x)) well = absurd (well is)

pub well_read : (note : List ℕ) (r : Result CaptureRead StreamsFault) → last_status note r ≢ 3 → (x : CaptureRead) × (r ≡ Ok x)
well_read note (Ok x) well = (x, refl)
well_read note (Err f) well = absurd (well refl)

-- Two runs that end with a note and words of the view, and no fault.
module _ {V : Type 0} (after : V → ConnectionEvent → V) (faulted : V → ConnectionEvent → StreamsFault → V → Type 0) (note words : V → Result CaptureRead StreamsFault → List ℕ) (limits : StreamsLimits) (ports xs : List ℕ) (before v w : V) (made made' : ReadsMade) (left left' : Option (List ℕ)) (r r' : Result CaptureRead StreamsFault) (err err' err'' : Output) (status status' : ℕ) where
  pub runs_noted : ReadsCapture after faulted limits ports xs made r left before v → ConcludesNoted ports (note v r) (words v r) r err status err' → status ≢ 3 → ReadsCapture after faulted limits ports xs made' r' left' before w → ConcludesNoted ports (note w r') (words w r') r' err status' err'' → status' ≢ 3 → (status' ≡ status) × (w ≡ v) × (err'' ≡ err')
  runs_noted reads ends well reads' ends' well' =
      let c = concluded ports (note v r) (words v r) r err err' status ends well in
      let c' = concluded ports (note w r') (words w r') r' err err'' status' ends' well' in
      let x = well_read (note v r) r (λ is. well (c.0 ∙ is)) in
      let x' = well_read (note w r') r' (λ is. well' (c'.0 ∙ is)) in
      let a = subst (λ (z : Result CaptureRead StreamsFault). ReadsCapture after faulted limits ports xs made z left before v) x.1 reads in
      let b = subst (λ (z : Result CaptureRead StreamsFault). ReadsCapture after faulted limits ports xs made' z left' before w) x'.1 reads' in
      let one = read_once after faulted limits ports xs before v w made made' left left' x.0 x'.0 a b in
      let same : r' ≡ r = x'.1 ∙ ap (λ z. Ok z) one.0 ∙ sym x.1 in (
        c'.0 ∙ (λ i. last_status (note (one.1 i) (same i)) (same i)) ∙ sym c.0,
        one.1,
        c'.1 ∙ (λ i. with_text err (last_line ports (note (one.1 i) (same i)) (words (one.1 i) (same i)) (same i))) ∙ sym c.1,
      )

-- without a note
module _ {V : Type 0} (after : V → ConnectionEvent → V) (faulted : V → ConnectionEvent → StreamsFault → V → Type 0) (words : V → List ℕ) (limits : StreamsLimits) (ports xs : List ℕ) (before v w : V) (made made' : ReadsMade) (left left' : Option (List ℕ)) (r r' : Result CaptureRead StreamsFault) (err err' err'' : Output) (status status' : ℕ) where
  pub runs_once : ReadsCapture after faulted limits ports xs made r left before v → Concludes ports (words v) r err status err' → status ≢ 3 → ReadsCapture after faulted limits ports xs made' r' left' before w → Concludes ports (words w) r' err status' err'' → status' ≢ 3 → (status' ≡ status) × (w ≡ v) × (err'' ≡ err')
  runs_once = runs_noted after faulted (λ v r. []) (λ v r. words v) limits ports xs before v w made made' left left' r r' err err' err'' status status'

pub streams_once : OneAnswerOfWriteStreams
streams_once limits ports xs calls out err left left' status status' made made' out' out'' err' err'' (n, (r, sums, reads, ends)) well (n', (r', sums', reads', ends')) well' =
    let one = runs_once with_connection_event StopsAt (λ (z : Recording). sums_words z.sums) limits ports xs (recording calls out no_sums) (recording made out' sums) (recording made' out'' sums') n n' left left' r r' err err' err'' status status' reads ends well reads' ends' well' in
    (one.0, ap (λ (z : Recording). z.calls) one.1, ap (λ (z : Recording). z.output) one.1, one.2)
