-- What the first bytes of a frame say is the front of what more of them say.
use Rattle.std.proofs.Common.{◌≡◌, ℕ, zero, suc, ◌+◌, ◌<◌, ◌≤◌, List, [], ◌∷◌, ◌++◌, length, take, drop, Option, Some, None, Result, Ok, Bool, Err, IsErr, IsErrAnd, refl, sym, ap, subst, ◌∙◌, append_assoc, append-nil, arith}
use Rattle.std.proofs.lemmas.List.{take-append-drop}
use lib.Seq.{take-add}
use Rattle.cqlp_note.specs.declared.refusal.Reason.{Reason}
use Rattle.cqlp_note.specs.declared.refusal.Refusal.{Refusal}
use Rattle.cqlp_note.specs.Limits.{Rules}
use Rattle.cqlp_note.specs.Reader.{Said, More, Got, Bad, says as reported}
use Rattle.cqlp_note.specs.Step.{Emitted}
use Rattle.cqlp_note.proofs.Runs.{runs_stay}
use Rattle.cqlp_kind.specs.declared.node.Node.{Node}
use Rattle.cqlp_decode.specs.Reading.{Event, Place, Read, Reads, Verdict, Waits, Refused, Ends, Says, reading, start_with, step, then_read}
use Rattle.cqlp_decode.specs.Progress.{StreamState}
use Rattle.cqlp_decode.specs.Streams.{AfterBy, AfterGifts, Conforms}
use Rattle.cqlp_laws.proofs.EventCounts.{no_more_events, no_more_handed_out}
use Rattle.cqlp_laws.proofs.OneRun.{after_reads}
use Rattle.cqlp_text.specs.Written.{Receives, Written}
use Rattle.cqlp_text.proofs.Writing.{takes_then_takes}
use Rattle.cqlp_capture_frames.specs.Faults.{Stops}
use Rattle.cqlp_capture_frames.specs.Happenings.{Happening, Manner, after_all, texts}
use Rattle.cqlp_capture_frames.specs.Happenings as happening
use Rattle.cqlp_capture_frames.specs.Frames.{behind, gifts_of, more_events, nodes_of, place_behind, place_on, read, says, types_read}
use Rattle.cqlp_capture_frames.specs.Reading.{Drains, IsReading}
use Rattle.cqlp_capture_frames.proofs.Faults.{stops_in_more, takes_then_stops}

module _ (l : Rules) where
  -- some events, and then the others
  reading_on : (n : ℕ) (p q : Place) (bytes rest : List ℕ) (es : List (ℕ × Event)) → Reads l p bytes es q rest → length es ≤ n
      → (m : ℕ) × (m + length es ≡ n) × (reading l n p bytes ≡ (es ++ (reading l m q rest).0, (reading l m q rest).1))
  reading_on n p q bytes rest [] run le = (n, omega arith, λ i. reading l n (sym run.0 i) (sym run.1 i))
  reading_on zero p q bytes rest (e ∷ es) run le = absurd (omega arith)
  reading_on (suc k) p q bytes rest (e ∷ es) run le =
      let r = reading_on k (run.1 run.0) q (drop run.0 bytes) rest es run.3 (omega arith) in
      (r.0, omega (arith, r.1), ap (then_read (reading l k) bytes) run.2 ∙ ap (λ (x : Read). ((e.0, e.1) ∷ x.0, x.1)) r.2)

  ends_by : (next : Place → List ℕ → Read) (bytes : List ℕ) (d : Said (Emitted Event Place) (ℕ × Reason)) (v : Verdict) → Ends d v → then_read next bytes d ≡ ([], v)
  ends_by next bytes More Waits h = refl
  ends_by next bytes More (Refused k why) h = absurd h
  ends_by next bytes (Bad f) Waits h = absurd h
  ends_by next bytes (Bad f) (Refused k why) h = ap (λ (x : ℕ × Reason). ([], Refused x.0 x.1)) h
  ends_by next bytes (Got x used) v h = absurd h

  said_all : (n m : ℕ) (p : Place) (bytes : List ℕ) (es : List (ℕ × Event)) (v : Verdict) (s : Says l p bytes es v) → length es < n → m + length es ≡ n → reading l n p bytes ≡ (es ++ (reading l m s.0 s.1).0, (reading l m s.0 s.1).1) → reading l n p bytes ≡ (es, v)
  said_all n zero p bytes es v s lt parts is = absurd (omega arith)
  said_all n (suc k) p bytes es v s lt parts is =
      is ∙ ap (λ (x : Read). (es ++ x.0, x.1)) (ends_by (reading l k) s.1 (reported (step l s.0) 0 s.1) v s.3) ∙ ap (λ (x : List (ℕ × Event)). (x, v)) (append-nil es)

  says_reading : (n : ℕ) (p : Place) (bytes : List ℕ) (es : List (ℕ × Event)) (v : Verdict) → Says l p bytes es v → length es < n → reading l n p bytes ≡ (es, v)
  says_reading n p bytes es v s lt =
      let r = reading_on n p s.0 bytes s.1 es s.2 (omega arith) in
      said_all n r.0 p bytes es v s lt r.1 r.2

length_more : (a b : List ℕ) → length a ≤ length (a ++ b)
length_more [] b = omega arith
length_more (x ∷ a) b = omega (arith, length_more a b)

module _ (l : Rules) (some : 1 ≤ l.part) (given : Option (List Node)) where
  -- all that bytes say
  read_is : (bytes : List ℕ) (es : List (ℕ × Event)) (v : Verdict) → Says l (start_with (gifts_of given)) bytes es v → read l given bytes ≡ (es, v)
  read_is bytes es v s = says_reading l (length bytes + 1) (start_with (gifts_of given)) bytes es v s (omega (arith, no_more_events l (gifts_of given) bytes es v some s))

  -- what a decoder handed out is the front of what its bytes and more say
  front_of_read : (d : StreamState) (bytes t : List ℕ) (es : List (ℕ × Event)) → d.rules ≡ l → AfterGifts (gifts_of given) d bytes es → (later : List (ℕ × Event)) × ((read l given (bytes ++ t)).0 ≡ es ++ later)
  front_of_read d bytes t es are a =
      let start : Place = start_with (gifts_of given) in
      let few : length es ≤ length bytes = no_more_handed_out (gifts_of given) d bytes es (rw are some) a in
      let r = after_reads (gifts_of given) d bytes es a in
      let run : Reads l start bytes es r.0 r.1 = subst (λ (z : Rules). Reads z start bytes es r.0 r.1) are r.2 in
      let on = reading_on l (length (bytes ++ t) + 1) start r.0 (bytes ++ t) (r.1 ++ t) es (runs_stay (step l) start bytes t es r.0 r.1 run) (omega (arith, few, length_more bytes t)) in
      ((reading l on.0 r.0 (r.1 ++ t)).0, ap (λ (x : Read). x.0) on.2)

-- no bytes say nothing
pub reads_none : (d : StreamState) → d.refusal ≡ None → AfterGifts (gifts_of (nodes_of d.given)) d [] [] → IsReading d []
reads_none d free after = record { free = free; after = after; waits = refl }

-- ---- the types of the metadata that was read last

module _ (l : Rules) where
  place_reached : (n : ℕ) (p q : Place) (bytes rest : List ℕ) (es : List (ℕ × Event)) → Reads l p bytes es q rest → length es ≤ n → (m : ℕ) × (m + length es ≡ n) × (place_behind l n p bytes ≡ place_behind l m q rest)
  place_reached n p q bytes rest [] run le = (n, omega arith, λ i. place_behind l n (sym run.0 i) (sym run.1 i))
  place_reached zero p q bytes rest (e ∷ es) run le = absurd (omega arith)
  place_reached (suc k) p q bytes rest (e ∷ es) run le =
      let r = place_reached k (run.1 run.0) q (drop run.0 bytes) rest es run.3 (omega arith) in
      (r.0, omega (arith, r.1), ap (place_on (place_behind l k) p bytes) run.2 ∙ r.2)

  -- where no event comes, the reading stays
  stays_there : (m : ℕ) (q : Place) (rest : List ℕ) → (reading l m q rest).0 ≡ [] → place_behind l m q rest ≡ q
  stays_there zero q rest none = refl
  stays_there (suc k) q rest none = by (reported (step l q) 0 rest) none
    where
      by : (d : Said (Emitted Event Place) (ℕ × Reason)) → (then_read (reading l k) rest d).0 ≡ [] → place_on (place_behind l k) q rest d ≡ q
      by More none = refl
      by (Bad f) none = refl
      by (Got x used) none = absurd (cc none)

none_more : (xs ys : List (ℕ × Event)) → xs ≡ xs ++ ys → ys ≡ []
none_more [] ys e = sym e
none_more (x ∷ xs) ys e = none_more xs ys (ap (drop 1) e)

-- a decoder's table has them
pub types_are : (d : StreamState) (bytes : List ℕ) → 1 ≤ d.rules.part → IsReading d bytes → d.place.nodes ≡ types_read d.rules (nodes_of d.given) bytes
types_are d bytes some r =
    let given : Option (List Node) = nodes_of d.given in
    let es : List (ℕ × Event) = (read d.rules given bytes).0 in
    let start : Place = start_with (gifts_of given) in
    let s : Conforms (gifts_of given) d bytes es = subst (λ (o : Option Refusal). AfterBy o (gifts_of given) d bytes es) r.free r.after in
    let few : length es ≤ length bytes = no_more_handed_out (gifts_of given) d bytes es some r.after in
    let there = place_reached d.rules (length bytes + 1) start s.place bytes s.bytes es s.read (omega (arith, few)) in
    let on = reading_on d.rules (length bytes + 1) start s.place bytes s.bytes es s.read (omega (arith, few)) in
    let same : on.0 ≡ there.0 = omega (arith, on.1, there.1) in
    let none : (reading d.rules there.0 s.place s.bytes).0 ≡ [] = subst (λ (m : ℕ). (reading d.rules m s.place s.bytes).0 ≡ []) same (none_more es (reading d.rules on.0 s.place s.bytes).0 (ap (λ (x : Read). x.0) on.2)) in
    ap (λ (p : Place). p.nodes) s.here ∙ sym (ap (λ (p : Place). p.nodes) (there.2 ∙ stays_there d.rules there.0 s.place s.bytes none))

-- ---- what events are reported as

says_more : (at : ℕ) (xs ys : List (ℕ × Event)) → says at (xs ++ ys) ≡ says at xs ++ says at ys
says_more at [] ys = refl
says_more at (x ∷ xs) ys = ap (λ (z : List Happening). happening.Says (behind at x.0) x.1 ∷ z) (says_more at xs ys)

drop_front : (xs ys : List (ℕ × Event)) → drop (length xs) (xs ++ ys) ≡ ys
drop_front [] ys = refl
drop_front (x ∷ xs) ys = drop_front xs ys

module _ {S : Type 0} (m : Manner S) where
  pub texts_more : (s : S) (xs ys : List Happening) → texts m s (xs ++ ys) ≡ texts m s xs ++ texts m (after_all m s xs) ys
  texts_more s [] ys = refl
  texts_more s (x ∷ xs) ys =
      ap (λ (z : List ℕ). m.text s x ++ z) (texts_more (m.after s x) xs ys)
      ∙ sym (append_assoc (m.text s x) (texts m (m.after s x) xs) (texts m (after_all m (m.after s x) xs) ys))

  pub after_more : (s : S) (xs ys : List Happening) → after_all m s (xs ++ ys) ≡ after_all m (after_all m s xs) ys
  after_more s [] ys = refl
  after_more s (x ∷ xs) ys = after_more (m.after s x) xs ys

  -- of one thing more
  pub texts_and_one : (s : S) (xs : List Happening) (h : Happening) → texts m s (xs ++ h ∷ []) ≡ texts m s xs ++ m.text (after_all m s xs) h
  texts_and_one s xs h = texts_more s xs (h ∷ []) ∙ ap (λ (z : List ℕ). texts m s xs ++ z) (append-nil (m.text (after_all m s xs) h))

  text_of_says : (s : S) (at : ℕ) (xs ys : List (ℕ × Event)) → texts m s (says at (xs ++ ys)) ≡ texts m s (says at xs) ++ texts m (after_all m s (says at xs)) (says at ys)
  text_of_says s at xs ys = ap (texts m s) (says_more at xs ys) ∙ texts_more s (says at xs) (says at ys)

take_two : (a b : ℕ) (xs : List ℕ) → take a xs ++ take b (drop a xs) ≡ take (a + b) xs
take_two a b xs = sym (take-add a b xs)

-- ---- a piece, as far as it was drained

pub record Drained {S : Type 0} (m : Manner S) (l : Rules) (given : Option (List Node)) (at : ℕ) (bytes input : List ℕ) (first : S) (d : StreamState) (s : S) (used : ℕ) (old now : Written) : Type 0 where
  pub more : List (ℕ × Event)
  pub after : AfterGifts (gifts_of given) d (bytes ++ take used input) ((read l given bytes).0 ++ more)
  pub state : s ≡ after_all m first (says at more)
  pub takes : Receives old (texts m first (says at more)) now
  pub rules : d.rules ≡ l
  pub held : nodes_of d.given ≡ given
  pub free : d.refusal ≡ None

is_reading : (l : Rules) (given : Option (List Node)) (d : StreamState) (bytes : List ℕ) → d.rules ≡ l → nodes_of d.given ≡ given → d.refusal ≡ None → AfterGifts (gifts_of given) d bytes (read l given bytes).0 → (read l given bytes).1 ≡ Waits → IsReading d bytes
is_reading l given d bytes are held free after waits = record {
  free = free;
  after = subst (λ (z : Option (List Node)). AfterGifts (gifts_of z) d bytes (read d.rules z bytes).0) (sym held) (subst (λ (z : Rules). AfterGifts (gifts_of given) d bytes (read z given bytes).0) (sym are) after);
  waits = subst (λ (z : Option (List Node)). (read d.rules z bytes).1 ≡ Waits) (sym held) (subst (λ (z : Rules). (read z given bytes).1 ≡ Waits) (sym are) waits);
}

module _ {S F : Type 0} (refuses : F → Bool) (m : Manner S) (first : StreamState) (some : 1 ≤ first.rules.part) (at : ℕ) (bytes input : List ℕ) (known : S) where
  abbrev l : Rules
  l = first.rules

  abbrev given : Option (List Node)
  given = nodes_of first.given

  abbrev start : Place
  start = start_with (gifts_of given)

  abbrev before : List (ℕ × Event)
  before = (read l given bytes).0

  abbrev all_more : List Happening
  all_more = says at (more_events l given bytes input)

  module _ (d : StreamState) (s : S) (used : ℕ) (old now : Written) (h : Drained m l given at bytes input known d s used old now) where
    all : (bytes ++ take used input) ++ drop used input ≡ bytes ++ input
    all = append_assoc bytes (take used input) (drop used input) ∙ ap (λ (z : List ℕ). bytes ++ z) (take-append-drop used input)

    -- they are all events of the piece
    events_are : (v : Verdict) → Says l start ((bytes ++ take used input) ++ drop used input) (before ++ h.more) v → (read l given (bytes ++ input) ≡ (before ++ h.more, v)) × (more_events l given bytes input ≡ h.more)
    events_are v said =
        let is = read_is l some given (bytes ++ input) (before ++ h.more) v (rw all at said) in
        (is, ap (λ (x : Read). drop (length before) x.0) is ∙ drop_front before h.more)

    state_is : more_events l given bytes input ≡ h.more → s ≡ after_all m known all_more
    state_is e = h.state ∙ ap (λ (z : List (ℕ × Event)). after_all m known (says at z)) (sym e)

    takes_all : more_events l given bytes input ≡ h.more → Receives old (texts m known all_more) now
    takes_all e = subst (λ (z : List (ℕ × Event)). Receives old (texts m known (says at z)) now) (sym e) h.takes

    pub drained_waits : (new : StreamState) → new.rules ≡ l → nodes_of new.given ≡ given → new.refusal ≡ None → AfterGifts (gifts_of given) new ((bytes ++ take used input) ++ drop used input) (before ++ h.more) → Says new.rules start ((bytes ++ take used input) ++ drop used input) (before ++ h.more) Waits → Drains refuses m at bytes input first known (Ok None) new s old now
    drained_waits new are held free after said =
        let e = events_are Waits (subst (λ (z : Rules). Says z start ((bytes ++ take used input) ++ drop used input) (before ++ h.more) Waits) are said) in (
          is_reading l given new (bytes ++ input) are held free
              (subst (λ (z : List (ℕ × Event)). AfterGifts (gifts_of given) new (bytes ++ input) z) (sym (ap (λ (x : Read). x.0) e.0)) (rw all at after))
              (ap (λ (x : Read). x.1) e.0),
          state_is e.1,
          takes_all e.1,
        )

    pub drained_refused : (new : StreamState) (r : Refusal) → Says l start ((bytes ++ take used input) ++ drop used input) (before ++ h.more) (Refused r.at r.why) → Drains refuses m at bytes input first known (Ok (Some r)) new s old now
    drained_refused new r said =
        let e = events_are (Refused r.at r.why) said in
        (ap (λ (x : Read). x.1) e.0, state_is e.1, takes_all e.1)

    -- one event more
    module _ (new : StreamState) (k : ℕ) (e : Event) (taken : ℕ) (are : new.rules ≡ l) (after : AfterGifts (gifts_of given) new ((bytes ++ take used input) ++ take taken (drop used input)) ((before ++ h.more) ++ (k, e) ∷ [])) where
      abbrev seen : List (ℕ × Event)
      seen = h.more ++ (k, e) ∷ []

      abbrev said : Happening
      said = happening.Says (behind at k) e

      shape : (bytes ++ take used input) ++ take taken (drop used input) ≡ bytes ++ take (used + taken) input
      shape = append_assoc bytes (take used input) (take taken (drop used input)) ∙ ap (λ (z : List ℕ). bytes ++ z) (take_two used taken input)

      handed : AfterGifts (gifts_of given) new (bytes ++ take (used + taken) input) (before ++ seen)
      handed = subst (λ (z : List (ℕ × Event)). AfterGifts (gifts_of given) new (bytes ++ take (used + taken) input) z) (append_assoc before h.more ((k, e) ∷ [])) (subst (λ (z : List ℕ). AfterGifts (gifts_of given) new z ((before ++ h.more) ++ (k, e) ∷ [])) shape after)

      text : texts m known (says at seen) ≡ texts m known (says at h.more) ++ m.text s said
      text =
          ap (texts m known) (says_more at h.more ((k, e) ∷ [])) ∙ texts_and_one m known (says at h.more) said
          ∙ ap (λ (z : S). texts m known (says at h.more) ++ m.text z said) (sym h.state)

      pub drained_one : (w : Written) (t : S) → new.refusal ≡ None → nodes_of new.given ≡ given → Receives now (m.text s said) w → t ≡ m.after s said → Drained m l given at bytes input known new t (used + taken) old w
      drained_one w t free held takes is = record {
        more = seen;
        after = handed;
        state =
            is ∙ ap (λ (z : S). m.after z said) h.state ∙ sym (after_more m known (says at h.more) (said ∷ []))
            ∙ ap (after_all m known) (sym (says_more at h.more ((k, e) ∷ [])));
        takes = rw text (takes_then_takes old now w (texts m known (says at h.more)) (m.text s said) h.takes takes);
        rules = are;
        held = held;
        free = free;
      }

      pub drained_stops : (w : Written) (refused : Bool) → Stops refused now (m.text s said) w → Stops refused old (texts m known all_more) w
      drained_stops w refused breaks =
          let whole : (bytes ++ take (used + taken) input) ++ drop (used + taken) input ≡ bytes ++ input = append_assoc bytes (take (used + taken) input) (drop (used + taken) input) ∙ ap (λ (z : List ℕ). bytes ++ z) (take-append-drop (used + taken) input) in
          let r = front_of_read l some given new (bytes ++ take (used + taken) input) (drop (used + taken) input) (before ++ seen) are handed in
          let is : (read l given (bytes ++ input)).0 ≡ before ++ (seen ++ r.0) = ap (λ (z : List ℕ). (read l given z).0) (sym whole) ∙ r.1 ∙ append_assoc before seen r.0 in
          let more : more_events l given bytes input ≡ seen ++ r.0 = ap (drop (length before)) is ∙ drop_front before (seen ++ r.0) in
          let later : List ℕ = texts m (after_all m known (says at seen)) (says at r.0) in
          let within = stops_in_more refused old w (texts m known (says at h.more) ++ m.text s said) later (takes_then_stops refused old now w (texts m known (says at h.more)) (m.text s said) h.takes breaks) in
          let lines : texts m known all_more ≡ (texts m known (says at h.more) ++ m.text s said) ++ later = ap (λ (z : List (ℕ × Event)). texts m known (says at z)) more ∙ text_of_says m known at seen r.0 ∙ ap (λ (z : List ℕ). z ++ later) text in
          rw lines within

  -- a `?` that ends the function
  pub drains_err : (r : Result (Option Refusal) F) (e : F) (d : StreamState) (s : S) (old new : Written) → IsErr r × IsErrAnd r (λ f. f ≡ e) → Stops (refuses e) old (texts m known all_more) new → Drains refuses m at bytes input first known r d s old new
  drains_err (Ok x) e d s old new stops breaks = cc
  drains_err (Err f) e d s old new stops breaks = subst (λ (z : F). Stops (refuses z) old (texts m known all_more) new) (sym stops.1) breaks
