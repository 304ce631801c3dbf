-- Runs on which no given types come into use are those with nothing given.
use Rattle.std.proofs.Common.{◌≡◌, ℕ, ◌-◌, ◌^◌, Bool, true, false, ltb, List, [], ◌∷◌, ◌++◌, length, drop, Option, Some, None, Ok, Err, refl, sym, ap, ◌∙◌, inr}
use Rattle.cqlp_note.specs.declared.refusal.Reason.{Reason}
use Rattle.cqlp_note.specs.declared.field.Field.{Field}
use Rattle.cqlp_note.specs.Field.{FieldValue, field_of}
use Rattle.cqlp_note.specs.Heading.{Heading, heading}
use Rattle.cqlp_note.specs.Limits.{Rules, limit_of}
use Rattle.cqlp_note.specs.Reader.{Said, More, Bad, Got, Reader, Gives, Refuses, Takes, Idles, says}
use Rattle.cqlp_note.specs.Step.{Emitted, map_step}
use Rattle.cqlp_note.proofs.Readers.{Always}
use Rattle.cqlp_note.proofs.Fields.{either_always}
use Rattle.cqlp_note.proofs.Runs.{runs_then}
use Rattle.cqlp_note.proofs.Yields.{emitted_is}
use Rattle.cqlp_kind.specs.Types.{NoMore}
use Rattle.cqlp_kind.specs.TypeStep.{TypeEvent, IsNode, IsField, type_step}
use Rattle.cqlp_kind.specs.CellStep.{CellSymbol, Value_of, CellEvent, cell_step}
use Rattle.cqlp_kind.specs.CellStep as cell
use Rattle.cqlp_grammar.specs.declared.grammar.Role.{Role}
use Rattle.cqlp_grammar.specs.Events.{Frame, Holds, type_event, cell_event}
use Rattle.cqlp_grammar.specs.Productions.{Symbol, Stream, In, In_type, Cell_due, In_cell, Extra, fault_in}
use Rattle.cqlp_decode.specs.Reading.{Event, Place, Given, Nothing, Waiting, InUse, Used, Gifts, is_in_use, settled, retired, gifts_now, gifts_later, held_after_all, given_after, place_of_types, place_of_cells, place_in_frame, place_after, header_step, value_step, step_at, step, start_with, Reads, Verdict, Waits, Refused, Ends, Says}
use Rattle.cqlp_decode.specs.Streams.{open_after, open_from}
use Rattle.cqlp_decode.proofs.Always.{after_always, map_always, yields_always}
use Rattle.cqlp_laws.specs.Untyped.{AreWholeFrames, NoneInUse}
use Rattle.cqlp_laws.proofs.Plain.{IsLike, Both, SaidAlike, step_plain}
use Rattle.cqlp_laws.proofs.PartsRead.{inside, never_given}
use Rattle.cqlp_laws.proofs.FrameEdges.{IsAtStream}
use Rattle.cqlp_laws.proofs.EventCounts.{always_then}
use Rattle.cqlp_laws.proofs.RunsBack.{taken}

-- From p no given types are in use where these events are said.
abbrev pub Free : Rules → Place → List ℕ → List (ℕ × Event) → Type 0
Free l p bytes es = (front back : List (ℕ × Event)) (q : Place) (left : List ℕ) → es ≡ front ++ back → Reads l p bytes front q left → is_in_use q.given ≡ false

abbrev Outcome : Type 0
Outcome = Said (Emitted Event Place) (ℕ × Reason)

got_forth : (d e : Outcome) (x : Emitted Event Place) (k : ℕ) → SaidAlike d e → d ≡ Got x k → (y : Emitted Event Place) × (e ≡ Got y k) × Both x y
got_forth More e x k a is = absurd cc
got_forth (Bad f) e x k a is = absurd cc
got_forth (Got z j) More x k a is = absurd a
got_forth (Got z j) (Bad f) x k a is = absurd a
got_forth (Got z j) (Got y i) x k a is =
    let one : z ≡ x = cc in
    let used : j ≡ k = cc in
    (y, ap (λ n. Got y n) (sym a.0 ∙ used), rw one at a.1)

got_back : (d e : Outcome) (y : Emitted Event Place) (k : ℕ) → SaidAlike d e → e ≡ Got y k → (x : Emitted Event Place) × (d ≡ Got x k) × Both x y
got_back More More y k a is = absurd cc
got_back More e y k a is = absurd a
got_back (Bad f) (Bad g) y k a is = absurd cc
got_back (Bad f) e y k a is = absurd a
got_back (Got x j) More y k a is = absurd a
got_back (Got x j) (Bad f) y k a is = absurd a
got_back (Got x j) (Got z i) y k a is =
    let one : z ≡ y = cc in
    let used : i ≡ k = cc in
    (x, ap (λ n. Got x n) (a.0 ∙ used), rw one at a.1)

ends_forth : (d e : Outcome) (v : Verdict) → SaidAlike d e → Ends d v → Ends e v
ends_forth More More v a h = h
ends_forth More e v a h = absurd a
ends_forth (Bad f) (Bad g) Waits a h = h
ends_forth (Bad f) (Bad g) (Refused k why) a h = sym a ∙ h
ends_forth (Bad f) e v a h = absurd a
ends_forth (Got x j) e v a h = absurd h

ends_back : (d e : Outcome) (v : Verdict) → SaidAlike d e → Ends e v → Ends d v
ends_back More More v a h = h
ends_back (Bad f) (Bad g) Waits a h = h
ends_back (Bad f) (Bad g) (Refused k why) a h = a ∙ h
ends_back (Got x j) (Got y i) v a h = absurd h
ends_back d e v a h = absurd a

module _ (l : Rules) where
  module _ (p : Place) (b : List ℕ) (e : ℕ × Event) (es : List (ℕ × Event)) (free : Free l p b (e ∷ es)) (used : ℕ) (after : ℕ → Place) (got : says (step l p) 0 b ≡ Got (record { at = e.0; event = e.1; after = after }) used) where
    free_first : is_in_use (after used).given ≡ false
    free_first = free (e ∷ []) es (after used) (drop used b) refl (used, after, got, (refl, refl))

    free_later : Free l (after used) (drop used b) es
    free_later front back q left is run = free (e ∷ front) back q left (ap (λ (xs : List (ℕ × Event)). e ∷ xs) is) (used, after, got, run)

  -- What is said there is said with nothing given.
  pub runs_forth : (es : List (ℕ × Event)) (p p' q : Place) (b left : List ℕ) → IsLike p p' → Free l p b es → Reads l p b es q left → (q' : Place) × IsLike q q' × Reads l p' b es q' left
  runs_forth [] p p' q b left a free r = (p', rw r.0 a, (refl, r.1))
  runs_forth (e ∷ es) p p' q b left a free r =
      let g = got_forth (says (step l p) 0 b) (says (step l p') 0 b) (record { at = e.0; event = e.1; after = r.1 }) r.0 (step_plain l p p' b a) r.2 in
      let same : g.0 ≡ record { at = e.0; event = e.1; after = g.0.after } = emitted_is g.0 e.0 e.1 (sym g.2.0) (sym g.2.1) in
      let later = runs_forth es (r.1 r.0) (g.0.after r.0) q (drop r.0 b) left (g.2.2 r.0 (free_first p b e es free r.0 r.1 r.2)) (free_later p b e es free r.0 r.1 r.2) r.3 in
      (later.0, later.1, (r.0, g.0.after, g.1 ∙ ap (λ (x : Emitted Event Place). Got x r.0) same, later.2))

  -- And what is said with nothing given is said there.
  pub runs_back : (es : List (ℕ × Event)) (p p' q' : Place) (b left : List ℕ) → IsLike p p' → Free l p b es → Reads l p' b es q' left → (q : Place) × IsLike q q' × Reads l p b es q left
  runs_back [] p p' q' b left a free r = (p, rw r.0 a, (refl, r.1))
  runs_back (e ∷ es) p p' q' b left a free r =
      let g = got_back (says (step l p) 0 b) (says (step l p') 0 b) (record { at = e.0; event = e.1; after = r.1 }) r.0 (step_plain l p p' b a) r.2 in
      let same : g.0 ≡ record { at = e.0; event = e.1; after = g.0.after } = emitted_is g.0 e.0 e.1 g.2.0 g.2.1 in
      let got = g.1 ∙ ap (λ (x : Emitted Event Place). Got x r.0) same in
      let later = runs_back es (g.0.after r.0) (r.1 r.0) q' (drop r.0 b) left (g.2.2 r.0 (free_first p b e es free r.0 g.0.after got)) (free_later p b e es free r.0 g.0.after got) r.3 in
      (later.0, later.1, (r.0, g.0.after, got, later.2))

  pub says_forth : (es : List (ℕ × Event)) (p p' : Place) (b : List ℕ) (v : Verdict) → IsLike p p' → Free l p b es → Says l p b es v → Says l p' b es v
  says_forth es p p' b v a free s =
      let r = runs_forth es p p' s.0 b s.1 a free s.2 in
      (r.0, s.1, r.2, ends_forth (says (step l s.0) 0 s.1) (says (step l r.0) 0 s.1) v (step_plain l s.0 r.0 s.1 r.1) s.3)

  pub says_back : (es : List (ℕ × Event)) (p p' : Place) (b : List ℕ) (v : Verdict) → IsLike p p' → Free l p b es → Says l p' b es v → Says l p b es v
  says_back es p p' b v a free s =
      let r = runs_back es p p' s.0 b s.1 a free s.2 in
      (r.0, s.1, r.2, ends_back (says (step l r.0) 0 s.1) (says (step l s.0) 0 s.1) v (step_plain l r.0 s.0 s.1 r.1) s.3)

-- ---- where a header is due

-- the place between frames, where nothing was given and no metadata was read
abbrev pub plainly : Place → Place
plainly p = inside p.offset p.stop (Stream ∷ []) NoMore

pub like_plainly : (p : Place) → p.symbols ≡ Stream ∷ [] → IsLike p (plainly p)
like_plainly p due = record { nodes = []; is = λ i. record { offset = p.offset; stop = p.stop; symbols = sym due i; nodes = []; given = Nothing; gifts = [] }; same = inr (rw due refl) }

module _ (l : Rules) (gifts : Gifts) (bytes : List ℕ) (before es : List (ℕ × Event)) (p : Place) (left : List ℕ) where
  pub free_from : Reads l (start_with gifts) bytes before p left → NoneInUse l gifts bytes before es → Free l p left es
  free_from run none front back q rest is later = none front back q rest is (runs_then (step l) (start_with gifts) p q bytes left rest before front run later)

-- ---- the end of a frame

-- a header is due, and no given types are in use
abbrev pub IsBetween : Place → Type 0
IsBetween p = (p.symbols ≡ Stream ∷ []) × (is_in_use p.given ≡ false)

-- it is so after the end of a frame
abbrev IsDue : Emitted Event Place → List ℕ → Type 0
IsDue x b = open_after x.event ≡ false → IsBetween (x.after (length b))

pub retired_free : (g : Given) → is_in_use (retired g) ≡ false
retired_free Nothing = refl
retired_free (Waiting ts) = refl
retired_free (InUse ts) = refl
retired_free (Used ts) = refl

type_opens : (e : TypeEvent) → open_after (type_event e) ≡ true
type_opens (IsNode k) = refl
type_opens (IsField f v) = refl

cell_opens : (row column : ℕ) (e : CellEvent) → open_after (cell_event row column e) ≡ true
cell_opens row column (cell.Leave level items) = refl
cell_opens row column e = refl

not_due : (e : Event) (p : Place) → open_after e ≡ true → open_after e ≡ false → IsBetween p
not_due e p opens ends = let no : true ≡ false = sym opens ∙ ends in absurd cc

pub always_any : {A F : Type 0} (r : Reader A F) (before : List ℕ) → Always (λ v b. Unit {0}) r before
always_any (Gives v) before = tt
always_any (Refuses why) before = tt
always_any Idles before = tt
always_any (Takes n next) before = λ c long. always_any (next c) (before ++ c)

module _ (l : Rules) (p : Place) where
  header_ends : (h : Heading) (b : List ℕ) → Always IsDue (header_step p h) b
  header_ends (Err e) b = tt
  header_ends (Ok h) b = not_due (Frame h) (place_in_frame p h (length b)) refl

  value_ends : (f : Field) (r : Role) (rest : List Symbol) (v : FieldValue) (o : Option Reason) (b : List ℕ) → Always IsDue (value_step l.types p f r rest v o) b
  value_ends f r rest v None b = not_due (Holds f v) (place_after l.types p r rest v (length b)) refl
  value_ends f r rest v (Some why) b = tt

  cells_end : (row column : ℕ) (cs : List CellSymbol) (rest : List Symbol) → Always IsDue (map_step (cell_event row column) (place_of_cells row column p rest) (cell_step l (record { offset = p.offset; symbols = cs }))) []
  cells_end row column cs rest =
      let r = cell_step l (record { offset = p.offset; symbols = cs }) in
      map_always (cell_event row column) (place_of_cells row column p rest) IsDue r [] (always_then (λ x b. Unit {0}) _ r [] (λ x b _. not_due (cell_event row column x.event) (place_of_cells row column p rest (x.after (length b))) (cell_opens row column x.event)) (always_any r []))

  step_ends : (ss : List Symbol) → Always IsDue (step_at l p ss) []
  step_ends [] = tt
  step_ends (Stream ∷ rest) = either_always IsDue [] (ltb (2 ^ 63) p.offset) _ _ (λ _. tt) (λ _ c long. header_ends (heading c) c)
  step_ends (In f m r ∷ rest) =
      let room = p.stop - p.offset in
      after_always (λ v b. Unit {0}) IsDue p.offset (field_of m (limit_of l m) room) _ [] (always_any (field_of m (limit_of l m) room) []) (λ v b _. value_ends f r rest v (fault_in r v) b)
  step_ends (In_type ts ∷ rest) =
      let r = type_step l (record { offset = p.offset; stop = p.stop; symbols = ts; nodes = p.nodes }) in
      map_always type_event (place_of_types p rest) IsDue r [] (always_then (λ x b. Unit {0}) _ r [] (λ x b _. not_due (type_event x.event) (place_of_types p rest (x.after (length b))) (type_opens x.event)) (always_any r []))
  step_ends (Cell_due row column k inner ∷ rest) = cells_end row column (Value_of k inner 0 p.stop ∷ []) rest
  step_ends (In_cell row column cs ∷ rest) = cells_end row column cs rest
  step_ends (Extra ∷ rest) = λ c long ends. (refl, retired_free p.given)

-- Where no frame is open, a header is due.
pub closed_due : (l : Rules) (es : List (ℕ × Event)) (b0 : Bool) (p q : Place) (b left : List ℕ) → (b0 ≡ false → IsBetween p) → open_from b0 es ≡ false → Reads l p b es q left → IsBetween q
closed_due l [] b0 p q b left due closed r = rw r.0 (due closed)
closed_due l (e ∷ es) b0 p q b left due closed r =
    let x : Emitted Event Place = record { at = e.0; event = e.1; after = r.1 } in
    let t = taken (step l p) x r.0 b r.2 in
    let next : open_after e.1 ≡ false → IsBetween (r.1 r.0) = rw t.long at (yields_always IsDue (step l p) x [] t.front (step_ends l (settled p) p.symbols) t.yields) in
    closed_due l es (open_after e.1) (r.1 r.0) q (drop r.0 b) left next closed r.3

pub whole_due : (l : Rules) (gifts : Gifts) (s : List ℕ) (es : List (ℕ × Event)) (w : AreWholeFrames l gifts s es) → w.0.symbols ≡ Stream ∷ []
whole_due l gifts s es w = (closed_due l es false (start_with gifts) w.0 s [] (λ _. (refl, refl)) w.2 w.1).0

header_only : (l : Rules) (p : Place) (ss : List Symbol) (b : List ℕ) → IsAtStream ss → says (step_at l (settled p) ss) 0 b ≡ says (step_at l (settled p) (Stream ∷ [])) 0 b
header_only l p [] b h = absurd h
header_only l p (Stream ∷ rest) b h = refl
header_only l p (s ∷ rest) b h = absurd h

module _ (l : Rules) (p : Place) (b : List ℕ) (due : IsAtStream p.symbols) where
  -- the place where nothing but a header is due
  abbrev at_header : Place
  at_header = record p { symbols = Stream ∷ [] }

  here : says (step l p) 0 b ≡ says (step l at_header) 0 b
  here = header_only l p p.symbols b due

  still_free : (es : List (ℕ × Event)) → Free l p b es → Free l at_header b es
  still_free es free [] back q left is run = rw run.0 (free [] es p b refl (refl, refl))
  still_free es free (f ∷ front) back q left is run = free (f ∷ front) back q left is (run.0, run.1, here ∙ run.2, run.3)

  -- A frame in which no given types are in use is read with nothing given.
  pub frame_forth : (e : ℕ × Event) (es : List (ℕ × Event)) (q : Place) (left : List ℕ) → Free l p b (e ∷ es) → Reads l p b (e ∷ es) q left → (q' : Place) × Reads l (plainly p) b (e ∷ es) q' left
  frame_forth e es q left free run =
      let r = runs_forth l (e ∷ es) at_header (plainly p) q b left (like_plainly at_header refl) (still_free (e ∷ es) free) (run.0, run.1, sym here ∙ run.2, run.3) in
      (r.0, r.2)

-- ---- nothing given

-- nothing was given here, and nothing will be
abbrev NeverGiven : Place → Type 0
NeverGiven p = (p.given ≡ Nothing) × (p.gifts ≡ [])

abbrev StaysSo : Emitted Event Place → List ℕ → Type 0
StaysSo x b = NeverGiven (x.after (length b))

module _ (l : Rules) (p : Place) (never : NeverGiven p) where
  header_stays : (h : Heading) (b : List ℕ) → Always StaysSo (header_step p h) b
  header_stays (Err e) b = tt
  header_stays (Ok h) b = never

  value_stays : (f : Field) (r : Role) (rest : List Symbol) (v : FieldValue) (o : Option Reason) (b : List ℕ) → Always StaysSo (value_step l.types p f r rest v o) b
  value_stays f r rest v None b = (ap (given_after r) never.0 ∙ never_given r, never.1)
  value_stays f r rest v (Some why) b = tt

  cells_stay : (row column : ℕ) (cs : List CellSymbol) (rest : List Symbol) → Always StaysSo (map_step (cell_event row column) (place_of_cells row column p rest) (cell_step l (record { offset = p.offset; symbols = cs }))) []
  cells_stay row column cs rest =
      let r = cell_step l (record { offset = p.offset; symbols = cs }) in
      map_always (cell_event row column) (place_of_cells row column p rest) StaysSo r [] (always_then (λ x b. Unit {0}) _ r [] (λ x b _. never) (always_any r []))

  step_stays : (ss : List Symbol) → Always StaysSo (step_at l p ss) []
  step_stays [] = tt
  step_stays (Stream ∷ rest) = either_always StaysSo [] (ltb (2 ^ 63) p.offset) _ _ (λ _. tt) (λ _ c long. header_stays (heading c) c)
  step_stays (In f m r ∷ rest) =
      let room = p.stop - p.offset in
      after_always (λ v b. Unit {0}) StaysSo p.offset (field_of m (limit_of l m) room) _ [] (always_any (field_of m (limit_of l m) room) []) (λ v b _. value_stays f r rest v (fault_in r v) b)
  step_stays (In_type ts ∷ rest) =
      let r = type_step l (record { offset = p.offset; stop = p.stop; symbols = ts; nodes = p.nodes }) in
      map_always type_event (place_of_types p rest) StaysSo r [] (always_then (λ x b. Unit {0}) _ r [] (λ x b _. never) (always_any r []))
  step_stays (Cell_due row column k inner ∷ rest) = cells_stay row column (Value_of k inner 0 p.stop ∷ []) rest
  step_stays (In_cell row column cs ∷ rest) = cells_stay row column cs rest
  step_stays (Extra ∷ rest) = λ c long. (ap retired never.0, never.1)

never_settled : (p : Place) → NeverGiven p → NeverGiven (settled p)
never_settled p never = (ap (λ (gs : Gifts). held_after_all (gifts_now gs) p.given) never.1 ∙ never.0, ap gifts_later never.1)

reads_never : (l : Rules) (es : List (ℕ × Event)) (p q : Place) (b left : List ℕ) → NeverGiven p → Reads l p b es q left → NeverGiven q
reads_never l [] p q b left never r = rw r.0 never
reads_never l (e ∷ es) p q b left never r =
    let x : Emitted Event Place = record { at = e.0; event = e.1; after = r.1 } in
    let t = taken (step l p) x r.0 b r.2 in
    reads_never l es (r.1 r.0) q (drop r.0 b) left (rw t.long at (yields_always StaysSo (step l p) x [] t.front (step_stays l (settled p) (never_settled p never) p.symbols) t.yields)) r.3

-- Where nothing is given, no given types are ever in use.
pub nothing_in_use : (l : Rules) (bytes : List ℕ) (before es : List (ℕ × Event)) → NoneInUse l [] bytes before es
nothing_in_use l bytes before es front back p left is run = rw ((reads_never l (before ++ front) (start_with []) p bytes left (refl, refl) run).0) refl
