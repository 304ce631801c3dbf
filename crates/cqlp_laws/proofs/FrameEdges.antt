-- Where headers and the ends of frames are said, and from what bytes.
use Rattle.std.proofs.Common.{◌≡◌, ℕ, ◌+◌, ◌-◌, ◌^◌, ltb, List, [], ◌∷◌, ◌++◌, length, Option, Some, None, Ok, Err, refl, sym, ap, ◌∙◌, subst}
use Rattle.std.proofs.lemmas.List.{append-nil}
use Rattle.cqlp_note.specs.declared.field.Field.{Field}
use Rattle.cqlp_note.specs.declared.header.Header.{Header}
use Rattle.cqlp_note.specs.declared.refusal.Reason.{Reason}
use Rattle.cqlp_note.specs.declared.refusal.Reason.TheVariants.{StreamTooLong}
use Rattle.cqlp_note.specs.Reader.{Takes}
use Rattle.cqlp_note.specs.Field.{FieldValue, field_of}
use Rattle.cqlp_note.specs.Heading.{Heading, heading}
use Rattle.cqlp_note.specs.Limits.{Rules, limit_of}
use Rattle.cqlp_note.specs.Step.{Emitted, map_step}
use Rattle.cqlp_note.proofs.Yields.{Yields}
use Rattle.cqlp_kind.specs.Types.{Types}
use Rattle.cqlp_kind.specs.TypeStep.{TypeEvent, IsNode, IsField, type_step}
use Rattle.cqlp_kind.specs.CellStep.{CellSymbol, Value_of, CellEvent, cell_step}
use Rattle.cqlp_kind.specs.CellStep as cell
use Rattle.cqlp_grammar.specs.declared.grammar.Role.{Role}
use Rattle.cqlp_grammar.specs.Events.{Event, Frame, End, type_event, cell_event}
use Rattle.cqlp_grammar.specs.Productions.{Symbol, Stream, In, In_type, Cell_due, In_cell, Extra, message, fault_in}
use Rattle.cqlp_decode.specs.Reading.{Place, settled, place_of_types, place_of_cells, place_in_frame, place_at_end, header_step, value_step, step, step_at, Reads}
use Rattle.cqlp_laws.proofs.RunsBack.{taken, after_back, map_back, passed}
use Rattle.cqlp_laws.proofs.PartsBack.{inside, IsAtEnd}

-- ---- where a header and an end are said

abbrev pub IsAtStream : List Symbol → Type 0
IsAtStream [] = ⊥
IsAtStream (Stream ∷ rest) = Unit {0}
IsAtStream (s ∷ rest) = ⊥

abbrev pub IsAtExtra : List Symbol → Type 0
IsAtExtra [] = ⊥
IsAtExtra (Extra ∷ rest) = Unit {0}
IsAtExtra (s ∷ rest) = ⊥

pub stream_end : (ss : List Symbol) → IsAtStream ss → IsAtEnd ss
stream_end [] h = h
stream_end (Stream ∷ rest) h = tt
stream_end (s ∷ rest) h = absurd h

pub extra_end : (ss : List Symbol) → IsAtExtra ss → IsAtEnd ss
extra_end [] h = h
extra_end (Extra ∷ rest) h = tt
extra_end (s ∷ rest) h = absurd h

-- a header comes where one is due, and the end of a frame too
abbrev pub ComesAt : List Symbol → Event → Type 0
ComesAt ss (Frame h) = IsAtStream ss
ComesAt ss (End n) = IsAtExtra ss
ComesAt ss e = Unit {0}

type_comes : (ss : List Symbol) (e : TypeEvent) → ComesAt ss (type_event e)
type_comes ss (IsNode k) = tt
type_comes ss (IsField f v) = tt

cell_comes : (ss : List Symbol) (row column : ℕ) (e : CellEvent) → ComesAt ss (cell_event row column e)
cell_comes ss row column (cell.Leave level items) = tt
cell_comes ss row column e = tt

abbrev Comes : List Symbol → Emitted Event Place → Type 0
Comes ss x = ComesAt ss x.event

module _ (l : Rules) (p : Place) (x : Emitted Event Place) where
  field_comes : (ss : List Symbol) (f : Field) (r : Role) (rest : List Symbol) (v : FieldValue) (o : Option Reason) (b : List ℕ) → Yields (value_step l.types p f r rest v o) x b → Comes ss x
  field_comes ss f r rest v None b y = subst (λ (z : Emitted Event Place). Comes ss z) y.0 tt
  field_comes ss f r rest v (Some why) b y = absurd y

  header_comes : (rest : List Symbol) (d : Heading) (b : List ℕ) → Yields (header_step p d) x b → Comes (Stream ∷ rest) x
  header_comes rest (Ok h) b y = subst (λ (z : Emitted Event Place). Comes (Stream ∷ rest) z) y.0 tt
  header_comes rest (Err e) b y = absurd y

  cells_come : (ss : List Symbol) (row column : ℕ) (cs : List CellSymbol) (rest : List Symbol) (b : List ℕ)
      → Yields (map_step (cell_event row column) (place_of_cells row column p rest) (cell_step l (record { offset = p.offset; symbols = cs }))) x b → Comes ss x
  cells_come ss row column cs rest b y =
      let m = map_back (cell_event row column) (place_of_cells row column p rest) (cell_step l (record { offset = p.offset; symbols = cs })) x b y in
      subst (λ (z : Emitted Event Place). Comes ss z) (sym m.1) (cell_comes ss row column m.0.event)

  step_comes : (ss : List Symbol) (b : List ℕ) → Yields (step_at l p ss) x b → Comes ss x
  step_comes [] b y = absurd y
  step_comes (Stream ∷ rest) b y = let t = passed (ltb (2 ^ 63) p.offset) (p.offset, StreamTooLong) (Takes 9 (λ c. header_step p (heading c))) x b y in header_comes rest (heading t.1.0) t.1.1 t.1.4
  step_comes (In f n r ∷ rest) b y =
      let a = after_back p.offset (field_of n (limit_of l n) (p.stop - p.offset)) (λ v. value_step l.types p f r rest v (fault_in r v)) x b y in
      field_comes (In f n r ∷ rest) f r rest a.0 (fault_in r a.0) a.2 a.5
  step_comes (In_type ts ∷ rest) b y =
      let m = map_back type_event (place_of_types p rest) (type_step l (record { offset = p.offset; stop = p.stop; symbols = ts; nodes = p.nodes })) x b y in
      subst (λ (z : Emitted Event Place). Comes (In_type ts ∷ rest) z) (sym m.1) (type_comes (In_type ts ∷ rest) m.0.event)
  step_comes (Cell_due row column k inner ∷ rest) b y = cells_come (Cell_due row column k inner ∷ rest) row column (Value_of k inner 0 p.stop ∷ []) rest b y
  step_comes (In_cell row column cs ∷ rest) b y = cells_come (In_cell row column cs ∷ rest) row column cs rest b y
  step_comes (Extra ∷ rest) b y = subst (λ (z : Emitted Event Place). Comes (Extra ∷ rest) z) y.4.0 tt

-- what a run says next, comes at its place
pub next_comes : (l : Rules) (p q : Place) (b left : List ℕ) (e : ℕ × Event) (es : List (ℕ × Event)) → Reads l p b (e ∷ es) q left → ComesAt p.symbols e.1
next_comes l p q b left e es run =
    let x : Emitted Event Place = record { at = e.0; event = e.1; after = run.1 } in
    let t = taken (step l p) x run.0 b run.2 in
    step_comes l (settled p) x p.symbols t.front t.yields

-- ---- a header, and an end

-- a place between frames
abbrev pub between : (at stop : ℕ) (described : Types) → Place
between at stop described = inside at stop (Stream ∷ []) described

record IsHeader (p : Place) (x : Emitted Event Place) (b : List ℕ) : Type 0 where
  header : Header
  nine : length b ≡ 9
  is : heading b ≡ Ok header
  event : x ≡ record { at = p.offset; event = Frame header; after = place_in_frame p header }

header_value : (p : Place) (x : Emitted Event Place) (d : Heading) (b : List ℕ) → Yields (header_step p d) x b → (h : Header) × (d ≡ Ok h) × (b ≡ []) × (x ≡ record { at = p.offset; event = Frame h; after = place_in_frame p h })
header_value p x (Ok h) b y = (h, refl, y.1, sym y.0)
header_value p x (Err e) b y = absurd y

module _ (l : Rules) (at stop : ℕ) (described : Types) (x : Emitted Event Place) (b : List ℕ) where
  header_back : Yields (step l (between at stop described)) x b → IsHeader (between at stop described) x b
  header_back y =
      let p = between at stop described in
      let t = (passed (ltb (2 ^ 63) at) (at, StreamTooLong) (Takes 9 (λ c. header_step p (heading c))) x b y).1 in
      let v = header_value p x (heading t.0) t.1 t.4 in
      let whole : b ≡ t.0 = t.3 ∙ ap (λ (z : List ℕ). t.0 ++ z) v.2 ∙ append-nil t.0 in
      record { header = v.0; nine = ap length whole ∙ t.2; is = ap heading whole ∙ v.1; event = v.3 }

  end_back : Yields (step l (inside at stop (Extra ∷ []) described)) x b → (length b ≡ stop - at) × (x ≡ record { at = stop; event = End (stop - at); after = place_at_end (inside at stop (Extra ∷ []) described) })
  end_back y =
      let whole : b ≡ y.0 = y.3 ∙ ap (λ (z : List ℕ). y.0 ++ z) y.4.1 ∙ append-nil y.0 in
      (ap length whole ∙ y.2, sym y.4.0)

-- a run that begins with a frame's end
pub record Ended (l : Rules) (at stop : ℕ) (described : Types) (b : List ℕ) (es : List (ℕ × Event)) (q : Place) (left : List ℕ) : Type 0 where
  pub extra : List ℕ
  pub back : List ℕ
  pub later : List (ℕ × Event)
  pub whole : b ≡ extra ++ back
  pub long : length extra ≡ stop - at
  pub events : es ≡ (stop, End (stop - at)) ∷ later
  pub onward : Reads l (between stop stop described) back later q left

-- a run that begins with a header
pub record Begun (l : Rules) (at : ℕ) (described : Types) (b : List ℕ) (e : ℕ × Event) (es : List (ℕ × Event)) (q : Place) (left : List ℕ) : Type 0 where
  pub head : List ℕ
  pub back : List ℕ
  pub header : Header
  pub whole : b ≡ head ++ back
  pub nine : length head ≡ 9
  pub is : heading head ≡ Ok header
  pub event : e ≡ (at, Frame header)
  pub onward : Reads l (inside (at + 9) ((at + 9) + header.length) (message header) described) back es q left

module _ (l : Rules) (at stop : ℕ) (described : Types) (b : List ℕ) (e : ℕ × Event) (es : List (ℕ × Event)) (q : Place) (left : List ℕ) where
  pub ended : Reads l (inside at stop (Extra ∷ []) described) b (e ∷ es) q left → Ended l at stop described b (e ∷ es) q left
  ended run =
      let x : Emitted Event Place = record { at = e.0; event = e.1; after = run.1 } in
      let t = taken (step l (inside at stop (Extra ∷ []) described)) x run.0 b run.2 in
      let v = end_back l at stop described x t.front t.yields in
      record {
        extra = t.front;
        back = t.back;
        later = es;
        whole = t.whole;
        long = v.0;
        events = ap (λ (z : Emitted Event Place). (z.at, z.event) ∷ es) v.1;
        onward = subst (λ (z : Emitted Event Place). Reads l (z.after run.0) t.back es q left) v.1 (rw t.left at run.3);
      }

  pub begun : Reads l (between at stop described) b (e ∷ es) q left → Begun l at described b e es q left
  begun run =
      let p = between at stop described in
      let x : Emitted Event Place = record { at = e.0; event = e.1; after = run.1 } in
      let t = taken (step l p) x run.0 b run.2 in
      let v = header_back l at stop described x t.front t.yields in
      let used : run.0 ≡ 9 = sym t.long ∙ v.nine in
      let onward = subst (λ (z : Emitted Event Place). Reads l (z.after run.0) t.back es q left) v.event (rw t.left at run.3) in
      record { head = t.front; back = t.back; header = v.header; whole = t.whole; nine = v.nine; is = v.is; event = ap (λ (z : Emitted Event Place). (z.at, z.event)) v.event; onward = subst (λ (n : ℕ). Reads l (place_in_frame p v.header n) t.back es q left) used onward }
