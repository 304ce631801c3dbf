-- The reading of a stream is as many bytes on as it has read, whatever is given.
use Rattle.std.proofs.Common.{◌≡◌, ℕ, zero, suc, ◌+◌, ◌-◌, ◌≤◌, ◌^◌, Bool, true, false, ◌&&◌, eqb, ltb, leb, cond, min, List, [], ◌∷◌, ◌++◌, length, drop, Option, Some, None, Ok, Err, refl, sym, ap, subst, arith}
use Rattle.std.specs.Int.{w32, from_be_bytes}
use Rattle.std.proofs.lemmas.Bool.{ltb-false}
use Rattle.std.proofs.lemmas.List.{length-append}
use Rattle.cqlp_note.specs.declared.field.Field.{Field}
use Rattle.cqlp_note.specs.declared.refusal.Reason.{Reason}
use Rattle.cqlp_note.specs.Reader.{number_of}
use Rattle.cqlp_note.specs.Field.{FieldValue, field_of, is_negative}
use Rattle.cqlp_note.specs.Step.{Emitted, map_step}
use Rattle.cqlp_note.specs.Limits.{Rules, limit_of}
use Rattle.cqlp_note.specs.Heading.{Heading, heading}
use Rattle.cqlp_note.proofs.Readers.{Always}
use Rattle.cqlp_note.proofs.Fields.{either_always}
use Rattle.cqlp_kind.specs.declared.kind.Kind.{Kind}
use Rattle.cqlp_kind.specs.declared.kind.Kind.TheVariants as kind
use Rattle.cqlp_kind.specs.Types.{Types, NoMore, Type_and}
use Rattle.cqlp_kind.specs.TypeStep.{TypeSymbol, TypePlace, type_step}
use Rattle.cqlp_kind.specs.Scalars.{ScalarValue, size_or_lenient, scalar_or_lenient}
use Rattle.cqlp_kind.specs.CellStep.{CellSymbol, Value_of, Items_of, Close_of, Content_from, CellEvent, CellPlace, cell_copies, values_of, is_opaque, leaf_step, close_step, counted_step, part_step, scalar_step, content_step, value_step, cell_step_at, cell_step, lenient_excess}
use Rattle.cqlp_grammar.specs.declared.grammar.Role.{Role}
use Rattle.cqlp_grammar.specs.Productions.{Symbol, Stream, In, In_type, Cell_due, In_cell, Extra, message, following, fault_in}
use Rattle.cqlp_decode.specs.Reading.{Event, Place, Gifts, start_with, settled, type_event, cell_event, types_for, types_left, cells_left, place_of_types, place_of_cells, header_step, step_at, step, Reads}
use Rattle.cqlp_decode.specs.Reading as reading
use Rattle.cqlp_decode.proofs.Always.{after_always, map_always, yields_always}
use Rattle.cqlp_laws.proofs.EventCounts.{always_then}
use Rattle.cqlp_laws.proofs.RunsBack.{always_yields, field_back, taken}
use Rattle.cqlp_laws.proofs.InnerRuns.{Few, Gets, type_gets}
use Rattle.cqlp_laws.proofs.Due.{AreDue, new_due, following_new, message_due}

-- ---- cells

-- the values that are still to be read end by here, and no content is begun
abbrev AllFit : (stop : ℕ) → List CellSymbol → Type 0
AllFit stop [] = Unit {0}
AllFit stop (Value_of k inner level end ∷ rest) = (end ≤ stop) × AllFit stop rest
AllFit stop (Items_of ts level end taken ∷ rest) = (end ≤ stop) × AllFit stop rest
AllFit stop (Close_of level end taken ∷ rest) = AllFit stop rest
AllFit stop (Content_from level offset total ∷ rest) = ⊥

-- and so does a content that is begun
abbrev FitAt : (offset stop : ℕ) → List CellSymbol → Type 0
FitAt at stop (Content_from level offset total ∷ rest) = (at + (total - offset) ≤ stop) × AllFit stop rest
FitAt at stop ss = AllFit stop ss

fit_at : (at stop : ℕ) (ss : List CellSymbol) → AllFit stop ss → FitAt at stop ss
fit_at at stop [] h = h
fit_at at stop (Value_of k inner level end ∷ rest) h = h
fit_at at stop (Items_of ts level end taken ∷ rest) h = h
fit_at at stop (Close_of level end taken ∷ rest) h = h
fit_at at stop (Content_from level offset total ∷ rest) h = absurd h

fit_append : (stop : ℕ) (xs ys : List CellSymbol) → AllFit stop xs → AllFit stop ys → AllFit stop (xs ++ ys)
fit_append stop [] ys a b = b
fit_append stop (Value_of k inner level end ∷ xs) ys a b = (a.0, fit_append stop xs ys a.1 b)
fit_append stop (Items_of ts level end taken ∷ xs) ys a b = (a.0, fit_append stop xs ys a.1 b)
fit_append stop (Close_of level end taken ∷ xs) ys a b = fit_append stop xs ys a b
fit_append stop (Content_from level offset total ∷ xs) ys a b = absurd a

values_fit : (stop : ℕ) (ts : Types) (level end : ℕ) → end ≤ stop → AllFit stop (values_of ts level end)
values_fit stop NoMore level end le = tt
values_fit stop (Type_and k inner others) level end le = (le, values_fit stop others level end le)

copies_fit : (stop n : ℕ) (ss : List CellSymbol) → AllFit stop ss → AllFit stop (cell_copies n ss)
copies_fit stop zero ss h = tt
copies_fit stop (suc n) ss h = fit_append stop ss (cell_copies n ss) h (copies_fit stop n ss h)

-- a place this many bytes on, in a cell that ends by here
record GoesOn (stop : ℕ) (p q : CellPlace) (n : ℕ) : Type 0 where
  onward : q.offset ≡ p.offset + n
  within : q.offset ≤ stop
  fits : FitAt q.offset stop q.symbols

module _ (l : Rules) (stop : ℕ) (p : CellPlace) where
  abbrev Goes : Emitted CellEvent CellPlace → List ℕ → Type 0
  Goes x b = GoesOn stop p (x.after (length b)) (length b)

  made : (ss : List CellSymbol) (n : ℕ) → AllFit stop ss → p.offset + n ≤ stop → GoesOn stop p (record { offset = p.offset + n; symbols = ss }) n
  made ss n fit le = record { onward = refl; within = le; fits = fit_at (p.offset + n) stop ss fit }

  module _ (rest : List CellSymbol) (fit : AllFit stop rest) where
    leaf_goes : (level : ℕ) (k : Kind) (o : Option ScalarValue) (b : List ℕ) → p.offset + length b ≤ stop → Always Goes (leaf_step p rest level k o) b
    leaf_goes level k None b le = tt
    leaf_goes level k (Some v) b le = made rest (length b) fit le

    part_made : (t : Bool) (level at total n : ℕ) → p.offset + n ≤ stop → (p.offset + n) + (total - at) ≤ stop → GoesOn stop p (record { offset = p.offset + n; symbols = cond t [] (Content_from level at total ∷ []) ++ rest }) n
    part_made true level at total n le room = made rest n fit le
    part_made false level at total n le room = record { onward = refl; within = le; fits = (room, fit) }

    part_goes : (level k at total : ℕ) (b : List ℕ) → (p.offset + length b) + (total - at) ≤ stop → Always Goes (part_step l p rest level k at total) b
    part_goes level k at total b le = λ c long.
        let size : length c ≤ total - at = omega (arith, long) in
        part_made (leb (total - at) l.part) level (at + min l.part (total - at)) total (length (b ++ c)) (omega (arith, le, size, length-append b c)) (omega (arith, le, long, length-append b c))

    close_goes : (level end taken : ℕ) (b : List ℕ) → p.offset + length b ≤ stop → Always Goes (close_step p rest level end taken) b
    close_goes level end taken b le = either_always Goes b (ltb p.offset end) _ _ (λ _. tt) (λ _. made rest (length b) fit le)

    scalar_goes : (level : ℕ) (k : Kind) (n : ℕ) (b : List ℕ) → (p.offset + length b) + n ≤ stop → Always Goes (scalar_step l p rest level k n) b
    scalar_goes level k n b le = either_always Goes b (size_or_lenient l.lenient k n) _ _ (λ _.
        either_always Goes b (l.parts && is_opaque k && ltb l.part n) _ _ (λ _. part_goes level 4 0 n b (omega (arith, le))) (λ _.
        either_always Goes b (ltb l.cell n) _ _ (λ _. tt) (λ _ c long. leaf_goes level k (scalar_or_lenient l.lenient k c) (b ++ c) (omega (arith, le, long, length-append b c))))) (λ _. tt)

    counted_goes : (level : ℕ) (k : Kind) (inner : Types) (n : ℕ) (b : List ℕ) → length b ≡ 4 → p.offset + 4 + n ≤ stop → Always Goes (counted_step p rest level k inner n) b
    unfolding number_of
    counted_goes level k inner n b four le = either_always Goes b (ltb n 4) _ _ (λ _. tt) (λ t d size.
        either_always Goes (b ++ d) (is_negative (from_be_bytes w32 d)) _ _ (λ _. tt) (λ _.
        let end = p.offset + 4 + n in
        let count = from_be_bytes w32 d in
        let items = cell_copies count (values_of inner (level + 1) end) in
        made ((items ++ Close_of level end count ∷ []) ++ rest) (length (b ++ d))
        (fit_append stop (items ++ Close_of level end count ∷ []) rest (fit_append stop items (Close_of level end count ∷ []) (copies_fit stop count (values_of inner (level + 1) end) (values_fit stop inner (level + 1) end le)) tt) fit)
        (omega (arith, le, four, size, ltb-false _ _ t, length-append b d))))

    content_goes : (level : ℕ) (k : Kind) (inner : Types) (n : ℕ) (b : List ℕ) → length b ≡ 4 → p.offset + 4 + n ≤ stop → Always Goes (content_step l p rest level k inner n) b
    content_goes level kind.List inner n b four le = counted_goes level kind.List inner n b four le
    content_goes level kind.Set inner n b four le = counted_goes level kind.Set inner n b four le
    content_goes level kind.Map inner n b four le = counted_goes level kind.Map inner n b four le
    content_goes level kind.Udt inner n b four le = made (Items_of inner level (p.offset + 4 + n) 0 ∷ rest) (length b) (le, fit) (omega (arith, le, four))
    content_goes level kind.Tuple inner n b four le = made (Items_of inner level (p.offset + 4 + n) 0 ∷ rest) (length b) (le, fit) (omega (arith, le, four))
    content_goes level k inner n b four le = scalar_goes level k n b (omega (arith, le, four))

    value_goes : (k : Kind) (inner : Types) (level end : ℕ) → end ≤ stop → Always Goes (value_step l p rest k inner level (end - p.offset)) []
    unfolding number_of
    value_goes k inner level end le = either_always Goes [] (ltb (end - p.offset) 4) _ _ (λ _. tt) (λ t c size.
        let four : p.offset + length c ≤ stop = omega (arith, le, size, ltb-false _ _ t) in
        either_always Goes c (is_negative (from_be_bytes w32 c)) _ _ (λ _. made rest (length c) fit four) (λ _.
        either_always Goes c (eqb (from_be_bytes w32 c) 0) _ _ (λ _. made rest (length c) fit four) (λ _.
        either_always Goes c (ltb (end - p.offset) (4 + from_be_bytes w32 c)) _ _ (λ _. tt) (λ u. content_goes level k inner (from_be_bytes w32 c) c size (omega (arith, le, ltb-false _ _ u))))))

  cell_goes : (ss : List CellSymbol) → p.offset ≤ stop → FitAt p.offset stop ss → Always Goes (cell_step_at l p ss) []
  cell_goes [] le fit = tt
  cell_goes (Value_of k inner level end ∷ rest) le fit = value_goes rest fit.1 k inner level end fit.0
  cell_goes (Items_of NoMore level end taken ∷ rest) le fit =
      either_always Goes [] (lenient_excess l (end - p.offset)) _ _ (λ _. part_goes (Items_of NoMore level end taken ∷ rest) fit (level + 1) 0 0 (end - p.offset) [] (omega (arith, le, fit.0))) (λ _. close_goes rest fit.1 level end taken [] (omega (arith, le)))
  cell_goes (Items_of (Type_and k inner others) level end taken ∷ rest) le fit =
      either_always Goes [] (leb end p.offset) _ _ (λ _. close_goes rest fit.1 level end taken [] (omega (arith, le))) (λ _. value_goes (Items_of others level end (taken + 1) ∷ rest) fit k inner (level + 1) end fit.0)
  cell_goes (Close_of level end taken ∷ rest) le fit = close_goes rest fit level end taken [] (omega (arith, le))
  cell_goes (Content_from level offset total ∷ rest) le fit = part_goes rest fit.1 level 0 offset total [] (omega (arith, fit.0))

-- ---- a stream

-- what is due comes of a header, but for a type option or a cell that is begun
abbrev Fits : Rules → (offset stop nodes : ℕ) → List Symbol → Type 0
Fits l at stop n (In f m r ∷ rest) = AreDue rest
Fits l at stop n (In_type ts ∷ rest) = Few l ts n × AreDue rest
Fits l at stop n (Cell_due row column k inner ∷ rest) = AreDue rest
Fits l at stop n (In_cell row column cs ∷ rest) = FitAt at stop cs × AreDue rest
Fits l at stop n ss = Unit {0}

due_fits : (l : Rules) (at stop n : ℕ) (ss : List Symbol) → AreDue ss → Fits l at stop n ss
due_fits l at stop n [] due = tt
due_fits l at stop n (Stream ∷ rest) due = tt
due_fits l at stop n (In f m r ∷ rest) due = due
due_fits l at stop n (In_type ts ∷ rest) due = (subst (λ (us : List TypeSymbol). Few l us n) (sym due.0) tt, due.1)
due_fits l at stop n (Cell_due row column k inner ∷ rest) due = due
due_fits l at stop n (In_cell row column cs ∷ rest) due = absurd due
due_fits l at stop n (Extra ∷ rest) due = tt

-- a place is within its frame
pub record IsInFrame (l : Rules) (p : Place) : Type 0 where
  within : p.offset ≤ p.stop
  fits : Fits l p.offset p.stop (length p.nodes) p.symbols

types_fit : (l : Rules) (at stop n : ℕ) (ts : List TypeSymbol) (rest : List Symbol) → Few l ts n → AreDue rest → Fits l at stop n (types_left ts ++ rest)
types_fit l at stop n [] rest few due = due_fits l at stop n rest due
types_fit l at stop n (t ∷ ts) rest few due = (few, due)

cells_fit : (l : Rules) (at stop n row column : ℕ) (cs : List CellSymbol) (rest : List Symbol) → FitAt at stop cs → AreDue rest → Fits l at stop n (cells_left row column cs ++ rest)
cells_fit l at stop n row column [] rest fit due = due_fits l at stop n rest due
cells_fit l at stop n row column (c ∷ cs) rest fit due = (fit, due)

module _ (l : Rules) (p : Place) (within : p.offset ≤ p.stop) where
  -- the place after a step is as many bytes on as it took
  abbrev Advances : Emitted Event Place → List ℕ → Type 0
  Advances x b = ((x.after (length b)).offset ≡ p.offset + length b) × IsInFrame l (x.after (length b))

  header_advances : (h : Heading) (b : List ℕ) → Always Advances (header_step p h) b
  header_advances (Err e) b = tt
  header_advances (Ok h) b =
      let at = p.offset + length b in
      (refl, record { within = omega arith; fits = due_fits l at (at + h.length) (length p.nodes) (message h) (message_due h) })

  field_advances : (f : Field) (r : Role) (rest : List Symbol) (v : FieldValue) (o : Option Reason) (b : List ℕ) → AreDue rest → length b ≤ p.stop - p.offset → Always Advances (reading.value_step l.types p f r rest v o) b
  field_advances f r rest v (Some why) b due le = tt
  field_advances f r rest v None b due le =
      let next = following (types_for l.types r p.nodes p.given) r v in
      (refl, record { within = omega (arith, within, le); fits = due_fits l (p.offset + length b) p.stop (length (reading.nodes_after r p.nodes)) (next ++ rest) (new_due next rest (following_new (types_for l.types r p.nodes p.given) r v) due) })

  types_advance : (ts : List TypeSymbol) (rest : List Symbol) → Few l ts (length p.nodes) → AreDue rest → Always Advances (map_step type_event (place_of_types p rest) (type_step l (record { offset = p.offset; stop = p.stop; symbols = ts; nodes = p.nodes }))) []
  types_advance ts rest few due =
      let q : TypePlace = record { offset = p.offset; stop = p.stop; symbols = ts; nodes = p.nodes } in
      map_always type_event (place_of_types p rest) Advances (type_step l q) []
      (always_then (Gets l q within) _ (type_step l q) [] (λ x b g. (g.onward, record { within = g.within; fits = types_fit l (x.after (length b)).offset (x.after (length b)).stop (length (x.after (length b)).nodes) (x.after (length b)).symbols rest g.counted due })) (type_gets l q within ts few))

  cells_advance : (row column : ℕ) (cs : List CellSymbol) (rest : List Symbol) → FitAt p.offset p.stop cs → AreDue rest → Always Advances (map_step (cell_event row column) (place_of_cells row column p rest) (cell_step l (record { offset = p.offset; symbols = cs }))) []
  cells_advance row column cs rest fit due =
      let q : CellPlace = record { offset = p.offset; symbols = cs } in
      map_always (cell_event row column) (place_of_cells row column p rest) Advances (cell_step l q) []
      (always_then (Goes l p.stop q) _ (cell_step l q) [] (λ x b g. (g.onward, record { within = g.within; fits = cells_fit l (x.after (length b)).offset p.stop (length p.nodes) row column (x.after (length b)).symbols rest g.fits due })) (cell_goes l p.stop q cs within fit))

  step_advances : (ss : List Symbol) → Fits l p.offset p.stop (length p.nodes) ss → Always Advances (step_at l p ss) []
  step_advances [] fits = tt
  step_advances (Stream ∷ rest) fits = either_always Advances [] (ltb (2 ^ 63) p.offset) _ _ (λ _. tt) (λ _ c long. header_advances (heading c) c)
  step_advances (In f m r ∷ rest) fits =
      let room = p.stop - p.offset in
      after_always (λ v b. length b ≤ room) Advances p.offset (field_of m (limit_of l m) room) _ [] (always_yields (λ v b. length b ≤ room) (field_of m (limit_of l m) room) [] (λ v b y. (field_back m (limit_of l m) room v b y).1)) (λ v b le.
      field_advances f r rest v (fault_in r v) b fits le)
  step_advances (In_type ts ∷ rest) fits = types_advance ts rest fits.0 fits.1
  step_advances (Cell_due row column k inner ∷ rest) fits = cells_advance row column (Value_of k inner 0 p.stop ∷ []) rest (omega arith, tt) fits
  step_advances (In_cell row column cs ∷ rest) fits = cells_advance row column cs rest fits.0 fits.1
  step_advances (Extra ∷ rest) fits = λ c long. (omega (arith, long, within), record { within = omega arith; fits = tt })

-- ---- runs

-- A place is as many bytes on as were read, and within its frame.
reads_advance : (l : Rules) (es : List (ℕ × Event)) (p q : Place) (b left : List ℕ) → IsInFrame l p → Reads l p b es q left → (q.offset + length left ≡ p.offset + length b) × (q.offset ≤ q.stop)
reads_advance l [] p q b left h r = (rw (r.0, r.1) refl, subst (λ (z : Place). z.offset ≤ z.stop) (sym r.0) h.within)
reads_advance l (e ∷ es) p q b left h r =
    let x : Emitted Event Place = record { at = e.0; event = e.1; after = r.1 } in
    let t = taken (step l p) x r.0 b r.2 in
    let one : ((r.1 r.0).offset ≡ p.offset + r.0) × IsInFrame l (r.1 r.0) = rw t.long at (yields_always (Advances l (settled p) h.within) (step l p) x [] t.front (step_advances l (settled p) h.within p.symbols h.fits) t.yields) in
    let later = reads_advance l es (r.1 r.0) q (drop r.0 b) left one.1 r.3 in
    (omega (arith, later.0, one.0, ap length t.whole, length-append t.front t.back, t.long, ap length t.left), later.1)

from_start : (l : Rules) (gifts : Gifts) (es : List (ℕ × Event)) (q : Place) (b left : List ℕ) → Reads l (start_with gifts) b es q left → (q.offset + length left ≡ length b) × (q.offset ≤ q.stop)
from_start l gifts es q b left r =
    let start : IsInFrame l (start_with gifts) = record { within = omega arith; fits = tt } in
    let a = reads_advance l es (start_with gifts) q b left start r in
    (omega (arith, a.0), a.1)

pub offset_is : (l : Rules) (gifts : Gifts) (es : List (ℕ × Event)) (q : Place) (b left : List ℕ) → Reads l (start_with gifts) b es q left → q.offset + length left ≡ length b
offset_is l gifts es q b left r = (from_start l gifts es q b left r).0

pub within_frame : (l : Rules) (gifts : Gifts) (es : List (ℕ × Event)) (q : Place) (b left : List ℕ) → Reads l (start_with gifts) b es q left → q.offset ≤ q.stop
within_frame l gifts es q b left r = (from_start l gifts es q b left r).1
