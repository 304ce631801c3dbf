-- The bytes of a step end with those of its event, which begin at its offset.
use Rattle.std.proofs.Common.{◌≡◌, ℕ, ◌+◌, ◌-◌, ◌^◌, ◌≤◌, ◌&&◌, ltb, leb, eqb, List, [], ◌∷◌, ◌++◌, length, Option, Some, None, Ok, Err, refl, sym, ap, ◌∙◌, append_assoc, arith}
use Rattle.std.specs.Int.{w16, w32, from_be_bytes}
use Rattle.std.proofs.lemmas.List.{length-append, take_at, append-nil}
use Rattle.cqlp_note.specs.declared.field.Field.{Field}
use Rattle.cqlp_note.specs.declared.field.Field.TheVariants as field
use Rattle.cqlp_note.specs.declared.field.Notation.{Notation}
use Rattle.cqlp_note.specs.declared.field.Notation.TheVariants as notation
use Rattle.cqlp_note.specs.declared.refusal.Reason.{Reason}
use Rattle.cqlp_note.specs.Reader.{number_of}
use Rattle.cqlp_note.specs.Field.{FieldValue, field_of, is_negative}
use Rattle.cqlp_note.specs.Heading.{Heading, heading, beside_number}
use Rattle.cqlp_note.specs.Limits.{Rules, limit_of}
use Rattle.cqlp_note.specs.Spelling.{Spells}
use Rattle.cqlp_note.specs.Step.{Emitted}
use Rattle.cqlp_note.proofs.Readers.{Always}
use Rattle.cqlp_note.proofs.Fields.{either_always, field_spells}
use Rattle.cqlp_kind.specs.declared.kind.Kind.{Kind}
use Rattle.cqlp_kind.specs.declared.kind.Kind.TheVariants as kind
use Rattle.cqlp_kind.specs.Types.{Types, NoMore, Type_and, kinds, how_many}
use Rattle.cqlp_kind.specs.TypeStep.{TypeSymbol, Option_at, Text_of, Fields_of, Whole, TypeEvent, TypePlace, kind_or_lenient, option_step, type_step_at, type_step}
use Rattle.cqlp_kind.specs.Scalars.{ScalarValue, size_or_lenient, scalar_or_lenient}
use Rattle.cqlp_kind.specs.CellStep.{CellSymbol, Value_of, Items_of, Close_of, Content_from, CellEvent, CellPlace, is_opaque, leaf_step, close_step, counted_step, part_step, scalar_step, content_step, value_step, cell_step_at, cell_step, lenient_excess}
use Rattle.cqlp_kind.specs.CellStep as cell
use Rattle.cqlp_grammar.specs.declared.grammar.Role.{Role}
use Rattle.cqlp_grammar.specs.Productions.{Symbol, Stream, In, In_type, Cell_due, In_cell, Extra, fault_in}
use Rattle.cqlp_decode.specs.Reading.{Event, Frame, Holds, Node_of, Cell_at, Place, Gifts, start_with, settled, type_event, cell_event, place_of_types, place_of_cells, header_step, page_step, step_at, step, Reads}
use Rattle.cqlp_decode.specs.Reading as stream
use Rattle.cqlp_decode.proofs.Always.{after_always, map_always, yields_always}
use Rattle.cqlp_laws.specs.Due.{HasBytes, before_items}
use Rattle.cqlp_laws.proofs.RunsBack.{runs_exact, runs_split, taken}
use Rattle.cqlp_laws.proofs.Offsets.{offset_is, within_frame}

-- the last of these bytes are the event's own, and begin at its offset
abbrev Lies : Event → (at offset : ℕ) → List ℕ → Type 0
Lies e at offset c = (before : List ℕ) × (own : List ℕ) × (c ≡ before ++ own) × (at ≡ offset + length before) × HasBytes e own

-- all of them are
all_own : (e : Event) (offset : ℕ) (c : List ℕ) → HasBytes e c → Lies e offset offset c
all_own e offset c h = ([], c, refl, omega arith, h)

-- ---- type options

module _ (l : Rules) (p : TypePlace) where
  abbrev Typed : Emitted TypeEvent TypePlace → List ℕ → Type 0
  Typed x b = Lies (type_event x.event) x.at p.offset b

  option_typed : (d : ℕ) (rest : List TypeSymbol) (o : Option Kind) (b : List ℕ) → length b ≡ 2 → Always Typed (option_step l d rest p o) b
  option_typed d rest None b two = tt
  option_typed d rest (Some k) b two = either_always Typed b (ltb l.depth d) _ _ (λ _. tt) (λ _. either_always Typed b (leb l.entries (length p.nodes)) _ _ (λ _. tt) (λ _. all_own (Node_of k) p.offset b two))

  type_typed : (ss : List TypeSymbol) → Always Typed (type_step_at l p ss) []
  unfolding number_of
  type_typed [] = tt
  type_typed (Option_at d ∷ rest) = either_always Typed [] (ltb (p.stop - p.offset) 2) _ _ (λ _. tt) (λ _ c long. option_typed d rest (kind_or_lenient (beside_number (from_be_bytes w16 c) kinds) l.lenient) c long)
  type_typed (Text_of f ∷ rest) =
      after_always (Spells notation.Text16) Typed p.offset (field_of notation.Text16 l.text (p.stop - p.offset)) _ [] (field_spells notation.Text16 l.text (p.stop - p.offset))
      (λ v b h. all_own (Holds f v) p.offset b (notation.Text16, h))
  type_typed (Fields_of named d ∷ rest) =
      after_always (Spells notation.Count16) Typed p.offset (field_of notation.Count16 0 (p.stop - p.offset)) _ [] (field_spells notation.Count16 0 (p.stop - p.offset))
      (λ v b h. all_own (Holds field.Fields v) p.offset b (notation.Count16, h))
  type_typed (Whole i ∷ rest) = tt

-- ---- cells

module _ (l : Rules) (row column : ℕ) (p : CellPlace) where
  abbrev Ends : Emitted CellEvent CellPlace → List ℕ → Type 0
  Ends x b = Lies (cell_event row column x.event) x.at p.offset b

  module _ (rest : List CellSymbol) where
    leaf_ends : (level : ℕ) (k : Kind) (front d : List ℕ) (o : Option ScalarValue) → length front ≡ 4 → length d ≡ from_be_bytes w32 front → Always Ends (leaf_step p rest level k o) (front ++ d)
    leaf_ends level k front d None four long = tt
    leaf_ends level k front d (Some v) four long = all_own (Cell_at row column (cell.Leaf level v)) p.offset (front ++ d) (omega (arith, length-append front d, four, long, ap (from_be_bytes w32) (take_at front d 4 four)))

    part_ends : (level k offset total : ℕ) (b : List ℕ) → length b ≡ k → Always Ends (part_step l p rest level k offset total) b
    part_ends level k offset total b is = λ c long. (b, c, refl, omega (arith, is), refl)

    close_ends : (level stop taken : ℕ) → Always Ends (close_step p rest level stop taken) []
    close_ends level stop taken = either_always Ends [] (ltb p.offset stop) _ _ (λ _. tt) (λ _. ([], [], refl, omega arith, refl))

    scalar_ends : (level : ℕ) (k : Kind) (n : ℕ) (b : List ℕ) → length b ≡ 4 → n ≡ from_be_bytes w32 b → Always Ends (scalar_step l p rest level k n) b
    scalar_ends level k n b four is = either_always Ends b (size_or_lenient l.lenient k n) _ _ (λ _.
        either_always Ends b (l.parts && is_opaque k && ltb l.part n) _ _ (λ _. part_ends level 4 0 n b four) (λ _.
        either_always Ends b (ltb l.cell n) _ _ (λ _. tt) (λ _ d long. leaf_ends level k b d (scalar_or_lenient l.lenient k d) four (long ∙ is)))) (λ _. tt)

    counted_ends : (level : ℕ) (k : Kind) (inner : Types) (n : ℕ) (b : List ℕ) → before_items k ≡ 8 → length b ≡ 4 → Always Ends (counted_step p rest level k inner n) b
    unfolding number_of
    counted_ends level k inner n b eight four = either_always Ends b (ltb n 4) _ _ (λ _. tt) (λ _ d size.
        either_always Ends (b ++ d) (is_negative (from_be_bytes w32 d)) _ _ (λ _. tt) (λ _.
        all_own (Cell_at row column (cell.Enter level k (from_be_bytes w32 d))) p.offset (b ++ d) (omega (arith, length-append b d, four, size, eight))))

    content_ends : (level : ℕ) (k : Kind) (inner : Types) (n : ℕ) (b : List ℕ) → length b ≡ 4 → n ≡ from_be_bytes w32 b → Always Ends (content_step l p rest level k inner n) b
    content_ends level kind.List inner n b four is = counted_ends level kind.List inner n b refl four
    content_ends level kind.Set inner n b four is = counted_ends level kind.Set inner n b refl four
    content_ends level kind.Map inner n b four is = counted_ends level kind.Map inner n b refl four
    content_ends level kind.Udt inner n b four is = all_own (Cell_at row column (cell.Enter level kind.Udt (how_many inner))) p.offset b four
    content_ends level kind.Tuple inner n b four is = all_own (Cell_at row column (cell.Enter level kind.Tuple (how_many inner))) p.offset b four
    content_ends level k inner n b four is = scalar_ends level k n b four is

    value_ends : (k : Kind) (inner : Types) (level room : ℕ) → Always Ends (value_step l p rest k inner level room) []
    unfolding number_of
    value_ends k inner level room = either_always Ends [] (ltb room 4) _ _ (λ _. tt) (λ _ c size.
        either_always Ends c (is_negative (from_be_bytes w32 c)) _ _ (λ _. all_own (Cell_at row column (cell.Null level)) p.offset c size) (λ _.
        either_always Ends c (eqb (from_be_bytes w32 c) 0) _ _ (λ _. all_own (Cell_at row column (cell.Empty level)) p.offset c size) (λ _.
        either_always Ends c (ltb room (4 + from_be_bytes w32 c)) _ _ (λ _. tt) (λ _. content_ends level k inner (from_be_bytes w32 c) c size refl))))

  cell_ends : (ss : List CellSymbol) → Always Ends (cell_step_at l p ss) []
  cell_ends [] = tt
  cell_ends (Value_of k inner level stop ∷ rest) = value_ends rest k inner level (stop - p.offset)
  cell_ends (Items_of NoMore level stop taken ∷ rest) =
      either_always Ends [] (lenient_excess l (stop - p.offset)) _ _ (λ _. part_ends (Items_of NoMore level stop taken ∷ rest) (level + 1) 0 0 (stop - p.offset) [] refl) (λ _. close_ends rest level stop taken)
  cell_ends (Items_of (Type_and k inner others) level stop taken ∷ rest) =
      either_always Ends [] (leb stop p.offset) _ _ (λ _. close_ends rest level stop taken) (λ _. value_ends (Items_of others level stop (taken + 1) ∷ rest) k inner (level + 1) (stop - p.offset))
  cell_ends (Close_of level stop taken ∷ rest) = close_ends rest level stop taken
  cell_ends (Content_from level offset total ∷ rest) = part_ends rest level 0 offset total [] refl

-- ---- steps

module _ (l : Rules) (p : Place) where
  abbrev Steps : Emitted Event Place → List ℕ → Type 0
  Steps x b = Lies x.event x.at p.offset b

  header_steps : (h : Heading) (b : List ℕ) → length b ≡ 9 → Always Steps (header_step p h) b
  header_steps (Err e) b nine = tt
  header_steps (Ok h) b nine = all_own (Frame h) p.offset b nine

  field_steps : (f : Field) (r : Role) (rest : List Symbol) (v : FieldValue) (o : Option Reason) (b : List ℕ) → (n : Notation) × Spells n v b → Always Steps (stream.value_step l.types p f r rest v o) b
  field_steps f r rest v (Some why) b h = tt
  field_steps f r rest v None b h = all_own (Holds f v) p.offset b h

  page_steps : (row column : ℕ) (cs : List CellSymbol) (rest : List Symbol) → Always Steps (page_step l p row column cs rest) []
  page_steps row column cs rest =
      let q : CellPlace = record { offset = p.offset; symbols = cs } in
      map_always (cell_event row column) (place_of_cells row column p rest) Steps (cell_step l q) [] (cell_ends l row column q cs)

  step_steps : p.offset ≤ p.stop → (ss : List Symbol) → Always Steps (step_at l p ss) []
  step_steps within [] = tt
  step_steps within (Stream ∷ rest) = either_always Steps [] (ltb (2 ^ 63) p.offset) _ _ (λ _. tt) (λ _ c long. header_steps (heading c) c long)
  step_steps within (In f n r ∷ rest) =
      let room = p.stop - p.offset in
      after_always (Spells n) Steps p.offset (field_of n (limit_of l n) room) _ [] (field_spells n (limit_of l n) room) (λ v b h. field_steps f r rest v (fault_in r v) b (n, h))
  step_steps within (In_type ts ∷ rest) =
      let q : TypePlace = record { offset = p.offset; stop = p.stop; symbols = ts; nodes = p.nodes } in
      map_always type_event (place_of_types p rest) Steps (type_step l q) [] (type_typed l q ts)
  step_steps within (Cell_due row column k inner ∷ rest) = page_steps row column (Value_of k inner 0 p.stop ∷ []) rest
  step_steps within (In_cell row column cs ∷ rest) = page_steps row column cs rest
  step_steps within (Extra ∷ rest) = λ c long. (c, [], sym (append-nil c), omega (arith, long, within), refl)

-- ---- runs

behind : (s front c before own : List ℕ) → s ≡ front ++ c → c ≡ before ++ own → s ≡ (front ++ before) ++ own
behind s front c before own whole back = whole ∙ ap (λ (z : List ℕ). front ++ z) back ∙ sym (append_assoc front before own)

-- The last of the bytes read are those of the last event.
pub ends_with_own : (l : Rules) (gifts : Gifts) (s : List ℕ) (es : List (ℕ × Event)) (at : ℕ) (e : Event) (p : Place) → Reads l (start_with gifts) s (es ++ (at, e) ∷ []) p []
    → (before own : List ℕ) × (s ≡ before ++ own) × (length before ≡ at) × HasBytes e own
ends_with_own l gifts s es at e p read =
    let c = runs_split (step l) (start_with gifts) p s [] es ((at, e) ∷ []) read in
    let x : Emitted Event Place = record { at = at; event = e; after = c.3.1 } in
    let t = taken (step l c.0) x c.3.0 c.1 c.3.2 in
    let none : t.back ≡ [] = sym t.left ∙ sym c.3.3.1 in
    let all : c.1 ≡ t.front = t.whole ∙ ap (λ (z : List ℕ). t.front ++ z) none ∙ append-nil t.front in
    let within = within_frame l gifts es c.0 s c.1 c.2 in
    let there : Lies e at c.0.offset t.front = yields_always (Steps l (settled c.0)) (step l c.0) x [] t.front (step_steps l (settled c.0) within c.0.symbols) t.yields in
    let pre = runs_exact (step l) (start_with gifts) c.0 s c.1 es c.2 in
    let at_mid = offset_is l gifts es c.0 s c.1 c.2 in (
      pre.0 ++ there.0,
      there.1,
      behind s pre.0 c.1 there.0 there.1 pre.1 (all ∙ there.2),
      omega (arith, length-append pre.0 there.0, there.3, at_mid, ap length pre.1, length-append pre.0 c.1),
      there.4,
    )
