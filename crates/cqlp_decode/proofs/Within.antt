-- The content of an event lies in the bytes of its step.
use Rattle.std.proofs.Common.{◌≡◌, ℕ, ◌+◌, ◌-◌, ◌^◌, ◌≤◌, true, Ok, Err, ◌||◌, ◌&&◌, ltb, leb, eqb, List, [], ◌∷◌, ◌++◌, length, Option, Some, None, refl, subst, arith}
use Rattle.std.specs.Int.{Width, w8, w16, w32, w64, from_be_bytes}
use Rattle.std.specs.Str.{is_utf8}
use Rattle.std.proofs.lemmas.List.{length-append}
use Rattle.cqlp_note.specs.declared.field.Notation.{Notation}
use Rattle.cqlp_note.specs.declared.field.Notation.TheVariants as notation
use Rattle.cqlp_note.specs.declared.field.Field.{Field}
use Rattle.cqlp_note.specs.declared.refusal.Reason.{Reason}
use Rattle.cqlp_note.specs.declared.refusal.Reason.TheVariants.{Overrun}
use Rattle.cqlp_note.specs.Reader.{Got, Reader, Gives, Refuses, Takes, Idles, number_of, says}
use Rattle.cqlp_note.specs.Field.{FieldValue, FieldReader, text_of, field_of, content_of, content_length, is_negative}
use Rattle.cqlp_note.specs.Step.{Emitted}
use Rattle.cqlp_note.specs.Heading.{Heading, heading, beside_number}
use Rattle.cqlp_note.specs.Limits.{Rules, limit_of}
use Rattle.cqlp_note.proofs.Readers.{Always}
use Rattle.cqlp_note.proofs.Fields.{either_always}
use Rattle.cqlp_note.proofs.Yields.{says_yields}
use Rattle.cqlp_kind.specs.declared.kind.Kind.{Kind}
use Rattle.cqlp_kind.specs.declared.kind.Kind.TheVariants as kind
use Rattle.cqlp_kind.specs.Types.{Types, NoMore, Type_and, kinds}
use Rattle.cqlp_kind.specs.TypeStep.{TypeSymbol, Option_at, Text_of, Fields_of, Whole, TypeEvent, IsNode, IsField, TypePlace, kind_or_lenient, option_step, type_step_at, type_step}
use Rattle.cqlp_kind.specs.Scalars.{ScalarValue, size_or_lenient, scalar_or_lenient, content_size}
use Rattle.cqlp_kind.specs.CellStep.{CellSymbol, Value_of, Items_of, Close_of, Content_from, CellEvent, Leaf, Part, CellPlace, is_opaque, leaf_step, close_step, counted_step, part_step, scalar_step, content_step, value_step, cell_step_at, cell_step, lenient_excess}
use Rattle.cqlp_kind.specs.CellStep as cell
use Rattle.cqlp_cell.proofs.Contents.{kind_taken}
use Rattle.cqlp_cell.proofs.ScalarSizes.{scalar_sized}
use Rattle.cqlp_grammar.specs.declared.grammar.Role.{Role}
use Rattle.cqlp_grammar.specs.Productions.{Symbol, Stream, In, In_type, Cell_due, In_cell, Extra, fault_in}
use Rattle.cqlp_grammar.specs.Events.{Event, type_event, cell_event}
use Rattle.cqlp_decode.specs.Reading as stream
use Rattle.cqlp_decode.specs.Reading.{Place, header_step, page_step, place_of_cells, place_of_types, settled, step, step_at}
use Rattle.cqlp_decode.specs.Progress.{StreamState, Gives as GivesThere, IsHeld, content_size_of}
use Rattle.cqlp_decode.proofs.Always.{after_always, map_always, yields_always}

-- ---- fields

module _ (limit room : ℕ) where
  abbrev Inside : FieldValue → List ℕ → Type 0
  Inside v b = content_length v ≤ length b

  content_inside : (k n : ℕ) (head : List ℕ) (f : List ℕ → FieldReader) → ((c b : List ℕ) → length c ≤ length b → Always Inside (f c) b) → Always Inside (content_of k n limit room f) head
  unfolding content_of
  content_inside k n head f p = either_always Inside head (ltb room (k + n)) _ _ (λ _. tt) (λ _. either_always Inside head (ltb limit n) _ _ (λ _. tt) (λ t c long. p c (head ++ c) (omega (arith, length-append head c))))

  number_inside : (n : ℕ) (w : Width) (f : ℕ → FieldReader) → ((m : ℕ) (c : List ℕ) → Always Inside (f m) c) → Always Inside (number_of Overrun n w room f) []
  unfolding number_of
  number_inside n w f p = either_always Inside [] (ltb room n) _ _ (λ _. tt) (λ _ c long. p (from_be_bytes w c) c)

  text_inside : (c b : List ℕ) → length c ≤ length b → Always Inside (text_of c) b
  text_inside c b le = either_always Inside b (is_utf8 c) _ _ (λ _. le) (λ _. tt)

  field_inside : (n : Notation) → Always Inside (field_of n limit room) []
  unfolding field_of
  field_inside notation.Byte = number_inside 1 w8 _ (λ m c. omega arith)
  field_inside notation.Short = number_inside 2 w16 _ (λ m c. omega arith)
  field_inside notation.Int = number_inside 4 w32 _ (λ m c. omega arith)
  field_inside notation.Long = number_inside 8 w64 _ (λ m c. omega arith)
  field_inside notation.Uuid = either_always Inside [] (ltb room 16) _ _ (λ _. tt) (λ _ c long. omega arith)
  field_inside notation.Count16 = number_inside 2 w16 _ (λ m c. omega arith)
  field_inside notation.Count32 = number_inside 4 w32 _ (λ m c. either_always Inside c (is_negative m) _ _ (λ _. tt) (λ _. omega arith))
  field_inside notation.Text16 = number_inside 2 w16 _ (λ m c. content_inside 2 m c _ text_inside)
  field_inside notation.Text32 = number_inside 4 w32 _ (λ m c. either_always Inside c (is_negative m) _ _ (λ _. tt) (λ _. content_inside 4 m c _ text_inside))
  field_inside notation.Bytes16 = number_inside 2 w16 _ (λ m c. content_inside 2 m c _ (λ _ _ le. le))
  field_inside notation.Bytes32 = number_inside 4 w32 _ (λ m c. either_always Inside c (is_negative m) _ _ (λ _. omega arith) (λ _. content_inside 4 m c _ (λ _ _ le. le)))
  field_inside notation.Bound = number_inside 4 w32 _ (λ m c.
      either_always Inside c (eqb m 0xFFFFFFFF) _ _ (λ _. omega arith) (λ _.
      either_always Inside c (eqb m 0xFFFFFFFE) _ _ (λ _. omega arith) (λ _.
      either_always Inside c (is_negative m) _ _ (λ _. tt) (λ _. content_inside 4 m c _ (λ _ _ le. le)))))
  field_inside notation.Inet = number_inside 1 w8 _ (λ m c.
      either_always Inside c (eqb m 4 || eqb m 16) _ _ (λ _.
      either_always Inside c (ltb room (m + 5)) _ _ (λ _. tt) (λ _ a la b lb. omega arith)) (λ _. tt))
  field_inside (notation.Content n) = content_inside 0 n [] _ (λ _ _ le. le)

-- ---- type options

module _ (l : Rules) where
  abbrev ItemInside : TypeEvent → List ℕ → Type 0
  ItemInside (IsNode k) b = Unit {0}
  ItemInside (IsField f v) b = content_length v ≤ length b

  abbrev TypeInside : Emitted TypeEvent TypePlace → List ℕ → Type 0
  TypeInside x b = ItemInside x.event b

  option_inside : (p : TypePlace) (d : ℕ) (rest : List TypeSymbol) (o : Option Kind) (b : List ℕ) → Always TypeInside (option_step l d rest p o) b
  option_inside p d rest None b = tt
  option_inside p d rest (Some k) b = either_always TypeInside b (ltb l.depth d) _ _ (λ _. tt) (λ _. either_always TypeInside b (leb l.entries (length p.nodes)) _ _ (λ _. tt) (λ _. tt))

  type_inside : (p : TypePlace) (ss : List TypeSymbol) → Always TypeInside (type_step_at l p ss) []
  unfolding number_of
  type_inside p [] = tt
  type_inside p (Option_at d ∷ rest) = either_always TypeInside [] (ltb (p.stop - p.offset) 2) _ _ (λ _. tt) (λ _ c long. option_inside p d rest (kind_or_lenient (beside_number (from_be_bytes w16 c) kinds) l.lenient) c)
  type_inside p (Text_of f ∷ rest) =
      after_always (Inside l.text (p.stop - p.offset)) TypeInside p.offset (field_of notation.Text16 l.text (p.stop - p.offset)) _ [] (field_inside l.text (p.stop - p.offset) notation.Text16) (λ v b le. le)
  type_inside p (Fields_of named d ∷ rest) =
      after_always (Inside 0 (p.stop - p.offset)) TypeInside p.offset (field_of notation.Count16 0 (p.stop - p.offset)) _ [] (field_inside 0 (p.stop - p.offset) notation.Count16) (λ v b le. le)
  type_inside p (Whole i ∷ rest) = tt

  -- ---- cells

  abbrev CellInside : CellEvent → List ℕ → Type 0
  CellInside (Leaf level v) b = content_size v ≤ length b
  CellInside (Part level offset c last) b = length c ≤ length b
  CellInside e b = Unit {0}

  abbrev Kept : Emitted CellEvent CellPlace → List ℕ → Type 0
  Kept x b = CellInside x.event b

  module _ (p : CellPlace) where
    module _ (rest : List CellSymbol) where
      leaf_kept : (level : ℕ) (k : Kind) (d : List ℕ) (o : Option ScalarValue) (b : List ℕ) → size_or_lenient l.lenient k (length d) ≡ true → scalar_or_lenient l.lenient k d ≡ o → length d ≤ length b → Always Kept (leaf_step p rest level k o) b
      leaf_kept level k d None b a e le = tt
      leaf_kept level k d (Some v) b a e le = let h = kind_taken l.lenient k d v a e in omega (arith, scalar_sized h.0 d v h.1 h.2, le)

      part_kept : (level k offset total : ℕ) (b : List ℕ) → Always Kept (part_step l p rest level k offset total) b
      part_kept level k offset total b = λ c long. omega (arith, length-append b c)

      close_kept : (level stop taken : ℕ) (b : List ℕ) → Always Kept (close_step p rest level stop taken) b
      close_kept level stop taken b = either_always Kept b (ltb p.offset stop) _ _ (λ _. tt) (λ _. tt)

      scalar_kept : (level : ℕ) (k : Kind) (n : ℕ) (b : List ℕ) → Always Kept (scalar_step l p rest level k n) b
      scalar_kept level k n b = either_always Kept b (size_or_lenient l.lenient k n) _ _ (λ allowed.
          either_always Kept b (l.parts && is_opaque k && ltb l.part n) _ _ (λ _. part_kept level 4 0 n b) (λ _.
          either_always Kept b (ltb l.cell n) _ _ (λ _. tt) (λ t c long. leaf_kept level k c (scalar_or_lenient l.lenient k c) (b ++ c) (rw long allowed) refl (omega (arith, length-append b c))))) (λ _. tt)

      counted_kept : (level : ℕ) (k : Kind) (inner : Types) (n : ℕ) (b : List ℕ) → Always Kept (counted_step p rest level k inner n) b
      unfolding number_of
      counted_kept level k inner n b = either_always Kept b (ltb n 4) _ _ (λ _. tt) (λ _ d size.
          either_always Kept (b ++ d) (is_negative (from_be_bytes w32 d)) _ _ (λ _. tt) (λ _. tt))

      content_kept : (level : ℕ) (k : Kind) (inner : Types) (n : ℕ) (b : List ℕ) → Always Kept (content_step l p rest level k inner n) b
      content_kept level kind.List inner n b = counted_kept level kind.List inner n b
      content_kept level kind.Set inner n b = counted_kept level kind.Set inner n b
      content_kept level kind.Map inner n b = counted_kept level kind.Map inner n b
      content_kept level kind.Udt inner n b = tt
      content_kept level kind.Tuple inner n b = tt
      content_kept level k inner n b = scalar_kept level k n b

      value_kept : (k : Kind) (inner : Types) (level room : ℕ) → Always Kept (value_step l p rest k inner level room) []
      unfolding number_of
      value_kept k inner level room = either_always Kept [] (ltb room 4) _ _ (λ _. tt) (λ _ c size.
          either_always Kept c (is_negative (from_be_bytes w32 c)) _ _ (λ _. tt) (λ _.
          either_always Kept c (eqb (from_be_bytes w32 c) 0) _ _ (λ _. tt) (λ _.
          either_always Kept c (ltb room (4 + from_be_bytes w32 c)) _ _ (λ _. tt) (λ _. content_kept level k inner (from_be_bytes w32 c) c))))

    cell_kept : (ss : List CellSymbol) → Always Kept (cell_step_at l p ss) []
    cell_kept [] = tt
    cell_kept (Value_of k inner level stop ∷ rest) = value_kept rest k inner level (stop - p.offset)
    cell_kept (Items_of NoMore level stop taken ∷ rest) =
        either_always Kept [] (lenient_excess l (stop - p.offset)) _ _ (λ _. part_kept (Items_of NoMore level stop taken ∷ rest) (level + 1) 0 0 (stop - p.offset) []) (λ _. close_kept rest level stop taken [])
    cell_kept (Items_of (Type_and k inner others) level stop taken ∷ rest) =
        either_always Kept [] (leb stop p.offset) _ _ (λ _. close_kept rest level stop taken []) (λ _. value_kept (Items_of others level stop (taken + 1) ∷ rest) k inner (level + 1) (stop - p.offset))
    cell_kept (Close_of level stop taken ∷ rest) = close_kept rest level stop taken []
    cell_kept (Content_from level offset total ∷ rest) = part_kept rest level 0 offset total []

-- ---- a step of a stream

-- what always holds of a reader, and leads to another
always_imp : {A F : Type 0} (P Q : A → List ℕ → Type 0) → ((x : A) (b : List ℕ) → P x b → Q x b) → (r : Reader A F) (before : List ℕ) → Always P r before → Always Q r before
always_imp P Q to (Gives x) before h = to x before h
always_imp P Q to (Refuses why) before h = tt
always_imp P Q to Idles before h = tt
always_imp P Q to (Takes n next) before h = λ c long. always_imp P Q to (next c) (before ++ c) (h c long)

type_span : (e : TypeEvent) (b : List ℕ) (l : Rules) → ItemInside l e b → content_size_of (type_event e) ≤ length b
type_span (IsNode k) b l h = omega arith
type_span (IsField f v) b l h = h

cell_span : (row column : ℕ) (e : CellEvent) (b : List ℕ) (l : Rules) → CellInside l e b → content_size_of (cell_event row column e) ≤ length b
cell_span row column (Leaf level v) b l h = h
cell_span row column (Part level offset c last) b l h = h
cell_span row column (cell.Null level) b l h = omega arith
cell_span row column (cell.Empty level) b l h = omega arith
cell_span row column (cell.Enter level k n) b l h = omega arith
cell_span row column (cell.Leave level n) b l h = omega arith

module _ (l : Rules) (p : Place) where
  abbrev Spanned : Emitted Event Place → List ℕ → Type 0
  Spanned x b = content_size_of x.event ≤ length b

  value_spanned : (f : Field) (r : Role) (rest : List Symbol) (v : FieldValue) (o : Option Reason) (b : List ℕ) → content_length v ≤ length b → Always Spanned (stream.value_step l.types p f r rest v o) b
  value_spanned f r rest v None b le = le
  value_spanned f r rest v (Some why) b le = tt

  header_spanned : (h : Heading) (b : List ℕ) → Always Spanned (header_step p h) b
  header_spanned (Ok h) b = omega arith
  header_spanned (Err e) b = tt

  page_spanned : (row column : ℕ) (cs : List CellSymbol) (rest : List Symbol) → Always Spanned (page_step l p row column cs rest) []
  page_spanned row column cs rest =
      let q : CellPlace = record { offset = p.offset; symbols = cs } in
      map_always (cell_event row column) (place_of_cells row column p rest) Spanned (cell_step l q) []
      (always_imp (Kept l) (λ x b. Spanned (record { at = x.at; event = cell_event row column x.event; after = λ used. place_of_cells row column p rest (x.after used) }) b) (λ x b h. cell_span row column x.event b l h) (cell_step l q) [] (cell_kept l q cs))

  step_spanned : (ss : List Symbol) → Always Spanned (step_at l p ss) []
  step_spanned [] = tt
  step_spanned (Stream ∷ rest) = either_always Spanned [] (ltb (2 ^ 63) p.offset) _ _ (λ _. tt) (λ _ c long. header_spanned (heading c) c)
  step_spanned (In f n r ∷ rest) =
      after_always (Inside (limit_of l n) (p.stop - p.offset)) Spanned p.offset (field_of n (limit_of l n) (p.stop - p.offset)) _ [] (field_inside (limit_of l n) (p.stop - p.offset) n) (λ v b le. value_spanned f r rest v (fault_in r v) b le)
  step_spanned (In_type ts ∷ rest) =
      let q : TypePlace = record { offset = p.offset; stop = p.stop; symbols = ts; nodes = p.nodes } in
      map_always type_event (place_of_types p rest) Spanned (type_step l q) []
      (always_imp (TypeInside l) (λ x b. Spanned (record { at = x.at; event = type_event x.event; after = λ used. place_of_types p rest (x.after used) }) b) (λ x b h. type_span x.event b l h) (type_step l q) [] (type_inside l q ts))
  step_spanned (Cell_due row column k inner ∷ rest) = page_spanned row column (Value_of k inner 0 p.stop ∷ []) rest
  step_spanned (In_cell row column cs ∷ rest) = page_spanned row column cs rest
  step_spanned (Extra ∷ rest) = λ c long. omega arith

-- The content of an event lies in the bytes that its step takes.
pub content_within : (l : Rules) (p : Place) (bytes : List ℕ) (x : Emitted Event Place) (n : ℕ) → says (step l p) 0 bytes ≡ Got x n → content_size_of x.event ≤ n
content_within l p bytes x n s =
    let y = says_yields (step l p) 0 x n bytes s in
    omega (arith, y.3, yields_always (Spanned l (settled p)) (step l p) x [] y.0 (step_spanned l (settled p) p.symbols) y.4)

-- The content of an event of which no byte came before lies in the bytes used, so that none of it is held.
pub none_kept : (d : StreamState) (input : List ℕ) (at used : ℕ) (e : Event) (after : Place) (held : List ℕ) → GivesThere d input at e used after → IsHeld e used held
none_kept d input at used e after held g = λ lt. absurd (omega (arith, lt, subst (λ (z : Event). content_size_of z ≤ used) g.3 (content_within d.rules d.place input g.0 used g.1)))
