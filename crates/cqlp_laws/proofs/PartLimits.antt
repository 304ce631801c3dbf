-- What is read of a part is within the caller's limits.
use Rattle.std.proofs.Common.{◌≡◌, ◌≢◌, ℕ, zero, suc, ◌+◌, ◌-◌, ◌<◌, ◌≤◌, Bool, true, false, ◌||◌, ◌&&◌, ltb, leb, eqb, List, [], ◌∷◌, ◌++◌, length, drop, Option, Some, None, refl, sym, ◌∙◌, inl, inr, arith}
use Rattle.std.specs.Int.{Width, w8, w16, w32, w64, from_be_bytes}
use Rattle.std.specs.Str.{is_utf8}
use Rattle.std.proofs.lemmas.Bool.{ltb-false, lt-leb, cases_lt}
use Rattle.std.proofs.lemmas.List.{length-drop}
use Rattle.cqlp_note.specs.declared.field.Notation.{Notation}
use Rattle.cqlp_note.specs.declared.field.Notation.TheVariants as notation
use Rattle.cqlp_note.specs.declared.refusal.Reason.TheVariants.{Overrun}
use Rattle.cqlp_note.specs.Reader.{number_of}
use Rattle.cqlp_note.specs.Field.{FieldValue, FieldReader, text_of, field_of, content_of, content_length, is_negative}
use Rattle.cqlp_note.specs.Step.{Emitted, Runs}
use Rattle.cqlp_note.specs.Limits.{Rules}
use Rattle.cqlp_note.specs.Heading.{beside_number}
use Rattle.cqlp_note.proofs.Readers.{Always}
use Rattle.cqlp_note.proofs.Fields.{either_always}
use Rattle.cqlp_note.proofs.Yields.{Yields}
use Rattle.cqlp_kind.specs.declared.kind.Kind.{Kind}
use Rattle.cqlp_kind.specs.declared.kind.Kind.TheVariants as kind
use Rattle.cqlp_kind.specs.Types.{Types, NoMore, Type_and, kinds, first_types}
use Rattle.cqlp_kind.specs.TypeStep.{TypeSymbol, Option_at, Text_of, Fields_of, Whole, TypeEvent, IsNode, IsField, TypePlace, kind_or_lenient, option_step, type_step_at, type_step}
use Rattle.cqlp_type.specs.Trees.{AreShort, placed}
use Rattle.cqlp_cell.proofs.Contents.{kind_taken}
use Rattle.cqlp_kind.specs.Scalars.{ScalarValue, size_or_lenient, scalar_or_lenient, content_size}
use Rattle.cqlp_kind.specs.Scalars as scalar
use Rattle.cqlp_kind.specs.CellStep.{CellSymbol, Value_of, Items_of, Close_of, Content_from, CellEvent, Leaf, Leave, Part, CellPlace, is_opaque, leaf_step, close_step, counted_step, part_step, scalar_step, content_step, value_step, cell_step_at, cell_step, lenient_excess}
use Rattle.cqlp_value.specs.Values.{Values, NoValue, Null_and, Empty_and, Scalar_and, Counted_and, Fields_and, values_in, values_size, type_copies, ValuesSpell, part_items, in_parts, scalar_items, values_items, AreWithin}
use Rattle.cqlp_cell.proofs.ScalarSizes.{scalar_sized}
use Rattle.cqlp_laws.proofs.RunsBack.{taken}
use Rattle.cqlp_decode.proofs.Always.{after_always, yields_always}

-- ---- fields

module _ (limit room : ℕ) where
  abbrev Short : FieldValue → List ℕ → Type 0
  Short v b = content_length v ≤ limit

  content_short : (k n : ℕ) (head : List ℕ) (f : List ℕ → FieldReader) → ((c b : List ℕ) → length c ≤ limit → Always Short (f c) b) → Always Short (content_of k n limit room f) head
  unfolding content_of
  content_short k n head f p = either_always Short head (ltb room (k + n)) _ _ (λ _. tt) (λ _. either_always Short head (ltb limit n) _ _ (λ _. tt) (λ t c long. p c (head ++ c) (omega (arith, ltb-false _ _ t, long))))

  number_short : (n : ℕ) (w : Width) (f : ℕ → FieldReader) → ((m : ℕ) (c : List ℕ) → Always Short (f m) c) → Always Short (number_of Overrun n w room f) []
  unfolding number_of
  number_short n w f p = either_always Short [] (ltb room n) _ _ (λ _. tt) (λ _ c long. p (from_be_bytes w c) c)

  text_short : (c b : List ℕ) → length c ≤ limit → Always Short (text_of c) b
  text_short c b le = either_always Short b (is_utf8 c) _ _ (λ _. le) (λ _. tt)

  field_short : (n : Notation) → Always Short (field_of n limit room) []
  unfolding field_of
  field_short notation.Byte = number_short 1 w8 _ (λ m c. omega arith)
  field_short notation.Short = number_short 2 w16 _ (λ m c. omega arith)
  field_short notation.Int = number_short 4 w32 _ (λ m c. omega arith)
  field_short notation.Long = number_short 8 w64 _ (λ m c. omega arith)
  field_short notation.Uuid = either_always Short [] (ltb room 16) _ _ (λ _. tt) (λ _ c long. omega arith)
  field_short notation.Count16 = number_short 2 w16 _ (λ m c. omega arith)
  field_short notation.Count32 = number_short 4 w32 _ (λ m c. either_always Short c (is_negative m) _ _ (λ _. tt) (λ _. omega arith))
  field_short notation.Text16 = number_short 2 w16 _ (λ m c. content_short 2 m c _ text_short)
  field_short notation.Text32 = number_short 4 w32 _ (λ m c. either_always Short c (is_negative m) _ _ (λ _. tt) (λ _. content_short 4 m c _ text_short))
  field_short notation.Bytes16 = number_short 2 w16 _ (λ m c. content_short 2 m c _ (λ _ _ le. le))
  field_short notation.Bytes32 = number_short 4 w32 _ (λ m c. either_always Short c (is_negative m) _ _ (λ _. omega arith) (λ _. content_short 4 m c _ (λ _ _ le. le)))
  field_short notation.Bound = number_short 4 w32 _ (λ m c.
      either_always Short c (eqb m 0xFFFFFFFF) _ _ (λ _. omega arith) (λ _.
      either_always Short c (eqb m 0xFFFFFFFE) _ _ (λ _. omega arith) (λ _.
      either_always Short c (is_negative m) _ _ (λ _. tt) (λ _. content_short 4 m c _ (λ _ _ le. le)))))
  field_short notation.Inet = number_short 1 w8 _ (λ m c.
      either_always Short c (eqb m 4 || eqb m 16) _ _ (λ _.
      either_always Short c (ltb room (m + 5)) _ _ (λ _. tt) (λ _ a la b lb. omega arith)) (λ _. tt))
  field_short (notation.Content n) = content_short 0 n [] _ (λ _ _ le. le)

  -- a content that is read is within its limit
  pub field_within : (n : Notation) (v : FieldValue) (b : List ℕ) → Yields (field_of n limit room) v b → content_length v ≤ limit
  field_within n v b y = yields_always Short (field_of n limit room) v [] b (field_short n) y

-- ---- type options

module _ (l : Rules) where
  abbrev ItemShort : TypeEvent → Type 0
  ItemShort (IsNode k) = Unit {0}
  ItemShort (IsField f v) = content_length v ≤ l.text

  abbrev pub AllShort : List (ℕ × TypeEvent) → Type 0
  AllShort [] = Unit {0}
  AllShort (e ∷ es) = ItemShort e.1 × AllShort es

  abbrev TypeShort : Emitted TypeEvent TypePlace → List ℕ → Type 0
  TypeShort x b = ItemShort x.event

  option_short : (p : TypePlace) (d : ℕ) (rest : List TypeSymbol) (o : Option Kind) (b : List ℕ) → Always TypeShort (option_step l d rest p o) b
  option_short p d rest None b = tt
  option_short p d rest (Some k) b = either_always TypeShort b (ltb l.depth d) _ _ (λ _. tt) (λ _. either_always TypeShort b (leb l.entries (length p.nodes)) _ _ (λ _. tt) (λ _. tt))

  type_short : (p : TypePlace) (ss : List TypeSymbol) → Always TypeShort (type_step_at l p ss) []
  unfolding number_of
  type_short p [] = tt
  type_short p (Option_at d ∷ rest) = either_always TypeShort [] (ltb (p.stop - p.offset) 2) _ _ (λ _. tt) (λ _ c long. option_short p d rest (kind_or_lenient (beside_number (from_be_bytes w16 c) kinds) l.lenient) c)
  type_short p (Text_of f ∷ rest) =
      after_always (Short l.text (p.stop - p.offset)) TypeShort p.offset (field_of notation.Text16 l.text (p.stop - p.offset)) _ [] (field_short l.text (p.stop - p.offset) notation.Text16) (λ v b le. le)
  type_short p (Fields_of named d ∷ rest) =
      after_always (Short 0 (p.stop - p.offset)) TypeShort p.offset (field_of notation.Count16 0 (p.stop - p.offset)) _ [] (field_short 0 (p.stop - p.offset) notation.Count16) (λ v b le. omega (arith, le))
  type_short p (Whole i ∷ rest) = tt

  pub options_short : (es : List (ℕ × TypeEvent)) (p q : TypePlace) (b : List ℕ) → Runs (type_step l) p b es q [] → AllShort es
  options_short [] p q b r = tt
  options_short (e ∷ es) p q b r =
      let x : Emitted TypeEvent TypePlace = record { at = e.0; event = e.1; after = r.1 } in
      let t = taken (type_step l p) x r.0 b r.2 in
      (yields_always TypeShort (type_step l p) x [] t.front (type_short p p.symbols) t.yields, options_short es (r.1 r.0) q (drop r.0 b) r.3)

  -- the texts of an option that is read are within their limit
  pub placed_short : (at : ℕ) (es : List TypeEvent) → AllShort (placed at es) → AreShort l es
  placed_short at [] h = tt
  placed_short at (IsNode k ∷ es) h = placed_short (at + 2) es h.1
  placed_short at (IsField f v ∷ es) h = (h.0, placed_short (at + (2 + content_length v)) es h.1)

  -- ---- cells

  abbrev CellShort : CellEvent → Type 0
  CellShort (Leaf level v) = length (scalar.content_of v) ≤ l.cell
  CellShort (Part level offset c last) = length c ≤ l.part
  CellShort e = Unit {0}

  abbrev pub AllCells : List (ℕ × CellEvent) → Type 0
  AllCells [] = Unit {0}
  AllCells (e ∷ es) = CellShort e.1 × AllCells es

  abbrev Kept : Emitted CellEvent CellPlace → List ℕ → Type 0
  Kept x b = CellShort x.event

  module _ (p : CellPlace) where
    module _ (rest : List CellSymbol) where
      leaf_kept : (level : ℕ) (k : Kind) (d : List ℕ) (o : Option ScalarValue) (b : List ℕ) → size_or_lenient l.lenient k (length d) ≡ true → scalar_or_lenient l.lenient k d ≡ o → length d ≤ l.cell → Always Kept (leaf_step p rest level k o) b
      leaf_kept level k d None b a e le = tt
      leaf_kept level k d (Some v) b a e le = let h = kind_taken l.lenient k d v a e in omega (arith, scalar_sized h.0 d v h.1 h.2, le)

      part_kept : (level k offset total : ℕ) (b : List ℕ) → Always Kept (part_step l p rest level k offset total) b
      part_kept level k offset total b = λ c long. omega (arith, long)

      close_kept : (level stop taken : ℕ) (b : List ℕ) → Always Kept (close_step p rest level stop taken) b
      close_kept level stop taken b = either_always Kept b (ltb p.offset stop) _ _ (λ _. tt) (λ _. tt)

      scalar_kept : (level : ℕ) (k : Kind) (n : ℕ) (b : List ℕ) → Always Kept (scalar_step l p rest level k n) b
      scalar_kept level k n b = either_always Kept b (size_or_lenient l.lenient k n) _ _ (λ allowed.
          either_always Kept b (l.parts && is_opaque k && ltb l.part n) _ _ (λ _. part_kept level 4 0 n b) (λ _.
          either_always Kept b (ltb l.cell n) _ _ (λ _. tt) (λ t c long. leaf_kept level k c (scalar_or_lenient l.lenient k c) (b ++ c) (rw long allowed) refl (omega (arith, ltb-false _ _ t, long))))) (λ _. tt)

      counted_kept : (level : ℕ) (k : Kind) (inner : Types) (n : ℕ) (b : List ℕ) → Always Kept (counted_step p rest level k inner n) b
      unfolding number_of
      counted_kept level k inner n b = either_always Kept b (ltb n 4) _ _ (λ _. tt) (λ _ d size.
          either_always Kept (b ++ d) (is_negative (from_be_bytes w32 d)) _ _ (λ _. tt) (λ _. tt))

      content_kept : (level : ℕ) (k : Kind) (inner : Types) (n : ℕ) (b : List ℕ) → Always Kept (content_step l p rest level k inner n) b
      content_kept level kind.List inner n b = counted_kept level kind.List inner n b
      content_kept level kind.Set inner n b = counted_kept level kind.Set inner n b
      content_kept level kind.Map inner n b = counted_kept level kind.Map inner n b
      content_kept level kind.Udt inner n b = tt
      content_kept level kind.Tuple inner n b = tt
      content_kept level k inner n b = scalar_kept level k n b

      value_kept : (k : Kind) (inner : Types) (level room : ℕ) → Always Kept (value_step l p rest k inner level room) []
      unfolding number_of
      value_kept k inner level room = either_always Kept [] (ltb room 4) _ _ (λ _. tt) (λ _ c size.
          either_always Kept c (is_negative (from_be_bytes w32 c)) _ _ (λ _. tt) (λ _.
          either_always Kept c (eqb (from_be_bytes w32 c) 0) _ _ (λ _. tt) (λ _.
          either_always Kept c (ltb room (4 + from_be_bytes w32 c)) _ _ (λ _. tt) (λ _. content_kept level k inner (from_be_bytes w32 c) c))))

    cell_kept : (ss : List CellSymbol) → Always Kept (cell_step_at l p ss) []
    cell_kept [] = tt
    cell_kept (Value_of k inner level stop ∷ rest) = value_kept rest k inner level (stop - p.offset)
    cell_kept (Items_of NoMore level stop taken ∷ rest) =
        either_always Kept [] (lenient_excess l (stop - p.offset)) _ _ (λ _. part_kept (Items_of NoMore level stop taken ∷ rest) (level + 1) 0 0 (stop - p.offset) []) (λ _. close_kept rest level stop taken [])
    cell_kept (Items_of (Type_and k inner others) level stop taken ∷ rest) =
        either_always Kept [] (leb stop p.offset) _ _ (λ _. close_kept rest level stop taken []) (λ _. value_kept (Items_of others level stop (taken + 1) ∷ rest) k inner (level + 1) (stop - p.offset))
    cell_kept (Close_of level stop taken ∷ rest) = close_kept rest level stop taken []
    cell_kept (Content_from level offset total ∷ rest) = part_kept rest level 0 offset total []

  pub cells_kept : (es : List (ℕ × CellEvent)) (p q : CellPlace) (b : List ℕ) → Runs (cell_step l) p b es q [] → AllCells es
  cells_kept [] p q b r = tt
  cells_kept (e ∷ es) p q b r =
      let x : Emitted CellEvent CellPlace = record { at = e.0; event = e.1; after = r.1 } in
      let t = taken (cell_step l p) x r.0 b r.2 in
      (yields_always Kept (cell_step l p) x [] t.front (cell_kept p p.symbols) t.yields, cells_kept es (r.1 r.0) q (drop r.0 b) r.3)

  cells_split : (es fs : List (ℕ × CellEvent)) → AllCells (es ++ fs) → AllCells es × AllCells fs
  cells_split [] fs h = (tt, h)
  cells_split (e ∷ es) fs h = let r = cells_split es fs h.1 in ((h.0, r.0), r.1)

  -- a content that comes in parts comes in parts of some bytes
  parts_none : (most level at offset : ℕ) (c : List ℕ) → l.part ≤ 0 → 0 < length c → AllCells (part_items l most level at offset c) → ⊥
  parts_none zero level at offset c none some h = absurd (omega (arith, h.0, none, some))
  parts_none (suc n) level at offset c none some h =
      let long : leb (length c) l.part ≡ false = lt-leb (length c) l.part (omega (arith, none, some)) in
      let more = rw long at h in
      parts_none n level (at + l.part) (offset + l.part) (drop l.part c) none (omega (arith, none, some, length-drop l.part c)) more.1

  parts_some : (most level at offset : ℕ) (c : List ℕ) → 0 < length c → AllCells (part_items l most level at offset c) → 0 < l.part
  parts_some most level at offset c some h = elim (cases_lt 0 l.part) [
    | inl lt ↦ lt
    | inr none ↦ absurd (parts_none most level at offset c none some h)
  ]

  scalar_within : (level at : ℕ) (v : ScalarValue) (t : Bool) → in_parts l v ≡ t → 0 < length (scalar.content_of v) → AllCells (scalar_items l level at v)
      → (in_parts l v ≡ false → length (scalar.content_of v) ≤ l.cell) × (in_parts l v ≡ true → 0 < l.part)
  scalar_within level at v true is some h =
      let parts = rw is at h in
      ((λ no. absurd (let both : true ≡ false = sym is ∙ no in cc)), (λ yes. parts_some (length (scalar.content_of v)) level (at + 4) 0 (scalar.content_of v) some parts))
  scalar_within level at v false is some h =
      let leaf = rw is at h in
      ((λ no. leaf.0), (λ yes. absurd (let both : false ≡ true = sym is ∙ yes in cc)))

  not_none : (c : List ℕ) → c ≢ [] → 0 < length c
  not_none [] some = absurd (some refl)
  not_none (b ∷ c) some = omega arith

  -- Each scalar of a value that is read fits into a cell, or comes in parts.
  pub values_within : (ts : Types) (vs : Values) (level at : ℕ) (b : List ℕ) → ValuesSpell ts vs b → AllCells (values_items l level at ts vs) → AreWithin l vs
  values_within NoMore NoValue level at b s h = tt
  values_within (Type_and k inner ts) (Null_and vs) level at b s h = values_within ts vs level (at + 4) s.back s.that h.1
  values_within (Type_and k inner ts) (Empty_and vs) level at b s h = values_within ts vs level (at + 4) s.back s.that h.1
  values_within (Type_and k inner ts) (Scalar_and v vs) level at b s h =
      let r = cells_split (scalar_items l level at v) (values_items l level (at + 4 + length (scalar.content_of v)) ts vs) h in
      let size : length s.0 ≡ content_size v = scalar_sized k s.0 v s.1.size s.1.is in
      let own = scalar_within level at v (in_parts l v) refl (omega (arith, size, not_none s.0 s.1.some)) r.0 in
      (own.0, own.1, values_within ts vs level (at + 4 + length (scalar.content_of v)) s.2.back s.2.that r.1)
  values_within (Type_and k inner ts) (Counted_and j n items vs) level at b s h =
      let stop = at + 8 + values_size items in
      let r = cells_split (values_items l (level + 1) (at + 8) (type_copies n inner) items) ((stop, Leave level n) ∷ values_items l level stop ts vs) h.1 in
      (values_within (type_copies n inner) items (level + 1) (at + 8) s.3.back s.3.that r.0, values_within ts vs level stop s.4.back s.4.that r.1.1)
  values_within (Type_and k inner ts) (Fields_and j items vs) level at b s h =
      let stop = at + 4 + values_size items in
      let r = cells_split (values_items l (level + 1) (at + 4) (first_types (values_in items) inner) items) ((stop, Leave level (values_in items)) ∷ values_items l level stop ts vs) h.1 in
      (values_within (first_types (values_in items) inner) items (level + 1) (at + 4) s.2 s.4 r.0, values_within ts vs level stop s.5.back s.5.that r.1.1)
  values_within ts vs level at b s h = absurd s
