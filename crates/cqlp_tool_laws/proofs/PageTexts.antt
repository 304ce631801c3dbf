-- The text of the events of a frame is that of the values in it.
use Rattle.std.proofs.Common.{◌≡◌, ℕ, zero, suc, ◌+◌, ◌*◌, ◌<◌, ◌≤◌, ◌==◌, Bool, true, false, if◌then◌else◌, List, [], ◌∷◌, ◌++◌, length, take, drop, map, Option, Some, None, ℤ, pos, refl, sym, ap, ◌∙◌, subst, append_assoc, append-nil, codes, arith, nat_le}
use Rattle.std.specs.List.{flat_map}
use Rattle.std.proofs.lemmas.Bool.Decides.{nat_tests}
use Rattle.std.proofs.lemmas.Grind.{common_steps}
use Rattle.std.proofs.lemmas.List.{length-drop, map-append}
use Rattle.cqlp_note.specs.declared.field.Field.TheVariants as field
use Rattle.cqlp_note.specs.Field.{FieldValue, BoundValue}
use Rattle.cqlp_note.specs.Field as value
use Rattle.cqlp_note.specs.Limits.{Rules}
use Rattle.cqlp_kind.specs.declared.kind.Kind.{Kind}
use Rattle.cqlp_kind.specs.Types.{Types, NoMore, Type_and, how_many}
use Rattle.cqlp_kind.specs.TypeStep.{TypeEvent, IsNode, IsField}
use Rattle.cqlp_kind.specs.CellStep.{CellEvent, Leaf, Part as Piece}
use Rattle.cqlp_kind.specs.Scalars.{ScalarValue, content_of}
use Rattle.cqlp_type.specs.Trees.{trees_items, placed, item_size}
use Rattle.cqlp_value.specs.Values.{Values, NoValue, Null_and, Empty_and, Scalar_and, Counted_and, Fields_and, values_items, scalar_items, part_items, in_parts}
use Rattle.cqlp_grammar.specs.Events.{Event, Holds, End, type_event, cell_event}
use Rattle.cqlp_message.proofs.Agreements.{MessageAgrees, of_test}
use Rattle.cqlp_message.proofs.Formed.{message_of as message_agrees_of}
use Rattle.cqlp_message.specs.FrameValues.{Octets, TableName, Spec, Metadata, Page, Message, Rows, FrameValue}
use Rattle.cqlp_message.specs.Parts.{Part, Type_is, Cell_is, part_events, parts_events, part_size, parts_size}
use Rattle.cqlp_message.specs.Bodies.{int, count, text, bytes, where_some, table_parts, spec_parts, metadata_parts, cell_types, row_parts, rows_parts, page_parts, message_parts}
use Rattle.cqlp_message.specs.Agreement.{message_agrees, has_its_cells}
use Rattle.cqlp_message.specs.Frames.{frame_parts, announced_parts, frame_size, Flat}
use Rattle.cqlp_text.specs.CellText.{cell_text}
use Rattle.cqlp_text.specs.PageText.{PagePlace, no_page, opening, closing, before, after, place_after_field, page_text, column_line, page_line}
use Rattle.cqlp_tool_laws.specs.ValueText.{joined, items_text, value_texts, row_text, rows_text, column_lines, page_of_rows, message_text}
use Rattle.cqlp_tool_laws.specs.Rows.{nesting, NestsWithin}
use Rattle.cqlp_tool_laws.proofs.Shapes.{AreOf, Each, each_join, each_left, each_right, columns_are, same_number, IsOf, IsReady}
use Rattle.cqlp_tool_laws.proofs.ValueTexts.{values_text, around, spread, counted, place}
use Rattle.cqlp_tool_laws.proofs.Nesting.{Nests, nests_drop, all_nests}
use Rattle.cqlp_tool_laws.proofs.QuietFrames.{AreSilent, silent_trees, IsQuiet, quiet_parts, quiet_announced, quiet_message, is_page, passes, off_part}

-- ---- lists

only : (a b c : List ℕ) → a ++ (b ++ (c ++ [])) ≡ a ++ (b ++ c)
only a b c = ap (λ x. a ++ (b ++ x)) (append-nil c)

next_cell : (a t bar u us end : List ℕ) → (a ++ (t ++ [])) ++ (bar ++ (u ++ (us ++ end))) ≡ a ++ (t ++ (((bar ++ u) ++ us) ++ end))
next_cell a t bar u us end = simp (append_assoc, append-nil)

one_row_more : (n columns all : ℕ) → suc n * columns ≤ all → columns + n * columns ≤ all
one_row_more n columns all enough = grind arith

rest_of : (n columns : ℕ) (cells : List Values) → columns + n * columns ≤ length cells → n * columns ≤ length (drop columns cells)
rest_of n columns cells enough = simp length-drop (omega arith)

parts_events-append : (l : Rules) (at : ℕ) (ps qs : List Part) → parts_events l at (ps ++ qs) ≡ parts_events l at ps ++ parts_events l (at + parts_size ps) qs
parts_events-append l at [] qs = let same : at ≡ at + 0 = omega arith in ap (λ n. parts_events l n qs) same
parts_events-append l at (p ∷ ps) qs =
    let same : at + part_size p + parts_size ps ≡ at + (part_size p + parts_size ps) = omega arith in
    ap (λ es. part_events l at p ++ es) (parts_events-append l (at + part_size p) ps qs ∙ ap (λ n. parts_events l (at + part_size p) ps ++ parts_events l n qs) same)
    ∙ sym (append_assoc (part_events l at p) (parts_events l (at + part_size p) ps) (parts_events l (at + (part_size p + parts_size ps)) qs))

-- ---- a page

-- what is written of these parts, from one place to another
module _ (l : Rules) (some : 1 ≤ l.part) where
  pub record Writes (from : PagePlace) (ps : List Part) (written : List ℕ) (to : PagePlace) : Type 0 where
    pub text : (at : ℕ) (more : List (ℕ × Event)) → page_text from (parts_events l at ps ++ more) ≡ written ++ page_text to more

  writes_nothing : (p : PagePlace) → Writes p [] [] p
  writes_nothing p = record { text = λ at more. refl }

  writes_then : (p q r : PagePlace) (ps qs : List Part) (s t : List ℕ) → Writes p ps s q → Writes q qs t r → Writes p (ps ++ qs) (s ++ t) r
  writes_then p q r ps qs s t a b = record {
    text = λ at more.
        ap (λ es. page_text p (es ++ more)) (parts_events-append l at ps qs)
        ∙ ap (page_text p) (append_assoc (parts_events l at ps) (parts_events l (at + parts_size ps) qs) more)
        ∙ a.text at (parts_events l (at + parts_size ps) qs ++ more)
        ∙ ap (λ x. s ++ x) (b.text (at + parts_size ps) more)
        ∙ sym (append_assoc s t (page_text r more));
  }

  -- the place in a page with this many columns, in this column
  abbrev pub within_page : (columns column : ℕ) → PagePlace
  within_page columns column = record { is_page = true; columns = columns; column = column; open_values = [] }

  module _ (columns : ℕ) where
    abbrev pub here : PagePlace
    here = within_page columns 0

    silent_items : (at : ℕ) (es : List TypeEvent) (more : List (ℕ × Event)) → AreSilent es → page_text here (map (λ e. (e.0, type_event e.1)) (placed at es) ++ more) ≡ page_text here more
    silent_items at [] more a = refl
    silent_items at (IsNode k ∷ es) more a = silent_items (at + 2) es more a.1
    silent_items at (IsField f v ∷ es) more a =
        let both = a.0.1 here in
        let rest = map (λ (e : ℕ × TypeEvent). (e.0, type_event e.1)) (placed (at + item_size (IsField f v)) es) ++ more in
        ap (λ t. t ++ page_text (place_after_field here f v) rest) both.0
        ∙ ap (λ (q : PagePlace). page_text q rest) both.1
        ∙ silent_items (at + item_size (IsField f v)) es more a.1

    writes_table : (o : Option TableName) → Writes here (table_parts o) [] here
    writes_table None = record { text = λ at more. refl }
    writes_table (Some t) = record { text = λ at more. refl }

    writes_paging : (o : Option (Option Octets)) → Writes here (where_some (λ state. bytes field.PagingState state ∷ []) o) [] here
    writes_paging None = record { text = λ at more. refl }
    writes_paging (Some state) = record { text = λ at more. refl }

    writes_named : (c : Spec) → Writes here (text field.ColumnName c.name ∷ Type_is c.tree ∷ []) (column_line c.name) here
    writes_named c = record {
      text = λ at more.
          let behind = part_events l (at + part_size (text field.ColumnName c.name)) (Type_is c.tree) in
          ap (λ es. column_line c.name ++ page_text here (es ++ more)) (append-nil behind)
          ∙ ap (λ x. column_line c.name ++ x) (silent_items (at + part_size (text field.ColumnName c.name)) (trees_items false c.tree) more (silent_trees false c.tree));
    }

    writes_spec : (c : Spec) → Writes here (spec_parts c) (column_line c.name) here
    writes_spec c = writes_then here here here (table_parts c.table) (text field.ColumnName c.name ∷ Type_is c.tree ∷ []) [] (column_line c.name) (writes_table c.table) (writes_named c)

    writes_specs : (cs : List Spec) → Writes here (flat_map spec_parts cs) (flat_map (λ c. column_line c.name) cs) here
    writes_specs [] = writes_nothing here
    writes_specs (c ∷ cs) = writes_then here here here (spec_parts c) (flat_map spec_parts cs) (column_line c.name) (flat_map (λ c. column_line c.name) cs) (writes_spec c) (writes_specs cs)

    writes_reported : (o : Option (List Spec)) → Writes here (where_some (flat_map spec_parts) o) (column_lines o) here
    writes_reported None = writes_nothing here
    writes_reported (Some cs) = writes_specs cs

    writes_rows_line : (rows : ℕ) → Writes here (count field.Rows rows ∷ []) (page_line columns rows) here
    writes_rows_line rows = record { text = λ at more. refl }

  writes_start : (flags : ℤ) (columns : ℕ) → Writes (within_page 0 0) (int field.MetaFlags flags ∷ count field.Columns columns ∷ []) [] (within_page columns 0)
  writes_start flags columns = record { text = λ at more. refl }

  writes_metadata : (m : Metadata) → Writes (within_page 0 0) (metadata_parts m) (column_lines m.specs) (within_page m.columns 0)
  writes_metadata m =
      let inside = within_page m.columns 0 in
      writes_then (within_page 0 0) inside inside _ _ [] (column_lines m.specs) (writes_then (within_page 0 0) inside inside _ _ [] [] (writes_then (within_page 0 0) inside inside _ _ [] [] (writes_start m.flags m.columns) (writes_paging m.columns m.paging)) (writes_table m.columns m.table)) (writes_reported m.columns m.specs)

  -- ---- cells

  -- values of one type are one
  none_left : (vs : Values) → AreOf NoMore vs → value_texts vs ≡ []
  none_left NoValue are = refl
  none_left (Null_and vs) are = absurd are
  none_left (Empty_and vs) are = absurd are
  none_left (Scalar_and v vs) are = absurd are
  none_left (Counted_and k n items vs) are = absurd are
  none_left (Fields_and k items vs) are = absurd are

  pub one_text : (k : Kind) (inner : Types) (v : Values) → AreOf (Type_and k inner NoMore) v → (t : List ℕ) × (value_texts v ≡ t ∷ [])
  one_text k inner NoValue are = absurd are
  one_text k inner (Null_and vs) are = (_, ap (λ ts. codes "null" ∷ ts) (none_left vs are))
  one_text k inner (Empty_and vs) are = (_, ap (λ ts. codes "empty" ∷ ts) (none_left vs are))
  one_text k inner (Scalar_and v vs) are = (_, ap (λ ts. cell_text v ∷ ts) (none_left vs are))
  one_text k inner (Counted_and j n items vs) are = (_, ap (λ ts. (opening j ++ (items_text j (value_texts items) ++ closing j)) ∷ ts) (none_left vs are.3))
  one_text k inner (Fields_and j items vs) are = (_, ap (λ ts. (opening j ++ (items_text j (value_texts items) ++ closing j)) ∷ ts) (none_left vs are.3))

  -- a cell is in its own column, whichever the one before was in
  module _ (columns before_it row column : ℕ) where
    abbrev pub in_cell : List (ℕ × CellEvent) → List (ℕ × Event)
    in_cell es = map (λ e. (e.0, cell_event row column e.1)) es

    abbrev pub IsInItsColumn : List (ℕ × Event) → Type 0
    IsInItsColumn es = page_text (within_page columns before_it) es ≡ page_text (within_page columns column) es

    part_in_column : (n level at offset : ℕ) (c : List ℕ) (more : List (ℕ × Event)) (b : Bool)
        → IsInItsColumn (in_cell (if b then (at, Piece level offset c true) ∷ [] else (at, Piece level offset (take l.part c) false) ∷ part_items l n level (at + l.part) (offset + l.part) (drop l.part c)) ++ more)
    part_in_column n level at offset c more true = refl
    part_in_column n level at offset c more false = refl

    parts_in_column : (n level at offset : ℕ) (c : List ℕ) (more : List (ℕ × Event)) → IsInItsColumn (in_cell (part_items l n level at offset c) ++ more)
    parts_in_column zero level at offset c more = refl
    parts_in_column (suc n) level at offset c more = part_in_column n level at offset c more (nat_le (length c) l.part)

    scalar_in_column : (level at : ℕ) (v : ScalarValue) (more : List (ℕ × Event)) (b : Bool)
        → IsInItsColumn (in_cell (if b then part_items l (length (content_of v)) level (at + 4) 0 (content_of v) else (at, Leaf level v) ∷ []) ++ more)
    scalar_in_column level at v more true = parts_in_column (length (content_of v)) level (at + 4) 0 (content_of v) more
    scalar_in_column level at v more false = refl

    value_in_column : (at : ℕ) (k : Kind) (inner : Types) (v : Values) (more : List (ℕ × Event)) → AreOf (Type_and k inner NoMore) v → IsInItsColumn (in_cell (values_items l 0 at (Type_and k inner NoMore) v) ++ more)
    value_in_column at k inner NoValue more are = absurd are
    value_in_column at k inner (Null_and vs) more are = refl
    value_in_column at k inner (Empty_and vs) more are = refl
    value_in_column at k inner (Scalar_and v vs) more are =
        let behind = values_items l 0 (at + 4 + length (content_of v)) NoMore vs in
        let joined = ap (λ es. es ++ more) (map-append (λ (e : ℕ × CellEvent). (e.0, cell_event row column e.1)) (scalar_items l 0 at v) behind) ∙ append_assoc (in_cell (scalar_items l 0 at v)) (in_cell behind) more in
        subst IsInItsColumn (sym joined) (scalar_in_column 0 at v (in_cell behind ++ more) (in_parts l v))
    value_in_column at k inner (Counted_and j n items vs) more are = refl
    value_in_column at k inner (Fields_and j items vs) more are = refl

  pub writes_cell : (columns before_it row column : ℕ) (k : Kind) (inner : Types) (v : Values) (t : List ℕ) → AreOf (Type_and k inner NoMore) v → nesting v ≤ 64 → value_texts v ≡ t ∷ []
      → Writes (within_page columns before_it) (Cell_is row column k inner v ∷ []) (around l columns row column [] t) (within_page columns column)
  writes_cell columns before_it row column k inner v t are nests is = record {
    text = λ at more.
        let events = part_events l at (Cell_is row column k inner v) in
        ap (λ es. page_text (within_page columns before_it) (es ++ more)) (append-nil events)
        ∙ value_in_column columns before_it row column at k inner v more are
        ∙ values_text l columns row column [] 0 at (Type_and k inner NoMore) v more some are (omega arith)
        ∙ ap (λ ts. spread columns column [] ts ++ page_text (place l columns row column (counted [] ts)) more) is
        ∙ ap (λ x. x ++ page_text (within_page columns column) more) (only (before column []) t (after columns column []));
  }

  -- ---- rows

  module _ (columns row : ℕ) where
    abbrev pub cells_from : (column : ℕ) → List (List ℕ) → List ℕ
    cells_from column [] = []
    cells_from column (t ∷ ts) = around l columns row column [] t ++ cells_from (column + 1) ts

    cells_line : (column : ℕ) (t : List ℕ) (ts : List (List ℕ)) → column + suc (length ts) ≡ columns
        → cells_from column (t ∷ ts) ≡ before column [] ++ (t ++ (flat_map (λ u. codes " | " ++ u) ts ++ codes "\n"))
    cells_line column t [] all =
        let last : (column + 1 == columns) ≡ true = grind (arith, nat_tests) in
        ap (λ (b : Bool). (before column [] ++ (t ++ (if b then codes "\n" else []))) ++ []) last ∙ append-nil (before column [] ++ (t ++ codes "\n"))
    cells_line column t (u ∷ us) all =
        let last : (column + 1 == columns) ≡ false = grind (arith, nat_tests) in
        let next : (column + 1 == 0) ≡ false = grind (arith, nat_tests) in
        ap (λ (b : Bool). (before column [] ++ (t ++ (if b then codes "\n" else []))) ++ cells_from (column + 1) (u ∷ us)) last
        ∙ ap (λ x. (before column [] ++ (t ++ [])) ++ x) (cells_line (column + 1) u us (omega arith))
        ∙ ap (λ (b : Bool). (before column [] ++ (t ++ [])) ++ ((if b then [] else codes " | ") ++ (u ++ (flat_map (λ u. codes " | " ++ u) us ++ codes "\n")))) next
        ∙ next_cell (before column []) t (codes " | ") u (flat_map (λ u. codes " | " ++ u) us) (codes "\n")

    texts_line : (texts : List (List ℕ)) → 0 < length texts → length texts ≡ columns → cells_from 0 texts ≡ joined (codes " | ") texts ++ codes "\n"
    texts_line [] some all = absurd (omega arith)
    texts_line (t ∷ ts) some all = cells_line 0 t ts (omega arith) ∙ sym (append_assoc t (flat_map (λ u. codes " | " ++ u) ts) (codes "\n"))

    row_line : (cells : List Values) → length (flat_map value_texts cells) ≡ length cells → length cells ≡ columns → cells_from 0 (flat_map value_texts cells) ≡ row_text cells
    row_line [] one all = refl
    row_line (v ∷ vs) one all = texts_line (flat_map value_texts (v ∷ vs)) (omega arith) (one ∙ all)

    one_each : (column : ℕ) (ts : Types) (cells : List Values) → how_many ts ≤ length cells → Each IsOf (row_parts row column ts cells) → length (flat_map value_texts (take (how_many ts) cells)) ≡ length (take (how_many ts) cells)
    one_each column NoMore cells enough are = refl
    one_each column (Type_and k inner others) [] enough are = absurd (omega arith)
    one_each column (Type_and k inner others) (v ∷ cells) enough are =
        let one = one_text k inner v are.0 in
        ap (λ ts. length (ts ++ flat_map value_texts (take (how_many others) cells))) one.1 ∙ ap suc (one_each (column + 1) others cells (omega arith) are.1)

    writes_cells : (before_it column : ℕ) (ts : Types) (cells : List Values) → how_many ts ≤ length cells → Each IsOf (row_parts row column ts cells) → Nests 64 cells
        → (to : ℕ) × Writes (within_page columns before_it) (row_parts row column ts cells) (cells_from column (flat_map value_texts (take (how_many ts) cells))) (within_page columns to)
    writes_cells before_it column NoMore cells enough are nests = (before_it, writes_nothing (within_page columns before_it))
    writes_cells before_it column (Type_and k inner others) [] enough are nests = absurd (omega arith)
    writes_cells before_it column (Type_and k inner others) (v ∷ cells) enough are nests =
        let one = one_text k inner v are.0 in
        let rest = writes_cells column (column + 1) others cells (omega arith) are.1 nests.1 in
        let texts = flat_map value_texts (take (how_many others) cells) in
        let parts = row_parts row column (Type_and k inner others) (v ∷ cells) in
        let whole = writes_then (within_page columns before_it) (within_page columns column) (within_page columns rest.0) (Cell_is row column k inner v ∷ []) (row_parts row (column + 1) others cells) (around l columns row column [] one.0) (cells_from (column + 1) texts)
        (writes_cell columns before_it row column k inner v one.0 are.0 nests.0 one.1) rest.1 in
        (rest.0, subst (λ (ts : List (List ℕ)). Writes (within_page columns before_it) parts (cells_from column (ts ++ texts)) (within_page columns rest.0)) (sym one.1) whole)

  writes_row : (before_it row : ℕ) (ts : Types) (cells : List Values) → how_many ts ≤ length cells → Each IsOf (row_parts row 0 ts cells) → Nests 64 cells
      → (to : ℕ) × Writes (within_page (how_many ts) before_it) (row_parts row 0 ts cells) (row_text (take (how_many ts) cells)) (within_page (how_many ts) to)
  writes_row before_it row ts cells enough are nests =
      let columns = how_many ts in
      let from = writes_cells columns row before_it 0 ts cells enough are nests in
      let many : length (take columns cells) ≡ columns = grind (arith, common_steps) in
      (from.0, subst (λ (x : List ℕ). Writes (within_page columns before_it) (row_parts row 0 ts cells) x (within_page columns from.0)) (row_line columns row (take columns cells) (one_each columns row 0 ts cells enough are) many) from.1)

  writes_rows : (before_it row : ℕ) (ts : Types) (n : ℕ) (cells : List Values) → n * how_many ts ≤ length cells → Each IsOf (rows_parts row ts n cells) → Nests 64 cells
      → (to : ℕ) × Writes (within_page (how_many ts) before_it) (rows_parts row ts n cells) (rows_text (how_many ts) n cells) (within_page (how_many ts) to)
  writes_rows before_it row ts zero cells enough are nests = (before_it, writes_nothing (within_page (how_many ts) before_it))
  writes_rows before_it row ts (suc n) cells enough are nests =
      let columns = how_many ts in
      let first = row_parts row 0 ts cells in
      let others = rows_parts (row + 1) ts n (drop columns cells) in
      let many : columns + n * columns ≤ length cells = one_row_more n columns (length cells) enough in
      let left : n * columns ≤ length (drop columns cells) = rest_of n columns cells many in
      let one = writes_row before_it row ts cells (omega arith) (each_left IsOf first others are) nests in
      let rest = writes_rows one.0 (row + 1) ts n (drop columns cells) left (each_right IsOf first others are) (nests_drop 64 columns cells nests) in
      (rest.0, writes_then (within_page columns before_it) (within_page columns one.0) (within_page columns rest.0) first others (row_text (take columns cells)) (rows_text columns n (drop columns cells)) one.1 rest.1)

  -- ---- pages and other frames

  writes_page : (p : Page) → how_many (cell_types p.meta) ≡ p.meta.columns → length p.cells ≡ p.rows * p.meta.columns → Each IsOf (rows_parts 0 (cell_types p.meta) p.rows p.cells) → Nests 64 p.cells
      → (to : ℕ) × Writes (within_page 0 0) (page_parts p) (page_of_rows p) (within_page p.meta.columns to)
  writes_page p many all are nests =
      let ts = cell_types p.meta in
      let columns = p.meta.columns in
      let parts = rows_parts 0 ts p.rows p.cells in
      let enough : p.rows * how_many ts ≤ length p.cells = subst (λ n. p.rows * n ≤ length p.cells) (sym many) (omega arith) in
      let rows = writes_rows 0 0 ts p.rows p.cells enough are nests in
      let here : Writes (within_page columns 0) parts (rows_text columns p.rows p.cells) (within_page columns rows.0) =
      subst (λ (n : ℕ). Writes (within_page n 0) parts (rows_text n p.rows p.cells) (within_page n rows.0)) many rows.1 in (
        rows.0,
        writes_then (within_page 0 0) (within_page columns 0) (within_page columns rows.0) (metadata_parts p.meta) (count field.Rows p.rows ∷ parts) (column_lines p.meta.specs) (page_line columns p.rows ++ rows_text columns p.rows p.cells)
            (writes_metadata p.meta)
            (writes_then (within_page columns 0) (within_page columns 0) (within_page columns rows.0) (count field.Rows p.rows ∷ []) parts (page_line columns p.rows) (rows_text columns p.rows p.cells) (writes_rows_line columns p.rows) here),
      )

  module _ (ps : List Part) (quiet : Each IsQuiet ps) (at end x : ℕ) (more : List (ℕ × Event)) where
    -- the end of a frame, and what comes after it
    abbrev pub ended : List (ℕ × Event)
    ended = (end, End x) ∷ more

    rest_text : (ps : List Part) → Each IsQuiet ps → page_text no_page (parts_events l at ps ++ ended) ≡ page_text no_page more
    rest_text ps quiet =
        let passed = passes no_page (parts_events l at ps) refl (quiet_parts l at ps quiet) in
        passed.text ended ∙ ap (λ t. t ++ page_text no_page more) (off_part passed.to (End x) passed.off)

    page_in_frame : (p : Page) (columns to : ℕ) → Writes (within_page 0 0) (page_parts p) (page_of_rows p) (within_page columns to)
        → page_text no_page (parts_events l at (ps ++ (int field.ResultKind (pos 2) ∷ page_parts p)) ++ ended) ≡ page_of_rows p ++ page_text no_page more
    page_in_frame p columns to page =
        let passed = passes no_page (parts_events l at ps) refl (quiet_parts l at ps quiet) in
        let here = at + parts_size ps in
        let kind_is : Event = Holds field.ResultKind (value.Int (pos 2)) in
        let body = parts_events l (here + part_size (int field.ResultKind (pos 2))) (page_parts p) in
        ap (λ es. page_text no_page (es ++ ended)) (parts_events-append l at ps (int field.ResultKind (pos 2) ∷ page_parts p))
        ∙ ap (λ es. page_text no_page es) (append_assoc (parts_events l at ps) ((here, kind_is) ∷ body) ended)
        ∙ passed.text ((here, kind_is) ∷ (body ++ ended))
        ∙ ap (λ t. t ++ page_text (within_page 0 0) (body ++ ended)) (off_part passed.to kind_is passed.off)
        ∙ page.text (here + part_size (int field.ResultKind (pos 2))) ended

    abbrev pub IsWritten : Message → Type 0
    IsWritten m = page_text no_page (parts_events l at (ps ++ message_parts m) ++ ended) ≡ message_text m ++ page_text no_page more

    other_text : (m : Message) → is_page m ≡ false → message_text m ≡ [] → message_agrees m ≡ true → IsWritten m
    other_text m other nothing agrees =
        rest_text (ps ++ message_parts m) (each_join IsQuiet ps (message_parts m) quiet (quiet_message m other agrees))
        ∙ ap (λ t. t ++ page_text no_page more) (sym nothing)

    body_text : (m : Message) → MessageAgrees m → message_agrees m ≡ true → has_its_cells m ≡ true → Each IsOf (ps ++ message_parts m) → NestsWithin 64 m → IsWritten m
    body_text (Rows p) reported agrees shape are nests =
        let many = columns_are p.meta reported in
        let all : length p.cells ≡ p.rows * p.meta.columns = same_number (length p.cells) (p.rows * p.meta.columns) shape in
        let parts = rows_parts 0 (cell_types p.meta) p.rows p.cells in
        let page = writes_page p many all (each_right IsOf (metadata_parts p.meta) (count field.Rows p.rows ∷ parts) (each_right IsOf ps (message_parts (Rows p)) are).1).1 (all_nests 64 p.cells nests) in
        page_in_frame p p.meta.columns page.0 page.1
    body_text m reported agrees shape are nests = other_text m refl refl agrees

  pub frame_then : (at x : ℕ) (f : FrameValue) (more : List (ℕ × Event)) → IsReady f → NestsWithin 64 f.message → page_text no_page (Flat l at f x ++ more) ≡ message_text f.message ++ page_text no_page more
  frame_then at x f more ready nests =
      ap (λ es. page_text no_page es) (append_assoc (parts_events l (at + 9) (frame_parts f)) ((at + frame_size f x, End x) ∷ []) more)
      ∙ body_text (announced_parts f) (quiet_announced f) (at + 9) (at + frame_size f x) x more f.message (of_test f ready.agrees).message (message_agrees_of f ready.agrees) ready.shape ready.are nests

  pub frame_text : (at x : ℕ) (f : FrameValue) → IsReady f → NestsWithin 64 f.message → page_text no_page (Flat l at f x) ≡ message_text f.message
  frame_text at x f ready nests =
      ap (λ es. page_text no_page es) (sym (append-nil (Flat l at f x))) ∙ frame_then at x f [] ready nests ∙ append-nil (message_text f.message)
