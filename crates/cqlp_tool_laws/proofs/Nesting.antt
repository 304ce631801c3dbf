-- How deep the values of a page nest.
use Rattle.std.proofs.Common.{◌≡◌, ℕ, zero, suc, ◌+◌, ◌*◌, ◌<◌, ◌≤◌, true, false, List, [], ◌∷◌, ◌++◌, length, get_or, take, drop, Option, Some, None, sym, ap, ◌∙◌, arith}
use Rattle.std.specs.Prelude.{All}
use Rattle.std.specs.List.{flat_map}
use Rattle.std.proofs.lemmas.List.{length-drop}
use Rattle.cqlp_note.specs.declared.field.Field.TheVariants as field
use Rattle.cqlp_note.specs.Limits.{Rules}
use Rattle.cqlp_kind.specs.declared.kind.Kind.TheVariants as kind
use Rattle.cqlp_kind.specs.Types.{Types, NoMore, Type_and, first_types, how_many, followed_by}
use Rattle.cqlp_type.specs.Trees.{Trees, NoTree, Tree_and, types_in, Shallow}
use Rattle.cqlp_value.specs.Values.{Values, NoValue, Null_and, Empty_and, Scalar_and, Counted_and, Fields_and, values_in, type_copies}
use Rattle.cqlp_grammar.specs.Productions.{raw_types}
use Rattle.cqlp_message.proofs.Agreements.{MessageAgrees, of_test}
use Rattle.cqlp_message.specs.FrameValues.{Spec, Message, Rows, FrameValue}
use Rattle.cqlp_message.specs.Parts.{Type_is, PartWithin, PartsWithin}
use Rattle.cqlp_message.specs.Bodies.{int, count, text, where_some, paging_parts, table_parts, spec_parts, metadata_parts, types_described, cell_types, column_types, row_parts, rows_parts, message_parts}
use Rattle.cqlp_message.specs.Agreement.{has_its_cells}
use Rattle.cqlp_message.specs.Frames.{frame_parts, announced_parts}
use Rattle.cqlp_tool_laws.specs.Rows.{nesting, NestsWithin}
use Rattle.cqlp_tool_laws.proofs.Shapes.{AreOf, Each, each_left, each_right, each_within, columns_are, same_number, IsOf, IsReady}

-- ---- values

-- values that nest no deeper
abbrev pub Nests : (depth : ℕ) → List Values → Type 0
Nests depth [] = Unit {0}
Nests depth (v ∷ vs) = (nesting v ≤ depth) × Nests depth vs

pub nests_drop : (depth n : ℕ) (vs : List Values) → Nests depth vs → Nests depth (drop n vs)
nests_drop depth zero vs a = a
nests_drop depth (suc n) [] a = tt
nests_drop depth (suc n) (v ∷ vs) a = nests_drop depth n vs a.1

one_row_same : (n columns all : ℕ) → all ≡ suc n * columns → all ≡ columns + n * columns
one_row_same n columns all e = grind arith

none_of : (n columns : ℕ) → suc n ≡ 0 * columns → ⊥
none_of n columns e = grind arith

-- ---- types

-- types at this depth, no inner type too deep
abbrev pub AreShallow : (most depth : ℕ) → Types → Type 0
AreShallow most depth NoMore = Unit {0}
AreShallow most depth (Type_and k inner others) = (depth ≤ most) × AreShallow most (depth + 1) inner × AreShallow most depth others

deep_trees : (l : Rules) (depth : ℕ) (t : Trees) → Shallow l depth t → AreShallow l.depth depth (types_in t)
deep_trees l depth NoTree a = tt
deep_trees l depth (Tree_and name h inner others) a = (a.0, deep_trees l (depth + 1) inner a.1, deep_trees l depth others a.2)

deep_after : (most depth : ℕ) (ts us : Types) → AreShallow most depth ts → AreShallow most depth us → AreShallow most depth (followed_by ts us)
deep_after most depth NoMore us a b = b
deep_after most depth (Type_and k inner others) us a b = (a.0, a.1, deep_after most depth others us a.2 b)

deep_copies : (most depth n : ℕ) (ts : Types) → AreShallow most depth ts → AreShallow most depth (type_copies n ts)
deep_copies most depth zero ts a = tt
deep_copies most depth (suc n) ts a = deep_after most depth ts (type_copies n ts) a (deep_copies most depth n ts a)

deep_first : (most depth n : ℕ) (ts : Types) → AreShallow most depth ts → AreShallow most depth (first_types n ts)
deep_first most depth zero ts a = tt
deep_first most depth (suc n) NoMore a = tt
deep_first most depth (suc n) (Type_and k inner others) a = (a.0, a.1, deep_first most depth n others a.2)

nests_in : (most depth : ℕ) (ts : Types) (vs : Values) → AreOf ts vs → AreShallow most depth ts → depth ≤ most + 1 → nesting vs + depth ≤ most + 1
nests_in most depth NoMore NoValue are deep le = omega arith
nests_in most depth (Type_and k inner ts) NoValue are deep le = absurd are
nests_in most depth NoMore (Null_and vs) are deep le = absurd are
nests_in most depth NoMore (Empty_and vs) are deep le = absurd are
nests_in most depth NoMore (Scalar_and v vs) are deep le = absurd are
nests_in most depth NoMore (Counted_and j n items vs) are deep le = absurd are
nests_in most depth NoMore (Fields_and j items vs) are deep le = absurd are
nests_in most depth (Type_and k inner ts) (Null_and vs) are deep le = nests_in most depth ts vs are deep.2 le
nests_in most depth (Type_and k inner ts) (Empty_and vs) are deep le = nests_in most depth ts vs are deep.2 le
nests_in most depth (Type_and k inner ts) (Scalar_and v vs) are deep le = nests_in most depth ts vs are deep.2 le
nests_in most depth (Type_and k inner ts) (Counted_and j n items vs) are deep le =
    let some = deep.0 in
    let within = nests_in most (depth + 1) (type_copies n inner) items are.2 (deep_copies most (depth + 1) n inner deep.1) (omega arith) in
    let beside = nests_in most depth ts vs are.3 deep.2 le in
    omega arith
nests_in most depth (Type_and k inner ts) (Fields_and j items vs) are deep le =
    let some = deep.0 in
    let within = nests_in most (depth + 1) (first_types (values_in items) inner) items are.2 (deep_first most (depth + 1) (values_in items) inner deep.1) (omega arith) in
    let beside = nests_in most depth ts vs are.3 deep.2 le in
    omega arith

-- a value of each of these types nests no deeper
abbrev pub Capped : (depth : ℕ) → Types → Type 0
Capped depth NoMore = Unit {0}
Capped depth (Type_and k inner others) = ((v : Values) → AreOf (Type_and k inner NoMore) v → nesting v ≤ depth) × Capped depth others

capped_after : (depth : ℕ) (ts us : Types) → Capped depth ts → Capped depth us → Capped depth (followed_by ts us)
capped_after depth NoMore us a b = b
capped_after depth (Type_and k inner others) us a b = (a.0, capped_after depth others us a.1 b)

capped_deep : (depth : ℕ) (ts : Types) → AreShallow depth 1 ts → Capped depth ts
capped_deep depth NoMore a = tt
capped_deep depth (Type_and k inner others) a = (λ v are. let deep = nests_in depth 1 (Type_and k inner NoMore) v are (a.0, a.1, tt) (omega arith) in omega arith, capped_deep depth others a.2)

none_nests : (vs : Values) → AreOf NoMore vs → nesting vs ≤ 0
none_nests NoValue are = omega arith
none_nests (Null_and vs) are = absurd are
none_nests (Empty_and vs) are = absurd are
none_nests (Scalar_and v vs) are = absurd are
none_nests (Counted_and j n items vs) are = absurd are
none_nests (Fields_and j items vs) are = absurd are

raw_nests : (v : Values) → AreOf (Type_and kind.Raw NoMore NoMore) v → nesting v ≤ 0
raw_nests NoValue are = absurd are
raw_nests (Null_and vs) are = none_nests vs are
raw_nests (Empty_and vs) are = none_nests vs are
raw_nests (Scalar_and v vs) are = none_nests vs are
raw_nests (Counted_and j n items vs) are = let no : false ≡ true = are.1 in absurd cc
raw_nests (Fields_and j items vs) are = let no : false ≡ true = are.1 in absurd cc

capped_raw : (depth columns : ℕ) → Capped depth (raw_types columns)
capped_raw depth zero = tt
capped_raw depth (suc n) = (λ v are. let none = raw_nests v are in omega arith, capped_raw depth n)

pub all_nests : (depth : ℕ) (vs : List Values) → All (λ v. nesting v ≤ depth) vs → Nests depth vs
all_nests depth [] a = tt
all_nests depth (v ∷ vs) a = (a 0 v (omega arith), all_nests depth vs (λ k d lt. a (suc k) d (omega arith)))

nests_at : (depth : ℕ) (v : Values) (vs : List Values) → Nests depth (v ∷ vs) → All (λ v. nesting v ≤ depth) vs → (k : ℕ) (d : Values) → k < length (v ∷ vs) → nesting (get_or (v ∷ vs) k d) ≤ depth
nests_at depth v vs a rest zero d lt = a.0
nests_at depth v vs a rest (suc k) d lt = rest k d (omega arith)

nests_all : (depth : ℕ) (vs : List Values) → Nests depth vs → All (λ v. nesting v ≤ depth) vs
nests_all depth [] a = λ k d lt. absurd (omega arith)
nests_all depth (v ∷ vs) a = λ k. nests_at depth v vs a (nests_all depth vs a.1) k

nests_both : (depth n : ℕ) (vs : List Values) → Nests depth (take n vs) → Nests depth (drop n vs) → Nests depth vs
nests_both depth zero vs a b = b
nests_both depth (suc n) [] a b = tt
nests_both depth (suc n) (v ∷ vs) a b = (a.0, nests_both depth n vs a.1 b)

nests_row : (depth row column : ℕ) (ts : Types) (cells : List Values) → how_many ts ≤ length cells → Each IsOf (row_parts row column ts cells) → Capped depth ts → Nests depth (take (how_many ts) cells)
nests_row depth row column NoMore cells enough are caps = tt
nests_row depth row column (Type_and k inner others) [] enough are caps = absurd (omega arith)
nests_row depth row column (Type_and k inner others) (v ∷ cells) enough are caps = (caps.0 v are.0, nests_row depth row (column + 1) others cells (omega arith) are.1 caps.1)

nests_rows : (depth row : ℕ) (ts : Types) (n : ℕ) (cells : List Values) → length cells ≡ n * how_many ts → Each IsOf (rows_parts row ts n cells) → Capped depth ts → Nests depth cells
nests_rows depth row ts zero [] all are caps = tt
nests_rows depth row ts zero (v ∷ cells) all are caps = absurd (none_of (length cells) (how_many ts) all)
nests_rows depth row ts (suc n) cells all are caps =
    let columns = how_many ts in
    let more : length cells ≡ columns + n * columns = one_row_same n columns (length cells) all in
    let left : length (drop columns cells) ≡ n * columns = simp length-drop (omega arith) in
    nests_both depth columns cells (nests_row depth row 0 ts cells (omega arith) (each_left IsOf (row_parts row 0 ts cells) (rows_parts (row + 1) ts n (drop columns cells)) are) caps)
    (nests_rows depth (row + 1) ts n (drop columns cells) left (each_right IsOf (row_parts row 0 ts cells) (rows_parts (row + 1) ts n (drop columns cells)) are) caps)

module _ (l : Rules) where
  -- ---- nesting

  capped_specs : (cs : List Spec) → Each (PartWithin l) (flat_map spec_parts cs) → Capped l.depth (column_types cs)
  capped_specs [] fits = tt
  capped_specs (c ∷ cs) fits =
      let one = each_right (PartWithin l) (table_parts c.table) (text field.ColumnName c.name ∷ Type_is c.tree ∷ []) (each_left (PartWithin l) (spec_parts c) (flat_map spec_parts cs) fits) in
      capped_after l.depth (types_in c.tree) (column_types cs) (capped_deep l.depth (types_in c.tree) (deep_trees l 1 c.tree one.1.0.0)) (capped_specs cs (each_right (PartWithin l) (spec_parts c) (flat_map spec_parts cs) fits))

  capped_reported : (columns : ℕ) (o : Option (List Spec)) → Each (PartWithin l) (where_some (flat_map spec_parts) o) → Capped l.depth (types_described columns o)
  capped_reported columns None fits = capped_raw l.depth columns
  capped_reported columns (Some cs) fits = capped_specs cs fits

  nests_message : (m : Message) → MessageAgrees m → has_its_cells m ≡ true → Each IsOf (message_parts m) → Each (PartWithin l) (message_parts m) → NestsWithin l.depth m
  nests_message (Rows p) reported shape are fits =
      let all : length p.cells ≡ p.rows * p.meta.columns = same_number (length p.cells) (p.rows * p.meta.columns) shape in
      let parts = rows_parts 0 (cell_types p.meta) p.rows p.cells in
      let types = capped_reported p.meta.columns p.meta.specs (each_right (PartWithin l) (int field.MetaFlags p.meta.flags ∷ count field.Columns p.meta.columns ∷ [] ++ paging_parts p.meta.paging ++ table_parts p.meta.table) (where_some (flat_map spec_parts) p.meta.specs)
      (each_left (PartWithin l) (metadata_parts p.meta) (count field.Rows p.rows ∷ parts) fits.1)) in
      nests_all l.depth p.cells (nests_rows l.depth 0 (cell_types p.meta) p.rows p.cells (all ∙ ap (λ n. p.rows * n) (sym (columns_are p.meta reported))) (each_right IsOf (metadata_parts p.meta) (count field.Rows p.rows ∷ parts) are.1).1 types)
  nests_message m reported shape are fits = tt

  pub frame_nests : (f : FrameValue) → IsReady f → PartsWithin l (frame_parts f) → NestsWithin l.depth f.message
  frame_nests f ready fits =
      nests_message f.message (of_test f ready.agrees).message ready.shape (each_right IsOf (announced_parts f) (message_parts f.message) ready.are) (each_right (PartWithin l) (announced_parts f) (message_parts f.message) (each_within l (frame_parts f) fits))
