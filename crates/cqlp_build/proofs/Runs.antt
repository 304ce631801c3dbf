-- Cells that lie row by row, each a plain value of its column's type, are those of a page.
use Rattle.std.proofs.Common.{◌≡◌, ℕ, zero, suc, ◌+◌, ◌*◌, ◌/◌, ◌%◌, ◌^◌, ◌<◌, ◌≤◌, ◌++◌, List, [], ◌∷◌, true, map, length, drop, take, refl, sym, ap, ◌∙◌, subst, append_assoc, append-nil, arith, inl}
use Rattle.std.specs.Prelude.{◌&&◌}
use Rattle.std.specs.List.{list_all}
use Rattle.std.proofs.lemmas.List.{length-append, length-drop, length-map, map-append, take-append-drop}
use Rattle.std.proofs.lemmas.List.Folds.{list_all-append}
use Rattle.std.proofs.lemmas.Nat.{div-mul-add, mod-mul-add}
use Rattle.std.proofs.Math.Nat.{mod-eq_of_lt, suc-mul}
use Rattle.cqlp_kind.specs.declared.kind.Kind.{Kind}
use Rattle.cqlp_kind.specs.Types.{Types, NoMore, Type_and, how_many}
use Rattle.cqlp_kind.specs.CellStep.{CellEvent, Leaf, Null, Empty}
use Rattle.cqlp_kind.specs.Scalars.{ScalarValue, kind_of, scalar_fits}
use Rattle.cqlp_kind.specs.Types.{is_kind}
use Rattle.cqlp_value.specs.Values.{Values, NoValue, Null_and, Empty_and, Scalar_and, Counted_and, Fields_and, value_fits, values_fit}
use Rattle.cqlp_value.specs.Owned.{atom_of, value_of}
use Rattle.cqlp_value.specs.declared.value.Value.{Value, List', Map', Set', Tuple', Udt'}
use Rattle.cqlp_value.specs.declared.value.Value as value
use Rattle.cqlp_grammar.specs.Events.{cell_event}
use Rattle.cqlp_build_cells.specs.Building.{ends}
use Rattle.cqlp_build_cells.specs.Said.{Fit, values_said}
use Rattle.cqlp_message.specs.Bodies.{cell_types, row_parts, rows_parts}
use Rattle.cqlp_message.specs.FrameValues.{Metadata}
use Rattle.cqlp_build.specs.declared.held.FrameEvents.{FrameEvents}
use Rattle.cqlp_build.specs.declared.item.Item.{Item}
use Rattle.cqlp_build.specs.declared.item.Item.TheVariants as item
use Rattle.cqlp_build.specs.FrameEvents.{Builds, item_event, left}
use Rattle.cqlp_build.specs.Held.{Held}
use Rattle.cqlp_build.specs.Plain.{fits_run, is_of_kind, is_plain, is_plain_cell, kind_at, kind_types, run_items, step_of}
use Rattle.cqlp_build.specs.Productions.{AreCells, BuildsCell, cells_parts}
use Rattle.cqlp_build.specs.Emitted.{emitted}
use Rattle.cqlp_build.specs.WholePage.{ArePlain, IsWhole}
use Rattle.cqlp_build.proofs.Cells.{cell_ends, one_cell}
use Rattle.cqlp_build.proofs.PageParts.{cells_made}
use Rattle.cqlp_build.proofs.Plain.{fits_append, run_append}
use Rattle.cqlp_build.proofs.Rows.{BuildsFrom, BuildsRows, first_built, first_row, no_rows, none_built, rows_more}
use Rattle.cqlp_build.proofs.Several.{both, join}

-- where these are held
abbrev pub at : FrameEvents → List Item → FrameEvents
at h items = record h { items = record { items = items } }

-- ---- one cell

none_after : (vs : Values) → values_fit NoMore vs ≡ true → vs ≡ NoValue
none_after NoValue f = refl
none_after (Null_and vs) f = absurd cc
none_after (Empty_and vs) f = absurd cc
none_after (Scalar_and v vs) f = absurd cc
none_after (Counted_and k n items vs) f = absurd cc
none_after (Fields_and k items vs) f = absurd cc

module _ (k : Kind) (inner : Types) where
  abbrev ts : Types
  ts = Type_and k inner NoMore

  only_null : (w : Values) → Fit ts w → Null 0 ∷ [] ≡ values_said 0 ts w → w ≡ Null_and NoValue
  only_null NoValue f e = absurd cc
  only_null (Null_and vs) f e = ap Null_and (none_after vs f)
  only_null (Empty_and vs) f e = absurd cc
  only_null (Scalar_and v vs) f e = absurd cc
  only_null (Counted_and j n items vs) f e = absurd cc
  only_null (Fields_and j items vs) f e = absurd cc

  only_empty : (w : Values) → Fit ts w → Empty 0 ∷ [] ≡ values_said 0 ts w → w ≡ Empty_and NoValue
  only_empty NoValue f e = absurd cc
  only_empty (Null_and vs) f e = absurd cc
  only_empty (Empty_and vs) f e = ap Empty_and (none_after vs f)
  only_empty (Scalar_and v vs) f e = absurd cc
  only_empty (Counted_and j n items vs) f e = absurd cc
  only_empty (Fields_and j items vs) f e = absurd cc

  only_scalar : (a : ScalarValue) (w : Values) → Fit ts w → Leaf 0 a ∷ [] ≡ values_said 0 ts w → w ≡ Scalar_and a NoValue
  only_scalar a NoValue f e = absurd cc
  only_scalar a (Null_and vs) f e = absurd cc
  only_scalar a (Empty_and vs) f e = absurd cc
  only_scalar a (Scalar_and v vs) f e =
      let same : v ≡ a = cc in
      let none = none_after vs (both (is_kind (kind_of v) k && scalar_fits v) (values_fit NoMore vs) f).1 in
      λ i. Scalar_and (same i) (none i)
  only_scalar a (Counted_and j n items vs) f e = absurd cc
  only_scalar a (Fields_and j items vs) f e = absurd cc

  module _ (row column : ℕ) (h : FrameEvents) (rest : List Item) where
    -- a value that is one event
    one_event : (e : CellEvent) (v : Values) → ends e ≡ true → left h ≡ cell_event row column e ∷ map item_event rest → values_said 0 ts v ≡ e ∷ [] → Fit ts v
        → ((w : Values) → Fit ts w → e ∷ [] ≡ values_said 0 ts w → w ≡ v) → BuildsCell row column ts v h (at h rest)
    one_event e v end came said fit only = record {
      made = λ s. (s, came ∙ ap (λ es. map (cell_event row column) es ++ map item_event rest) (sym said), fit);
      only = λ s w more f eq.
          let o = one_cell row column (e ∷ []) (values_said 0 ts w) end (cell_ends k inner w f) (map item_event rest) more (sym came ∙ eq) in
          (only w f o.0, sym o.1);
      none = λ s. inl s;
    }

    pub plain_built : (v : Value) → h.items.items ≡ item.Cell row column 0 (step_of v) ∷ rest → is_plain (value_of v) ≡ true → Fit ts (value_of v) → BuildsCell row column ts (value_of v) h (at h rest)
    plain_built value.Null e p f = one_event (Null 0) (Null_and NoValue) refl (ap (map item_event) e) refl f only_null
    plain_built value.Empty e p f = one_event (Empty 0) (Empty_and NoValue) refl (ap (map item_event) e) refl f only_empty
    plain_built (value.Leaf a) e p f = one_event (Leaf 0 (atom_of a)) (Scalar_and (atom_of a) NoValue) refl (ap (map item_event) e) refl f (only_scalar (atom_of a))
    plain_built (List' shape items) e p f = absurd cc
    plain_built (Map' shape pairs) e p f = absurd cc
    plain_built (Set' shape items) e p f = absurd cc
    plain_built (Tuple' shape items) e p f = absurd cc
    plain_built (Udt' shape items) e p f = absurd cc

-- ---- a row

-- the place of a cell
place : (last row column : ℕ) → row < 2 ^ 32 → column < last + 1 → (((row * (last + 1) + column) / (last + 1) % 2 ^ 32) ≡ row) × (((row * (last + 1) + column) % (last + 1)) ≡ column)
place last row column r c =
    (ap (λ n. n % 2 ^ 32) (div-mul-add row (last + 1) column c) ∙ mod-eq_of_lt r, mod-mul-add row (last + 1) column c)

module _ (row last : ℕ) (low : row < 2 ^ 32) where
  pub row_run : (column : ℕ) (ts : Types) (vs : List Value) (h : FrameEvents) (rest : List Item) → column + how_many ts ≡ last + 1 → length vs ≡ how_many ts
      → list_all is_plain_cell (row_parts row column ts (map value_of vs)) ≡ true → h.items.items ≡ run_items last (row * (last + 1) + column) vs ++ rest
      → BuildsFrom row column ts (map value_of vs) h (at h rest)
  row_run column NoMore [] h rest c l p e = subst (λ (xs : List Item). BuildsFrom row column NoMore [] h (at h xs)) e (none_built row column h)
  row_run column NoMore (v ∷ vs) h rest c l p e = absurd (omega (arith, l))
  row_run column (Type_and k inner ts) [] h rest c l p e = absurd (omega (arith, l))
  row_run column (Type_and k inner ts) (v ∷ vs) h rest c l p e =
      let n = row * (last + 1) + column in
      let within : column < last + 1 = omega (arith, c) in
      let is = place last row column low within in
      let next : n + 1 ≡ row * (last + 1) + (column + 1) = omega arith in
      let after = run_items last (n + 1) vs ++ rest in
      let first = both (is_plain (value_of v) && value_fits k inner (value_of v)) (list_all is_plain_cell (row_parts row (column + 1) ts (map value_of vs))) p in
      let one = both (is_plain (value_of v)) (value_fits k inner (value_of v)) first.0 in
      first_built row column k inner ts (plain_built k inner row column h after v (e ∙ (λ i. item.Cell (is.0 i) (is.1 i) 0 (step_of v) ∷ after)) one.0 one.1)
      (row_run (column + 1) ts vs (at h after) rest (omega (arith, c)) (omega (arith, l)) first.1 (ap (λ m. run_items last m vs ++ rest) next))

-- ---- rows

module _ (last : ℕ) (ts : Types) (wide : how_many ts ≡ last + 1) where
  abbrev Run : (row n : ℕ) → List Value → Type 0
  Run row n vs =
      (h : FrameEvents) (rest : List Item) → h.items.items ≡ run_items last (row * (last + 1)) vs ++ rest
      → list_all is_plain_cell (rows_parts row ts n (map value_of vs)) ≡ true → BuildsRows row n ts (map value_of vs) h (at h rest)

  first_run : (row n : ℕ) (us ws : List Value) → row < 2 ^ 32 → length us ≡ how_many ts → Run (row + 1) n ws → Run row (suc n) (us ++ ws)
  first_run row n us ws low len others h rest e p =
      let at_first : row * (last + 1) ≡ row * (last + 1) + 0 = omega arith in
      let at_next : row * (last + 1) + length us ≡ (row + 1) * (last + 1) = omega (arith, len, wide, suc-mul row (last + 1)) in
      let after = run_items last ((row + 1) * (last + 1)) ws ++ rest in
      let items : h.items.items ≡ run_items last (row * (last + 1) + 0) us ++ after =
      e ∙ (ap (λ xs. xs ++ rest) (run_append last (row * (last + 1)) us ws) ∙ (append_assoc (run_items last (row * (last + 1)) us) (run_items last (row * (last + 1) + length us) ws) rest
      ∙ (ap (λ m. run_items last (row * (last + 1)) us ++ (run_items last m ws ++ rest)) at_next ∙ ap (λ m. run_items last m us ++ after) at_first))) in
      let one = row_parts row 0 ts (map value_of us) in
      let more = rows_parts (row + 1) ts n (map value_of ws) in
      let parts = ap (rows_parts row ts (suc n)) (map-append value_of us ws) ∙ rows_more row ts n (map value_of us) (map value_of ws) (length-map us value_of ∙ len) in
      let f = both (list_all is_plain_cell one) (list_all is_plain_cell more) (sym (list_all-append is_plain_cell one more) ∙ (ap (list_all is_plain_cell) (sym parts) ∙ p)) in
      let start : 0 + how_many ts ≡ last + 1 = omega (arith, wide) in
      subst (λ (xs : List Values). BuildsRows row (suc n) ts xs h (at h rest)) (sym (map-append value_of us ws))
      (first_row ts row n (row_run row last low 0 ts us h after start len f.0 items) (others (at h after) rest refl f.1))

  pub rows_run : (row n : ℕ) (vs : List Value) → row + n ≤ 2 ^ 32 → length vs ≡ n * how_many ts → Run row n vs
  rows_run row zero [] low len = λ h rest e p. subst (λ (xs : List Item). BuildsRows row 0 ts [] h (at h xs)) e (no_rows ts row h)
  rows_run row zero (v ∷ vs) low len = absurd (omega (arith, len))
  rows_run row (suc n) vs low len =
      let us = take (how_many ts) vs in
      let ws = drop (how_many ts) vs in
      let is : vs ≡ us ++ ws = sym (take-append-drop (how_many ts) vs) in
      let all : how_many ts ≤ length vs = omega (arith, len, suc-mul n (how_many ts)) in
      let one : length us ≡ how_many ts = omega (arith, length-drop (how_many ts) vs, length-append us ws, ap length is, all) in
      let many : length ws ≡ n * how_many ts = omega (arith, length-drop (how_many ts) vs, len, suc-mul n (how_many ts)) in
      let here : row < 2 ^ 32 = omega (arith, low) in
      subst (λ (xs : List Value). Run row (suc n) xs) (sym is) (first_run row n us ws here one (rows_run (row + 1) n ws (omega (arith, low)) many))

-- ---- their types by their kinds

kinds_many : (kinds : List Kind) (column n : ℕ) → how_many (kind_types kinds column n) ≡ n
kinds_many kinds column zero = refl
kinds_many kinds column (suc n) = ap suc (kinds_many kinds (column + 1) n)

module _ (last : ℕ) (kinds : List Kind) where
  row_plain : (row column n : ℕ) (vs : List Value) → column + n ≡ last + 1 → length vs ≡ n → fits_run last (row * (last + 1) + column) kinds vs ≡ true
      → list_all is_plain_cell (row_parts row column (kind_types kinds column n) (map value_of vs)) ≡ true
  row_plain row column zero vs c l f = refl
  row_plain row column (suc n) [] c l f = absurd (omega (arith, l))
  row_plain row column (suc n) (v ∷ vs) c l f =
      let at = row * (last + 1) + column in
      let within : column < last + 1 = omega (arith, c) in
      let next : row * (last + 1) + (column + 1) ≡ at + 1 = omega arith in
      let p = both (is_of_kind (kind_at kinds (at % (last + 1))) v) (fits_run last (at + 1) kinds vs) f in
      let one : is_of_kind (kind_at kinds column) v ≡ true = ap (λ n. is_of_kind (kind_at kinds n) v) (sym (mod-mul-add row (last + 1) column within)) ∙ p.0 in
      let others = list_all is_plain_cell (row_parts row (column + 1) (kind_types kinds (column + 1) n) (map value_of vs)) in
      join (is_of_kind (kind_at kinds column) v) others one
      (row_plain row (column + 1) n vs (omega (arith, c)) (omega (arith, l)) (ap (λ m. fits_run last m kinds vs) next ∙ p.1))

  rows_plain : (row n : ℕ) (vs : List Value) → length vs ≡ n * (last + 1) → fits_run last (row * (last + 1)) kinds vs ≡ true
      → list_all is_plain_cell (rows_parts row (kind_types kinds 0 (last + 1)) n (map value_of vs)) ≡ true
  rows_plain row zero vs len f = refl
  rows_plain row (suc n) vs len f =
      let wide = last + 1 in
      let ts = kind_types kinds 0 wide in
      let us = take wide vs in
      let ws = drop wide vs in
      let is : vs ≡ us ++ ws = sym (take-append-drop wide vs) in
      let all : wide ≤ length vs = omega (arith, len, suc-mul n wide) in
      let one : length us ≡ wide = omega (arith, length-drop wide vs, length-append us ws, ap length is, all) in
      let many : length ws ≡ n * wide = omega (arith, length-drop wide vs, len, suc-mul n wide) in
      let fit = both (fits_run last (row * wide) kinds us) (fits_run last (row * wide + length us) kinds ws) (sym (fits_append last (row * wide) kinds us ws) ∙ (ap (fits_run last (row * wide) kinds) (sym is) ∙ f)) in
      let at_first : row * wide + 0 ≡ row * wide = omega arith in
      let at_next : (row + 1) * wide ≡ row * wide + length us = omega (arith, one, suc-mul row wide) in
      let start : 0 + wide ≡ last + 1 = omega arith in
      let first = row_parts row 0 ts (map value_of us) in
      let others = rows_parts (row + 1) ts n (map value_of ws) in
      let parts = ap (rows_parts row ts (suc n)) (ap (map value_of) is ∙ map-append value_of us ws) ∙ rows_more row ts n (map value_of us) (map value_of ws) (length-map us value_of ∙ (one ∙ sym (kinds_many kinds 0 wide))) in
      ap (list_all is_plain_cell) parts ∙ (list_all-append is_plain_cell first others ∙ join (list_all is_plain_cell first) (list_all is_plain_cell others)
      (row_plain row 0 wide us start one (ap (λ m. fits_run last m kinds us) at_first ∙ fit.0))
      (rows_plain (row + 1) n ws many (ap (λ m. fits_run last m kinds ws) at_next ∙ fit.1)))

pub page_plain : (m : Metadata) (last rows : ℕ) (kinds : List Kind) (cells : List Value) → last + 1 ≡ m.columns → length cells ≡ rows * m.columns
    → cell_types m ≡ kind_types kinds 0 m.columns → fits_run last 0 kinds cells ≡ true → ArePlain m rows cells
page_plain m last rows kinds cells wide len types f =
    let many : length cells ≡ rows * (last + 1) = len ∙ ap (λ n. rows * n) (sym wide) in
    let start : 0 * (last + 1) ≡ 0 = omega arith in
    ap (λ (ts : Types). list_all is_plain_cell (rows_parts 0 ts rows (map value_of cells))) (types ∙ ap (kind_types kinds 0) (sym wide))
    ∙ rows_plain last kinds 0 rows cells many (ap (λ n. fits_run last n kinds cells) start ∙ f)

-- ---- a page

pub page_built : (m : Metadata) (rows : ℕ) (cells : List Value) (h : FrameEvents) (new : Held) → rows < 2 ^ 32 → how_many (cell_types m) ≡ m.columns → IsWhole m rows cells h.items.items → new.items ≡ []
    → Builds (λ vs. emitted (cells_parts m rows vs)) (AreCells m rows) (map value_of cells) h (record h { items = new })
page_built m rows cells h new low wide w none =
    let ts = cell_types m in
    let columns : how_many ts ≡ w.last + 1 = wide ∙ sym w.columns in
    let all : 0 + rows ≤ 2 ^ 32 = omega (arith, low) in
    let many : length cells ≡ rows * how_many ts = w.many ∙ ap (λ n. rows * n) (sym wide) in
    let start : 0 ≡ 0 * (w.last + 1) = omega arith in
    let items : h.items.items ≡ run_items w.last (0 * (w.last + 1)) cells ++ [] = w.items_are ∙ (ap (λ n. run_items w.last n cells) start ∙ sym (append-nil (run_items w.last (0 * (w.last + 1)) cells))) in
    cells_made m rows (map value_of cells) h (record h { items = new }) wide
    (subst (λ (xs : List Item). BuildsRows 0 rows ts (map value_of cells) h (at h xs)) (sym none) (rows_run w.last ts columns 0 rows cells all many h [] items w.plain))
