-- How many bytes the events of cells cover.
use Rattle.std.proofs.Common.{◌≡◌, ℕ, zero, suc, ◌+◌, ◌&&◌, ◌^◌, ltb, Bool, true, false, List, [], ◌∷◌, ◌++◌, map, drop, refl, sym, ap, ◌∙◌, arith}
use Rattle.std.specs.Prelude.{if◌then◌else◌}
use Rattle.std.specs.List.{list_all}
use Rattle.std.proofs.lemmas.List.Folds.{list_all-append}
use Rattle.cqlp_kind.specs.declared.kind.Kind.{Kind}
use Rattle.cqlp_kind.specs.declared.kind.Kind.TheVariants as kind
use Rattle.cqlp_kind.specs.CellStep.{CellEvent, Leaf, Null, Empty, Enter, Leave, Part}
use Rattle.cqlp_kind.specs.Types.{Types, NoMore, Type_and, first_types, how_many, is_kind}
use Rattle.cqlp_kind.specs.Scalars.{kind_of, scalar_fits}
use Rattle.cqlp_cell.specs.Sizes.{is_counted}
use Rattle.cqlp_value.specs.Values.{Values, NoValue, Null_and, Empty_and, Scalar_and, Counted_and, Fields_and, has_fields, type_copies, values_fit, values_in, values_size}
use Rattle.cqlp_grammar.specs.Events.{Event, cell_event}
use Rattle.cqlp_message.specs.Bodies.{row_parts, rows_parts}
use Rattle.cqlp_message.specs.Parts.{cell_fits, parts_size}
use Rattle.cqlp_message.proofs.Bounds.{parts_append}
use Rattle.cqlp_build.specs.Emitted.{emitted}
use Rattle.cqlp_build.proofs.Steps.{emitted_append}
use Rattle.cqlp_build_cells.specs.Said.{values_said}
use Rattle.cqlp_compose.specs.Measures.{event_size, events_size, said_size}

pub both : (a b : Bool) → (a && b) ≡ true → (a ≡ true) × (b ≡ true)
both true true e = (refl, refl)
both true false e = absurd cc
both false b e = absurd cc

abbrev all_size : List CellEvent → ℕ
all_size [] = 0
all_size (e ∷ es) = said_size e + all_size es

size_both : (xs ys : List CellEvent) → all_size (xs ++ ys) ≡ all_size xs + all_size ys
size_both [] ys = omega arith
size_both (x ∷ xs) ys = omega (arith, size_both xs ys)

counted_size : (level : ℕ) (k : Kind) (n : ℕ) → is_counted k ≡ true → said_size (Enter level k n) ≡ 8
counted_size level k n e = ap (λ (b : Bool). if b then 8 else 4) e

fields_none : (k : Kind) → has_fields k ≡ true → is_counted k ≡ false
fields_none kind.Tuple e = refl
fields_none kind.Udt e = refl
fields_none k e = absurd cc

fields_size : (level : ℕ) (k : Kind) (n : ℕ) → has_fields k ≡ true → said_size (Enter level k n) ≡ 4
fields_size level k n e = ap (λ (b : Bool). if b then 8 else 4) (fields_none k e)

said_sizes : (level : ℕ) (ts : Types) (vs : Values) → values_fit ts vs ≡ true → all_size (values_said level ts vs) ≡ values_size vs
said_sizes level NoMore NoValue f = refl
said_sizes level NoMore (Null_and vs) f = absurd cc
said_sizes level NoMore (Empty_and vs) f = absurd cc
said_sizes level NoMore (Scalar_and v vs) f = absurd cc
said_sizes level NoMore (Counted_and j n items vs) f = absurd cc
said_sizes level NoMore (Fields_and j items vs) f = absurd cc
said_sizes level (Type_and k inner ts) NoValue f = absurd cc
said_sizes level (Type_and k inner ts) (Null_and vs) f = omega (arith, said_sizes level ts vs f)
said_sizes level (Type_and k inner ts) (Empty_and vs) f = omega (arith, said_sizes level ts vs f)
said_sizes level (Type_and k inner ts) (Scalar_and v vs) f =
    omega (arith, said_sizes level ts vs (both (is_kind (kind_of v) k && scalar_fits v) (values_fit ts vs) f).1)
said_sizes level (Type_and k inner ts) (Counted_and j n items vs) f =
    let p = both (is_kind j k && is_counted k && ltb n (2 ^ 31) && values_fit (type_copies n inner) items) (values_fit ts vs) f in
    let q = both (is_kind j k && is_counted k && ltb n (2 ^ 31)) (values_fit (type_copies n inner) items) p.0 in
    let r = both (is_kind j k && is_counted k) (ltb n (2 ^ 31)) q.0 in
    let s = both (is_kind j k) (is_counted k) r.0 in
    let one = said_sizes (level + 1) (type_copies n inner) items q.1 in
    let two = said_sizes level ts vs p.1 in
    let split = size_both (values_said (level + 1) (type_copies n inner) items) (Leave level n ∷ values_said level ts vs) in
    omega (arith, one, two, split, counted_size level k n s.1)
said_sizes level (Type_and k inner ts) (Fields_and j items vs) f =
    let p = both (is_kind j k && has_fields k && ltb 0 (values_in items) && values_fit (first_types (values_in items) inner) items) (values_fit ts vs) f in
    let q = both (is_kind j k && has_fields k && ltb 0 (values_in items)) (values_fit (first_types (values_in items) inner) items) p.0 in
    let r = both (is_kind j k && has_fields k) (ltb 0 (values_in items)) q.0 in
    let s = both (is_kind j k) (has_fields k) r.0 in
    let one = said_sizes (level + 1) (first_types (values_in items) inner) items q.1 in
    let two = said_sizes level ts vs p.1 in
    let split = size_both (values_said (level + 1) (first_types (values_in items) inner) items) (Leave level (values_in items) ∷ values_said level ts vs) in
    omega (arith, one, two, split, fields_size level k (how_many inner) s.1)

-- ---- events of a page

events_both : (xs ys : List Event) → events_size (xs ++ ys) ≡ events_size xs + events_size ys
events_both [] ys = omega arith
events_both (x ∷ xs) ys = omega (arith, events_both xs ys)

event_same : (row column : ℕ) (e : CellEvent) → event_size (cell_event row column e) ≡ said_size e
event_same row column (Leaf level v) = refl
event_same row column (Null level) = refl
event_same row column (Empty level) = refl
event_same row column (Enter level k n) = refl
event_same row column (Leave level n) = refl
event_same row column (Part level offset c last) = refl

events_same : (row column : ℕ) (es : List CellEvent) → events_size (map (cell_event row column) es) ≡ all_size es
events_same row column [] = refl
events_same row column (e ∷ es) = omega (arith, event_same row column e, events_same row column es)

row_sizes : (r c : ℕ) (ts : Types) (cells : List Values) → list_all cell_fits (row_parts r c ts cells) ≡ true → events_size (emitted (row_parts r c ts cells)) ≡ parts_size (row_parts r c ts cells)
row_sizes r c NoMore cells f = refl
row_sizes r c (Type_and k inner ts) [] f = refl
row_sizes r c (Type_and k inner ts) (v ∷ cells) f =
    let p = both (values_fit (Type_and k inner NoMore) v) (list_all cell_fits (row_parts r (c + 1) ts cells)) f in
    let one = events_same r c (values_said 0 (Type_and k inner NoMore) v) in
    let two = said_sizes 0 (Type_and k inner NoMore) v p.0 in
    let more = row_sizes r (c + 1) ts cells p.1 in
    omega (arith, one, two, more, events_both (map (cell_event r c) (values_said 0 (Type_and k inner NoMore) v)) (emitted (row_parts r (c + 1) ts cells)))

-- the events of cells that fit cover as many bytes as the cells have
pub rows_sizes : (r : ℕ) (ts : Types) (n : ℕ) (cells : List Values) → list_all cell_fits (rows_parts r ts n cells) ≡ true → events_size (emitted (rows_parts r ts n cells)) ≡ parts_size (rows_parts r ts n cells)
rows_sizes r ts zero cells f = refl
rows_sizes r ts (suc n) cells f =
    let first = row_parts r 0 ts cells in
    let rest = rows_parts (r + 1) ts n (drop (how_many ts) cells) in
    let p = both (list_all cell_fits first) (list_all cell_fits rest) (sym (list_all-append cell_fits first rest) ∙ f) in
    omega (arith, ap events_size (emitted_append first rest), events_both (emitted first) (emitted rest), parts_append first rest, row_sizes r 0 ts cells p.0, rows_sizes (r + 1) ts n (drop (how_many ts) cells) p.1)
