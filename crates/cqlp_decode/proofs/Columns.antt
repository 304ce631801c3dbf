-- The cells of a page, one after the other.
use Rattle.std.proofs.Common.{◌≡◌, ℕ, zero, suc, ◌+◌, ◌-◌, ◌<◌, ◌≤◌, ◌^◌, true, false, List, [], ◌∷◌, ◌++◌, length, drop, refl, sym, ap, subst, ◌∙◌, inl, inr, arith}
use Rattle.std.specs.Prelude.{◌↔◌, IsTrue, Option, Some, None, Bool}
use Rattle.std.proofs.lemmas.Bool.{cases_Bool, eq-eqb, ne_eqb}
use Rattle.cqlp_note.specs.Limits.{Rules}
use Rattle.cqlp_note.specs.declared.limits.Asked.{Asked}
use Rattle.cqlp_note.specs.Heading.{has}
use Rattle.cqlp_note.specs.Field.{FieldValue}
use Rattle.cqlp_kind.specs.declared.kind.Kind.{Kind}
use Rattle.cqlp_kind.specs.declared.kind.Kind.TheVariants as kind
use Rattle.cqlp_kind.specs.declared.node.Node.{Node}
use Rattle.cqlp_kind.specs.Types.{Types, NoMore, Type_and, how_many, types_of, other_types}
use Rattle.cqlp_cell.specs.declared.progress.NextInCell.{NextInCell}
use Rattle.cqlp_cell.specs.declared.progress.NextInCell.TheVariants as next
use Rattle.cqlp_kind.specs.CellStep.{CellSymbol, Value_of, values_of}
use Rattle.cqlp_type.specs.Forests.{Forest}
use Rattle.cqlp_type.specs.Table.{Table, beginnings}
use Rattle.cqlp_type.proofs.WholeTables.{whole_roots, forest_whole}
use Rattle.cqlp_cell.specs.Progress.{CellState, place, cell_symbols, CellConforms}
use Rattle.cqlp_type.proofs.Columns.{Column, forest_first, forest_end}
use Rattle.cqlp_grammar.specs.declared.grammar.Role.{Role}
use Rattle.cqlp_grammar.specs.declared.grammar.Role.TheVariants as role
use Rattle.cqlp_grammar.specs.Productions.{Symbol, rows_from, raw_types, number_in}
use Rattle.cqlp_grammar.proofs.Stack.{rows_none}
use Rattle.cqlp_decode.specs.declared.page.Columns.{Columns}
use Rattle.cqlp_decode.specs.declared.page.Columns.TheVariants as columns
use Rattle.cqlp_decode.specs.declared.page.CellCursor.{CellCursor}
use Rattle.cqlp_decode.specs.declared.given.GivenUse.{GivenUse}
use Rattle.cqlp_decode.specs.declared.given.GivenUse.TheVariants as uses
use Rattle.cqlp_decode.specs.Pages.{column_types, types_from, node_by, cell_symbol, cells_from, page_symbols, given_of, use_after, page_nodes, IsColumn, IsPage, NextColumn, Turns, Begins, Follows, AreColumns, HoldsForest}
use Rattle.cqlp_decode.specs.Reading.{Nothing, Waiting, InUse, Used, serves, serves_after, given_after, given_types}
use Rattle.cqlp_decode.specs.Progress.{ends_due, HoldsGiven}

-- The column of a cell: its type is the first of those left, and is in the table.
pub record FirstColumn (nodes : List Node) (depth : ℕ) (c : Columns) (column index : ℕ) : Type 0 where
  pub first : Kind
  pub inner : Types
  pub others : Types
  pub is : types_from nodes c column index ≡ Type_and first inner others
  pub conforms : (l : Rules) → l.depth ≡ depth → CellConforms nodes l (node_by c index)
  pub symbols : (stop : ℕ) → cell_symbols nodes (node_by c index) stop ≡ Value_of first inner 0 stop ∷ []

pub raw_left : (n column : ℕ) → column < n → raw_types (n - column) ≡ Type_and kind.Raw NoMore (raw_types (n - (column + 1)))
raw_left n column lt =
    let e : n - column ≡ suc (n - (column + 1)) = omega arith in
    rw e refl

pub first_column : (nodes : List Node) (depth : ℕ) (c : Columns) (column index : ℕ) → IsColumn nodes depth c column index → FirstColumn nodes depth c column index
first_column nodes depth columns.Typed column index h =
    let f = forest_first nodes index depth h.2 h.0 in
    record {
      first = f.x.kind;
      inner = f.inner;
      others = f.others;
      is = f.is;
      conforms = λ l same. rw same f.conforms;
      symbols = λ stop. ap (λ (ts : Types). values_of ts 0 stop) f.one;
    }
first_column nodes depth columns.Given column index h =
    let f = forest_first nodes index depth h.2 h.0 in
    record {
      first = f.x.kind;
      inner = f.inner;
      others = f.others;
      is = f.is;
      conforms = λ l same. rw same f.conforms;
      symbols = λ stop. ap (λ (ts : Types). values_of ts 0 stop) f.one;
    }
first_column nodes depth (columns.Raw n) column index h = record {
  first = kind.Raw;
  inner = NoMore;
  others = raw_types (n - (column + 1));
  is = raw_left n column h;
  conforms = λ l same. tt;
  symbols = λ stop. refl;
}

-- a cell that has just begun, and those after it
pub page_begun : (nodes : List Node) (depth : ℕ) (d : CellState) (p : CellCursor) (i : Option ℕ) → d.next ≡ next.Cell i → IsColumn nodes depth p.columns p.column p.index → page_symbols nodes d p ≡ cells_from nodes p
page_begun nodes depth d p i here h =
    let f = first_column nodes depth p.columns p.column p.index h in
    rw (here, f.is) refl

cell_due : (n : NextInCell) (row column : ℕ) (k : Kind) (inner : Types) (ss : List CellSymbol) (rest : List Symbol) → ends_due (cell_symbol n row column k inner ss ∷ rest) ≡ 1
cell_due next.Nothing row column k inner ss rest = refl
cell_due (next.Cell i) row column k inner ss rest = refl
cell_due next.Items row column k inner ss rest = refl
cell_due (next.Part offset total) row column k inner ss rest = refl

-- the end of a page's frame is still to come
pub cells_due : (nodes : List Node) (depth : ℕ) (p : CellCursor) (rest : List Symbol) → IsColumn nodes depth p.columns p.column p.index → ends_due (cells_from nodes p ++ rest) ≡ 1
cells_due nodes depth p rest h = let f = first_column nodes depth p.columns p.column p.index h in rw f.is refl

pub page_due : (nodes : List Node) (depth : ℕ) (d : CellState) (p : CellCursor) (rest : List Symbol) → IsColumn nodes depth p.columns p.column p.index → ends_due (page_symbols nodes d p ++ rest) ≡ 1
page_due nodes depth d p rest h =
    let f = first_column nodes depth p.columns p.column p.index h in
    rw f.is (cell_due d.next p.row p.column f.first f.inner (place nodes d).symbols _)

-- ---- from cell to cell

pub types_none : (nodes : List Node) → types_of nodes ≡ NoMore → nodes ≡ []
types_none [] e = refl
types_none (x ∷ xs) e = absurd cc

pub none_types : (nodes : List Node) → nodes ≡ [] → types_of nodes ≡ NoMore
none_types [] e = refl
none_types (x ∷ xs) e = absurd cc

pub first_of_none : (nodes : List Node) (depth : ℕ) (c : Columns) (rows : ℕ) → rows ≡ 0 → Begins nodes depth c rows None
first_of_none nodes depth c rows e = rw e refl

pub first_without : (nodes : List Node) (depth : ℕ) (c : Columns) (rows : ℕ) → column_types nodes c ≡ NoMore → Begins nodes depth c rows None
first_without nodes depth c rows e = rw e (rows_none 0 rows)

some_nodes : (nodes : List Node) → (types_of nodes ≡ NoMore → ⊥) → 0 < length nodes
some_nodes [] some = absurd (some refl)
some_nodes (x ∷ xs) some = omega arith

some_raw : (n : ℕ) → (raw_types n ≡ NoMore → ⊥) → 0 < n
some_raw zero some = absurd (some refl)
some_raw (suc n) some = omega arith

first_there : (nodes : List Node) (depth : ℕ) (c : Columns) → Forest nodes 0 depth → (column_types nodes c ≡ NoMore → ⊥) → (types_from nodes c 0 0 ≡ column_types nodes c) × IsColumn nodes depth c 0 0
first_there nodes depth columns.Typed f some = (refl, (some_nodes nodes some, omega arith, f, f))
first_there nodes depth columns.Given f some = (refl, (some_nodes nodes some, omega arith, f, f))
first_there nodes depth (columns.Raw n) f some = let e : n - 0 ≡ n = omega arith in (ap raw_types e, some_raw n some)

pub first_some : (nodes : List Node) (depth : ℕ) (c : Columns) (rows : ℕ) → Forest nodes 0 depth → (rows ≡ 0 → ⊥) → rows < 2 ^ 32 → (column_types nodes c ≡ NoMore → ⊥) → Begins nodes depth c rows (Some (record { columns = c; row = 0; column = 0; index = 0; left = rows - 1 }))
first_some nodes depth c zero f rows few some = absurd (rows refl)
first_some nodes depth c (suc n) f rows few some =
    let h = first_there nodes depth c f some in
    let e : suc n - 1 ≡ n = omega arith in
    (rw (e, h.0) refl, (h.1, omega (arith, few)), refl)

-- the column after one of a known type
module _ (nodes : List Node) (depth index column : ℕ) (h : IsColumn nodes depth columns.Typed column index) where
  abbrev pub column_there : Column nodes index depth
  column_there = forest_first nodes index depth h.2 h.0

  pub others_are : other_types 1 (types_of (drop index nodes)) ≡ types_of (drop (index + column_there.x.span) nodes)
  others_are = rw column_there.is (sym column_there.next)

  pub next_typed : (i : ℕ) → i ≡ index + column_there.x.span → i < length nodes → (other_types 1 (types_of (drop index nodes)) ≡ types_of (drop i nodes)) × IsColumn nodes depth columns.Typed (column + 1) i
  next_typed i is lt = (rw is others_are, (lt, omega (arith, is, column_there.some, h.1), rw is column_there.left, h.3))

  pub last_typed : length nodes ≤ index + column_there.x.span → other_types 1 (types_of (drop index nodes)) ≡ NoMore
  last_typed le =
      let e : index + column_there.x.span ≡ length nodes = omega (arith, le, column_there.within) in
      others_are ∙ rw e (forest_end nodes)

pub others_raw : (n column : ℕ) → column < n → other_types 1 (raw_types (n - column)) ≡ raw_types (n - (column + 1))
others_raw n column lt = rw (raw_left n column lt) refl

pub last_raw : (n column : ℕ) → column < n → n ≤ column + 1 → other_types 1 (raw_types (n - column)) ≡ NoMore
last_raw n column lt le =
    let e : n - (column + 1) ≡ 0 = omega arith in
    others_raw n column lt ∙ rw e refl

-- the first column of the next row
next_row : (nodes : List Node) (depth : ℕ) (c : Columns) (column index : ℕ) → IsColumn nodes depth c column index → (types_from nodes c 0 0 ≡ column_types nodes c) × IsColumn nodes depth c 0 0
next_row nodes depth columns.Typed column index h = (refl, (omega (arith, h.0), omega arith, h.3, h.3))
next_row nodes depth columns.Given column index h = (refl, (omega (arith, h.0), omega arith, h.3, h.3))
next_row nodes depth (columns.Raw n) column index h = let e : n - 0 ≡ n = omega arith in (ap raw_types e, omega (arith, h))

module _ (nodes : List Node) (depth : ℕ) (p : CellCursor) (h : IsPage nodes depth p) where
  pub turns_column : (i : ℕ) → NextColumn nodes depth p (Some i) → Turns nodes depth p (Some (record p { column = p.column + 1; index = i }))
  turns_column i n = (rw n.0 refl, (n.1, h.1), refl)

  pub turns_row : NextColumn nodes depth p None → (p.left ≡ 0 → ⊥) → Turns nodes depth p (Some (record p { row = p.row + 1; column = 0; index = 0; left = p.left - 1 }))
  turns_row n some =
      let first = next_row nodes depth p.columns p.column p.index h.0 in
      let e : p.left ≡ suc (p.left - 1) = omega (arith, λ (z : p.left ≡ 0). some z) in
      (rw (n, first.0) (ap (λ (k : ℕ). rows_from (p.row + 1) (column_types nodes p.columns) k) e), (first.1, omega (arith, h.1, e)), refl)

  pub turns_over : NextColumn nodes depth p None → p.left ≡ 0 → Turns nodes depth p None
  turns_over n none = rw (n, none) refl

-- ---- the page after a field

-- the types of a table that was given and serves a page
served_types : (flags n : ℕ) (nodes : List Node) (u : GivenUse) (g : Option Table) → true ≡ serves flags n (given_of u g) → given_types (given_of u g) ≡ types_of (page_nodes columns.Given nodes g)
served_types flags n nodes u None is = absurd cc
served_types flags n nodes uses.Waiting (Some t) is = refl
served_types flags n nodes uses.InUse (Some t) is = refl
served_types flags n nodes uses.Used (Some t) is = refl

pub columns_given : (flags n : ℕ) → AreColumns true flags n true columns.Given
columns_given flags n nodes g u is = (rw (← is) (served_types flags n nodes u g is), λ _. refl)

pub columns_typed : (flags n : ℕ) → has flags 0x04 ≡ false → AreColumns true flags n false columns.Typed
columns_typed flags n some nodes g u is = (rw (← is, some) refl, λ e. absurd cc)

pub columns_raw : (flags n : ℕ) → has flags 0x04 ≡ true → AreColumns true flags n false (columns.Raw n)
columns_raw flags n none nodes g u is = (rw (← is, none) refl, λ e. absurd cc)

pub columns_off : (flags n : ℕ) (served : Bool) → AreColumns false flags n served (columns.Raw n)
columns_off flags n served nodes g u is = (refl, λ e. absurd cc)

-- whether a table that waits serves, by how many types begin in it
pub serves_found : (depth flags columns : ℕ) (t : Table) (b : Bool) → Forest t.nodes 0 depth → (IsTrue b ↔ (length (beginnings 0 0 t.nodes) ≡ columns)) → has flags 0x04 ≡ true → b ≡ serves flags columns (Waiting (types_of t.nodes))
serves_found depth flags columns t b f found some =
    let same : length (beginnings 0 0 t.nodes) ≡ how_many (types_of t.nodes) = whole_roots t.nodes (forest_whole t.nodes depth f).0 in
    rw (some, ← same) (elim (cases_Bool b) [
      | inl is ↦ is ∙ sym (eq-eqb (length (beginnings 0 0 t.nodes)) columns (found.0 is))
      | inr is ↦ is ∙ sym (ne_eqb (length (beginnings 0 0 t.nodes)) columns (λ e. let shut : ◌≡◌ {A = Bool} false true = sym is ∙ found.1 e in cc))
    ])

-- what follows a field but the number of a page's rows is no page
module _ (nodes : List Node) (g : Option Table) (u : GivenUse) (depth : ℕ) (types : Bool) where
  module _ (flags columns rows : ℕ) (v : FieldValue) (served : Bool) (many : number_in v ≡ rows) (is : served ≡ serves flags columns (given_of u g)) where
    page_some : (p : CellCursor) → AreColumns types flags columns served p.columns → rows_from 0 (column_types (page_nodes p.columns nodes g) p.columns) rows ≡ cells_from (page_nodes p.columns nodes g) p → IsPage (page_nodes p.columns nodes g) depth p
        → Follows nodes g u depth types (role.PageRows flags columns) v (Some p)
    page_some p are cells page = let a = are nodes g u is in (rw (a.0, many) cells, page, λ e. sym is ∙ a.1 e)

    pub page_there : (c : Columns) (o : Option CellCursor) → AreColumns types flags columns served c → Begins (page_nodes c nodes g) depth c rows o → Follows nodes g u depth types (role.PageRows flags columns) v o
    page_there c None are h = let a = are nodes g u is in rw (a.0, many) (h ∙ sym (rows_none 0 rows))
    page_there c (Some p) are h =
        let cells = subst (λ (z : Columns). rows_from 0 (column_types (page_nodes z nodes g) z) rows ≡ cells_from (page_nodes z nodes g) p) (sym h.2) h.0 in
        let page = subst (λ (z : Columns). IsPage (page_nodes z nodes g) depth p) (sym h.2) h.1 in
        page_some p (subst (λ (z : Columns). AreColumns types flags columns served z) (sym h.2) are) cells page

  pub no_page : (r : Role) (v : FieldValue) → ((flags columns : ℕ) → r ≡ role.PageRows flags columns → ⊥) → Follows nodes g u depth types r v None
  no_page (role.PageRows flags columns) v other = absurd (other flags columns refl)
  no_page r v other = refl

-- what is given serves a page only while it waits
none_serves : (r : Role) → serves_after r Nothing ≡ false
none_serves (role.PageRows flags columns) = refl
none_serves r = refl

in_use_serves : (r : Role) (ts : Types) → serves_after r (InUse ts) ≡ false
in_use_serves (role.PageRows flags columns) ts = refl
in_use_serves r ts = refl

used_serves : (r : Role) (ts : Types) → serves_after r (Used ts) ≡ false
used_serves (role.PageRows flags columns) ts = refl
used_serves r ts = refl

-- what is given, where a page begins that it types or not
pub use_given : (served : Bool) (u : GivenUse) (g : Option Table) (r : Role) → served ≡ serves_after r (given_of u g) → given_of (use_after served u) g ≡ given_after r (given_of u g)
use_given false u g r is = rw (← is) refl
use_given true u None r is = absurd (let no = is ∙ none_serves r in cc)
use_given true uses.Waiting (Some t) r is = rw (← is) refl
use_given true uses.InUse (Some t) r is = absurd (let no = is ∙ in_use_serves r (types_of t.nodes) in cc)
use_given true uses.Used (Some t) r is = absurd (let no = is ∙ used_serves r (types_of t.nodes) in cc)

-- the given table is whole types
pub given_forest : (l : Asked) (g : Option Table) → HoldsGiven l g → HoldsForest l.depth g
given_forest l None h = tt
given_forest l (Some t) h = h.0

-- ---- tables that are not those of a page

pub page_table_forest : (c : Columns) (nodes : List Node) (g : Option Table) (depth : ℕ) → Forest nodes 0 depth → HoldsForest depth g → Forest (page_nodes c nodes g) 0 depth
page_table_forest columns.Typed nodes g depth f h = f
page_table_forest columns.Given nodes None depth f h = f
page_table_forest columns.Given nodes (Some t) depth f h = h
page_table_forest (columns.Raw n) nodes g depth f h = f
