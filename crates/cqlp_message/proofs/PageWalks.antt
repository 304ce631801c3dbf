-- The cells of rows, one after the other.
use Rattle.std.proofs.Common.{◌≡◌, ℕ, zero, suc, ◌+◌, ◌-◌, ◌<◌, ◌≤◌, ◌++◌, List, [], ◌∷◌, length, get_or, map, drop, sym, ap, ◌∙◌, refl, arith}
use Rattle.std.proofs.lemmas.List.{drop_more, drop_all, drop-map}
use Rattle.std.proofs.Math.Nat.{sub-zero}
use Rattle.cqlp_kind.specs.declared.kind.Kind.TheVariants as kind
use Rattle.cqlp_kind.specs.Types.{Types, NoMore, Type_and, how_many}
use Rattle.cqlp_type.specs.Trees.{kind_in, types_in}
use Rattle.cqlp_type.specs.TypeTrees.{head_of, inner_of}
use Rattle.cqlp_value.specs.Values.{Values}
use Rattle.cqlp_value.specs.declared.value.Value.{Value}
use Rattle.cqlp_value.specs.Owned.{value_of}
use Rattle.cqlp_message.specs.declared.response.Spec.{Spec}
use Rattle.cqlp_message.specs.Owned.{spec_of}
use Rattle.cqlp_grammar.specs.Productions.{raw_types}
use Rattle.cqlp_message.specs.Parts.{Part, Cell_is}
use Rattle.cqlp_message.specs.Bodies.{column_types, row_parts, rows_parts}

pub row_none : (row column : ℕ) (ts : Types) → row_parts row column ts [] ≡ []
row_none row column NoMore = refl
row_none row column (Type_and k inner others) = refl

-- the cells of a row from this column on, which are of these types
abbrev pub typed_rest : (row i : ℕ) → List Spec → List Value → List Part
typed_rest row i specs cells = row_parts row i (column_types (map spec_of specs)) (map value_of (drop i cells))

abbrev pub raw_rest : (row i columns : ℕ) → List Value → List Part
raw_rest row i columns cells = row_parts row i (raw_types (columns - i)) (map value_of (drop i cells))

next : {X : Type 0} (xs : List X) (i : ℕ) (x : X) → x ≡ get_or xs i x → i < length xs → drop i xs ≡ x ∷ drop (i + 1) xs
next xs i x e l = drop_more xs i x l ∙ ap (λ (y : _). y ∷ drop (i + 1) xs) (sym e)

pub typed_more : (row i : ℕ) (specs others : List Spec) (cells : List Value) (s : Spec) (v : Value) → specs ≡ s ∷ others → v ≡ get_or cells i v → i < length cells → typed_rest row i specs cells ≡ Cell_is row i (kind_in (head_of s.tree)) (types_in (inner_of s.tree)) (value_of v) ∷ [] ++ typed_rest row (i + 1) others cells
typed_more row i specs others cells s v e f m = rw (e, next cells i v f m) refl

pub typed_all : (row i : ℕ) (specs : List Spec) (cells : List Value) → length specs ≡ 0 → typed_rest row i specs cells ≡ []
typed_all row i [] cells e = refl
typed_all row i (s ∷ specs) cells e = absurd (omega arith)

pub typed_cut : (row i : ℕ) (specs : List Spec) (cells : List Value) → length cells ≤ i → typed_rest row i specs cells ≡ []
typed_cut row i specs cells l = rw (drop_all i cells l) (row_none row i _)

pub raw_more : (row i columns : ℕ) (cells : List Value) (v : Value) → v ≡ get_or cells i v → i < columns → i < length cells → raw_rest row i columns cells ≡ Cell_is row i kind.Raw NoMore (value_of v) ∷ [] ++ raw_rest row (i + 1) columns cells
raw_more row i columns cells v f l m =
    let e : columns - i ≡ suc (columns - (i + 1)) = omega arith in
    rw (e, next cells i v f m) refl

pub raw_all : (row i columns : ℕ) (cells : List Value) → columns ≤ i → raw_rest row i columns cells ≡ []
raw_all row i columns cells l = let e : columns - i ≡ 0 = omega arith in rw e refl

pub raw_cut : (row i columns : ℕ) (cells : List Value) → length cells ≤ i → raw_rest row i columns cells ≡ []
raw_cut row i columns cells l = rw (drop_all i cells l) (row_none row i _)

pub raw_start : (row columns : ℕ) (cells : List Value) → raw_rest row 0 columns cells ≡ row_parts row 0 (raw_types columns) (map value_of cells)
raw_start row columns cells = rw sub-zero refl

-- ---- rows

-- the cells of the rows from this one on
abbrev pub rows_rest : (row rows : ℕ) → Types → List Value → List Part
rows_rest row rows ts rest = rows_parts row ts (rows - row) (map value_of rest)

pub rows_start : (rows : ℕ) (ts : Types) (cells : List Value) → rows_rest 0 rows ts cells ≡ rows_parts 0 ts rows (map value_of cells)
rows_start rows ts cells = rw sub-zero refl

pub rows_more : (row rows : ℕ) (ts : Types) (rest : List Value) → row < rows → rows_rest row rows ts rest ≡ row_parts row 0 ts (map value_of rest) ++ rows_rest (row + 1) rows ts (drop (how_many ts) rest)
rows_more row rows ts rest l =
    let e : rows - row ≡ suc (rows - (row + 1)) = omega arith in
    rw (e, drop-map) refl

pub rows_all : (row rows : ℕ) (ts : Types) (rest : List Value) → rows ≤ row → rows_rest row rows ts rest ≡ []
rows_all row rows ts rest l = let e : rows - row ≡ 0 = omega arith in rw e refl

pub rows_cut : (row : ℕ) (ts : Types) (n : ℕ) → rows_parts row ts n [] ≡ []
rows_cut row ts zero = refl
rows_cut row ts (suc n) = rw (row_none row 0 ts, drop_all {X = Values} (how_many ts) [] (omega arith)) (rows_cut (row + 1) ts n)

no_columns : (row n : ℕ) (cells : List Values) → rows_parts row NoMore n cells ≡ []
no_columns row zero cells = refl
no_columns row (suc n) cells = no_columns (row + 1) n cells

none : (ts : Types) → how_many ts ≡ 0 → ts ≡ NoMore
none NoMore e = refl
none (Type_and k inner others) e = absurd (omega arith)

pub rows_no_columns : (row rows : ℕ) (ts : Types) (rest : List Value) → how_many ts ≡ 0 → rows_rest row rows ts rest ≡ []
rows_no_columns row rows ts rest e = rw (none ts e) (no_columns row (rows - row) (map value_of rest))

pub rows_no_cells : (row rows : ℕ) (ts : Types) (rest : List Value) → rest ≡ [] → rows_rest row rows ts rest ≡ []
rows_no_cells row rows ts rest e = rw e (rows_cut row ts (rows - row))

pub how_many-columns : (specs : List Spec) → how_many (column_types (map spec_of specs)) ≡ length specs
how_many-columns [] = refl
how_many-columns (s ∷ specs) = ap suc (how_many-columns specs)

pub how_many-raw : (n : ℕ) → how_many (raw_types n) ≡ n
how_many-raw zero = refl
how_many-raw (suc n) = ap suc (how_many-raw n)
