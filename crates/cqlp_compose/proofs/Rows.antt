-- The cells of a page, one cell more.
use Rattle.std.proofs.Common.{◌≡◌, ℕ, zero, suc, ◌+◌, ◌*◌, ◌<◌, ◌≤◌, List, [], ◌∷◌, ◌++◌, length, drop, refl, sym, ap, ◌∙◌, append_assoc, arith}
use Rattle.std.proofs.Math.Nat.{suc-mul}
use Rattle.std.proofs.lemmas.List.{append-nil, drop_all, drop-append-le, length-append, length-drop}
use Rattle.cqlp_kind.specs.declared.kind.Kind.{Kind}
use Rattle.cqlp_kind.specs.Types.{Types, NoMore, Type_and, how_many}
use Rattle.cqlp_value.specs.Values.{Values, value_fits}
use Rattle.cqlp_message.specs.Bodies.{row_parts, rows_parts}
use Rattle.cqlp_message.specs.Pages.{fits_column}
use Rattle.cqlp_message.specs.Parts.{Part, Cell_is}
use Rattle.cqlp_message.proofs.PageWalks.{row_none, rows_cut}
use Rattle.cqlp_build.specs.Productions.{column_type}

row_more : (r c : ℕ) (ts : Types) (cells : List Values) (v : Values) (k : Kind) (inner : Types) → length cells < how_many ts → column_type (length cells) ts ≡ Type_and k inner NoMore
    → row_parts r c ts (cells ++ v ∷ []) ≡ row_parts r c ts cells ++ Cell_is r (c + length cells) k inner v ∷ []
row_more r c NoMore cells v k inner lt is = absurd (omega (arith, lt))
row_more r c (Type_and j other ts) [] v k inner lt is =
    let same : c ≡ c + 0 = omega arith in
    let kinds : Type_and j other NoMore ≡ Type_and k inner NoMore = is in
    let one : j ≡ k = cc in
    let two : other ≡ inner = cc in
    ap (λ (ps : List Part). Cell_is r c j other v ∷ ps) (row_none r (c + 1) ts) ∙ (λ i. Cell_is r (same i) (one i) (two i) v ∷ [])
row_more r c (Type_and j other ts) (w ∷ cells) v k inner lt is =
    let same : c + 1 + length cells ≡ c + suc (length cells) = omega arith in
    ap (λ (ps : List Part). Cell_is r c j other w ∷ ps) (row_more r (c + 1) ts cells v k inner (omega (arith, lt)) is ∙ ap (λ (n : ℕ). row_parts r (c + 1) ts cells ++ Cell_is r n k inner v ∷ []) same)

-- a row that is full takes no more
row_full : (r c : ℕ) (ts : Types) (cells more : List Values) → how_many ts ≤ length cells → row_parts r c ts (cells ++ more) ≡ row_parts r c ts cells
row_full r c NoMore cells more le = refl
row_full r c (Type_and k inner others) [] more le = absurd (omega arith)
row_full r c (Type_and k inner others) (w ∷ cells) more le = rw (row_full r (c + 1) others cells more (omega arith)) refl

-- one cell more is in its row and column
pub rows_more : (r : ℕ) (ts : Types) (rows : ℕ) (cells : List Values) (v : Values) (row column : ℕ) (k : Kind) (inner : Types) → length cells ≡ row * how_many ts + column → column < how_many ts → row < rows
    → column_type column ts ≡ Type_and k inner NoMore → rows_parts r ts rows (cells ++ v ∷ []) ≡ rows_parts r ts rows cells ++ Cell_is (r + row) column k inner v ∷ []
rows_more r ts zero cells v row column k inner is lt in_rows type = absurd (omega arith)
rows_more r ts (suc n) cells v zero column k inner is lt in_rows type =
    let c : ℕ = how_many ts in
    let at : length cells ≡ column = omega arith in
    let none : drop c cells ≡ [] = drop_all c cells (omega arith) in
    let still : drop c (cells ++ v ∷ []) ≡ [] = drop_all c (cells ++ v ∷ []) (omega (arith, length-append cells (v ∷ []))) in
    let here : column_type (length cells) ts ≡ Type_and k inner NoMore = ap (λ (i : ℕ). column_type i ts) at ∙ type in
    let more = row_more r 0 ts cells v k inner (omega arith) here in
    let place : 0 + length cells ≡ column = omega (arith, at) in
    let first : r ≡ r + 0 = omega arith in
    rw (none, still, rows_cut (r + 1) ts n, append-nil (row_parts r 0 ts cells), append-nil (row_parts r 0 ts (cells ++ v ∷ [])))
    (more ∙ (λ i. row_parts r 0 ts cells ++ Cell_is (first i) (place i) k inner v ∷ []))
rows_more r ts (suc n) cells v (suc row) column k inner is lt in_rows type =
    let c : ℕ = how_many ts in
    let e : suc row * c ≡ row * c + c = suc-mul row c in
    let full : row_parts r 0 ts (cells ++ v ∷ []) ≡ row_parts r 0 ts cells = row_full r 0 ts cells (v ∷ []) (omega arith) in
    let further : drop c (cells ++ v ∷ []) ≡ drop c cells ++ v ∷ [] = drop-append-le c cells (v ∷ []) (omega arith) in
    let first : List Part = row_parts r 0 ts cells in
    let rest : List Part = rows_parts (r + 1) ts n (drop c cells) in
    let i = rows_more (r + 1) ts n (drop c cells) v row column k inner (omega (arith, length-drop c cells)) lt (omega arith) type in
    let same : r + 1 + row ≡ r + suc row = omega arith in
    rw (full, further) (ap (λ (ps : List Part). first ++ ps) (i ∙ ap (λ (m : ℕ). rest ++ Cell_is m column k inner v ∷ []) same) ∙ sym (append_assoc first rest (Cell_is (r + suc row) column k inner v ∷ [])))

-- a value fits the column where it is one of its type
pub column_fits : (ts : Types) (i : ℕ) (k : Kind) (inner : Types) (v : Values) → column_type i ts ≡ Type_and k inner NoMore → fits_column ts i v ≡ value_fits k inner v
column_fits NoMore i k inner v is = absurd cc
column_fits (Type_and j other ts) zero k inner v is =
    let one : j ≡ k = cc in
    let two : other ≡ inner = cc in
    (λ i. value_fits (one i) (two i) v)
column_fits (Type_and j other ts) (suc i) k inner v is = column_fits ts i k inner v is
