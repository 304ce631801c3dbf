-- Pages whose cells come one by one: what fits, the bytes and the sizes.
use Rattle.std.proofs.Common.{◌≡◌, ℕ, zero, suc, ◌+◌, ◌*◌, ◌<◌, ◌≤◌, Bool, true, false, ◌&&◌, List, [], ◌∷◌, ◌++◌, length, take, drop, refl, sym, ap, ◌∙◌, arith}
use Rattle.std.specs.List.{list_all}
use Rattle.std.proofs.Math.Nat.{suc-mul}
use Rattle.std.proofs.lemmas.Grind.{flat_map-append}
use Rattle.std.proofs.lemmas.List.{append-nil, nil_from_length, drop_all, drop-append-le, length-append, take-append-drop, length-drop}
use Rattle.std.proofs.lemmas.List.Folds.{list_all-append}
use Rattle.cqlp_kind.specs.Types.{Types, NoMore, Type_and, how_many}
use Rattle.cqlp_value.specs.Values.{Values, value_fits, values_size, values_bytes}
use Rattle.cqlp_message.specs.Parts.{Part, parts_size, parts_bytes, counts_fit, texts_fit, cell_fits}
use Rattle.cqlp_message.specs.Bodies.{row_parts, rows_parts}
use Rattle.cqlp_message.specs.Pages.{fits_column, cells_bytes, cells_size}
use Rattle.cqlp_message.proofs.Bounds.{parts_append}
use Rattle.cqlp_message.proofs.PageWalks.{row_none, rows_cut}
use Rattle.cqlp_message.proofs.Tallies.{and_true}

-- ---- one cell more

pub cells_bytes_more : (cells : List Values) (v : Values) → cells_bytes (cells ++ v ∷ []) ≡ cells_bytes cells ++ values_bytes v
cells_bytes_more cells v = flat_map-append values_bytes cells (v ∷ []) ∙ ap (λ (b : List ℕ). cells_bytes cells ++ b) (append-nil (values_bytes v))

pub cells_size_append : (cells others : List Values) → cells_size (cells ++ others) ≡ cells_size cells + cells_size others
cells_size_append [] others = omega arith
cells_size_append (v ∷ cells) others = omega (arith, cells_size_append cells others)

pub cells_size_more : (cells : List Values) (v : Values) → cells_size (cells ++ v ∷ []) ≡ cells_size cells + values_size v
cells_size_more cells v = omega (arith, cells_size_append cells (v ∷ []))

-- ---- a row

pub and_assoc : (a b c : Bool) → ((a && b) && c) ≡ (a && (b && c))
and_assoc true b c = refl
and_assoc false b c = refl

row_more : (r c : ℕ) (ts : Types) (cells : List Values) (v : Values) → length cells < how_many ts → list_all cell_fits (row_parts r c ts (cells ++ v ∷ [])) ≡ (list_all cell_fits (row_parts r c ts cells) && fits_column ts (length cells) v)
row_more r c NoMore cells v lt = absurd (omega arith)
row_more r c (Type_and k inner others) [] v lt = rw (row_none r (c + 1) others) (and_true _)
row_more r c (Type_and k inner others) (w ∷ cells) v lt = rw (row_more r (c + 1) others cells v (omega arith)) (sym (and_assoc (value_fits k inner w) (list_all cell_fits (row_parts r (c + 1) others cells)) (fits_column others (length cells) v)))

-- a row that is full takes no more
row_full : (r c : ℕ) (ts : Types) (cells more : List Values) → how_many ts ≤ length cells → row_parts r c ts (cells ++ more) ≡ row_parts r c ts cells
row_full r c NoMore cells more le = refl
row_full r c (Type_and k inner others) [] more le = absurd (omega arith)
row_full r c (Type_and k inner others) (w ∷ cells) more le = rw (row_full r (c + 1) others cells more (omega arith)) refl

row_bytes : (r c : ℕ) (ts : Types) (cells : List Values) → parts_bytes (row_parts r c ts cells) ≡ cells_bytes (take (how_many ts) cells)
row_bytes r c NoMore cells = refl
row_bytes r c (Type_and k inner others) [] = refl
row_bytes r c (Type_and k inner others) (v ∷ cells) = rw (row_bytes r (c + 1) others cells) refl

row_size : (r c : ℕ) (ts : Types) (cells : List Values) → parts_size (row_parts r c ts cells) ≡ cells_size (take (how_many ts) cells)
row_size r c NoMore cells = refl
row_size r c (Type_and k inner others) [] = refl
row_size r c (Type_and k inner others) (v ∷ cells) = rw (row_size r (c + 1) others cells) refl

row_counts : (r c : ℕ) (ts : Types) (cells : List Values) → list_all counts_fit (row_parts r c ts cells) ≡ true
row_counts r c NoMore cells = refl
row_counts r c (Type_and k inner others) [] = refl
row_counts r c (Type_and k inner others) (v ∷ cells) = row_counts r (c + 1) others cells

row_texts : (r c : ℕ) (ts : Types) (cells : List Values) → list_all texts_fit (row_parts r c ts cells) ≡ true
row_texts r c NoMore cells = refl
row_texts r c (Type_and k inner others) [] = refl
row_texts r c (Type_and k inner others) (v ∷ cells) = row_texts r (c + 1) others cells

-- ---- rows

pub all_append : (test : Part → Bool) (ps qs : List Part) → list_all test ps ≡ true → list_all test qs ≡ true → list_all test (ps ++ qs) ≡ true
all_append test ps qs e f = list_all-append test ps qs ∙ rw (e, f) refl

pub rows_counts : (r : ℕ) (ts : Types) (n : ℕ) (cells : List Values) → list_all counts_fit (rows_parts r ts n cells) ≡ true
rows_counts r ts zero cells = refl
rows_counts r ts (suc n) cells = all_append counts_fit (row_parts r 0 ts cells) _ (row_counts r 0 ts cells) (rows_counts (r + 1) ts n (drop (how_many ts) cells))

pub rows_texts : (r : ℕ) (ts : Types) (n : ℕ) (cells : List Values) → list_all texts_fit (rows_parts r ts n cells) ≡ true
rows_texts r ts zero cells = refl
rows_texts r ts (suc n) cells = all_append texts_fit (row_parts r 0 ts cells) _ (row_texts r 0 ts cells) (rows_texts (r + 1) ts n (drop (how_many ts) cells))

rest_few : (ts : Types) (n : ℕ) (cells : List Values) → length cells ≤ suc n * how_many ts → length (drop (how_many ts) cells) ≤ n * how_many ts
rest_few ts n cells le =
    let e : suc n * how_many ts ≡ n * how_many ts + how_many ts = suc-mul n (how_many ts) in
    omega (arith, length-drop (how_many ts) cells)

pub rows_bytes : (r : ℕ) (ts : Types) (n : ℕ) (cells : List Values) → length cells ≤ n * how_many ts → parts_bytes (rows_parts r ts n cells) ≡ cells_bytes cells
rows_bytes r ts zero cells le = rw (nil_from_length cells (omega arith)) refl
rows_bytes r ts (suc n) cells le =
    let c : ℕ = how_many ts in
    let first : List Part = row_parts r 0 ts cells in
    let rest : List Part = rows_parts (r + 1) ts n (drop c cells) in
    let a : parts_bytes (first ++ rest) ≡ parts_bytes first ++ parts_bytes rest = flat_map-append _ first rest in
    let b : cells_bytes (take c cells ++ drop c cells) ≡ cells_bytes (take c cells) ++ cells_bytes (drop c cells) = flat_map-append values_bytes (take c cells) (drop c cells) in
    let i : parts_bytes rest ≡ cells_bytes (drop c cells) = rows_bytes (r + 1) ts n (drop c cells) (rest_few ts n cells le) in
    a ∙ (λ j. row_bytes r 0 ts cells j ++ i j) ∙ sym b ∙ ap cells_bytes (take-append-drop c cells)

pub rows_size : (r : ℕ) (ts : Types) (n : ℕ) (cells : List Values) → length cells ≤ n * how_many ts → parts_size (rows_parts r ts n cells) ≡ cells_size cells
rows_size r ts zero cells le = rw (nil_from_length cells (omega arith)) refl
rows_size r ts (suc n) cells le =
    let c : ℕ = how_many ts in
    let first : List Part = row_parts r 0 ts cells in
    let rest : List Part = rows_parts (r + 1) ts n (drop c cells) in
    let a : parts_size (first ++ rest) ≡ parts_size first + parts_size rest = parts_append first rest in
    let b : cells_size (take c cells ++ drop c cells) ≡ cells_size (take c cells) + cells_size (drop c cells) = cells_size_append (take c cells) (drop c cells) in
    let i : parts_size rest ≡ cells_size (drop c cells) = rows_size (r + 1) ts n (drop c cells) (rest_few ts n cells le) in
    a ∙ (λ j. row_size r 0 ts cells j + i j) ∙ sym b ∙ ap cells_size (take-append-drop c cells)

-- one cell more is in its row and column
pub rows_fit_more : (r : ℕ) (ts : Types) (rows : ℕ) (cells : List Values) (v : Values) (row column : ℕ) → length cells ≡ row * how_many ts + column → column < how_many ts → row < rows
    → list_all cell_fits (rows_parts r ts rows (cells ++ v ∷ [])) ≡ (list_all cell_fits (rows_parts r ts rows cells) && fits_column ts column v)
rows_fit_more r ts zero cells v row column is lt in_rows = absurd (omega arith)
rows_fit_more r ts (suc n) cells v zero column is lt in_rows =
    let c : ℕ = how_many ts in
    let at : length cells ≡ column = omega arith in
    let none : drop c cells ≡ [] = drop_all c cells (omega arith) in
    let still : drop c (cells ++ v ∷ []) ≡ [] = drop_all c (cells ++ v ∷ []) (omega (arith, length-append cells (v ∷ []))) in
    let more : list_all cell_fits (row_parts r 0 ts (cells ++ v ∷ [])) ≡ (list_all cell_fits (row_parts r 0 ts cells) && fits_column ts column v) = rw (← at) (row_more r 0 ts cells v (omega arith)) in
    rw (none, still, rows_cut (r + 1) ts n, append-nil (row_parts r 0 ts cells), append-nil (row_parts r 0 ts (cells ++ v ∷ []))) more
rows_fit_more r ts (suc n) cells v (suc row) column is lt in_rows =
    let c : ℕ = how_many ts in
    let e : suc row * c ≡ row * c + c = suc-mul row c in
    let full : row_parts r 0 ts (cells ++ v ∷ []) ≡ row_parts r 0 ts cells = row_full r 0 ts cells (v ∷ []) (omega arith) in
    let further : drop c (cells ++ v ∷ []) ≡ drop c cells ++ v ∷ [] = drop-append-le c cells (v ∷ []) (omega arith) in
    let first : List Part = row_parts r 0 ts cells in
    let rest : List Part = rows_parts (r + 1) ts n (drop c cells) in
    let i = rows_fit_more (r + 1) ts n (drop c cells) v row column (omega (arith, length-drop c cells)) lt (omega arith) in
    rw (full, further) (list_all-append cell_fits first _ ∙ ap (λ b. list_all cell_fits first && b) i ∙ sym (and_assoc (list_all cell_fits first) (list_all cell_fits rest) (fits_column ts column v)) ∙ ap (λ b. b && fits_column ts column v) (sym (list_all-append cell_fits first rest)))
