-- Frames of pages whose cells come after all else: what fits, the bytes and the sizes, and why they are those of whole frames.
use Rattle.std.proofs.Common.{◌≡◌, ℕ, zero, suc, ◌+◌, ◌*◌, ◌/◌, ◌%◌, ◌<◌, ◌≤◌, Bool, true, ◌&&◌, ltb, List, [], ◌∷◌, ◌++◌, length, Option, Some, None, refl, sym, ap, ◌∙◌, append_assoc, arith}
use Rattle.std.specs.Prelude.{pos, not}
use Rattle.std.specs.List.{flat_map, list_all}
use Rattle.std.proofs.lemmas.Bool.{eqb-true, eq-eqb, ltb-false}
use Rattle.std.proofs.lemmas.Grind.{flat_map-append}
use Rattle.std.proofs.lemmas.List.{append-nil, nil_from_length}
use Rattle.std.proofs.lemmas.List.Folds.{list_all-append}
use Rattle.std.proofs.Math.Nat.{mul-zero, mul_comm, mod-lt, div-add-mod, div-lt_iff_lt-mul}
use Rattle.cqlp_note.specs.declared.field.Field.TheVariants as field
use Rattle.cqlp_note.specs.declared.field.Notation.TheVariants as notation
use Rattle.cqlp_note.specs.Field as note
use Rattle.cqlp_note.specs.declared.header.TheConstants.Header.{LONGEST_BODY}
use Rattle.cqlp_note.specs.Heading.{header_bytes}
use Rattle.cqlp_kind.specs.Types.{how_many}
use Rattle.cqlp_value.specs.Values.{Values}
use Rattle.cqlp_message.specs.declared.unfit.Unfit.TheVariants as unfit
use Rattle.cqlp_message.specs.FrameValues.{Octets, TableName, Spec, Metadata, Message, Rows, FrameValue}
use Rattle.cqlp_message.specs.Parts.{Part, Field_is, Type_is, parts_size, part_bytes, parts_bytes, counts_fit, texts_fit, cell_fits}
use Rattle.cqlp_message.specs.Bodies.{int, count, text, bytes, where_some, counted, texts, paging_parts, table_parts, spec_parts, metadata_parts, rows_parts, message_parts}
use Rattle.cqlp_message.specs.Frames.{announced_parts, frame_parts, header_of}
use Rattle.cqlp_message.specs.Agreement.{is_response, opcode_of, message_agrees, is_directed, frame_agrees, has_its_cells}
use Rattle.cqlp_message.specs.Pages.{is_bare, page_unfit_of, filled, with_cells, page_columns, cells_wanted, types_of_page, fits_column, cells_fit, cells_bytes, cells_size, PagesAreFrames}
use Rattle.cqlp_message.proofs.Agreements.{MessageAgrees, of_test}
use Rattle.cqlp_message.proofs.Bounds.{parts_append}
use Rattle.cqlp_message.proofs.FramesWritten.{not_false, none_left, fit_is}
use Rattle.cqlp_message.proofs.Messages.{many_described}
use Rattle.cqlp_message.proofs.PageCells.{and_assoc, all_append, rows_counts, rows_texts, rows_bytes, rows_size, rows_fit_more}
use Rattle.cqlp_message.proofs.PageWalks.{rows_cut}

-- ---- rows and columns

abbrev pub page_rows : Message → ℕ
page_rows (Rows p) = p.rows
page_rows m = 0

pub wanted_is : (m : Message) → cells_wanted m ≡ page_rows m * page_columns m
wanted_is (Rows p) = refl
wanted_is m = refl

types_are : (m : Message) → MessageAgrees m → how_many (types_of_page m) ≡ page_columns m
types_are (Rows p) a = many_described _ p.meta.columns p.meta.table p.meta.specs a.columns
types_are m a = refl

-- there are as many types as columns
pub columns_described : (f : FrameValue) → frame_agrees f ≡ true → how_many (types_of_page f.message) ≡ page_columns f.message
columns_described f e = types_are f.message (of_test f e).message

-- ---- parts

-- the parts of a message that are no cells
abbrev pub head_parts : Message → List Part
head_parts (Rows p) = int field.ResultKind (pos 2) ∷ metadata_parts p.meta ++ count field.Rows p.rows ∷ []
head_parts m = message_parts m

-- the parts of a frame that are no cells
abbrev pub front_parts : FrameValue → List Part
front_parts f = announced_parts f ++ head_parts f.message

-- these cells of a page
abbrev pub cell_parts : Message → List Values → List Part
cell_parts m cells = rows_parts 0 (types_of_page m) (page_rows m) cells

split : (m : Message) (cells : List Values) → message_parts (filled m cells) ≡ head_parts m ++ cell_parts m cells
split (Rows p) cells =
    let rest : List Part = cell_parts (Rows p) cells in
    ap (λ (ps : List Part). int field.ResultKind (pos 2) ∷ ps) (sym (append_assoc (metadata_parts p.meta) (count field.Rows p.rows ∷ []) rest))
split m cells = sym (append-nil (message_parts m))

bare : (m : Message) → is_bare m ≡ true → message_parts m ≡ head_parts m
bare (Rows p) e =
    let none : p.cells ≡ [] = nil_from_length p.cells (eqb-true (length p.cells) 0 e) in
    rw (none, rows_cut 0 (types_of_page (Rows p)) p.rows) refl
bare m e = absurd cc

pub parts_with : (f : FrameValue) (cells : List Values) → frame_parts (with_cells f cells) ≡ front_parts f ++ cell_parts f.message cells
parts_with f cells = ap (λ (ps : List Part). announced_parts f ++ ps) (split f.message cells) ∙ sym (append_assoc (announced_parts f) (head_parts f.message) (cell_parts f.message cells))

pub parts_bare : (f : FrameValue) → is_bare f.message ≡ true → frame_parts f ≡ front_parts f
parts_bare f e = ap (λ (ps : List Part). announced_parts f ++ ps) (bare f.message e)

-- ---- what fits

split_all : (test : Part → Bool) (f : FrameValue) (cells : List Values) → list_all test (frame_parts (with_cells f cells)) ≡ (list_all test (front_parts f) && list_all test (cell_parts f.message cells))
split_all test f cells = ap (list_all test) (parts_with f cells) ∙ list_all-append test (front_parts f) (cell_parts f.message cells)

-- One cell more of a page fits where those before it do, and it is one of its column's type.
pub one_more_fits : (f : FrameValue) (cells : List Values) (v : Values) (row column : ℕ) → frame_agrees f ≡ true → length cells ≡ row * page_columns f.message + column → column < page_columns f.message → row < page_rows f.message
    → cells_fit f (cells ++ v ∷ []) ≡ (cells_fit f cells && fits_column (types_of_page f.message) column v)
one_more_fits f cells v row column agrees is lt in_rows =
    let m : Message = f.message in
    let e : page_columns m ≡ how_many (types_of_page m) = sym (columns_described f agrees) in
    let at : length cells ≡ row * how_many (types_of_page m) + column = is ∙ ap (λ (n : ℕ). row * n + column) e in
    let more = rows_fit_more 0 (types_of_page m) (page_rows m) cells v row column at (omega (arith, e)) in_rows in
    split_all cell_fits f (cells ++ v ∷ []) ∙ ap (λ b. list_all cell_fits (front_parts f) && b) more
    ∙ sym (and_assoc (list_all cell_fits (front_parts f)) (list_all cell_fits (cell_parts m cells)) (fits_column (types_of_page m) column v))
    ∙ ap (λ b. b && fits_column (types_of_page m) column v) (sym (split_all cell_fits f cells))

above : (rows c n : ℕ) → n < rows * c → 0 < c
above rows zero n lt = absurd (omega (arith, mul-zero rows))
above rows (suc c) n lt = omega arith

-- The same of the cell after so many.
pub next_fits : (f : FrameValue) (cells : List Values) (v : Values) → frame_agrees f ≡ true → length cells < cells_wanted f.message
    → cells_fit f (cells ++ v ∷ []) ≡ (cells_fit f cells && fits_column (types_of_page f.message) (length cells % page_columns f.message) v)
next_fits f cells v agrees lt =
    let n : ℕ = length cells in
    let c : ℕ = page_columns f.message in
    let within : n < page_rows f.message * c = omega (arith, wanted_is f.message) in
    let some : 0 < c = above (page_rows f.message) c n within in
    let at : n ≡ n / c * c + n % c = sym (div-add-mod n c) ∙ ap (λ x. x + n % c) (mul_comm c (n / c)) in
    one_more_fits f cells v (n / c) (n % c) agrees at (mod-lt n some) ((div-lt_iff_lt-mul some).1 within)

where_fits : {A : Type 0} (h : A → List Part) (o : Option A) → ((a : A) → list_all cell_fits (h a) ≡ true) → list_all cell_fits (where_some h o) ≡ true
where_fits h None each = refl
where_fits h (Some a) each = each a

each_fits : {A : Type 0} (h : A → List Part) (xs : List A) → ((a : A) → list_all cell_fits (h a) ≡ true) → list_all cell_fits (flat_map h xs) ≡ true
each_fits h [] each = refl
each_fits h (x ∷ xs) each = all_append cell_fits (h x) (flat_map h xs) (each x) (each_fits h xs each)

texts_of : (ts : List Octets) → list_all cell_fits (flat_map (λ t. text field.Warning t ∷ []) ts) ≡ true
texts_of ts = each_fits (λ t. text field.Warning t ∷ []) ts (λ t. refl)

items_of : (is : List (Octets × Option Octets)) → list_all cell_fits (flat_map (λ i. text field.PayloadKey i.0 ∷ bytes field.PayloadValue i.1 ∷ []) is) ≡ true
items_of is = each_fits (λ i. text field.PayloadKey i.0 ∷ bytes field.PayloadValue i.1 ∷ []) is (λ i. refl)

announced_fits : (f : FrameValue) → list_all cell_fits (announced_parts f) ≡ true
announced_fits f =
    let id : List Part = where_some (λ id. Field_is field.TraceId notation.Uuid (note.Uuid id) ∷ []) f.tracing in
    let warnings : List Part = where_some (texts field.Warnings field.Warning) f.warnings in
    let items : List Part = where_some (counted field.PayloadItems (λ i. text field.PayloadKey i.0 ∷ bytes field.PayloadValue i.1 ∷ [])) f.payload in
    all_append cell_fits (id ++ warnings) items
    (all_append cell_fits id warnings (where_fits (λ id. Field_is field.TraceId notation.Uuid (note.Uuid id) ∷ []) f.tracing (λ id. refl)) (where_fits (texts field.Warnings field.Warning) f.warnings texts_of))
    (where_fits (counted field.PayloadItems (λ i. text field.PayloadKey i.0 ∷ bytes field.PayloadValue i.1 ∷ [])) f.payload items_of)

table_fits : (o : Option TableName) → list_all cell_fits (table_parts o) ≡ true
table_fits o = where_fits (λ t. text field.Keyspace t.0 ∷ text field.Table t.1 ∷ []) o (λ t. refl)

spec_fits : (c : Spec) → list_all cell_fits (spec_parts c) ≡ true
spec_fits c = all_append cell_fits (table_parts c.table) (text field.ColumnName c.name ∷ Type_is c.tree ∷ []) (table_fits c.table) refl

metadata_fits : (m : Metadata) → list_all cell_fits (metadata_parts m) ≡ true
metadata_fits m =
    let front : List Part = int field.MetaFlags m.flags ∷ count field.Columns m.columns ∷ paging_parts m.paging in
    let specs : list_all cell_fits (where_some (flat_map spec_parts) m.specs) ≡ true = where_fits (flat_map spec_parts) m.specs (λ cs. each_fits spec_parts cs spec_fits) in
    all_append cell_fits (front ++ table_parts m.table) (where_some (flat_map spec_parts) m.specs)
    (all_append cell_fits front (table_parts m.table) (where_fits (λ state. bytes field.PagingState state ∷ []) m.paging (λ state. refl)) (table_fits m.table))
    specs

head_fits : (m : Message) → is_bare m ≡ true → list_all cell_fits (head_parts m) ≡ true
head_fits (Rows p) e = all_append cell_fits (metadata_parts p.meta) (count field.Rows p.rows ∷ []) (metadata_fits p.meta) refl
head_fits m e = absurd cc

bare_fits : (f : FrameValue) → is_bare f.message ≡ true → list_all cell_fits (front_parts f) ≡ true
bare_fits f e = all_append cell_fits (announced_parts f) (head_parts f.message) (announced_fits f) (head_fits f.message e)

-- ---- what can be begun

pub record IsPage (f : FrameValue) (n : ℕ) : Type 0 where
  pub directed : is_directed f ≡ true
  pub agrees : frame_agrees f ≡ true
  pub counts : list_all counts_fit (frame_parts f) ≡ true
  pub texts : list_all texts_fit (frame_parts f) ≡ true
  pub bare : is_bare f.message ≡ true
  pub short : parts_size (frame_parts f) + n ≤ LONGEST_BODY

pub is_page : (f : FrameValue) (n : ℕ) → page_unfit_of f n ≡ None → IsPage f n
is_page f n e =
    let a = none_left (not (is_directed f)) unfit.Direction _ e in
    let b = none_left (not (frame_agrees f)) unfit.Parts _ a.1 in
    let c = none_left (not (list_all counts_fit (frame_parts f))) unfit.TooManyItems _ b.1 in
    let d = none_left (not (list_all texts_fit (frame_parts f))) unfit.TextTooLong _ c.1 in
    let g = none_left (not (is_bare f.message)) unfit.RowShape _ d.1 in
    let h = none_left (ltb LONGEST_BODY (parts_size (frame_parts f) + n)) unfit.BodyTooLong _ g.1 in
    record {
      directed = not_false _ a.0;
      agrees = not_false _ b.0;
      counts = not_false _ c.0;
      texts = not_false _ d.0;
      bare = not_false _ g.0;
      short = ltb-false LONGEST_BODY (parts_size (frame_parts f) + n) h.0;
    }

-- a page without cells fits
pub no_cells_fit : (f : FrameValue) (n : ℕ) → page_unfit_of f n ≡ None → cells_fit f [] ≡ true
no_cells_fit f n e =
    let none : list_all cell_fits (cell_parts f.message []) ≡ true = ap (list_all cell_fits) (rows_cut 0 (types_of_page f.message) (page_rows f.message)) in
    split_all cell_fits f [] ∙ rw (bare_fits f (is_page f n e).bare, none) refl

-- ---- bytes and sizes

few : (f : FrameValue) (cells : List Values) → frame_agrees f ≡ true → length cells ≤ cells_wanted f.message → length cells ≤ page_rows f.message * how_many (types_of_page f.message)
few f cells agrees le =
    let e : cells_wanted f.message ≡ page_rows f.message * how_many (types_of_page f.message) = wanted_is f.message ∙ ap (λ (n : ℕ). page_rows f.message * n) (sym (columns_described f agrees)) in
    omega (arith, e)

-- The bytes of a page with its first cells are those of the page and then those of the cells.
pub page_bytes : (f : FrameValue) (cells : List Values) → frame_agrees f ≡ true → is_bare f.message ≡ true → length cells ≤ cells_wanted f.message → parts_bytes (frame_parts (with_cells f cells)) ≡ parts_bytes (frame_parts f) ++ cells_bytes cells
page_bytes f cells agrees is le =
    let front : parts_bytes (front_parts f) ≡ parts_bytes (frame_parts f) = ap parts_bytes (sym (parts_bare f is)) in
    let rest : parts_bytes (cell_parts f.message cells) ≡ cells_bytes cells = rows_bytes 0 (types_of_page f.message) (page_rows f.message) cells (few f cells agrees le) in
    ap parts_bytes (parts_with f cells) ∙ flat_map-append part_bytes (front_parts f) (cell_parts f.message cells) ∙ (λ i. front i ++ rest i)

-- And they have as many bytes as both.
pub page_size : (f : FrameValue) (cells : List Values) → frame_agrees f ≡ true → is_bare f.message ≡ true → length cells ≤ cells_wanted f.message → parts_size (frame_parts (with_cells f cells)) ≡ parts_size (frame_parts f) + cells_size cells
page_size f cells agrees is le =
    let front : parts_size (front_parts f) ≡ parts_size (frame_parts f) = ap parts_size (sym (parts_bare f is)) in
    let rest : parts_size (cell_parts f.message cells) ≡ cells_size cells = rows_size 0 (types_of_page f.message) (page_rows f.message) cells (few f cells agrees le) in
    ap parts_size (parts_with f cells) ∙ parts_append (front_parts f) (cell_parts f.message cells) ∙ (λ i. front i + rest i)

-- ---- whole frames

same_response : (m : Message) (cells : List Values) → is_response (filled m cells) ≡ is_response m
same_response (Rows p) cells = refl
same_response m cells = refl

same_opcode : (m : Message) (cells : List Values) → opcode_of (filled m cells) ≡ opcode_of m
same_opcode (Rows p) cells = refl
same_opcode m cells = refl

same_agreement : (m : Message) (cells : List Values) → message_agrees (filled m cells) ≡ message_agrees m
same_agreement (Rows p) cells = refl
same_agreement m cells = refl

has_all : (m : Message) (cells : List Values) → is_bare m ≡ true → length cells ≡ cells_wanted m → has_its_cells (filled m cells) ≡ true
has_all (Rows p) cells is e = eq-eqb (length cells) (p.rows * p.meta.columns) e
has_all m cells is e = absurd cc

-- a frame with these cells has the header of one without them
pub same_header : (f : FrameValue) (cells : List Values) (n : ℕ) → header_of (with_cells f cells) n ≡ header_of f n
same_header f cells n = rw (same_opcode f.message cells) refl

with_directed : (f : FrameValue) (cells : List Values) → is_directed (with_cells f cells) ≡ is_directed f
with_directed f cells = rw (same_response f.message cells) refl

with_agrees : (f : FrameValue) (cells : List Values) → frame_agrees (with_cells f cells) ≡ frame_agrees f
with_agrees f cells = rw (same_response f.message cells, same_agreement f.message cells) refl

-- what holds of all parts of a page without cells, and of its cells, holds of all parts of the page with them
all_with : (test : Part → Bool) (f : FrameValue) (cells : List Values) → is_bare f.message ≡ true → list_all test (frame_parts f) ≡ true → list_all test (cell_parts f.message cells) ≡ true → list_all test (frame_parts (with_cells f cells)) ≡ true
all_with test f cells is all these =
    let front : list_all test (front_parts f) ≡ true = ap (list_all test) (sym (parts_bare f is)) ∙ all in
    split_all test f cells ∙ rw (front, these) refl

pub page_written : PagesAreFrames
page_written f n cells e a =
    let t = is_page f n e in
    let g : FrameValue = with_cells f cells in
    let m : Message = f.message in
    let le : length cells ≤ cells_wanted m = omega (arith, a.number) in
    let size : parts_size (frame_parts g) ≡ parts_size (frame_parts f) + n = page_size f cells t.agrees t.bare le ∙ ap (λ k. parts_size (frame_parts f) + k) a.size in
    let head : List ℕ = header_bytes (header_of f (parts_size (frame_parts f) + n)) in
    let same : head ≡ header_bytes (header_of g (parts_size (frame_parts g))) = ap header_bytes (sym (same_header f cells (parts_size (frame_parts f) + n))) ∙ ap (λ k. header_bytes (header_of g k)) (sym size) in
    let parts : parts_bytes (frame_parts f) ++ cells_bytes cells ≡ parts_bytes (frame_parts g) = sym (page_bytes f cells t.agrees t.bare le) in (
      fit_is g (record {
        directed = with_directed f cells ∙ t.directed;
        agrees = with_agrees f cells ∙ t.agrees;
        counts = all_with counts_fit f cells t.bare t.counts (rows_counts 0 (types_of_page m) (page_rows m) cells);
        texts = all_with texts_fit f cells t.bare t.texts (rows_texts 0 (types_of_page m) (page_rows m) cells);
        shape = has_all m cells t.bare a.number;
        cells = a.fit;
        short = omega (arith, t.short, size);
      }),
      append_assoc head (parts_bytes (frame_parts f)) (cells_bytes cells) ∙ (λ i. same i ++ parts i),
      omega (arith, size),
    )
