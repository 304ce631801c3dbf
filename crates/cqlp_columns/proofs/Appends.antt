-- One more cell in the arrays of a column.
use Rattle.std.proofs.Common.{◌≡◌, ℕ, ◌+◌, List, [], ◌∷◌, ◌++◌, length, refl, ap, sym, ◌∙◌, arith, append_assoc, length-append, subst}
use Rattle.std.specs.List.{flat_map}
use Rattle.std.proofs.lemmas.List.{append-nil, map-append}
use Rattle.std.proofs.lemmas.List.Concat.{flat_map-append}
use Rattle.cqlp_columns.specs.declared.layout.Layout.{Layout}
use Rattle.cqlp_columns.specs.Arrays.{Column, HasCells, Site, column_of, ends, offset_in, site_of, with_cell}
use Rattle.cqlp_columns.specs.Cells.{Cell, cell_bits, cell_bytes, is_empty, is_valid}

flat_map_more : {B : Type 0} (f : Cell → List B) (cs : List Cell) (c : Cell) → flat_map f (cs ++ c ∷ []) ≡ flat_map f cs ++ f c
flat_map_more f cs c = flat_map-append f cs (c ∷ []) ∙ ap (λ x. flat_map f cs ++ x) (append-nil (f c))

ends_more :
    (l : Layout) (at : ℕ) (cs : List Cell) (c : Cell)
    → ends l at (cs ++ c ∷ []) ≡ ends l at cs ++ offset_in l (at + length (flat_map (cell_bytes l) cs) + length (cell_bytes l c))
ends_more l at [] c =
    let e : at + length (cell_bytes l c) ≡ at + 0 + length (cell_bytes l c) = omega arith in
    append-nil (offset_in l (at + length (cell_bytes l c))) ∙ ap (λ x. offset_in l x) e
ends_more l at (b ∷ cs) c =
    let size = length (cell_bytes l b) in
    let tail = flat_map (cell_bytes l) cs in
    let e : at + size + length tail + length (cell_bytes l c) ≡ at + length (cell_bytes l b ++ tail) + length (cell_bytes l c) =
    omega (arith, length-append (cell_bytes l b) tail)
    in
    ap (λ x. offset_in l (at + size) ++ x) (ends_more l (at + size) cs c)
    ∙ sym (append_assoc (offset_in l (at + size)) (ends l (at + size) cs) _)
    ∙ ap (λ x. (offset_in l (at + size) ++ ends l (at + size) cs) ++ offset_in l x) e

offsets_more :
    (l : Layout) (cs : List Cell) (c : Cell)
    → offset_in l 0 ++ ends l 0 (cs ++ c ∷ []) ≡ (offset_in l 0 ++ ends l 0 cs) ++ offset_in l (length (flat_map (cell_bytes l) cs) + length (cell_bytes l c))
offsets_more l cs c =
    let e : 0 + length (flat_map (cell_bytes l) cs) + length (cell_bytes l c) ≡ length (flat_map (cell_bytes l) cs) + length (cell_bytes l c) = omega arith in
    ap (λ x. offset_in l 0 ++ x) (ends_more l 0 cs c)
    ∙ sym (append_assoc (offset_in l 0) (ends l 0 cs) _)
    ∙ ap (λ x. (offset_in l 0 ++ ends l 0 cs) ++ offset_in l x) e

pub appended_to :
    (s : Site) (l : Layout) (rows size : ℕ) (cs : List Cell) (c : Cell)
    → with_cell c (column_of s l rows size cs) ≡ column_of s l rows size (cs ++ c ∷ [])
appended_to s l rows size cs c = sym (simp (flat_map_more (cell_bytes l) cs c, flat_map_more (cell_bits l) cs c, offsets_more l cs c, map-append (is_valid l) cs (c ∷ []), map-append is_empty cs (c ∷ [])) refl)

pub taken_to : (c : Cell) (a b : Column) (cells : List Cell) → b ≡ with_cell c a → HasCells cells a → HasCells (cells ++ c ∷ []) b
taken_to c a b cells e h =
    let P : Column → Type 0 = λ x. HasCells (cells ++ c ∷ []) x in
    subst P (sym e) (ap (λ x. with_cell c x) h ∙ appended_to (site_of a) a.layout a.rows a.size cells c)
