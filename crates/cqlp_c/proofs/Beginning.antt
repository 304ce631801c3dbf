-- The frame under way after events, as C sees them.
use Rattle.std.proofs.Common.{◌≡◌, ℕ, List, [], ◌∷◌, ◌++◌, refl, sym, ap, ◌∙◌}
use Rattle.std.specs.Prelude.{false, Some, None}
use Rattle.std.specs.Ptr.{Ptr}
use Rattle.cqlp_note.specs.Field as field
use Rattle.cqlp_note.specs.declared.prim.Address.TheVariants as address
use Rattle.cqlp_kind.specs.CellStep as cell
use Rattle.cqlp_kind.specs.Scalars as scalar
use Rattle.cqlp_grammar.specs.Events.{Event, Frame, Holds, Node_of, Cell_at, Leave, End}
use Rattle.std.proofs.lemmas.List.{append-nil}
use Rattle.cqlp_c.specs.declared.course.CqlpBegun.{CqlpBegun}
use Rattle.cqlp_c.specs.declared.event.CqlpEvent.{CqlpEvent}
use Rattle.cqlp_c.specs.Course.{begun_after, begun_by, is_edge}
use Rattle.cqlp_c.specs.Events as model

pub begun-append : (f : CqlpBegun) (cs ds : List CqlpEvent) → begun_by f (cs ++ ds) ≡ begun_by (begun_by f cs) ds
begun-append f [] ds = refl
begun-append f (c ∷ cs) ds = begun-append (begun_after f c) cs ds

-- one event, and then more
pub begun_more : (f g h k : CqlpBegun) (cs : List CqlpEvent) (c : CqlpEvent) (ds all : List CqlpEvent) → g ≡ begun_by f cs → h ≡ begun_after g c → k ≡ begun_by h ds → all ≡ (cs ++ c ∷ []) ++ ds → k ≡ begun_by f all
begun_more f g h k cs c ds all at one more is =
    more ∙ ap (λ (z : CqlpBegun). begun_by z ds) (one ∙ ap (λ (z : CqlpBegun). begun_after z c) at) ∙ ap (λ (z : CqlpBegun). begun_by z ds) (sym (begun-append f cs (c ∷ []))) ∙ sym (begun-append f (cs ++ c ∷ []) ds) ∙ ap (λ (z : List CqlpEvent). begun_by f z) (sym is)

pub begun_one : (f g h : CqlpBegun) (cs : List CqlpEvent) (c : CqlpEvent) (all : List CqlpEvent) → g ≡ begun_by f cs → h ≡ begun_after g c → all ≡ cs ++ c ∷ [] → h ≡ begun_by f all
begun_one f g h cs c all at one is = begun_more f g h h cs c [] all at one refl (is ∙ sym (append-nil (cs ++ c ∷ [])))

-- an event that neither begins nor ends a frame leaves the frame under way
pub not_edge : (f : CqlpBegun) (at : ℕ) (e : Event) (place : Ptr) → is_edge e ≡ false → begun_after f (model.written_at at e place) ≡ f
not_edge f at (Frame h) place flat = absurd (let e = flat in cc)
not_edge f at (Holds g (field.Byte n)) place flat = refl
not_edge f at (Holds g (field.Short n)) place flat = refl
not_edge f at (Holds g (field.Int z)) place flat = refl
not_edge f at (Holds g (field.Long z)) place flat = refl
not_edge f at (Holds g (field.Uuid b)) place flat = refl
not_edge f at (Holds g (field.Count n)) place flat = refl
not_edge f at (Holds g (field.Text t)) place flat = refl
not_edge f at (Holds g (field.Bytes (Some c))) place flat = refl
not_edge f at (Holds g (field.Bytes None)) place flat = refl
not_edge f at (Holds g (field.Bound field.Null)) place flat = refl
not_edge f at (Holds g (field.Bound field.Unset)) place flat = refl
not_edge f at (Holds g (field.Bound (field.Known c))) place flat = refl
not_edge f at (Holds g (field.Inet (address.V4 a) z)) place flat = refl
not_edge f at (Holds g (field.Inet (address.V6 a) z)) place flat = refl
not_edge f at (Node_of k) place flat = refl
not_edge f at (Cell_at row column (cell.Leaf level (scalar.Custom b))) place flat = refl
not_edge f at (Cell_at row column (cell.Leaf level (scalar.Ascii t))) place flat = refl
not_edge f at (Cell_at row column (cell.Leaf level (scalar.Bigint z))) place flat = refl
not_edge f at (Cell_at row column (cell.Leaf level (scalar.Blob b))) place flat = refl
not_edge f at (Cell_at row column (cell.Leaf level (scalar.Boolean b))) place flat = refl
not_edge f at (Cell_at row column (cell.Leaf level (scalar.Counter z))) place flat = refl
not_edge f at (Cell_at row column (cell.Leaf level (scalar.Decimal z b))) place flat = refl
not_edge f at (Cell_at row column (cell.Leaf level (scalar.Double b))) place flat = refl
not_edge f at (Cell_at row column (cell.Leaf level (scalar.Float b))) place flat = refl
not_edge f at (Cell_at row column (cell.Leaf level (scalar.Int z))) place flat = refl
not_edge f at (Cell_at row column (cell.Leaf level (scalar.Timestamp z))) place flat = refl
not_edge f at (Cell_at row column (cell.Leaf level (scalar.Uuid b))) place flat = refl
not_edge f at (Cell_at row column (cell.Leaf level (scalar.Varchar t))) place flat = refl
not_edge f at (Cell_at row column (cell.Leaf level (scalar.Varint b))) place flat = refl
not_edge f at (Cell_at row column (cell.Leaf level (scalar.Timeuuid b))) place flat = refl
not_edge f at (Cell_at row column (cell.Leaf level (scalar.Inet (address.V4 a)))) place flat = refl
not_edge f at (Cell_at row column (cell.Leaf level (scalar.Inet (address.V6 a)))) place flat = refl
not_edge f at (Cell_at row column (cell.Leaf level (scalar.Date n))) place flat = refl
not_edge f at (Cell_at row column (cell.Leaf level (scalar.Time z))) place flat = refl
not_edge f at (Cell_at row column (cell.Leaf level (scalar.Smallint z))) place flat = refl
not_edge f at (Cell_at row column (cell.Leaf level (scalar.Tinyint z))) place flat = refl
not_edge f at (Cell_at row column (cell.Leaf level (scalar.Raw b))) place flat = refl
not_edge f at (Cell_at row column (cell.Null level)) place flat = refl
not_edge f at (Cell_at row column (cell.Empty level)) place flat = refl
not_edge f at (Cell_at row column (cell.Enter level k n)) place flat = refl
not_edge f at (Cell_at row column (cell.Leave level n)) place flat = refl
not_edge f at (Cell_at row column (cell.Part level offset c last)) place flat = refl
not_edge f at (Leave level n) place flat = refl
not_edge f at (End n) place flat = absurd (let e = flat in cc)
