-- What is handed out of a cell.
use Rattle.std.specs.Prelude.{◌≡◌, ℕ, true, List, [], length, Option, Some, None, is_some, ⊤}
use Rattle.cqlp_note.specs.declared.advance.FieldOutline.{FieldOutline}
use Rattle.cqlp_note.specs.Field.{FieldValue, Bytes}
use Rattle.cqlp_note.specs.Partial as partial
use Rattle.cqlp_note.specs.Partial.{item_value}
use Rattle.cqlp_cell.specs.declared.item.CellItem.{CellItem}
use Rattle.cqlp_cell.specs.declared.item.CellItem.TheVariants as lent
use Rattle.cqlp_cell.specs.declared.advance.CellOutline.{CellOutline}
use Rattle.cqlp_cell.specs.declared.advance.CellOutline.TheVariants as outline
use Rattle.cqlp_kind.specs.Scalars.{ScalarValue, allows_size, content_size, scalar_of}
use Rattle.cqlp_kind.specs.Contents.{value_of}
use Rattle.cqlp_kind.specs.CellStep.{CellEvent, Leaf, Null, Empty, Enter, Leave, Part}

-- the bytes that a value is
abbrev pub bytes_in : FieldValue → List ℕ
bytes_in (Bytes (Some c)) = c
bytes_in _ = []

-- these bytes lie there
abbrev pub LieAt : FieldOutline → (input buffer : List ℕ) → Type 0
LieAt i input buffer =
    partial.CanLend i input buffer × (item_value i input buffer ≡ Bytes (Some (bytes_in (item_value i input buffer))))

-- the bytes that lie there
abbrev pub content_at : FieldOutline → (input buffer : List ℕ) → List ℕ
content_at i input buffer = bytes_in (item_value i input buffer)

-- a scalar, if it is one
abbrev pub leaf_event : (level : ℕ) → Option ScalarValue → CellEvent
leaf_event level (Some v) = Leaf level v
leaf_event level None = Null level

-- the event that an item is, whose content lies in this input or this buffer
abbrev pub event_at : CellOutline → (input buffer : List ℕ) → CellEvent
event_at (outline.Leaf level k i) input buffer = leaf_event level (scalar_of k (content_at i input buffer))
event_at (outline.Null level) input buffer = Null level
event_at (outline.Empty level) input buffer = Empty level
event_at (outline.Enter level k n) input buffer = Enter level k n
event_at (outline.Leave level n) input buffer = Leave level n
event_at (outline.Part level offset i last) input buffer = Part level offset (content_at i input buffer) last

-- an item that can be lent from this input and this buffer: its content lies there, and spells a scalar if it is one
abbrev pub CanLend : CellOutline → (input buffer : List ℕ) → Type 0
CanLend (outline.Leaf level k i) input buffer =
    LieAt i input buffer
    × (allows_size k (length (content_at i input buffer)) ≡ true)
    × (is_some (scalar_of k (content_at i input buffer)) ≡ true)
CanLend (outline.Part level offset i last) input buffer = LieAt i input buffer
CanLend _ input buffer = ⊤

abbrev pub event_of : CellItem → CellEvent
event_of (lent.Leaf level s) = Leaf level (value_of s)
event_of (lent.Null level) = Null level
event_of (lent.Empty level) = Empty level
event_of (lent.Enter level k n) = Enter level k n
event_of (lent.Leave level n) = Leave level n
event_of (lent.Part level offset c last) = Part level offset c.now last

-- the bytes of its content
abbrev pub content_length : CellEvent → ℕ
content_length (Leaf level v) = content_size v
content_length (Part level offset c last) = length c
content_length e = 0
