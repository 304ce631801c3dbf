-- How a cell is read (section 6 of native_protocol_v4.spec).
use Rattle.std.specs.Prelude.{ℕ, zero, suc, ◌+◌, ◌-◌, ◌^◌, ◌++◌, Bool, true, false, ◌&&◌, List, [], ◌∷◌, Option, Some, None, nat_lt}
use Rattle.std.specs.Prelude.{nat_le, ◌==◌, if◌then◌else◌, min}
use Rattle.std.specs.Int.{w32}
use Rattle.cqlp_note.specs.declared.refusal.Reason.TheVariants.{Overrun, TooLong, BadCount, BadSize, ExtraInValue}
use Rattle.cqlp_note.specs.Reader.{Refuses, Takes, Idles, fits, number_of}
use Rattle.cqlp_note.specs.Field.{is_negative}
use Rattle.cqlp_note.specs.Step.{Step, Emit}
use Rattle.cqlp_note.specs.Limits.{Rules}
use Rattle.cqlp_kind.specs.declared.kind.Kind.{Kind}
use Rattle.cqlp_kind.specs.declared.kind.Kind.TheVariants as kind
use Rattle.cqlp_kind.specs.Types.{Types, NoMore, Type_and, how_many}
use Rattle.cqlp_kind.specs.Scalars.{ScalarValue, size_or_lenient, scalar_or_lenient, fault_of}

-- What is still to be read of a cell. A level is the number of values around a value; stop is where the value
-- around it ends.
pub data CellSymbol : Type 0 where
  -- a value of this type
  Value_of : Kind → (inner : Types) → (level stop : ℕ) → CellSymbol
  -- the items of a tuple or udt that are left, after this many
  Items_of : Types → (level stop taken : ℕ) → CellSymbol
  -- the end of a value, after this many items
  Close_of : (level stop taken : ℕ) → CellSymbol
  -- the content of a long scalar, or the bytes behind the last field, from this offset in it, of this many bytes in all
  Content_from : (level offset total : ℕ) → CellSymbol

pub data CellEvent : Type 0 where
  Leaf : (level : ℕ) → ScalarValue → CellEvent
  Null : (level : ℕ) → CellEvent
  Empty : (level : ℕ) → CellEvent
  Enter : (level : ℕ) → Kind → (items : ℕ) → CellEvent
  Leave : (level items : ℕ) → CellEvent
  Part : (level offset : ℕ) → List ℕ → (last : Bool) → CellEvent

pub record CellPlace : Type 0 where
  pub offset : ℕ
  pub symbols : List CellSymbol

abbrev pub cell_copies : ℕ → List CellSymbol → List CellSymbol
cell_copies zero symbols = []
cell_copies (suc n) symbols = symbols ++ cell_copies n symbols

-- one value of each of these types
abbrev pub values_of : Types → (level stop : ℕ) → List CellSymbol
values_of NoMore level stop = []
values_of (Type_and k inner others) level stop = Value_of k inner level stop ∷ values_of others level stop

-- Lenient: behind the last field of a tuple or a udt may be more bytes. They come in parts, of some byte each, whose offsets
-- have 32 bits.
abbrev pub lenient_excess : Rules → (left : ℕ) → Bool
lenient_excess l left = l.lenient && nat_lt 0 l.part && nat_lt 0 left && nat_lt left (2 ^ 32)

-- a scalar that comes in parts where it is long, if the caller asks for parts
abbrev pub is_opaque : Kind → Bool
is_opaque kind.Blob = true
is_opaque kind.Custom = true
is_opaque kind.Raw = true
is_opaque _ = false

abbrev pub place_after : CellPlace → (rest : List CellSymbol) → List CellSymbol → (used : ℕ) → CellPlace
place_after p rest symbols used = record { offset = p.offset + used; symbols = symbols ++ rest }

module _ (p : CellPlace) (rest : List CellSymbol) where
  abbrev pub leaf_step : (level : ℕ) → Kind → Option ScalarValue → Step CellEvent CellPlace
  leaf_step level k None = Refuses (p.offset, fault_of k)
  leaf_step level k (Some v) = Emit p.offset (Leaf level v) (place_after p rest [])

  -- a tuple or a udt of n bytes
  abbrev pub fielded_step : (level : ℕ) → Kind → Types → (n : ℕ) → Step CellEvent CellPlace
  fielded_step level k inner n =
      Emit p.offset (Enter level k (how_many inner))
      (place_after p rest (Items_of inner level (p.offset + 4 + n) 0 ∷ []))

  abbrev pub close_step : (level stop taken : ℕ) → Step CellEvent CellPlace
  close_step level stop taken =
      if nat_lt p.offset stop then Refuses (p.offset, ExtraInValue)
      else Emit p.offset (Leave level taken) (place_after p rest [])

  -- a list, a set or a map: its count is a field in the value of n bytes
  abbrev pub counted_step : (level : ℕ) → Kind → Types → (n : ℕ) → Step CellEvent CellPlace
  counted_step level k inner n =
      let stop = p.offset + 4 + n in
      number_of (p.offset + 4, Overrun) 4 w32 n (λ count.
      if is_negative count then Refuses (p.offset + 4, BadCount)
      else Emit p.offset (Enter level k count)
      (place_after p rest (cell_copies count (values_of inner (level + 1) stop) ++ Close_of level stop count ∷ [])))

module _ (l : Rules) (p : CellPlace) (rest : List CellSymbol) where
  -- the next part of a content, after k bytes of length
  abbrev pub part_step : (level k offset total : ℕ) → Step CellEvent CellPlace
  part_step level k offset total =
      let size = min l.part (total - offset) in
      let last = nat_le (total - offset) l.part in
      Takes size (λ c. Emit (p.offset + k) (Part level offset c last)
      (place_after p rest (if last then [] else Content_from level (offset + size) total ∷ [])))

  abbrev pub scalar_step : (level : ℕ) → Kind → (n : ℕ) → Step CellEvent CellPlace
  scalar_step level k n =
      if size_or_lenient l.lenient k n
      then (if l.parts && is_opaque k && nat_lt l.part n then part_step level 4 0 n
      else if nat_lt l.cell n then Refuses (p.offset, TooLong)
      else Takes n (λ c. leaf_step p rest level k (scalar_or_lenient l.lenient k c)))
      else Refuses (p.offset, BadSize)

  abbrev pub content_step : (level : ℕ) → Kind → Types → (n : ℕ) → Step CellEvent CellPlace
  content_step level kind.List inner n = counted_step p rest level kind.List inner n
  content_step level kind.Set inner n = counted_step p rest level kind.Set inner n
  content_step level kind.Map inner n = counted_step p rest level kind.Map inner n
  content_step level kind.Udt inner n = fielded_step p rest level kind.Udt inner n
  content_step level kind.Tuple inner n = fielded_step p rest level kind.Tuple inner n
  content_step level k inner n = scalar_step level k n

  -- a value of n bytes after its length, in a container with this much room
  abbrev pub sized_step : Kind → Types → (level room n : ℕ) → Step CellEvent CellPlace
  sized_step k inner level room n =
      if is_negative n then Emit p.offset (Null level) (place_after p rest [])
      else if n == 0 then Emit p.offset (Empty level) (place_after p rest [])
      else fits (p.offset, Overrun) room (4 + n) (content_step level k inner n)

  abbrev pub value_step : Kind → Types → (level room : ℕ) → Step CellEvent CellPlace
  value_step k inner level room = number_of (p.offset, Overrun) 4 w32 room (sized_step k inner level room)

module _ (l : Rules) (p : CellPlace) where
  abbrev pub items_step : Types → (level stop taken : ℕ) → List CellSymbol → Step CellEvent CellPlace
  items_step NoMore level stop taken rest =
      if lenient_excess l (stop - p.offset)
      then part_step l p (Items_of NoMore level stop taken ∷ rest) (level + 1) 0 0 (stop - p.offset)
      else close_step p rest level stop taken
  items_step (Type_and k inner others) level stop taken rest =
      if nat_le stop p.offset then close_step p rest level stop taken
      else value_step l p (Items_of others level stop (taken + 1) ∷ rest) k inner (level + 1) (stop - p.offset)

  abbrev pub cell_step_at : List CellSymbol → Step CellEvent CellPlace
  cell_step_at [] = Idles
  cell_step_at (Value_of k inner level stop ∷ rest) = value_step l p rest k inner level (stop - p.offset)
  cell_step_at (Items_of ts level stop taken ∷ rest) = items_step ts level stop taken rest
  cell_step_at (Close_of level stop taken ∷ rest) = close_step p rest level stop taken
  cell_step_at (Content_from level offset total ∷ rest) = part_step l p rest level 0 offset total

abbrev pub cell_step : Rules → CellPlace → Step CellEvent CellPlace
cell_step l p = cell_step_at l p p.symbols
