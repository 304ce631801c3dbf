-- Cells of columns, and what represents them in memory.
use Rattle.std.specs.Prelude.{ℕ, Bool, true, false, List, [], ◌∷◌, reverse, replicate}
use Rattle.std.specs.Int.{w8, w16, w32, w64, cast_unsigned, to_le_bytes}
use Rattle.cqlp_kind.specs.declared.kind.Kind.{Kind}
use Rattle.cqlp_kind.specs.Types.{is_kind}
use Rattle.cqlp_kind.specs.Scalars.{ScalarValue, content_of, kind_of}
use Rattle.cqlp_kind.specs.Scalars as scalar
use Rattle.cqlp_kind.specs.Contents.{value_of}
use Rattle.cqlp_columns.specs.declared.layout.Layout.{Layout}
use Rattle.cqlp_columns.specs.declared.layout.Layout.TheVariants.{Bits, Fixed, Variable}
use Rattle.cqlp_columns.specs.declared.cell.Cell as handed_in
use Rattle.cqlp_columns.specs.declared.cell.Cell.TheVariants as handed
use Rattle.cqlp_columns.specs.declared.cell.CellRef as lent_in
use Rattle.cqlp_columns.specs.declared.cell.CellRef.TheVariants as lent

-- a value of a negative length, one of no bytes, or a scalar
pub data Cell : Type 0 where
  Null Empty : Cell
  Holds : ScalarValue → Cell

-- a cell, wherever its content lies
abbrev pub cell_of : handed_in.Cell → Cell
cell_of handed.Null = Null
cell_of handed.Empty = Empty
cell_of (handed.Holds s) = Holds (value_of s)

-- the same of one whose scalar lies elsewhere
abbrev pub cell_in : lent_in.CellRef → Cell
cell_in lent.Null = Null
cell_in lent.Empty = Empty
cell_in (lent.Holds s) = Holds (value_of s.now)

-- The bytes that represent a scalar: of numbers the lowest first, of which a boolean has none, since a bit represents it; all else as
-- section 6 of native_protocol_v4.spec spells it.
abbrev pub stored : ScalarValue → List ℕ
stored (scalar.Boolean b) = []
stored (scalar.Tinyint z) = cast_unsigned w8 z ∷ []
stored (scalar.Smallint z) = to_le_bytes w16 (cast_unsigned w16 z)
stored (scalar.Int z) = to_le_bytes w32 (cast_unsigned w32 z)
stored (scalar.Date n) = to_le_bytes w32 n
stored (scalar.Float c) = reverse c
stored (scalar.Bigint z) = to_le_bytes w64 (cast_unsigned w64 z)
stored (scalar.Counter z) = to_le_bytes w64 (cast_unsigned w64 z)
stored (scalar.Timestamp z) = to_le_bytes w64 (cast_unsigned w64 z)
stored (scalar.Time z) = to_le_bytes w64 (cast_unsigned w64 z)
stored (scalar.Double c) = reverse c
stored v = content_of v

abbrev pub is_true : ScalarValue → Bool
is_true (scalar.Boolean b) = b
is_true v = false

abbrev pub truth : Cell → Bool
truth (Holds v) = is_true v
truth Null = false
truth Empty = false

-- the bytes in a cell's place where it has no value
abbrev pub blank : Layout → List ℕ
blank Bits = []
blank (Fixed n) = replicate n 0
blank Variable = []

-- the bytes in a cell's place
abbrev pub cell_bytes : Layout → Cell → List ℕ
cell_bytes l (Holds v) = stored v
cell_bytes l Null = blank l
cell_bytes l Empty = blank l

-- the bit in a cell's place, where values are bits
abbrev pub cell_bits : Layout → Cell → List Bool
cell_bits Bits c = truth c ∷ []
cell_bits (Fixed n) c = []
cell_bits Variable c = []

-- A cell has a value: a value of no bytes is one where as many bytes represent a value as it has, and in no other layout.
abbrev pub is_valid : Layout → Cell → Bool
is_valid l Null = false
is_valid Bits Empty = false
is_valid (Fixed n) Empty = false
is_valid Variable Empty = true
is_valid l (Holds v) = true

abbrev pub is_empty : Cell → Bool
is_empty Null = false
is_empty Empty = true
is_empty (Holds v) = false

-- A cell can be one of a column of this kind.
abbrev pub is_of : Kind → Cell → Bool
is_of k Null = true
is_of k Empty = true
is_of k (Holds v) = is_kind (kind_of v) k
