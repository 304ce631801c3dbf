-- Cells that C passes (section 6 of native_protocol_v4.spec).
use Rattle.std.specs.Prelude.{ℕ, ◌^◌, ℤ, pos, negsuc, Bool, ◌&&◌, ◌||◌, ◌==◌, nat_lt, nat_le, int_le, if◌then◌else◌}
use Rattle.std.specs.Prelude.{List, take, Option, Some, None, option_map}
use Rattle.std.specs.Str.{is_utf8}
use Rattle.cqlp_note.specs.declared.prim.Address.{Address}
use Rattle.cqlp_note.specs.declared.prim.Address.TheVariants as address
use Rattle.cqlp_note.specs.Heading.{beside_number}
use Rattle.cqlp_kind.specs.declared.kind.Kind.{Kind}
use Rattle.cqlp_kind.specs.declared.kind.Kind.TheVariants as kind
use Rattle.cqlp_kind.specs.CellStep as cell
use Rattle.cqlp_kind.specs.Scalars.{ScalarValue}
use Rattle.cqlp_kind.specs.Scalars as scalar
use Rattle.cqlp_grammar.specs.Events.{Event, Cell_at, Leave}
use Rattle.cqlp_c.specs.declared.event.CqlpEvent.{CqlpEvent}
use Rattle.cqlp_c.specs.declared.numbers.TheConstants as numbers
use Rattle.cqlp_c.specs.Numbers.{kinds}

-- ---- members within their ranges

-- a number below a bound
abbrev pub below : (bound : ℕ) → ℤ → Option ℕ
below bound (negsuc n) = None
below bound (pos n) = if nat_lt n bound then Some n else None

-- a number from -most - 1 to most
abbrev pub signed_to : (most : ℕ) → ℤ → Option ℤ
signed_to most z = if int_le (negsuc most) z && int_le z (pos most) then Some z else None

-- false is 0, and true is 1
abbrev pub truth_from_c : ℤ → Option Bool
truth_from_c z = option_map (λ n. n == 1) (below 2 z)

abbrev pub text_in : (content : List ℕ) → Option (List ℕ)
text_in content = if is_utf8 content then Some content else None

abbrev pub address_from_c : CqlpEvent → Option Address
address_from_c c =
    if c.octets == 4 then Some (address.V4 (take 4 c.bytes))
    else if c.octets == 16 then Some (address.V6 c.bytes)
    else None

-- ---- scalars

-- a scalar of a kind that is known by its number
abbrev pub numbered_from_c : Kind → ℤ → Option ScalarValue
numbered_from_c kind.Bigint z = Some (scalar.Bigint z)
numbered_from_c kind.Boolean z = option_map scalar.Boolean (truth_from_c z)
numbered_from_c kind.Counter z = Some (scalar.Counter z)
numbered_from_c kind.Int z = option_map scalar.Int (signed_to 2147483647 z)
numbered_from_c kind.Timestamp z = Some (scalar.Timestamp z)
numbered_from_c kind.Date z = option_map scalar.Date (below (2 ^ 32) z)
numbered_from_c kind.Time z = Some (scalar.Time z)
numbered_from_c kind.Smallint z = option_map scalar.Smallint (signed_to 32767 z)
numbered_from_c kind.Tinyint z = option_map scalar.Tinyint (signed_to 127 z)
numbered_from_c k z = None

-- a scalar of this kind, by its content, its bytes or its number
abbrev pub scalar_from_c : Kind → CqlpEvent → (content : List ℕ) → Option ScalarValue
scalar_from_c kind.Custom c content = Some (scalar.Custom content)
scalar_from_c kind.Ascii c content = option_map scalar.Ascii (text_in content)
scalar_from_c kind.Blob c content = Some (scalar.Blob content)
scalar_from_c kind.Decimal c content = Some (scalar.Decimal c.extra content)
scalar_from_c kind.Double c content = Some (scalar.Double (take 8 c.bytes))
scalar_from_c kind.Float c content = Some (scalar.Float (take 4 c.bytes))
scalar_from_c kind.Uuid c content = Some (scalar.Uuid c.bytes)
scalar_from_c kind.Varchar c content = option_map scalar.Varchar (text_in content)
scalar_from_c kind.Varint c content = Some (scalar.Varint content)
scalar_from_c kind.Timeuuid c content = Some (scalar.Timeuuid c.bytes)
scalar_from_c kind.Inet c content = option_map scalar.Inet (address_from_c c)
scalar_from_c kind.Raw c content = Some (scalar.Raw content)
scalar_from_c k c content = numbered_from_c k c.number

-- a scalar of the kind with this number has a content
abbrev pub lends : (kind : ℕ) → Bool
lends k =
    (k == numbers.KIND_CUSTOM) || ((k == numbers.KIND_ASCII) || ((k == numbers.KIND_BLOB) || ((k == numbers.KIND_DECIMAL)
    || ((k == numbers.KIND_VARCHAR) || ((k == numbers.KIND_VARINT) || (k == numbers.KIND_RAW))))))

-- ---- events

-- the tags of what cells have, but of parts
abbrev pub is_of_cell : (tag : ℕ) → Bool
is_of_cell t = nat_le numbers.TAG_LEAF t && nat_le t numbers.TAG_LEAVE

abbrev pub kind_in : CqlpEvent → Option Kind
kind_in c = beside_number c.kind kinds

abbrev pub leaf_from_c : CqlpEvent → Option Kind → (content : List ℕ) → Option Event
leaf_from_c c None content = None
leaf_from_c c (Some k) content = option_map (λ v. Cell_at c.row c.column (cell.Leaf c.level v)) (scalar_from_c k c content)

abbrev pub enter_from_c : CqlpEvent → Option Kind → Option Event
enter_from_c c None = None
enter_from_c c (Some k) = option_map (λ n. Cell_at c.row c.column (cell.Enter c.level k n)) (below (2 ^ 32) c.number)

-- the event of a cell with this content, by its tag
abbrev pub cell_from_c : CqlpEvent → (content : List ℕ) → Option Event
cell_from_c c content =
    if c.tag == numbers.TAG_LEAF then leaf_from_c c (kind_in c) content
    else if c.tag == numbers.TAG_NULL then Some (Cell_at c.row c.column (cell.Null c.level))
    else if c.tag == numbers.TAG_EMPTY then Some (Cell_at c.row c.column (cell.Empty c.level))
    else if c.tag == numbers.TAG_ENTER then enter_from_c c (kind_in c)
    else if c.tag == numbers.TAG_LEAVE then option_map (λ n. Leave c.level n) (below (2 ^ 32) c.number)
    else None
