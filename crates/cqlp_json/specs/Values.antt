-- The values of members (section 3 of RFC 8259).
use Rattle.std.specs.Prelude.{ℕ, List, ◌++◌, codes, decimal}
use Rattle.std.specs.Fmt.{signed_decimal}
use Rattle.hex.specs.Hex.{encode_lower}
use Rattle.cqlp_kind.specs.Scalars.{ScalarValue}
use Rattle.cqlp_kind.specs.Scalars as scalar
use Rattle.cqlp_kind.specs.Contents.{value_of}
use Rattle.cqlp_text.specs.CellText.{boolean_text, cell_text}
use Rattle.cqlp_json.specs.declared.member.Member.{Member}
use Rattle.cqlp_json.specs.declared.member.Value.{Value}
use Rattle.cqlp_json.specs.declared.member.Value.TheVariants as value
use Rattle.cqlp_json.specs.Strings.{escape}

-- a text that needs no escape, between quotes
abbrev pub word : List ℕ → List ℕ
word text = codes "\"" ++ (text ++ codes "\"")

-- any text, between quotes
abbrev pub string : List ℕ → List ℕ
string text = word (escape text)

-- bytes, as two digits each between quotes
abbrev pub hex : List ℕ → List ℕ
hex bytes = word (encode_lower bytes)

-- A scalar: numbers of at most 32 bits and booleans as such; bytes and floating-point numbers as digits of their bytes; and
-- all else as a text, which but for texts themselves is that of a line.
abbrev pub scalar_text : ScalarValue → List ℕ
scalar_text (scalar.Int z) = signed_decimal z
scalar_text (scalar.Smallint z) = signed_decimal z
scalar_text (scalar.Tinyint z) = signed_decimal z
scalar_text (scalar.Boolean b) = boolean_text b
scalar_text (scalar.Custom bytes) = hex bytes
scalar_text (scalar.Blob bytes) = hex bytes
scalar_text (scalar.Raw bytes) = hex bytes
scalar_text (scalar.Double bytes) = hex bytes
scalar_text (scalar.Float bytes) = hex bytes
scalar_text (scalar.Ascii text) = string text
scalar_text (scalar.Varchar text) = string text
scalar_text s = word (cell_text s)

-- ---- as the code has them

abbrev pub value_text : Value → List ℕ
value_text value.Null = codes "null"
value_text (value.Number n) = decimal n
value_text (value.Name name) = word name.now
value_text (value.Scalar s) = scalar_text (value_of s)

-- a value, and the text before it
abbrev pub member_text : Member → List ℕ
member_text m = m.0.now ++ value_text m.1
