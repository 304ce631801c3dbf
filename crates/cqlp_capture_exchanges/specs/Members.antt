-- Members of JSON objects: their keys and values (RFC 8259).
use Rattle.std.specs.Prelude.{ℕ, ℤ, pos, ◌+◌, ◌/◌, ◌%◌, ◌^◌, nat_lt, Bool, List, [], ◌∷◌, ◌++◌, codes, decimal, Option, Some, None, if◌then◌else◌}
use Rattle.std.specs.Fmt.{signed_decimal}
use Rattle.uuid.specs.Text.{hyphenated_text, lower}
use Rattle.cqlp_note.specs.Heading.{beside_number}
use Rattle.cqlp_text.specs.CellText.{boolean_text, date_text, digits, time_text}
use Rattle.cqlp_json.specs.Values.{hex, string, word}
use Rattle.cqlp_tcp_segment.specs.declared.addresses.Endpoint.{Endpoint}
use Rattle.cqlp_capture_exchanges.specs.declared.member.Member.{Member}
use Rattle.cqlp_capture_exchanges.specs.declared.member.Value.{Value}
use Rattle.cqlp_capture_exchanges.specs.declared.member.Value.TheVariants as value
use Rattle.cqlp_capture_exchanges.specs.declared.span.Span.{Span}
use Rattle.cqlp_capture_exchanges.specs.Ends.{end_text}
use Rattle.cqlp_capture_exchanges.specs.Replies.{consistency_names}
use Rattle.cqlp_capture_exchanges.specs.Times.{joined, sign}

abbrev pub null : List ℕ
null = codes "null"

-- ---- Numbers above 2^53, which many readers do not keep exactly, are between quotes.

abbrev pub quote : (n : ℕ) → List ℕ
quote n = if nat_lt 9_007_199_254_740_992 n then codes "\"" else []

abbrev pub number : ℕ → List ℕ
number n = joined (quote n ∷ decimal n ∷ quote n ∷ [])

-- nanoseconds as seconds, with nine digits after the point
abbrev pub seconds : Span → List ℕ
seconds s =
    joined (quote s.nanoseconds ∷ sign s.is_before ∷ decimal (s.nanoseconds / 1_000_000_000) ∷ codes "."
    ∷ digits 9 (s.nanoseconds % 1_000_000_000) ∷ quote s.nanoseconds ∷ [])

-- nanoseconds since 1970-01-01 00:00:00 UTC as a date and a time of day (ISO 8601), between quotes
abbrev pub utc : ℕ → List ℕ
utc t =
    joined (codes "\"" ∷ date_text (2 ^ 31 + t / 86_400_000_000_000) ∷ codes "T" ∷ time_text (pos (t % 86_400_000_000_000))
    ∷ codes "Z\"" ∷ [])

abbrev pub utc_or_null : Option ℕ → List ℕ
utc_or_null None = null
utc_or_null (Some t) = utc t

-- an end of a connection, between quotes
abbrev pub end_value : Endpoint → List ℕ
end_value e = joined (codes "\"" ∷ end_text e ∷ codes "\"" ∷ [])

-- with hyphens, between quotes
abbrev pub uuid : (id : List ℕ) → List ℕ
uuid id = joined (codes "\"" ∷ hyphenated_text lower id ∷ codes "\"" ∷ [])

abbrev pub seconds_or_null : Option Span → List ℕ
seconds_or_null None = null
seconds_or_null (Some s) = seconds s

-- ---- the name of a code, or where it has none its number

abbrev pub name_or_code : Option (List ℕ) → (code : ℕ) → List ℕ
name_or_code (Some name) code = word name
name_or_code None code = number code

-- ---- values, where they are known

abbrev pub signed_or_null : Option ℤ → List ℕ
signed_or_null None = null
signed_or_null (Some z) = signed_decimal z

abbrev pub number_or_null : Option ℕ → List ℕ
number_or_null None = null
number_or_null (Some n) = number n

abbrev pub flag_or_null : Option Bool → List ℕ
flag_or_null None = null
flag_or_null (Some b) = boolean_text b

abbrev pub uuid_or_null : Option (List ℕ) → List ℕ
uuid_or_null None = null
uuid_or_null (Some id) = uuid id

abbrev pub string_or_null : Option (List ℕ) → List ℕ
string_or_null None = null
string_or_null (Some text) = string text

abbrev pub hex_or_null : Option (List ℕ) → List ℕ
hex_or_null None = null
hex_or_null (Some bytes) = hex bytes

abbrev pub consistency_or_null : Option ℕ → List ℕ
consistency_or_null None = null
consistency_or_null (Some level) = name_or_code (beside_number level consistency_names) level

-- ---- as the code has them

abbrev pub value_text : Value → List ℕ
value_text value.Null = null
value_text (value.Flag b) = boolean_text b
value_text (value.Number n) = number n
value_text (value.Signed z) = signed_decimal z
value_text (value.Seconds s) = seconds s
value_text (value.Utc t) = utc t
value_text (value.End e) = end_value e
value_text (value.Name name) = word name.now
value_text (value.Text text) = string text.now
value_text (value.Hex bytes) = hex bytes.now
value_text (value.Uuid id) = uuid id

abbrev pub member_text : Member → List ℕ
member_text m = m.0.now ++ value_text m.1
