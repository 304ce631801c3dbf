-- Values that are bound, as a part of a line and as members of a JSON object.
use Rattle.std.specs.Prelude.{ℕ, zero, suc, ◌&&◌, Bool, true, false, List, [], ◌∷◌, ◌++◌, drop, Result, Ok, Err, codes, if◌then◌else◌}
use Rattle.cqlp_kind.specs.declared.kind.Kind.{Kind}
use Rattle.cqlp_kind.specs.declared.kind.Kind.TheVariants as kind
use Rattle.cqlp_kind.specs.Contents.{scalar_in}
use Rattle.cqlp_kind.specs.Scalars.{ScalarValue, Ascii, Raw, Varchar}
use Rattle.cqlp_kind.specs.Types.{has_no_items}
use Rattle.cqlp_note.specs.declared.refusal.Reason.{Reason}
use Rattle.cqlp_text.specs.CellText.{boolean_text, cell_text}
use Rattle.cqlp_text.specs.PageText.{closing, opening, turn_after}
use Rattle.cqlp_text.specs.PageText.{separator as turn_separator}
use Rattle.cqlp_text.specs.declared.page_text.Turn.{Turn}
use Rattle.cqlp_text.specs.declared.page_text.Turn.TheVariants.{First}
use Rattle.cqlp_json.specs.Values.{scalar_text, string}
use Rattle.cqlp_row_text.specs.JsonRows.{after_item, before_item}
use Rattle.cqlp_capture_summary.specs.Shown.{shown_text}
use Rattle.cqlp_bound_values.specs.Bindings.{Bound, Nothing, Unseen, Some_values, Found, Missing, Null, Unset, Content}
use Rattle.cqlp_bound_values.specs.Bindings.{Values, are_whole, found, is_missing, name_at, others}
use Rattle.cqlp_bound_values.specs.Columns.{behind_option, kind_at, option_at}
use Rattle.cqlp_bound_values.specs.Fields.{is_end, text_front}
use Rattle.cqlp_bound_values.specs.Nested.{Items, inner_at, is_nested, items_of, other_items}
use Rattle.cqlp_bound_values.specs.declared.form.Form.{Form}
use Rattle.cqlp_bound_values.specs.declared.form.Form.TheVariants as form

-- texts one after the other
abbrev pub joined : List (List ℕ) → List ℕ
joined [] = []
joined (text ∷ texts) = text ++ joined texts

-- ---- a value that is not null

-- of the front of a text as much as is UTF-8, and of any other value the bytes
abbrev pub front_scalar : Kind → List ℕ → ScalarValue
front_scalar kind.Ascii b = Varchar (text_front b)
front_scalar kind.Varchar b = Varchar (text_front b)
front_scalar k b = Raw b

-- where the bytes spell no scalar of the kind, the bytes
abbrev pub scalar_or_raw : Result ScalarValue Reason → List ℕ → ScalarValue
scalar_or_raw (Ok v) b = v
scalar_or_raw (Err why) b = Raw b

abbrev pub whole_scalar : Kind → List ℕ → ScalarValue
whole_scalar k b = if has_no_items k then scalar_or_raw (scalar_in k b) b else Raw b

abbrev pub shown_scalar : Kind → List ℕ → (is_whole : Bool) → ScalarValue
shown_scalar k b true = whole_scalar k b
shown_scalar k b false = front_scalar k b

-- ---- a scalar or raw bytes, as a cell of `rows`, but a text as a terminal may show it

abbrev pub quoted : List ℕ → List ℕ
quoted text = joined (codes "\"" ∷ shown_text text ∷ codes "\"" ∷ [])

abbrev pub line_scalar : ScalarValue → List ℕ
line_scalar (Ascii t) = quoted t
line_scalar (Varchar t) = quoted t
line_scalar v = cell_text v

abbrev pub more : (is_whole : Bool) → List ℕ
more true = []
more false = codes ".."

abbrev pub content_text : Kind → List ℕ → (is_whole : Bool) → List ℕ
content_text k b is_whole = joined (line_scalar (shown_scalar k b is_whole) ∷ more is_whole ∷ [])

-- ---- a content with items, as a cell of `rows` and of `rows --json`

abbrev pub scalar_as : Form → ScalarValue → List ℕ
scalar_as form.Line v = line_scalar v
scalar_as form.Json v = scalar_text v

abbrev pub empty_text : Form → List ℕ
empty_text form.Line = codes "empty"
empty_text form.Json = codes "\"\""

abbrev pub opening_text : Form → Kind → List ℕ
opening_text form.Line k = opening k
opening_text form.Json k = codes "["

abbrev pub closing_text : Form → Kind → List ℕ
closing_text form.Line k = closing k
closing_text form.Json k = codes "]"

abbrev pub before_text : Form → Kind → Turn → List ℕ
before_text form.Line k t = turn_separator t
before_text form.Json k t = before_item k t

-- after an item that had this turn
abbrev pub after_text : Form → Kind → Turn → List ℕ
after_text form.Line k t = []
after_text form.Json k t = after_item k (turn_after k t)

abbrev pub inner_text : (typed : (option content : List ℕ) → List ℕ) → Form → (option : List ℕ) → Found → List ℕ
inner_text typed f o Missing = []
inner_text typed f o Null = codes "null"
inner_text typed f o Unset = codes "null"
inner_text typed f o (Content [] is_whole) = empty_text f
inner_text typed f o (Content b is_whole) = typed o b

abbrev pub first_text : (typed : (option content : List ℕ) → List ℕ) → Form → Turn → Items → List ℕ
first_text typed f t i = joined (before_text f i.kind t ∷ inner_text typed f i.option (inner_at i.bytes) ∷ after_text f i.kind t ∷ [])

-- so many items at most, up to the last byte
abbrev pub inner_items : (typed : (option content : List ℕ) → List ℕ) → (behind : List ℕ → List ℕ) → Form → (left : ℕ) → Turn → Items → List ℕ
inner_items typed behind f zero t i = []
inner_items typed behind f (suc n) t i =
    if is_end i.bytes then []
    else first_text typed f t i ++ inner_items typed behind f n (turn_after i.kind t) (other_items behind i)

abbrev pub all_items : (typed : (option content : List ℕ) → List ℕ) → (behind : List ℕ → List ℕ) → Form → Items → List ℕ
all_items typed behind f i = inner_items typed behind f i.left First i

abbrev pub nested_text : (typed : (option content : List ℕ) → List ℕ) → (behind : List ℕ → List ℕ) → Form → Kind → Items → List ℕ
nested_text typed behind f k i = joined (opening_text f k ∷ all_items typed behind f i ∷ closing_text f k ∷ [])

-- by what comes behind the id of the type option
abbrev pub kind_text : (typed : (option content : List ℕ) → List ℕ) → (behind : List ℕ → List ℕ) → Form → Kind → List ℕ → (content : List ℕ) → List ℕ
kind_text typed behind f k t b =
    if has_no_items k then scalar_as f (whole_scalar k b) else nested_text typed behind f k (items_of behind k t b)

-- of a content that conforms to a type option in which so many are nested at most, itself counted
unfoldable pub typed_text : (depth : ℕ) → Form → (option content : List ℕ) → List ℕ
typed_text zero f o b = []
typed_text (suc d) f o b = kind_text (typed_text d f) (behind_option d) f (kind_at o) (drop 2 o) b

-- ---- a value of a type option

abbrev pub line_content : (option : List ℕ) → List ℕ → (is_whole : Bool) → List ℕ
line_content o b is_whole = if is_whole && is_nested o b then typed_text 16 form.Line o b else content_text (kind_at o) b is_whole

abbrev pub json_content : (option : List ℕ) → List ℕ → (is_whole : Bool) → List ℕ
json_content o b is_whole = if is_whole && is_nested o b then typed_text 16 form.Json o b else scalar_text (shown_scalar (kind_at o) b is_whole)

abbrev pub line_item : (option : List ℕ) → Found → List ℕ
line_item o Missing = []
line_item o Null = codes "null"
line_item o Unset = codes "unset"
line_item o (Content [] true) = codes "empty"
line_item o (Content b is_whole) = line_content o b is_whole

-- one that is not set is an empty object
abbrev pub json_item : (option : List ℕ) → Found → List ℕ
json_item o Missing = []
json_item o Null = codes "null"
json_item o Unset = codes "{}"
json_item o (Content [] true) = codes "\"\""
json_item o (Content b is_whole) = json_content o b is_whole

abbrev pub value_text : Form → (option : List ℕ) → Found → List ℕ
value_text form.Line o f = line_item o f
value_text form.Json o f = json_item o f

-- ---- its name, and what comes around it

abbrev pub named_text : Form → (name : List ℕ) → List ℕ
named_text form.Line name = joined (shown_text name ∷ codes ": " ∷ [])
named_text form.Json name = joined (codes "{" ∷ string name ∷ codes ":" ∷ [])

abbrev pub name_text : Form → Values → List ℕ
name_text f v = if v.are_named then named_text f (text_front (name_at v)) else []

-- In JSON a value with a name is the only member of an object.
abbrev pub behind_named : Form → (is_named : Bool) → List ℕ
behind_named form.Json true = codes "}"
behind_named form.Json false = []
behind_named form.Line is_named = []

abbrev pub separator : Form → (is_first : Bool) → List ℕ
separator f true = []
separator form.Line false = codes ", "
separator form.Json false = codes ","

-- in place of one that is not there
abbrev pub missing_text : Form → (is_first : Bool) → List ℕ
missing_text form.Line true = codes ".."
missing_text form.Line false = codes ", .."
missing_text form.Json is_first = []

abbrev pub present_text : Form → (is_first : Bool) → Values → Found → List ℕ
present_text f is_first v found =
    joined (separator f is_first ∷ name_text f v ∷ value_text f (option_at v.types) found ∷ behind_named f v.are_named ∷ [])

abbrev pub item_text : Form → (is_first : Bool) → Values → List ℕ
item_text f is_first v = if is_missing (found v) then missing_text f is_first else present_text f is_first v (found v)

-- so many, up to the first one that is not there
abbrev pub items_text : (count : ℕ) → Form → (is_first : Bool) → Values → List ℕ
items_text zero f is_first v = []
items_text (suc n) f is_first v = item_text f is_first v ++ (if is_missing (found v) then [] else items_text n f false (others v))

-- ---- of a request: a part of its line, and members of its object

abbrev pub list_text : Values → List ℕ
list_text v = joined (codes " values [" ∷ items_text v.count form.Line true v ∷ codes "]" ∷ [])

abbrev pub values_text : Bound → List ℕ
values_text (Some_values v) = list_text v
values_text b = []

-- the values, and whether all of their bytes are there
abbrev pub array_text : Values → List ℕ
array_text v =
    joined (codes ",\"values\":[" ∷ items_text v.count form.Json true v ∷ codes "],\"values_are_whole\":" ∷ boolean_text (are_whole v.count v) ∷ [])

abbrev pub members_text : Bound → List ℕ
members_text Nothing = codes ",\"values\":null,\"values_are_whole\":null"
members_text Unseen = codes ",\"values\":null,\"values_are_whole\":false"
members_text (Some_values v) = array_text v
