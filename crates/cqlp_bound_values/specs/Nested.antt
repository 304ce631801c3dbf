-- Values with items (section 6 of native_protocol_v4.spec): whether a content conforms to its type option, and what its items are.
use Rattle.std.specs.Prelude.{ℕ, zero, suc, ◌*◌, ◌-◌, ◌&&◌, ◌||◌, not, nat_lt, nat_le, Bool, true, false, List, [], length, drop}
use Rattle.std.specs.Prelude.{Result, Ok, Err, if◌then◌else◌}
use Rattle.cqlp_note.specs.declared.refusal.Reason.{Reason}
use Rattle.cqlp_kind.specs.declared.kind.Kind.{Kind}
use Rattle.cqlp_kind.specs.declared.kind.Kind.TheVariants as kind
use Rattle.cqlp_kind.specs.Contents.{scalar_in}
use Rattle.cqlp_kind.specs.Scalars.{ScalarValue}
use Rattle.cqlp_kind.specs.Types.{has_no_items}
use Rattle.cqlp_bound_values.specs.Bindings.{Found, Missing, Null, Unset, Content, behind_item, content_of}
use Rattle.cqlp_bound_values.specs.Columns.{behind_option, behind_tables, field_option, kind_at}
use Rattle.cqlp_bound_values.specs.Fields.{int_at, is_end, short_at}
use Rattle.cqlp_bound_values.specs.declared.nested as declared

-- ---- The items of a content, one after the other, each a [bytes]; a list has a type option for all, a map one for keys and one for values, which take turns.

pub record Items : Type 0 where
  pub kind : Kind
  -- how many there are to be
  pub left : ℕ
  -- of the first item and, but in a tuple and a user-defined type, of the second
  pub option : List ℕ
  pub other : List ℕ
  pub bytes : List ℕ

abbrev pub items_as : declared.Items.Items → Items
items_as i = record { kind = i.kind; left = i.left; option = i.option.now; other = i.other.now; bytes = i.bytes.now }

abbrev pub items_with : Kind → (left : ℕ) → (option other bytes : List ℕ) → Items
items_with k n o p b = record { kind = k; left = n; option = o; other = p; bytes = b }

-- a tuple and a user-defined type have no count, and end where there are no more bytes
abbrev pub has_fields : Kind → Bool
has_fields kind.Udt = true
has_fields kind.Tuple = true
has_fields k = false

abbrev pub is_udt : Kind → Bool
is_udt kind.Udt = true
is_udt k = false

-- by what comes behind the number of fields
abbrev pub fields_of : Kind → (fields : List ℕ) → (content : List ℕ) → Items
fields_of k t b = items_with k (short_at t) (field_option (is_udt k) (drop 2 t)) [] b

-- By what comes behind the id of the type option, and the content. A count that is negative is more than there are bytes.
abbrev pub items_of : (behind : List ℕ → List ℕ) → Kind → List ℕ → (content : List ℕ) → Items
items_of behind kind.Map t b = items_with kind.Map (2 * int_at b) t (behind t) (drop 4 b)
items_of behind kind.Udt t b = fields_of kind.Udt (behind_tables t) b
items_of behind kind.Tuple t b = fields_of kind.Tuple t b
items_of behind k t b = items_with k (int_at b) t t (drop 4 b)

abbrev pub next_option : (behind : List ℕ → List ℕ) → Items → List ℕ
next_option behind i = if has_fields i.kind then field_option (is_udt i.kind) (behind i.option) else i.other

abbrev pub other_items : (behind : List ℕ → List ℕ) → Items → Items
other_items behind i = items_with i.kind (i.left - 1) (next_option behind i) i.option (behind_item i.bytes)

-- each negative length is that of a null
abbrev pub inner_of : (length : ℕ) → List ℕ → Found
inner_of n b = if nat_le 0x8000_0000 n then Null else content_of n b

abbrev pub inner_at : List ℕ → Found
inner_at b = if nat_lt (length b) 4 then Missing else inner_of (int_at b) (drop 4 b)

-- no more items: there is no byte, and no count
abbrev pub have_ended : Items → Bool
have_ended i = has_fields i.kind && is_end i.bytes

-- ---- whether a content conforms

abbrev pub is_read : Result ScalarValue Reason → Bool
is_read (Ok v) = true
is_read (Err why) = false

-- a scalar, of a kind that is known
abbrev pub scalar_conforms : Kind → List ℕ → Bool
scalar_conforms kind.Raw b = false
scalar_conforms k b = is_read (scalar_in k b)

-- a null, no bytes, or a content that conforms
abbrev pub item_conforms : (conforms : (option content : List ℕ) → Bool) → (option : List ℕ) → Found → Bool
item_conforms conforms o Missing = false
item_conforms conforms o Null = true
item_conforms conforms o Unset = true
item_conforms conforms o (Content [] true) = true
item_conforms conforms o (Content b true) = conforms o b
item_conforms conforms o (Content b false) = false

-- so many items at most, up to the last byte
abbrev pub items_conform : (conforms : (option content : List ℕ) → Bool) → (behind : List ℕ → List ℕ) → (left : ℕ) → Items → Bool
items_conform conforms behind zero i = is_end i.bytes
items_conform conforms behind (suc n) i =
    if have_ended i then true
    else item_conforms conforms i.option (inner_at i.bytes) && items_conform conforms behind n (other_items behind i)

abbrev pub all_conform : (conforms : (option content : List ℕ) → Bool) → (behind : List ℕ → List ℕ) → Items → Bool
all_conform conforms behind i = items_conform conforms behind i.left i

-- by what comes behind the id of the type option
abbrev pub kind_conforms : (conforms : (option content : List ℕ) → Bool) → (behind : List ℕ → List ℕ) → Kind → List ℕ → (content : List ℕ) → Bool
kind_conforms conforms behind k t b =
    if has_no_items k then scalar_conforms k b
    else (has_fields k || nat_le 4 (length b)) && all_conform conforms behind (items_of behind k t b)

-- A content conforms to a type option in which so many are nested at most, itself counted.
unfoldable pub conforms : (depth : ℕ) → (option content : List ℕ) → Bool
conforms zero o b = false
conforms (suc d) o b = kind_conforms (conforms d) (behind_option d) (kind_at o) (drop 2 o) b

-- one that has items, and conforms
abbrev pub is_nested : (option content : List ℕ) → Bool
is_nested o b = not (has_no_items (kind_at o)) && conforms 16 o b
