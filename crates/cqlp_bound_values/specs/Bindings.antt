-- The values that a request binds, where they lie in the first bytes of its message, which its header's flags say to be plain.
use Rattle.std.specs.Prelude.{ℕ, zero, suc, ◌-◌, ◌==◌, ◌&&◌, nat_lt, nat_le, Bool, true, false, List, [], ◌∷◌, length, take, drop, if◌then◌else◌}
use Rattle.std.specs.Int.{w16, from_be_bytes}
use Rattle.cqlp_note.specs.declared.header.Header.{Header}
use Rattle.cqlp_note.specs.declared.opcode.Opcode.{Opcode}
use Rattle.cqlp_note.specs.declared.opcode.Opcode.TheVariants as opcode
use Rattle.cqlp_note.specs.Heading.{has}
use Rattle.cqlp_bound_values.specs.Columns.{Types, other_types, types_in, types_of}
use Rattle.cqlp_bound_values.specs.Fields.{behind_long_string, behind_string, int_at, string_at}
use Rattle.cqlp_bound_values.specs.declared.binding as declared
use Rattle.cqlp_bound_values.specs.declared.binding.Binding.TheVariants as binding
use Rattle.cqlp_bound_values.specs.declared.item.Item.{Item}
use Rattle.cqlp_bound_values.specs.declared.item.Item.TheVariants as item

-- ---- Section 3: a [value] is a length and so many bytes; -1 is null, -2 is not set, and other negative lengths are none.

pub data Found : Type 0 where
  Missing Null Unset : Found
  Content : List ℕ → (is_whole : Bool) → Found

abbrev pub found_of : Item → Found
found_of item.Missing = Missing
found_of item.Null = Null
found_of item.Unset = Unset
found_of (item.Content bytes all) = Content bytes.now all

abbrev pub content_of : (n : ℕ) → List ℕ → Found
content_of n b = Content (take n b) (nat_le n (length b))

abbrev pub item_of : (length : ℕ) → List ℕ → Found
item_of n b = if n == 0xFFFF_FFFF then Null else if n == 0xFFFF_FFFE then Unset else if nat_le 0x8000_0000 n then Missing else content_of n b

abbrev pub item_at : List ℕ → Found
item_at b = if nat_lt (length b) 4 then Missing else item_of (int_at b) (drop 4 b)

abbrev pub behind_item : List ℕ → List ℕ
behind_item b = if nat_le 0x8000_0000 (int_at b) then drop 4 b else drop (int_at b) (drop 4 b)

abbrev pub is_missing : Found → Bool
is_missing Missing = true
is_missing f = false

abbrev pub is_whole : Found → Bool
is_whole Missing = false
is_whole (Content b all) = all
is_whole f = true

-- ---- values, one after the other, each behind its name if they are named

pub record Values : Type 0 where
  pub count : ℕ
  pub are_named : Bool
  pub types : Types
  pub bytes : List ℕ

abbrev pub values_of : declared.BoundValues.BoundValues → Values
values_of v = record { count = v.count; are_named = v.are_named; types = types_of v.types; bytes = v.bytes.now }

abbrev pub name_at : Values → List ℕ
name_at v = string_at v.bytes

abbrev pub content_at : Values → List ℕ
content_at v = if v.are_named then behind_string v.bytes else v.bytes

abbrev pub found : Values → Found
found v = item_at (content_at v)

abbrev pub others : Values → Values
others v = record { count = v.count - 1; are_named = v.are_named; types = other_types v.types; bytes = behind_item (content_at v) }

-- all bytes of so many are there
abbrev pub are_whole : (count : ℕ) → Values → Bool
are_whole zero v = true
are_whole (suc n) v = is_whole (found v) && are_whole n (others v)

-- ---- what a request binds: no values, some or none that are not to be seen, or at least one

pub data Bound : Type 0 where
  Nothing Unseen : Bound
  Some_values : Values → Bound

abbrev pub bound_of : declared.Binding.Binding → Bound
bound_of binding.Nothing = Nothing
bound_of binding.Unseen = Unseen
bound_of (binding.Values v) = Some_values (values_of v)

-- by their number
abbrev pub of_count : (count : ℕ) → (are_named : Bool) → List ℕ → (prepared : List ℕ) → Bound
of_count n are_named b prepared =
    if n == 0 then Nothing else Some_values (record { count = n; are_named = are_named; types = types_in prepared n; bytes = b })

abbrev pub counted : (are_named : Bool) → List ℕ → (prepared : List ℕ) → Bound
counted are_named b prepared =
    if nat_lt (length b) 2 then Unseen else of_count (from_be_bytes w16 (take 2 b)) are_named (drop 2 b) prepared

-- Section 4.1.4: behind a statement are <consistency><flags>[<n>[name_1]<value_1>..]: values where 01 is set, with names where 40 is.
abbrev pub by_flags : (flags : ℕ) → List ℕ → (prepared : List ℕ) → Bound
by_flags flags b prepared = if has flags 0x01 then counted (has flags 0x40) b prepared else Nothing

abbrev pub by_parameters : List ℕ → (prepared : List ℕ) → Bound
by_parameters (x ∷ y ∷ flags ∷ b) prepared = by_flags flags b prepared
by_parameters b prepared = Unseen

-- Section 4.1.7: a BATCH is <type><n><query_1>..<query_n>.., where a query is <kind><string_or_id><n>[<value_1>..].
abbrev pub entry_bound : (kind : ℕ) → List ℕ → (prepared : List ℕ) → Bound
entry_bound kind b prepared =
    if kind == 0 then counted false (behind_long_string b) prepared
    else if kind == 1 then counted false (behind_string b) prepared else Unseen

abbrev pub first_entry : List ℕ → (prepared : List ℕ) → Bound
first_entry [] prepared = Unseen
first_entry (kind ∷ b) prepared = entry_bound kind b prepared

abbrev pub first_bound : List ℕ → (prepared : List ℕ) → Bound
first_bound (x ∷ high ∷ low ∷ b) prepared = if (high == 0) && (low == 0) then Nothing else first_entry b prepared
first_bound b prepared = Unseen

abbrev pub bound_in : Opcode → List ℕ → (prepared : List ℕ) → Bound
bound_in opcode.Query b prepared = by_parameters (behind_long_string b) prepared
bound_in opcode.Execute b prepared = by_parameters (behind_string b) prepared
bound_in opcode.Batch b prepared = first_bound b prepared
bound_in o b prepared = Nothing

-- Section 2.2: of a body that is compressed (01) nothing is seen.
abbrev pub bound : Header → (front prepared : List ℕ) → Bound
bound h b prepared = if has h.flags 0x01 then Unseen else bound_in h.opcode b prepared
