-- The types of the columns that a statement binds (section 4.2.5.4 of native_protocol_v4.spec), as far as the first bytes of the PREPARED response have them.
use Rattle.std.specs.Prelude.{ℕ, zero, suc, ◌*◌, ◌%◌, ◌==◌, nat_lt, Bool, true, false, List, [], length, drop, Option, Some, None, if◌then◌else◌}
use Rattle.cqlp_note.specs.Heading.{beside_number}
use Rattle.cqlp_kind.specs.declared.kind.Kind.{Kind}
use Rattle.cqlp_kind.specs.declared.kind.Kind.TheVariants as kind
use Rattle.cqlp_kind.specs.Types.{kinds}
use Rattle.cqlp_bound_values.specs.Fields.{behind_string, int_at, short_at}
use Rattle.cqlp_bound_values.specs.declared.column_types as declared

-- columns, one after the other, each with its table or not
pub record Types : Type 0 where
  pub have_tables : Bool
  pub bytes : List ℕ

abbrev pub types_with : (have_tables : Bool) → List ℕ → Types
types_with have_tables b = record { have_tables = have_tables; bytes = b }

abbrev pub types_of : declared.ColumnTypes.ColumnTypes → Types
types_of t = types_with t.have_tables t.bytes.now

-- none is known
abbrev pub no_types : Types
no_types = types_with false []

-- ---- a metadata: <flags><columns_count><pk_count>[<pk_index>..][<global_table_spec>]<column>..

-- not a table for all (01)
abbrev pub has_tables : (flags : ℕ) → Bool
has_tables flags = flags % 2 == 0

abbrev pub behind_tables : List ℕ → List ℕ
behind_tables b = behind_string (behind_string b)

abbrev pub behind_places : List ℕ → List ℕ
behind_places m = drop (2 * int_at (drop 8 m)) (drop 12 m)

abbrev pub metadata_types : List ℕ → Types
metadata_types m = if has_tables (int_at m) then types_with true (behind_places m) else types_with false (behind_tables (behind_places m))

-- behind the kind of the result and the statement's id; of another number of columns none is known
abbrev pub metadata_in : (prepared : List ℕ) → List ℕ
metadata_in b = behind_string (drop 4 b)

abbrev pub types_in : (prepared : List ℕ) → (columns : ℕ) → Types
types_in b columns = if int_at (drop 4 (metadata_in b)) == columns then metadata_types (metadata_in b) else no_types

-- ---- a column: its table, if not all have the same, its name and a type option

abbrev pub option_at : Types → List ℕ
option_at t = if t.have_tables then behind_string (behind_tables t.bytes) else behind_string t.bytes

-- where the kind is none, or is not there, the type is not known
abbrev pub or_raw : Option Kind → Kind
or_raw (Some k) = k
or_raw None = kind.Raw

abbrev pub kind_at : (option : List ℕ) → Kind
kind_at b = if nat_lt (length b) 2 then kind.Raw else or_raw (beside_number (short_at b) kinds)

-- the option of a field, which in a user-defined type is behind its name
abbrev pub field_option : (are_named : Bool) → List ℕ → List ℕ
field_option are_named b = if are_named then behind_string b else b

-- behind so many fields, where each option ends as this says
abbrev pub behind_fields : (behind : List ℕ → List ℕ) → (are_named : Bool) → (fields : ℕ) → List ℕ → List ℕ
behind_fields behind are_named zero b = b
behind_fields behind are_named (suc n) b = behind_fields behind are_named n (behind (field_option are_named b))

-- behind a number of fields and the fields
abbrev pub behind_count : (behind : List ℕ → List ℕ) → (are_named : Bool) → List ℕ → List ℕ
behind_count behind are_named b = behind_fields behind are_named (short_at b) (drop 2 b)

-- behind the id of an option, where each one in it ends as this says; a user-defined type has its keyspace and its name first
abbrev pub behind_kind : (behind : List ℕ → List ℕ) → Kind → List ℕ → List ℕ
behind_kind behind kind.Custom b = behind_string b
behind_kind behind kind.List b = behind b
behind_kind behind kind.Set b = behind b
behind_kind behind kind.Map b = behind (behind b)
behind_kind behind kind.Udt b = behind_count behind true (behind_tables b)
behind_kind behind kind.Tuple b = behind_count behind false b
behind_kind behind kind.Raw b = []
behind_kind behind k b = b

-- behind an option in which so many are nested at most, itself counted; else nothing, and then no more types are known
unfoldable pub behind_option : (depth : ℕ) → List ℕ → List ℕ
behind_option zero b = []
behind_option (suc d) b = behind_kind (behind_option d) (kind_at b) (drop 2 b)

abbrev pub other_types : Types → Types
other_types t = types_with t.have_tables (behind_option 16 (option_at t))
