-- A column of a page's metadata: its name and the id of its type. Section 4.2.5.2 of native_protocol_v4.spec.
use Rattle.std.specs.Prelude.{ℕ, ◌≡◌, ◌≤◌, ◌+◌, ◌-◌, ◌==◌, ◌&&◌, Bool, true, false, not, List, drop, length, nat_lt, take}
use Rattle.cqlp_observer_facts.specs.declared.due.Due.{Due}
use Rattle.cqlp_observer_facts.specs.declared.due.Due.TheVariants as due_as
use Rattle.cqlp_observer_facts.specs.declared.rows.RowsField.{RowsField}
use Rattle.cqlp_observer_facts.specs.declared.rows.RowsField.TheVariants as rows
use Rattle.cqlp_observer_facts.specs.declared.reader.FactsReader.{FactsReader}
use Rattle.cqlp_observer_facts.specs.declared.types.Types.{Types}
use Rattle.cqlp_observer_facts.specs.declared.types.TypesNext.TheVariants as next
use Rattle.cqlp_observer_facts.specs.Numbers.{short}
use Rattle.cqlp_observer_facts.specs.Reading.{before, is_before, read, with_due}
use Rattle.cqlp_observer_facts.specs.Rows.{after_option, is_plain}
use Rattle.cqlp_observer_facts.specs.Types.{types_next, with_first}

-- After the column's name these types follow, its own first. It is the first so many bytes, and this field is next.
pub record IsColumn (types : Types) (b : List ℕ) (used : ℕ) (due : Due) : Type 0 where
  pub others : Types
  pub typed : types_next types ≡ next.Type others
  pub long : used ≡ 2 + short b + 2
  pub within : used ≤ length b
  pub leads : due ≡ after_option (short (drop (2 + short b) b)) others

-- The same, of a field that is the last name before a type.
pub record IsColumnOf (field : RowsField) (b : List ℕ) (used : ℕ) (due : Due) : Type 0 where
  pub types : Types
  pub name : field ≡ rows.Name 0 types
  pub column : IsColumn types b used due

-- Reading the first so many bytes leads to this field, and none of them lies before the message proper.
pub record PassesColumn (b : List ℕ) (used : ℕ) (due : Due) (s : FactsReader) : Type 0 where
  pub some : 1 ≤ used
  pub within : used ≤ length b
  pub after : read (take used b) s ≡ with_due due s
  pub message : is_before s ≡ false
  pub none : before (take used b) s ≡ 0

-- ---- a column of a plain type, with one more column after it

-- So many more names before a type are none, and after the type comes one more column, whose name has no keyspace and table before it.
abbrev pub is_before_column : (more : ℕ) → Types → Bool
is_before_column more t = ((more == 0 && t.first.types == 1) && nat_lt 0 t.first.fields) && not t.first.qualified

-- Nothing follows the id of such a type; a custom one has a name.
abbrev pub is_plain_of_column : (id : ℕ) → Bool
is_plain_of_column id = nat_lt 0 id && is_plain id

-- the first so many bytes: a name and the id of a plain type
pub record IsPlainColumn (b : List ℕ) (used : ℕ) : Type 0 where
  pub long : used ≡ 2 + short b + 2
  pub within : used ≤ length b
  pub plain : is_plain_of_column (short (drop (2 + short b) b)) ≡ true

-- the field after the last name before such a type: the name of the next column
abbrev pub next_column : Due → Due
next_column (due_as.Rows (rows.Name more t)) = due_as.Rows (rows.Name more (with_first t.first.types (t.first.fields - 1) t))
next_column d = d
