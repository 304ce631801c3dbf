-- Parts of messages that are built of the events that are held.
use Rattle.std.specs.Prelude.{◌≡◌, ◌++◌, ◌&&◌, ◌*◌, ◌⊎◌, ℕ, zero, suc, Bool, true, false, not, List, [], ◌∷◌, length, map, Option, Some}
use Rattle.std.specs.List.{flat_map, list_all}
use Rattle.cqlp_note.specs.declared.opcode.Opcode.{Opcode}
use Rattle.cqlp_kind.specs.CellStep.{CellEvent}
use Rattle.cqlp_kind.specs.Types.{Types, NoMore, Type_and, how_many}
use Rattle.cqlp_build_cells.specs.Building.{ends}
use Rattle.cqlp_build_cells.specs.CellEvents as cell
use Rattle.cqlp_build_cells.specs.declared.error.CellError.{CellError}
use Rattle.cqlp_build_cells.specs.declared.error.CellError.TheVariants as error
use Rattle.cqlp_build.specs.declared.held.Fault.{Fault}
use Rattle.cqlp_build.specs.declared.held.Fault.TheVariants as fault
use Rattle.cqlp_type.specs.Trees.{is_tree}
use Rattle.cqlp_value.specs.Values.{Values}
use Rattle.cqlp_grammar.specs.Events.{Event, cell_event}
use Rattle.cqlp_message.specs.Agreement.{columns_agree, extra_agrees, metadata_agrees, message_agrees, opcode_of, specs_agree}
use Rattle.cqlp_message.specs.Bodies.{cell_types, event_parts, extra_parts, message_parts, options_parts, row_parts, rows_parts, spec_parts, specs_parts, table_parts, where_some}
use Rattle.cqlp_message.specs.FrameValues.{ErrorExtra, Message, Metadata, Page, Node, Named, Callable, SchemaOptions, ServerEvent, Spec, TableName}
use Rattle.cqlp_build.specs.Building.{has_fit_cells, is_built}
use Rattle.cqlp_build.specs.declared.held.FrameEvents.{FrameEvents}
use Rattle.cqlp_build.specs.FrameEvents.{Builds, IsSound, left}
use Rattle.cqlp_build.specs.Emitted.{emitted}
use Rattle.cqlp_build.specs.Types.{are_built_columns, are_built_if, is_built_metadata}
use Rattle.cqlp_build_cells.specs.Said.{Fit, values_said}
use Rattle.cqlp_message.specs.Parts.{Part, cell_fits}

-- what comes after the message of an error of this code
abbrev pub BuildsExtra : (code : ℕ) → ErrorExtra → (old new : FrameEvents) → Type 0
BuildsExtra code x old new = Builds (λ y. emitted (extra_parts y)) (λ y. extra_agrees code y ≡ true) x old new

-- what was changed, of which this test holds
abbrev pub BuildsOptions : (SchemaOptions → Bool) → SchemaOptions → (old new : FrameEvents) → Type 0
BuildsOptions test o old new = Builds (λ y. emitted (options_parts y)) (λ y. test y ≡ true) o old new

abbrev pub is_named : SchemaOptions → Bool
is_named (Named keyspace name) = true
is_named o = false

abbrev pub is_callable : SchemaOptions → Bool
is_callable (Callable keyspace name arguments) = true
is_callable o = false

-- what an event reports, of which this test holds
abbrev pub BuildsDetail : (ServerEvent → Bool) → ServerEvent → (old new : FrameEvents) → Type 0
BuildsDetail test e old new = Builds (λ y. emitted (event_parts y)) (λ y. test y ≡ true) e old new

abbrev pub is_node : ServerEvent → Bool
is_node (Node change address port) = true
is_node e = false

-- A message of this opcode, whose parts are those that are announced, all cells among them, and that is built.
pub record IsOf (o : Opcode) (m : Message) : Type 0 where
  pub opcode : opcode_of m ≡ o
  pub agrees : message_agrees m ≡ true
  pub built : is_built m ≡ true
  pub cells : has_fit_cells m ≡ true

abbrev pub BuildsMessage : Opcode → Message → (old new : FrameEvents) → Type 0
BuildsMessage o m old new = Builds (λ y. emitted (message_parts y)) (IsOf o) m old new

-- ---- columns

abbrev pub columns_parts : Option TableName × List Spec → List Part
columns_parts c = specs_parts c.0 c.1

-- This many columns, and the table of all, as the flags say, with types that are built.
abbrev pub AreColumns : (flags count : ℕ) → Option TableName × List Spec → Type 0
AreColumns flags n c = (specs_agree flags n c.0 c.1 && are_built_columns c.1) ≡ true

abbrev pub columns_parts_if : Option TableName × Option (List Spec) → List Part
columns_parts_if c = table_parts c.0 ++ where_some (flat_map spec_parts) c.1

-- the same, where the flags say that columns are described
abbrev pub AreColumnsIf : (flags count : ℕ) → Option TableName × Option (List Spec) → Type 0
AreColumnsIf flags n c = (columns_agree flags n c.0 c.1 && are_built_if c.1) ≡ true

-- ---- pages

-- the cells of this many rows of these columns, whose events these are
abbrev pub cells_parts : Metadata → (rows : ℕ) → List Values → List Part
cells_parts m n cells = rows_parts 0 (cell_types m) n cells

-- A cell of each row and each column, each a value of its column's type.
abbrev pub AreCells : Metadata → (rows : ℕ) → List Values → Type 0
AreCells m n cells = (length cells ≡ n * m.columns) × (list_all cell_fits (cells_parts m n cells) ≡ true)

-- A page that is built, with all its cells.
abbrev pub IsPage : Page → Type 0
IsPage p = (metadata_agrees p.meta ≡ true) × (is_built_metadata p.meta ≡ true) × AreCells p.meta p.rows p.cells

-- One cell, a value of this type.
abbrev pub BuildsCell : (row column : ℕ) → Types → Values → (old new : FrameEvents) → Type 0
BuildsCell row column ts v old new = Builds (λ w. map (cell_event row column) (values_said 0 ts w)) (Fit ts) v old new

-- After the last of these events, and after no other, nothing of the cell comes.
abbrev pub ends_at_last : List CellEvent → Bool
ends_at_last [] = false
ends_at_last (e ∷ []) = ends e
ends_at_last (e ∷ d ∷ es) = not (ends e) && ends_at_last (d ∷ es)

-- All events of the cell of this row and column were taken; or memory was refused, or it did not come.
abbrev pub Gathers : (row column : ℕ) → Bool → (old new : FrameEvents) → Type 0
Gathers row column true old new =
    IsSound old × IsSound new × (left old ≡ map (cell_event row column) (cell.left new.cell) ++ left new) × (ends_at_last (cell.left new.cell) ≡ true)
Gathers row column false old new =
    (new.fault ≡ Some fault.NoMemory)
    ⊎ ((new.fault ≡ old.fault)
    × (IsSound old → (es : List CellEvent) (rest : List Event) → ends_at_last es ≡ true → left old ≡ map (cell_event row column) es ++ rest → ⊥))

-- What was refused is as it was, or memory was refused.
abbrev pub KeepsFault : (old new : FrameEvents) → Type 0
KeepsFault old new = (new.fault ≡ old.fault) ⊎ (new.fault ≡ Some fault.NoMemory)

-- the type of the column of this number alone
abbrev pub column_type : (column : ℕ) → Types → Types
column_type n NoMore = NoMore
column_type zero (Type_and k inner ts) = Type_and k inner NoMore
column_type (suc n) (Type_and k inner ts) = column_type n ts

-- One row, of columns of these types.
abbrev pub BuildsRow : (row : ℕ) → Types → List Values → (old new : FrameEvents) → Type 0
BuildsRow row ts vs old new =
    Builds (λ ws. emitted (row_parts row 0 ts ws)) (λ ws. (length ws ≡ how_many ts) × (list_all cell_fits (row_parts row 0 ts ws) ≡ true)) vs old new

-- the types of these columns are formed, where they are described
abbrev pub AreReadable : Metadata → Type 0
AreReadable m = (specs : List Spec) → m.specs ≡ Some specs → (length specs ≡ m.columns) × (list_all (λ c. is_tree c.tree) specs ≡ true)

-- why nothing more is taken, where there is no value
abbrev pub fault_of : CellError → Fault
fault_of error.NoMemory = fault.NoMemory
fault_of e = fault.NoFrame
