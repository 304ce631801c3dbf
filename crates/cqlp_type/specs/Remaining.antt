-- What is still to be read of a type option, as it is kept.
use Rattle.std.specs.Prelude.{◌≡◌, ℕ, ◌+◌, ◌<◌, ◌≤◌, Bool, true, false, List, [], ◌∷◌, ◌++◌, length, Some, Result, Ok, Err}
use Rattle.cqlp_note.specs.declared.field.Field.TheVariants as field
use Rattle.cqlp_note.specs.declared.refusal.Reason.{Reason}
use Rattle.cqlp_note.specs.declared.advance.FieldOutline.{FieldOutline}
use Rattle.cqlp_note.specs.declared.advance.FieldOutline.TheVariants as item
use Rattle.cqlp_note.specs.Reader.{Refuses, Idles}
use Rattle.cqlp_note.specs.Field.{FieldValue, Short, Count}
use Rattle.cqlp_note.specs.Step.{Step, Emit}
use Rattle.cqlp_note.specs.Limits.{Rules}
use Rattle.cqlp_note.specs.Head.{value_of}
use Rattle.cqlp_note.specs.Heading.{beside_number}
use Rattle.cqlp_note.specs.Partial.{item_value}
use Rattle.cqlp_kind.specs.declared.kind.Kind.{Kind}
use Rattle.cqlp_kind.specs.declared.node.Node.{Node}
use Rattle.cqlp_note.specs.declared.limits.Asked.{Asked}
use Rattle.cqlp_type.specs.declared.remaining.Remaining.{Remaining}
use Rattle.cqlp_type.specs.declared.remaining.OptionStage.{OptionStage}
use Rattle.cqlp_type.specs.declared.remaining.OptionStage.TheVariants as stage
use Rattle.cqlp_type.specs.declared.advance.TypeOutline.{TypeOutline}
use Rattle.cqlp_type.specs.declared.advance.TypeOutline.TheVariants as part
use Rattle.cqlp_kind.specs.Types.{kinds}
use Rattle.cqlp_kind.specs.TypeStep.{TypeSymbol, Option_at, Text_of, Fields_of, Whole, TypeEvent, IsNode, IsField, TypePlace}
use Rattle.cqlp_kind.specs.TypeStep.{symbol_copies, parameters_of, inner_symbols, with_arity, with_span, settled, type_place}
use Rattle.cqlp_kind.specs.TypeStep.{kind_or_lenient, option_step, begun_node, fields_settled}
use Rattle.cqlp_type.specs.Table.{Table, HoldsTypes}
use Rattle.cqlp_type.specs.OpenOptions.{Nest}

-- an option is under way
abbrev pub is_under_way : OptionStage → Bool
is_under_way stage.Idle = false
is_under_way _ = true

-- something is still to be read
abbrev pub is_wanted : OptionStage → Bool
is_wanted stage.Idle = false
is_wanted stage.Done = false
is_wanted _ = true

-- what is read now, and what is left of the options around it
abbrev pub stage_symbols : OptionStage → Nest → List TypeSymbol
stage_symbols stage.Idle n = []
stage_symbols stage.Done n = []
stage_symbols stage.Id n = Option_at (n.height + 1) ∷ n.symbols
stage_symbols stage.Name n = Text_of field.FieldName ∷ Option_at (n.height + 1) ∷ n.symbols
stage_symbols (stage.Class node) n = Text_of field.Class ∷ Whole node ∷ n.symbols
stage_symbols (stage.Keyspace node) n =
    Text_of field.Keyspace ∷ Text_of field.TypeName ∷ Fields_of true (n.height + 1 + 1) ∷ Whole node ∷ n.symbols
stage_symbols (stage.TypeName node) n =
    Text_of field.TypeName ∷ Fields_of true (n.height + 1 + 1) ∷ Whole node ∷ n.symbols
stage_symbols (stage.Fields node named) n = Fields_of named (n.height + 1 + 1) ∷ Whole node ∷ n.symbols

-- how many options come to be open before the next id
abbrev pub opened : OptionStage → ℕ
opened stage.Idle = 0
opened stage.Done = 0
opened stage.Id = 0
opened stage.Name = 0
opened _ = 1

abbrev pub HasRoom : OptionStage → Nest → Type 0
HasRoom s n = n.height + opened s ≤ n.room

-- the same of what is still to be read, in a reader with these limits
abbrev pub Fits : {A : Type 0} → Asked → Remaining A → Type 0
Fits l r = HasRoom r.stage r.open_options × (r.open_options.room ≡ l.depth)

abbrev pub symbols_of : {A : Type 0} → Remaining A → List TypeSymbol
symbols_of r = stage_symbols r.stage r.open_options

-- ---- one item

-- the number that a [short] is
abbrev pub short_in : FieldValue → ℕ
short_in (Short n) = n
short_in _ = 0

-- what an item of this value makes of what is still to be read
abbrev pub item_step : Rules → TypePlace → List TypeSymbol → FieldValue → Step TypeEvent TypePlace
item_step l p [] v = Idles
item_step l p (Option_at depth ∷ rest) v =
    option_step l depth rest p (kind_or_lenient (beside_number (short_in v) kinds) l.lenient)
item_step l p (Text_of f ∷ rest) v = Emit p.offset (IsField f v) (type_place p (settled rest p.nodes))
item_step l p (Fields_of named depth ∷ rest) v =
    let n = short_in v in
    Emit p.offset (IsField field.Fields (Count n))
    (type_place p (fields_settled named depth n rest p.nodes))
item_step l p (Whole i ∷ rest) v = Idles

-- the event that a part is, whose text lies in this input or this buffer
abbrev pub event_at : TypeOutline → (input buffer : List ℕ) → TypeEvent
event_at (part.Node k) input buffer = IsNode k
event_at (part.Text f i) input buffer = IsField f (item_value i input buffer)
event_at (part.Count n) input buffer = IsField field.Fields (Count n)

-- the part that an item is, by what is read first
abbrev pub IsPart : List TypeSymbol → FieldOutline → TypeOutline → Type 0
IsPart (Option_at depth ∷ rest) i q = (k : Kind) × (q ≡ part.Node k)
IsPart (Text_of f ∷ rest) i q = q ≡ part.Text f i
IsPart (Fields_of named depth ∷ rest) i q = (n : ℕ) × (q ≡ part.Count n)
IsPart ss i q = ⊥

-- A step gives this part, and leaves these symbols and these nodes; or it refuses, and the nodes stay.
abbrev pub Goes : Step TypeEvent TypePlace → TypePlace → (input buffer : List ℕ) → Result TypeOutline Reason
    → List TypeSymbol → List Node → Type 0
Goes s p input buffer (Ok q) symbols nodes = s ≡ Emit p.offset (event_at q input buffer) (type_place p (symbols, nodes))
Goes s p input buffer (Err why) symbols nodes = (s ≡ Refuses (p.offset, why)) × (nodes ≡ p.nodes)

abbrev pub Follows : Rules → (at stop : ℕ) → List TypeSymbol → List Node → FieldValue → (input buffer : List ℕ)
    → Result TypeOutline Reason → List TypeSymbol → List Node → Type 0
Follows l at stop symbols nodes v input buffer result symbols' nodes' =
    let p : TypePlace = record { offset = at; stop = stop; symbols = symbols; nodes = nodes } in
    Goes (item_step l p symbols v) p input buffer result symbols' nodes'

-- What an item makes of what is still to be read, wherever it begins and its bytes lie.
abbrev pub FollowsItem : {A : Type 0} → Rules → Remaining A → Table → FieldOutline → Result TypeOutline Reason
    → Remaining A → Table → Type 0
FollowsItem l old t i result new t' = (at stop : ℕ) (input buffer : List ℕ)
    → Follows l at stop (symbols_of old) t.nodes (item_value i input buffer) input buffer
    result (symbols_of new) t'.nodes

-- The same of an item that is this number.
abbrev pub FollowsId : {A : Type 0} → Rules → Remaining A → Table → (id : ℕ) → Result TypeOutline Reason
    → Remaining A → Table → Type 0
FollowsId l old t id result new t' = (at stop : ℕ) (v : FieldValue) (input buffer : List ℕ) → short_in v ≡ id
    → Follows l at stop (symbols_of old) t.nodes v input buffer result (symbols_of new) t'.nodes

-- ---- what the table holds on the way

-- the number that an item is; 0 where it is no [short]
abbrev pub number_of : FieldOutline → ℕ
number_of (item.Plain v) = short_in (value_of v)
number_of (item.Content f l) = 0

-- Each type that is whole before the next item leaves a table that holds types.
abbrev pub Closes : List TypeSymbol → List Node → Type 0
Closes (Whole i ∷ rest) nodes = HoldsTypes (with_span i nodes) × Closes rest (with_span i nodes)
Closes ss nodes = Unit {0}

-- So does all that an item does to it which is this number or a text.
abbrev pub Keeps : Rules → List TypeSymbol → List Node → ℕ → Type 0
Keeps l (Option_at depth ∷ rest) nodes n =
    (k : Kind) → kind_or_lenient (beside_number n kinds) l.lenient ≡ Some k → depth ≤ l.depth → length nodes < l.entries
    → Closes (parameters_of k depth ++ Whole (length nodes) ∷ rest) (nodes ++ begun_node k ∷ [])
Keeps l (Text_of f ∷ rest) nodes n = Closes rest nodes
Keeps l (Fields_of named depth ∷ rest) nodes n =
    HoldsTypes (with_arity n nodes) × Closes (symbol_copies n (inner_symbols named depth) ++ rest) (with_arity n nodes)
Keeps l ss nodes n = Unit {0}

-- ---- what is whole before the next item

-- This is read next, with these options around it, where what is left was this.
pub record Settles (left : Nest) (old : Table) (s : OptionStage) (n : Nest) (new : Table) : Type 0 where
  pub is : ◌≡◌ {A = List TypeSymbol × List Node} (stage_symbols s n, new.nodes) (settled left.symbols old.nodes)
  pub under_way : is_under_way s ≡ true
  pub closed : opened s ≡ 0
  pub within : n.height ≤ left.room
  pub around : n.room ≡ left.room
  pub table : new.room ≡ old.room
  pub same : length new.nodes ≡ length old.nodes
