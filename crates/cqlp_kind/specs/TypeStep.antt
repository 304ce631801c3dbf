-- How a type option is read (section 4.2.5.2 of native_protocol_v4.spec).
use Rattle.std.specs.Prelude.{ℕ, zero, suc, ◌+◌, ◌-◌, ◌++◌, Bool, true, false, List, [], ◌∷◌, length, Option, Some, None, nat_lt}
use Rattle.std.specs.Prelude.{nat_le, if◌then◌else◌}
use Rattle.std.specs.Int.{w16}
use Rattle.cqlp_note.specs.declared.field.Field.{Field}
use Rattle.cqlp_note.specs.declared.field.Field.TheVariants as field
use Rattle.cqlp_note.specs.declared.field.Notation.TheVariants as notation
use Rattle.cqlp_note.specs.declared.refusal.Reason.TheVariants.{Overrun, BadType, TooDeep, TooMany}
use Rattle.cqlp_note.specs.Reader.{Refuses, Idles, number_of}
use Rattle.cqlp_note.specs.Field.{FieldValue, Count, field_of}
use Rattle.cqlp_note.specs.Step.{Step, Emit, after_field}
use Rattle.cqlp_note.specs.Limits.{Rules}
use Rattle.cqlp_note.specs.Heading.{beside_number}
use Rattle.cqlp_kind.specs.declared.kind.Kind.{Kind}
use Rattle.cqlp_kind.specs.declared.kind.Kind.TheVariants as kind
use Rattle.cqlp_kind.specs.declared.node.Node.{Node}
use Rattle.cqlp_kind.specs.Types.{kinds}

-- What is still to be read of a type option.
pub data TypeSymbol : Type 0 where
  -- an option at this depth
  Option_at : ℕ → TypeSymbol
  -- a text among its parameters
  Text_of : Field → TypeSymbol
  -- the number of inner types, which have names or have none, and this depth
  Fields_of : (named : Bool) → (depth : ℕ) → TypeSymbol
  -- the node with this number is whole
  Whole : ℕ → TypeSymbol

-- What is handed out of an option: its kind, or another item and the field that it is.
pub data TypeEvent : Type 0 where
  IsNode : Kind → TypeEvent
  IsField : Field → FieldValue → TypeEvent

-- Where the reading of an option is: at this offset, in a frame that ends at `stop`, with these symbols still to
-- be read, and these nodes read since the metadata began.
pub record TypePlace : Type 0 where
  pub offset : ℕ
  pub stop : ℕ
  pub symbols : List TypeSymbol
  pub nodes : List Node

-- n times these symbols
abbrev pub symbol_copies : ℕ → List TypeSymbol → List TypeSymbol
symbol_copies zero symbols = []
symbol_copies (suc n) symbols = symbols ++ symbol_copies n symbols

-- the parameters of an option of this kind at this depth
abbrev pub parameters_of : Kind → ℕ → List TypeSymbol
parameters_of kind.Custom depth = Text_of field.Class ∷ []
parameters_of kind.List depth = Option_at (depth + 1) ∷ []
parameters_of kind.Set depth = Option_at (depth + 1) ∷ []
parameters_of kind.Map depth = Option_at (depth + 1) ∷ Option_at (depth + 1) ∷ []
parameters_of kind.Udt depth = Text_of field.Keyspace ∷ Text_of field.TypeName ∷ Fields_of true (depth + 1) ∷ []
parameters_of kind.Tuple depth = Fields_of false (depth + 1) ∷ []
parameters_of _ depth = []

-- how many inner types the kind of an option has; those of a udt and of a tuple are counted later
abbrev pub arity_of : Kind → ℕ
arity_of kind.List = 1
arity_of kind.Set = 1
arity_of kind.Map = 2
arity_of _ = 0

-- the node of a type that begins
abbrev pub begun_node : Kind → Node
begun_node k = record { kind = k; arity = arity_of k; span = 0 }

-- one inner option, with its name before it or with none
abbrev pub inner_symbols : Bool → ℕ → List TypeSymbol
inner_symbols true depth = Text_of field.FieldName ∷ Option_at depth ∷ []
inner_symbols false depth = Option_at depth ∷ []

-- the last node has this many inner types
abbrev pub with_arity : ℕ → List Node → List Node
with_arity n [] = []
with_arity n (x ∷ []) = record x { arity = n } ∷ []
with_arity n (x ∷ y ∷ xs) = x ∷ with_arity n (y ∷ xs)

-- node i is whole, and takes in all from there on
abbrev pub with_span : ℕ → List Node → List Node
with_span i [] = []
with_span zero (x ∷ xs) = record x { span = length (x ∷ xs) } ∷ xs
with_span (suc i) (x ∷ xs) = x ∷ with_span i xs

-- no symbol represents nothing
abbrev pub settled : List TypeSymbol → List Node → List TypeSymbol × List Node
settled [] nodes = ([], nodes)
settled (Whole i ∷ rest) nodes = settled rest (with_span i nodes)
settled (Option_at d ∷ rest) nodes = (Option_at d ∷ rest, nodes)
settled (Text_of f ∷ rest) nodes = (Text_of f ∷ rest, nodes)
settled (Fields_of named d ∷ rest) nodes = (Fields_of named d ∷ rest, nodes)

-- the place after an item of this many bytes
abbrev pub type_place : TypePlace → List TypeSymbol × List Node → (used : ℕ) → TypePlace
type_place p s used = record { offset = p.offset + used; stop = p.stop; symbols = s.0; nodes = s.1 }

-- Lenient: an option of an id that no kind has is a type that is not known.
abbrev pub kind_or_lenient : Option Kind → (lenient : Bool) → Option Kind
kind_or_lenient (Some k) lenient = Some k
kind_or_lenient None true = Some kind.Raw
kind_or_lenient None false = None

-- what an id makes of an option at this depth: no kind has it, or the option is too deep or one too many, or its
-- node is added
abbrev pub option_step : Rules → (depth : ℕ) → List TypeSymbol → TypePlace → Option Kind → Step TypeEvent TypePlace
option_step l depth rest p None = Refuses (p.offset, BadType)
option_step l depth rest p (Some k) =
    if nat_lt l.depth depth then Refuses (p.offset, TooDeep)
    else if nat_le l.entries (length p.nodes) then Refuses (p.offset, TooMany)
    else Emit p.offset (IsNode k)
    (type_place p (settled (parameters_of k depth ++ Whole (length p.nodes) ∷ rest) (p.nodes ++ begun_node k ∷ [])))

abbrev pub count_in : FieldValue → ℕ
count_in (Count n) = n
count_in _ = 0

-- what is left after the number of inner types, and the nodes then
abbrev pub fields_settled : (named : Bool) → (depth count : ℕ) → List TypeSymbol → List Node
    → List TypeSymbol × List Node
fields_settled named depth count rest nodes =
    settled (symbol_copies count (inner_symbols named depth) ++ rest) (with_arity count nodes)

module _ (l : Rules) (p : TypePlace) where
  abbrev pub type_step_at : List TypeSymbol → Step TypeEvent TypePlace
  type_step_at [] = Idles
  type_step_at (Option_at depth ∷ rest) =
      number_of (p.offset, Overrun) 2 w16 (p.stop - p.offset) (λ n.
      option_step l depth rest p (kind_or_lenient (beside_number n kinds) l.lenient))
  type_step_at (Text_of f ∷ rest) =
      after_field p.offset (field_of notation.Text16 l.text (p.stop - p.offset)) (λ v.
      Emit p.offset (IsField f v) (type_place p (settled rest p.nodes)))
  type_step_at (Fields_of named depth ∷ rest) =
      after_field p.offset (field_of notation.Count16 0 (p.stop - p.offset)) (λ v.
      Emit p.offset (IsField field.Fields v) (type_place p (fields_settled named depth (count_in v) rest p.nodes)))
  type_step_at (Whole i ∷ rest) = Idles

-- one step of reading type options
abbrev pub type_step : Rules → TypePlace → Step TypeEvent TypePlace
type_step l p = type_step_at l p p.symbols
