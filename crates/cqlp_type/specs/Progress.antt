-- Where the reader of a type option is, and what a call makes of it. Read the record of the reader first, then `Advances` at the end, what the
-- input makes of an option. What a call means for the whole option is in Pushing.
use Rattle.std.specs.Prelude.{◌≡◌, ℕ, ◌+◌, ◌-◌, ◌<◌, ◌≤◌, ◌++◌, Bool, true, false, List, [], ◌∷◌, length, if◌then◌else◌}
use Rattle.cqlp_note.specs.declared.field.Notation.{Notation}
use Rattle.cqlp_note.specs.declared.field.Notation.TheVariants as notation
use Rattle.cqlp_note.specs.declared.head.Wanted.{Wanted}
use Rattle.cqlp_note.specs.declared.refusal.Reason.{Reason}
use Rattle.cqlp_note.specs.declared.limits.Asked.{Asked}
use Rattle.cqlp_note.specs.Reader.{Said, More, Bad, Got, says}
use Rattle.cqlp_note.specs.Field.{Text}
use Rattle.cqlp_note.specs.Step.{Emitted}
use Rattle.cqlp_note.specs.Limits.{Rules, rules_asked, limit_of}
use Rattle.cqlp_note.specs.Partial.{FieldState, item_value, CanLend, content_bytes}
use Rattle.cqlp_note.specs.Field.{content_length}
use Rattle.cqlp_kind.specs.declared.node.Node.{Node}
use Rattle.cqlp_type.specs.declared.remaining.OptionStage.{OptionStage}
use Rattle.cqlp_type.specs.declared.advance.TypeOutline.{TypeOutline}
use Rattle.cqlp_type.specs.declared.advance.TypeOutline.TheVariants as part
use Rattle.cqlp_type.specs.declared.advance.TypeAdvance.{TypeAdvance}
use Rattle.cqlp_type.specs.declared.advance.TypeAdvance.TheVariants as advance
use Rattle.cqlp_kind.specs.TypeStep.{TypeSymbol, Option_at, Text_of, Whole, TypeEvent, IsNode, IsField, TypePlace, type_step}
use Rattle.cqlp_type.specs.Table.{Table}
use Rattle.cqlp_type.specs.OpenOptions.{Nest}
use Rattle.cqlp_type.specs.Remaining.{is_under_way, stage_symbols, event_at}

-- What a caller knows of a `TypeReader`: the limits; whether an option is under way, and where its frame ends; the
-- offset of the item that is read now, what is still to be read, and how many options are open around it; whether the
-- item has been begun in the caller's `Partial`, and how many of its bytes have come.
pub record TypeState : Type 0 where
  pub rules : Rules
  pub under_way : Bool
  pub offset : ℕ
  pub stop : ℕ
  pub symbols : List TypeSymbol
  pub height : ℕ
  pub begun : Bool
  pub taken : ℕ

abbrev pub progress : Asked → (offset stop : ℕ) → OptionStage → Nest → (begun : Bool) → (taken : ℕ) → TypeState
progress l offset stop s n begun taken =
    record {
      rules = rules_asked l;
      under_way = is_under_way s;
      offset = offset;
      stop = stop;
      symbols = stage_symbols s n;
      height = n.height;
      begun = begun;
      taken = taken;
    }

-- a reader that has read nothing
abbrev pub new_reader : Rules → TypeState
new_reader l =
    record {
      rules = l;
      under_way = false;
      offset = 0;
      stop = 0;
      symbols = [];
      height = 0;
      begun = false;
      taken = 0;
    }

-- an option that begins here
abbrev pub started : TypeState → (offset stop : ℕ) → TypeState
started r offset stop =
    record r {
      under_way = true;
      offset = offset;
      stop = stop;
      symbols = Option_at 1 ∷ [];
      height = 0;
      begun = false;
      taken = 0;
    }

-- no option is under way any more
abbrev pub stopped : TypeState → TypeState
stopped r = record r { under_way = false; symbols = []; height = 0; begun = false; taken = 0 }

abbrev pub place_of : TypeState → List Node → TypePlace
place_of r nodes = record { offset = r.offset; stop = r.stop; symbols = r.symbols; nodes = nodes }

-- ---- the caller's `Partial`

abbrev pub notation_of : TypeSymbol → Notation
notation_of (Text_of f) = notation.Text16
notation_of _ = notation.Short

-- what is asked of the `Partial`, in a frame that ends at `stop`
abbrev pub IsFor : Rules → (offset stop : ℕ) → List TypeSymbol → Wanted → Type 0
IsFor l offset stop [] w = ⊥
IsFor l offset stop (Whole i ∷ ss) w = ⊥
IsFor l offset stop (s ∷ ss) w =
    w ≡ record { notation = notation_of s; limit = limit_of l (notation_of s); at = offset; room = stop - offset }

-- The `Partial` has room for the texts, and reads the item if that has begun.
pub record IsShared (r : TypeState) (p : FieldState) : Type 0 where
  pub room : r.rules.text ≤ p.room
  pub same : p.under_way ≡ r.begun
  pub item : r.begun ≡ true → IsFor r.rules r.offset r.stop r.symbols p.field
  pub taken : r.begun ≡ true → length p.seen ≡ r.taken

-- the bytes of the item that have come
abbrev pub pending : TypeState → FieldState → List ℕ
pending r p = if r.begun then p.seen else []

-- ---- one call

-- an option that goes on after an item, here and with this still to be read
abbrev pub after_item : TypeState → (offset : ℕ) → List TypeSymbol → (height : ℕ) → TypeState
after_item r offset symbols height =
    record r { under_way = true; offset = offset; symbols = symbols; height = height; begun = false; taken = 0 }

-- what the step at this place says of these bytes
abbrev pub step_says : TypeState → List Node → List ℕ → Said (Emitted TypeEvent TypePlace) (ℕ × Reason)
step_says r nodes bytes = says (type_step r.rules (place_of r nodes)) 0 bytes

-- a text that can be lent
abbrev pub CanLendPart : TypeOutline → (input buffer : List ℕ) → Type 0
CanLendPart (part.Text f i) input buffer =
    CanLend i input buffer × ((s : List ℕ) × (item_value i input buffer ≡ Text s))
CanLendPart q input buffer = Unit {0}

-- the bytes of an event that a limit counts
abbrev pub text_length : TypeEvent → ℕ
text_length (IsNode k) = 0
text_length (IsField f v) = content_length v

-- those bytes
abbrev pub text_bytes : TypeEvent → List ℕ
text_bytes (IsNode k) = []
text_bytes (IsField f v) = content_bytes v

-- All of the input belongs to the item, which goes on.
pub record Waits (old : TypeState) (p : FieldState) (t : Table) (input : List ℕ) (used : ℕ)
    (new : TypeState) (p' : FieldState) (t' : Table) : Type 0 where
  pub all : used ≡ length input
  pub is : step_says old t.nodes (pending old p ++ input) ≡ More
  pub pending : pending new p' ≡ pending old p ++ input
  pub reader : new ≡ record old { begun = true; taken = new.taken }
  pub shared : IsShared new p'
  pub room : p'.room ≡ p.room
  pub table : t' ≡ t

-- The first `used` bytes of the input end an item, and none of the next has come. Where the content of a text lies
-- whole in them, the buffer is empty; else it holds the content.
pub record Ends (old : TypeState) (p : FieldState) (t : Table) (input : List ℕ) (at used : ℕ) (q : TypeOutline)
    (new : TypeState) (p' : FieldState) (t' : Table) : Type 0 where
  pub within : used ≤ length input
  pub step : Emitted TypeEvent TypePlace
  pub is : step_says old t.nodes (pending old p ++ input) ≡ Got step (length (pending old p) + used)
  pub place : step.at ≡ at
  pub event : step.event ≡ event_at q input p'.content
  pub after : step.after (length (pending old p) + used) ≡ place_of new t'.nodes
  pub forward : old.offset < new.offset
  pub reader : new ≡ after_item old new.offset new.symbols new.height
  pub shared : IsShared new p'
  pub room : p'.room ≡ p.room
  pub can_lend : CanLendPart q input p'.content
  pub lent : text_length (event_at q input p'.content) ≤ used → p'.content ≡ []
  pub held : used < text_length (event_at q input p'.content) → p'.content ≡ text_bytes (event_at q input p'.content)
  pub table : t'.room ≡ t.room
  pub entries : length t.nodes ≤ old.rules.entries → length t'.nodes ≤ old.rules.entries

-- What the input makes of an option.
abbrev pub Advances : TypeState → FieldState → Table → List ℕ → TypeAdvance → TypeState → FieldState → Table → Type 0
Advances old p t input (advance.More used) new p' t' = Waits old p t input used new p' t'
Advances old p t input (advance.Item at used q) new p' t' = Ends old p t input at used q new p' t'
Advances old p t input advance.Done new p' t' =
    (old.symbols ≡ []) × (new ≡ stopped old) × (p' ≡ p) × (p.under_way ≡ false) × (t' ≡ t)
Advances old p t input (advance.Refused r) new p' t' =
    (step_says old t.nodes (pending old p ++ input) ≡ Bad (r.at, r.why))
    × (new ≡ stopped old)
    × (p'.under_way ≡ false)
    × (p'.content ≡ [])
    × (p'.room ≡ p.room)
    × (t' ≡ t)
