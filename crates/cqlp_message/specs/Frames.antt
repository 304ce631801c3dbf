-- Frames: what spells them, and their events (section 2 of native_protocol_v4.spec).
use Rattle.std.specs.Prelude.{◌≡◌, ℕ, ◌+◌, ◌<◌, ◌≤◌, ◌^◌, ◌++◌, Bool, true, not, List, [], ◌∷◌, length, Option, Some, None, Result}
use Rattle.std.specs.Prelude.{Ok, Err, All, FitsSigned, nat_lt, if◌then◌else◌}
use Rattle.std.specs.List.{list_all}
use Rattle.std.specs.Int.{w16}
use Rattle.cqlp_note.specs.declared.field.Field.TheVariants as field
use Rattle.cqlp_note.specs.declared.field.Notation.TheVariants as notation
use Rattle.cqlp_note.specs.declared.header.Header.{Header}
use Rattle.cqlp_note.specs.declared.header.TheConstants.Header.{LONGEST_BODY}
use Rattle.cqlp_note.specs.Field as note
use Rattle.cqlp_note.specs.Heading.{IsLawful, header_bytes}
use Rattle.cqlp_note.specs.Limits.{Rules}
use Rattle.cqlp_type.specs.Trees.{options_in}
use Rattle.cqlp_message.specs.declared.unfit.Unfit.{Unfit}
use Rattle.cqlp_message.specs.declared.unfit.Unfit.TheVariants as unfit
use Rattle.cqlp_message.specs.FrameValues.{Spec, Message, Rows, Prepared, FrameValue}
use Rattle.cqlp_grammar.specs.Events.{Event, Frame, End}
use Rattle.cqlp_message.specs.Parts.{Part, Field_is, Joined, PartsSpell, parts_size, parts_bytes, parts_events, PartsWithin}
use Rattle.cqlp_message.specs.Parts.{counts_fit, texts_fit, cell_fits, PartIsInRange}
use Rattle.cqlp_message.specs.Bodies.{where_some, counted, texts, text, bytes, message_parts, BodySpells}
use Rattle.cqlp_message.specs.Agreement.{is_response, opcode_of, is_directed, frame_agrees, has_its_cells}

-- Section 2.2: the parts before a message, in order: the tracing id, the warnings, the custom payload.
abbrev pub announced_parts : FrameValue → List Part
announced_parts f =
    where_some (λ id. Field_is field.TraceId notation.Uuid (note.Uuid id) ∷ []) f.tracing
    ++ where_some (texts field.Warnings field.Warning) f.warnings
    ++ where_some
    (counted field.PayloadItems (λ i. text field.PayloadKey i.0 ∷ bytes field.PayloadValue i.1 ∷ [])) f.payload

-- The parts of a frame after its header, in order.
abbrev pub frame_parts : FrameValue → List Part
frame_parts f = announced_parts f ++ message_parts f.message

-- the header of a frame whose body, with all that is announced, has this length
abbrev pub header_of : FrameValue → (length : ℕ) → Header
header_of f n =
    record {
      response = is_response f.message;
      flags = f.flags;
      stream = f.stream;
      opcode = opcode_of f.message;
      length = n;
    }

-- ---- spelling

-- The bytes are the header of a frame, the parts that its flags announce, the body of its message, and x bytes more.
-- The header is lawful, and its length is that of all after it.
pub record FrameSpells (f : FrameValue) (x : ℕ) (bytes : List ℕ) : Type 0 where
  pub announced : List ℕ
  pub body : List ℕ
  pub extra : List ℕ
  pub agrees : frame_agrees f ≡ true
  pub cells : has_its_cells f.message ≡ true
  pub parts : PartsSpell (announced_parts f) announced
  pub message : BodySpells f.message body
  pub more : length extra ≡ x
  pub lawful : IsLawful (header_of f (length (announced ++ body ++ extra)))
  pub whole : bytes ≡ header_bytes (header_of f (length (announced ++ body ++ extra))) ++ announced ++ body ++ extra

-- The bytes are frames one after the other, each with this many bytes more.
abbrev pub AllSpell : List (FrameValue × ℕ) → List ℕ → Type 0
AllSpell [] b = b ≡ []
AllSpell (f ∷ fs) b = Joined (FrameSpells f.0 f.1) (AllSpell fs) b

-- the bytes of a frame with x bytes more
abbrev pub frame_size : FrameValue → (x : ℕ) → ℕ
frame_size f x = 9 + (parts_size (frame_parts f) + x)

-- ---- the spelling that is written

-- The bytes of a frame: its header and its parts, with nothing more. Each null has the length -1, and each true is 01;
-- no other choice is left.
abbrev pub frame_bytes : FrameValue → List ℕ
frame_bytes f = header_bytes (header_of f (parts_size (frame_parts f))) ++ parts_bytes (frame_parts f)

-- What is in the way of a frame whatever its cells, each with its name, in the order in which it is reported.
abbrev pub first_obstacles : FrameValue → List (Bool × Unfit)
first_obstacles f =
    (not (is_directed f), unfit.Direction)
    ∷ (not (frame_agrees f), unfit.Parts)
    ∷ (not (list_all counts_fit (frame_parts f)), unfit.TooManyItems)
    ∷ (not (list_all texts_fit (frame_parts f)), unfit.TextTooLong)
    ∷ []

-- What keeps a frame from being spelled, each with its name, in the order in which it is reported.
abbrev pub obstacles : FrameValue → List (Bool × Unfit)
obstacles f =
    first_obstacles f
    ++ (not (has_its_cells f.message), unfit.RowShape)
    ∷ (not (list_all cell_fits (frame_parts f)), unfit.CellType)
    ∷ (nat_lt LONGEST_BODY (parts_size (frame_parts f)), unfit.BodyTooLong)
    ∷ []

-- the first that holds
abbrev pub first_of : {A : Type 0} → List (Bool × A) → Option A
first_of [] = None
first_of (test ∷ tests) = if test.0 then Some test.1 else first_of tests

-- Why no bytes spell a frame, or None where some do.
abbrev pub unfit_of : FrameValue → Option Unfit
unfit_of f = first_of (obstacles f)

abbrev pub if_none : Option Unfit → ℕ → Result ℕ Unfit
if_none None n = Ok n
if_none (Some why) n = Err why

-- how many bytes a frame has, or why no bytes spell it
abbrev pub measure_of : FrameValue → Result ℕ Unfit
measure_of f = if_none (unfit_of f) (frame_size f 0)

-- The numbers in a frame are in the ranges of their types, its texts are UTF-8, and ids and addresses have their lengths,
-- as in each `Frame`.
pub record FrameIsInRange (f : FrameValue) : Type 0 where
  pub flags : f.flags < 2 ^ 8
  pub stream : FitsSigned w16 f.stream
  pub parts : All PartIsInRange (frame_parts f)

-- ---- events

module _ (l : Rules) where
  -- The events of a frame with x bytes more, which begins at this offset: its header, its parts and its end.
  abbrev pub Flat : (offset : ℕ) → FrameValue → (x : ℕ) → List (ℕ × Event)
  Flat at f x =
      (at, Frame (header_of f (parts_size (frame_parts f) + x))) ∷ []
      ++ parts_events l (at + 9) (frame_parts f)
      ++ (at + frame_size f x, End x) ∷ []

  -- The events of frames one after the other, each with this many bytes more.
  abbrev pub FlatAll : (offset : ℕ) → List (FrameValue × ℕ) → List (ℕ × Event)
  FlatAll at [] = []
  FlatAll at (f ∷ fs) = Flat at f.0 f.1 ++ FlatAll (at + frame_size f.0 f.1) fs

-- ---- limits

-- all type options of the columns, the inner ones counted
abbrev pub options_among : List Spec → ℕ
options_among [] = 0
options_among (c ∷ specs) = options_in c.tree + options_among specs

abbrev pub options_described : Option (List Spec) → ℕ
options_described None = 0
options_described (Some specs) = options_among specs

-- the type options of one metadata are no more than the caller's limit
abbrev pub TypesWithin : Rules → Message → Type 0
TypesWithin l (Rows p) = options_described p.meta.specs ≤ l.entries
TypesWithin l (Prepared p) = (options_among p.specs ≤ l.entries) × (options_described p.result.specs ≤ l.entries)
TypesWithin l m = Unit {0}

-- A frame is within the caller's limits.
pub record IsWithin (l : Rules) (f : FrameValue) : Type 0 where
  pub parts : PartsWithin l (frame_parts f)
  pub types : TypesWithin l f.message
  pub typed : l.types ≡ true
