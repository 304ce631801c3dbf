-- Frames whose cells no given types are used for.
use Rattle.std.specs.Prelude.{◌≡◌, ℕ, ◌++◌, false, List, [], All}
use Rattle.cqlp_note.specs.declared.field.Field.TheVariants as field
use Rattle.cqlp_note.specs.Field.{FieldValue}
use Rattle.cqlp_note.specs.Heading.{has}
use Rattle.cqlp_note.specs.Limits.{Rules}
use Rattle.cqlp_grammar.specs.Events.{Event, Holds}
use Rattle.cqlp_grammar.specs.Productions.{number_in}
use Rattle.cqlp_decode.specs.Reading.{Place, Gifts, Reads, start_with, is_in_use}
use Rattle.cqlp_decode.specs.Streams.{is_open}

-- While the caller gives this, these bytes are read as whole frames: they say these events, no frame is open after
-- them, and no byte is left.
abbrev pub AreWholeFrames : Rules → Gifts → List ℕ → List (ℕ × Event) → Type 0
AreWholeFrames l gifts s es = (p : Place) × Reads l (start_with gifts) s es p [] × (is_open es ≡ false)

-- No given types are in use where these bytes say the events es after those before: wherever the reading is after a
-- front of es, none are. (They are in use from the count of a page's rows to the end of its frame.)
abbrev pub NoneInUse : Rules → Gifts → List ℕ → (before es : List (ℕ × Event)) → Type 0
NoneInUse l gifts bytes before es =
    (front back : List (ℕ × Event)) (p : Place) (left : List ℕ)
    → es ≡ front ++ back → Reads l (start_with gifts) bytes (before ++ front) p left → is_in_use p.given ≡ false

-- no flags of metadata with No_metadata (0x04, section 4.2.5.2 of native_protocol_v4.spec)
abbrev pub BringsMetadata : ℕ × Event → Type 0
BringsMetadata e = (v : FieldValue) → e.1 ≡ Holds field.MetaFlags v → has (number_in v) 0x04 ≡ false

-- Given types are for pages without metadata alone: whatever is given, none are in use in frames that do not say the flag
-- No_metadata.
abbrev pub GivenTypesAreForPagesWithoutMetadata : Type 0
GivenTypesAreForPagesWithoutMetadata =
    (l : Rules) (gifts : Gifts) (bytes : List ℕ) (before es : List (ℕ × Event))
    → is_open before ≡ false → All BringsMetadata es → NoneInUse l gifts bytes before es
