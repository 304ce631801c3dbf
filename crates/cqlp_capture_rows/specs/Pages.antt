-- What is written of the events of a frame: of a page its text, after a line that says where it comes from.
use Rattle.std.specs.Prelude.{ℕ, Bool, true, false, if◌then◌else◌, List, [], ◌∷◌, ◌++◌, codes, Option, Some, None}
use Rattle.cqlp_note.specs.declared.field.Field.{Field}
use Rattle.cqlp_note.specs.declared.field.Field.TheVariants as field
use Rattle.cqlp_note.specs.Field.{FieldValue}
use Rattle.cqlp_note.specs.Field as value
use Rattle.cqlp_grammar.specs.Events.{Event}
use Rattle.cqlp_grammar.specs.Events as reading
use Rattle.cqlp_text.specs.PageText.{PagePlace, is_rows, no_page, page_part, place_after}
use Rattle.cqlp_capture_prepared.specs.Keeping.{short_enough}
use Rattle.cqlp_capture_rows.specs.declared.spot.FrameSpot.{FrameSpot}
use Rattle.cqlp_capture_rows.specs.Spots.{page_line}

-- what the text of an event depends on of those before it, whether a page has begun that has not ended, and the id of a statement that was named
pub record Page : Type 0 where
  pub place : PagePlace
  pub is_begun : Bool
  pub id : Option (List ℕ)

abbrev pub no_rows : Page
no_rows = record { place = no_page; is_begun = false; id = None }

-- ---- a page begins with the kind of its result (section 4.2.5), and ends with its frame

abbrev pub is_page_kind : Field → FieldValue → Bool
is_page_kind field.ResultKind (value.Int kind) = is_rows kind
is_page_kind f v = false

abbrev pub begins_page : Event → Bool
begins_page (reading.Holds f v) = is_page_kind f v
begins_page e = false

abbrev pub ends_frame : Event → Bool
ends_frame (reading.End extra) = true
ends_frame e = false

abbrev pub is_begun_after : Bool → Event → Bool
is_begun_after is_begun e = if ends_frame e then false else (if begins_page e then true else is_begun)

-- ---- the id of a statement, known up to 64 bytes: a RESULT has none but the one that a PREPARED gives its statement (section 4.2.5.4)

abbrev pub id_in : Field → FieldValue → (known : Option (List ℕ)) → Option (List ℕ)
id_in field.StatementId (value.Bytes (Some id)) known = short_enough id
id_in f v known = known

abbrev pub id_after : Option (List ℕ) → Event → Option (List ℕ)
id_after known (reading.Holds f v) = id_in f v known
id_after known e = known

abbrev pub page_after : Page → Event → Page
page_after p e =
    record { place = place_after p.place e; is_begun = is_begun_after p.is_begun e; id = id_after p.id e }

abbrev pub pages_after : Page → List (ℕ × Event) → Page
pages_after p [] = p
pages_after p (e ∷ es) = pages_after (page_after p e.1) es

-- ---- the text of the events of a frame that begins at a spot

abbrev pub page_line_if : (begins : Bool) → FrameSpot → List ℕ
page_line_if begins s = if begins then page_line s else []

abbrev pub rows_part : FrameSpot → Page → Event → List ℕ
rows_part s p e = page_line_if (begins_page e) s ++ page_part p.place e

abbrev pub rows_text : FrameSpot → Page → List (ℕ × Event) → List ℕ
rows_text s p [] = []
rows_text s p (e ∷ es) = rows_part s p e.1 ++ rows_text s (page_after p e.1) es

-- A page that does not end says so, after its last row, which may not be whole, or in a line of its own.
abbrev pub cut_text : Page → List ℕ
cut_text p = if p.is_begun then codes " cut\n" else []
