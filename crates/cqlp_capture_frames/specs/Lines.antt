-- Lines that say of which connection and direction they are: its number, and `>` for requests, `<` for responses.
use Rattle.std.specs.Prelude.{ℕ, Bool, if◌then◌else◌, List, [], ◌∷◌, ◌++◌, codes, decimal}
use Rattle.cqlp_note.specs.declared.refusal.Reason.{Reason}
use Rattle.cqlp_tcp_reassembly.specs.declared.step.GapCause.{GapCause}
use Rattle.cqlp_tcp_reassembly.specs.declared.step.GapCause.TheVariants.{Lost, Snapped}
use Rattle.cqlp_text.specs.Names.{reason_name}
use Rattle.cqlp_capture_frames.specs.declared.lines.LinePlace.{LinePlace}

abbrev pub joined : List (List ℕ) → List ℕ
joined [] = []
joined (x ∷ xs) = x ++ joined xs

abbrev pub arrow : (responses : Bool) → List ℕ
arrow responses = if responses then codes " < " else codes " > "

abbrev pub line_place : (number : ℕ) → (responses : Bool) → LinePlace
line_place number responses = record { number = number; responses = responses }

abbrev pub place_text : LinePlace → List ℕ
place_text s = joined (decimal s.number ∷ arrow s.responses ∷ [])

-- ---- each says an offset in the direction

-- a frame is refused
abbrev pub refused_line : LinePlace → (at : ℕ) → Reason → List ℕ
refused_line s at why =
    joined (place_text s ∷ decimal at ∷ codes " refused " ∷ reason_name why ∷ codes "\n" ∷ [])

-- a frame is compressed
abbrev pub compressed_line : LinePlace → (at : ℕ) → List ℕ
compressed_line s at = joined (place_text s ∷ decimal at ∷ codes " compressed\n" ∷ [])

-- a frame is not read, as there is no room for its decoder
abbrev pub unread_line : LinePlace → (at : ℕ) → List ℕ
unread_line s at = joined (place_text s ∷ decimal at ∷ codes " unread\n" ∷ [])

-- this many bytes are missing, for this cause
abbrev pub gap_end : GapCause → List ℕ
gap_end Lost = codes "\n"
gap_end Snapped = codes " snapped\n"

abbrev pub gap_line : LinePlace → (at length : ℕ) → GapCause → List ℕ
gap_line s at n cause = joined (place_text s ∷ decimal at ∷ codes " gap " ∷ decimal n ∷ gap_end cause ∷ [])
