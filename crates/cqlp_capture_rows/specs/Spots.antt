-- Lines of pages, which begin with the number of their connection.
use Rattle.std.specs.Prelude.{ℕ, List, [], ◌∷◌, codes, decimal}
use Rattle.std.specs.Fmt.{signed_decimal}
use Rattle.cqlp_note.specs.declared.header.Header.{Header}
use Rattle.cqlp_capture_frames.specs.Lines.{joined}
use Rattle.cqlp_capture_rows.specs.declared.spot.Spot.{Spot}
use Rattle.cqlp_capture_rows.specs.declared.spot.FrameSpot.{FrameSpot}

abbrev pub spot : (number at : ℕ) → Spot
spot number at = record { number = number; at = at }

abbrev pub frame_spot : Spot → Header → FrameSpot
frame_spot s header = record { spot = s; header = header }

-- the page of a frame
abbrev pub page_line : FrameSpot → List ℕ
page_line s =
    joined (decimal s.spot.number ∷ codes ":" ∷ signed_decimal s.header.stream ∷ codes " " ∷ decimal s.spot.at ∷ codes "\n" ∷ [])
