-- Lines of events.
use Rattle.std.specs.Prelude.{ℕ, Bool, List, [], ◌∷◌, None}
use Rattle.cqlp_note.specs.Limits.{Rules, rules_of}
use Rattle.cqlp_note.specs.Streams.{counted_up}
use Rattle.cqlp_grammar.specs.Events.{Event}
use Rattle.cqlp_text.specs.Lines.{line}
use Rattle.cqlp_capture_frames.specs.declared.lines.LinePlace.{LinePlace}
use Rattle.cqlp_capture_frames.specs.Lines.{compressed_line, gap_line, joined, line_place, place_text, refused_line, unread_line}
use Rattle.cqlp_capture_frames.specs.Happenings.{Happening, Manner, Begins, Says, Fails, Compressed, Unread, Gap, Ends, Closes}
use Rattle.cqlp_capture_events.specs.declared.limits.TheConstants.{LIMITS}
use Rattle.cqlp_capture_events.specs.declared.lines.Lines.{Lines}

abbrev pub rules : Rules
rules = rules_of LIMITS

-- those of one direction of the connection with this number, where so many frames were not read so far
abbrev pub lines_of : (number : ℕ) → (responses : Bool) → (unread : ℕ) → Lines
lines_of number responses unread = record { place = line_place number responses; unread = unread }

-- an event at an offset in the direction
abbrev pub event_line : LinePlace → (at : ℕ) → Event → List ℕ
event_line s at e = joined (place_text s ∷ line at e ∷ [])

-- ---- what is written of what happens: a frame that begins, ends or closes has no line but that of its event

abbrev pub line_of : Lines → Happening → List ℕ
line_of s (Begins at h) = []
line_of s (Says at e) = event_line s.place at e
line_of s (Fails at why) = refused_line s.place at why
line_of s (Compressed at h) = compressed_line s.place at
line_of s (Unread at h) = unread_line s.place at
line_of s (Gap at n cause) = gap_line s.place at n cause
line_of s (Ends types) = []
line_of s Closes = []

abbrev pub counted : Lines → Happening → Lines
counted s (Unread at h) = record { place = s.place; unread = counted_up 1 s.unread }
counted s h = s

-- No types are given, so that a page without metadata has its cells as they are.
abbrev pub line_manner : Manner Lines
line_manner = record { text = line_of; after = counted; types = λ s at h. None }
