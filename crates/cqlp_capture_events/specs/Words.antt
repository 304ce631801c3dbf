-- What is said of frames in the last line, of which so many were not read.
use Rattle.std.specs.Prelude.{ℕ, ◌==◌, List, [], ◌++◌, codes, if◌then◌else◌}
use Rattle.cqlp_capture_streams.specs.Endings.{count_words}

-- why not all were read, in a line before it
abbrev pub events_note : (unread : ℕ) → List ℕ
events_note n = if n == 0 then [] else codes "cqlp: not all frames were read: more than 128 came at one time\n"

abbrev pub events_words : (unread : ℕ) → List ℕ
events_words n = codes "events" ++ count_words (codes "Unread") n
