-- A consistency level in a line.
use Rattle.std.specs.Prelude.{ℕ, List, [], ◌∷◌, codes, Option, Some, None}
use Rattle.std.specs.Int.{w16, to_be_bytes}
use Rattle.cqlp_note.specs.Heading.{beside_number}
use Rattle.cqlp_text.specs.Text.{hex_text}
use Rattle.cqlp_capture_exchanges.specs.Replies.{consistency_names}
use Rattle.cqlp_capture_exchanges.specs.Times.{joined}

-- the name of a consistency level, or its two bytes
abbrev pub short_name : Option (List ℕ) → ℕ → List ℕ
short_name (Some name) n = name
short_name None n = hex_text (to_be_bytes w16 n)

abbrev pub consistency_text : Option ℕ → List ℕ
consistency_text None = []
consistency_text (Some level) = joined (codes " " ∷ short_name (beside_number level consistency_names) level ∷ [])
