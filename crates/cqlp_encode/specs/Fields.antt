-- Fields on their way to a target.
use Rattle.std.specs.Prelude.{ℕ, List, Option, Some, None}
use Rattle.std.specs.Borrow.{Bor}
use Rattle.cqlp_note.specs.Field.{FieldValue, Bytes}

-- [bytes], wherever they lie
abbrev pub bytes_of : Option (Bor (List ℕ)) → FieldValue
bytes_of None = Bytes None
bytes_of (Some c) = Bytes (Some c.now)
