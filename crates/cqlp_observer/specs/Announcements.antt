-- The first bytes before a message, in a box where they are kept.
use Rattle.std.specs.Prelude.{Box, List, ℕ, ◌-◌, ◌++◌, length, take, Option, Some, None, [], if◌then◌else◌}
use Rattle.cqlp_note.specs.declared.header.Header.{Header}
use Rattle.cqlp_observer.specs.Keeping.{announces_warnings}

-- none came of those that are kept of a message with this header
abbrev pub none_announced : Header → Option (List ℕ)
none_announced h = if announces_warnings h then Some [] else None

-- As many more are kept as there is room for.
abbrev pub announced_on : List ℕ → Option (List ℕ) → Option (List ℕ)
announced_on b None = None
announced_on b (Some a) = Some (a ++ take (256 - length a) b)

abbrev pub announced_of : {B : Type 0} → Option (Box (List ℕ) B) → Option (List ℕ)
announced_of None = None
announced_of (Some b) = Some b.value
