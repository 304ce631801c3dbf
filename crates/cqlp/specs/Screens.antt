-- What is known of what a terminal was given.
use Rattle.std.specs.Prelude.{ℕ, List, Option, Some, None}
use Rattle.cqlp.specs.declared.screen.Table.{Table}

-- what was given, where it is known: it is not where lines are cut
abbrev pub contents_of : (known : Option (List ℕ)) → (table : Option Table) → Option (List ℕ)
contents_of known None = known
contents_of known (Some table) = None
