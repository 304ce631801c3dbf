-- Types of the pages of statements by their ids.
use Rattle.std.specs.Prelude.{ℕ, List, [], ◌∷◌, map, Option, Some, None, Vec, if◌then◌else◌}
use Rattle.std.specs.Str.{bytes_eq}
use Rattle.cqlp_type.specs.Table.{Table}

-- ids with tables of types
abbrev pub Given : Type 0
Given = List (List ℕ × Table)

-- the first table that this id has
abbrev pub table_given : Given → (id : List ℕ) → Option Table
table_given [] id = None
table_given ((own, table) ∷ g) id = if bytes_eq id own then Some table else table_given g id

-- what the entries of a map have
abbrev pub given_in : {A : Type 0} → List (Vec ℕ A × Table) → Given
given_in es = map (λ e. (e.0.items, e.1)) es
