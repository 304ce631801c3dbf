-- An order of connections in which the newest comes first.
use Rattle.std.specs.Prelude.{ℕ, ◌-◌}

-- the key of a connection in a map: the greater its number, the less its key
abbrev pub newest_first : (number : ℕ) → ℕ
newest_first number = 18446744073709551615 - number
