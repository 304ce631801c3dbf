-- The options around the one that is read, and what is still to be read of them.
use Rattle.std.specs.Prelude.{◌≡◌, ℕ, ◌+◌, ◌^◌, ◌<◌, ◌≤◌, ◌++◌, Bool, List, [], ◌∷◌, length}
use Rattle.cqlp_type.specs.declared.open_options.OpenOption.{OpenOption}
use Rattle.cqlp_type.specs.declared.open_options.NextOption.{NextOption}
use Rattle.cqlp_type.specs.declared.open_options.NextOption.TheVariants as next
use Rattle.cqlp_kind.specs.TypeStep.{TypeSymbol, Whole, symbol_copies, inner_symbols}

-- what is still to be read of an option at this depth
abbrev pub open_symbols : (depth : ℕ) → OpenOption → List TypeSymbol
open_symbols depth v = symbol_copies v.left (inner_symbols v.named (depth + 1)) ++ Whole v.node ∷ []

-- of all of them, the outermost being at this depth
abbrev pub all_open_symbols : (depth : ℕ) → List OpenOption → List TypeSymbol
all_open_symbols depth [] = []
all_open_symbols depth (v ∷ vs) = all_open_symbols (depth + 1) vs ++ open_symbols depth v

-- What is known of the open options: what is still to be read of them, how many there are, and how many there can be.
pub record Nest : Type 0 where
  pub symbols : List TypeSymbol
  pub height : ℕ
  pub room : ℕ

-- these options, of which there can be this many
abbrev pub nest_of : List OpenOption → (room : ℕ) → Nest
nest_of options room = record { symbols = all_open_symbols 1 options; height = length options; room = room }

-- no more of them than there is room for, whose number has 32 bits
abbrev pub FitIn : (room : ℕ) → List OpenOption → Type 0
FitIn room options = (length options ≤ room) × (room < 2 ^ 32)

-- what is still to be read inside the option of this node, which has this many inner options, and around it
abbrev pub entered_symbols : Nest → (node : ℕ) → (named : Bool) → (count : ℕ) → List TypeSymbol
entered_symbols n node named count =
    symbol_copies count (inner_symbols named (n.height + 1 + 1)) ++ Whole node ∷ n.symbols

-- the same with that option open
abbrev pub entered : Nest → (node : ℕ) → (named : Bool) → (count : ℕ) → Nest
entered n node named count =
    record { symbols = entered_symbols n node named count; height = n.height + 1; room = n.room }

-- what comes next comes first among the symbols
abbrev pub Follows : Nest → NextOption → Nest → Type 0
Follows old (next.Inner named) new =
    (old.symbols ≡ inner_symbols named (old.height + 1) ++ new.symbols)
    × (new.height ≡ old.height)
    × (new.room ≡ old.room)
Follows old (next.Whole node) new =
    (old.symbols ≡ Whole node ∷ new.symbols)
    × (old.height ≡ new.height + 1)
    × (new.room ≡ old.room)
Follows old next.Nothing new = (old.symbols ≡ []) × (new ≡ old)
