-- Parts of the texts of statements.
use Rattle.std.specs.Prelude.{ℕ, Bool, ◌||◌, ◌==◌, List, [], ◌∷◌, ◌++◌, drop, length, replicate, take}
use Rattle.std.specs.List.{starts_with}
use Rattle.cqlp_capture_exchanges.specs.declared.part.StatementPart.{StatementPart}

-- the text begins so
unfoldable pub is_front : (part text : List ℕ) → Bool
is_front part text = starts_with (λ x y. x == y) text part

-- it does so from some place on; at its end there is only the empty part
abbrev pub is_part : (part text : List ℕ) → Bool
is_part part [] = length part == 0
is_part part (b ∷ bs) = is_front part (b ∷ bs) || is_part part bs

-- ---- a part that is asked for, as it is held: its first 256 bytes

abbrev pub held : (front : List ℕ) → StatementPart
held front = record { bytes = front ++ drop (length front) (replicate 256 0); length = length front }

abbrev pub part_of : (text : List ℕ) → StatementPart
part_of text = held (take 256 text)

abbrev pub bytes_of : StatementPart → List ℕ
bytes_of p = take p.length p.bytes
