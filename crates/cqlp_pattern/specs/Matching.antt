-- Whether a text has a match of a pattern, by the positions that are active behind each of its symbols.
use Rattle.std.specs.Prelude.{ℕ, zero, suc, ◌/◌, ◌^◌, Bool, true, false, not, ◌||◌, ◌==◌, if◌then◌else◌, List, [], ◌∷◌, ◌++◌, bit_and, bit_or, slice_index_or}
use Rattle.cqlp_pattern.specs.declared.pattern.Pattern.{Pattern}

-- those of `next`, and where the position is active those that may follow it
abbrev pub joined : (next active position follow : ℕ) → ℕ
joined next active position follow = if bit_and (active / 2 ^ position) 1 == 1 then bit_or next follow else next

-- the positions that may follow one of the active ones, of those below a number
unfoldable pub followers : (follow : List ℕ) → (active count : ℕ) → ℕ
followers follow active zero = 0
followers follow active (suc n) = joined (followers follow active n) active n (slice_index_or follow n 0)

-- of those and of the first ones of a match, the positions that accept a symbol
abbrev pub step : Pattern → (active symbol : ℕ) → ℕ
step p active symbol = bit_and (bit_or (followers p.follow active 128) p.first) (slice_index_or p.accepts symbol 0)

-- a match ends here
abbrev pub is_done : Pattern → (active : ℕ) → Bool
is_done p active = not (bit_and active p.last == 0)

-- one ends here, or behind one of these symbols
abbrev pub is_found : Pattern → (active : ℕ) → (symbols : List ℕ) → Bool
is_found p active [] = is_done p active
is_found p active (s ∷ ss) = is_done p active || is_found p (step p active s) ss

-- the end of a text, if it is known
abbrev pub end : (is_whole : Bool) → List ℕ
end true = 257 ∷ []
end false = []

-- the symbols of a text are 256 where it begins, its bytes, and 257 where it ends
abbrev pub is_match : Pattern → (text : List ℕ) → (is_whole : Bool) → Bool
is_match p text is_whole = p.is_empty || is_found p (step p 0 256) (text ++ end is_whole)
