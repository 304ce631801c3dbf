-- Fields of headers, and steps that may say why there is no segment.
use Rattle.std.specs.Prelude.{◌≡◌, ℕ, ◌+◌, List, [], ◌∷◌, Result, Ok, Err, slice_index}
use Rattle.std.specs.Int.{w16, w32, from_be_bytes}
use Rattle.cqlp_tcp_segment.specs.declared.reason.NoSegment.{NoSegment}

-- the number in two bytes from this index on, and in four: the highest byte comes first
abbrev pub number_16 : (i : ℕ) → List ℕ → ℕ
number_16 i b = from_be_bytes w16 (slice_index b i ∷ slice_index b (i + 1) ∷ [])

abbrev pub number_32 : (i : ℕ) → List ℕ → ℕ
number_32 i b = from_be_bytes w32 (slice_index b i ∷ slice_index b (i + 1) ∷ slice_index b (i + 2) ∷ slice_index b (i + 3) ∷ [])

-- one step after another, up to the first reason
infixl 10 ◌>>=◌
abbrev pub ◌>>=◌ : {A B : Type 0} → Result A NoSegment → (A → Result B NoSegment) → Result B NoSegment
(Ok x) >>= f = f x
(Err why) >>= f = Err why

-- What a function returned, seen by view, is this.
abbrev pub Gives : {X Y : Type 0} → (X → Y) → Result X NoSegment → Result Y NoSegment → Type 0
Gives view (Ok x) said = said ≡ Ok (view x)
Gives view (Err why) said = said ≡ Err why
