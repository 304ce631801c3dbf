-- Columns of a line.
use Rattle.std.specs.Prelude.{ℕ, ◌-◌, ◌*◌, ◌/◌, List, [], ◌∷◌, ◌++◌, codes, decimal, length, max, min, replicate}
use Rattle.cqlp_text.specs.CellText.{digits}

-- texts one after the other
abbrev pub joined : List (List ℕ) → List ℕ
joined [] = []
joined (text ∷ texts) = text ++ joined texts

-- a text behind so many spaces that both have this width; longer ones have none
abbrev pub padded : (width : ℕ) → List ℕ → List ℕ
padded width text = joined (replicate (width - length text) 32 ∷ text ∷ [])

abbrev pub text_column : (width : ℕ) → List ℕ → List ℕ
text_column width text = joined (codes " " ∷ padded width text ∷ [])

abbrev pub number_column : (width n : ℕ) → List ℕ
number_column width n = text_column width (decimal n)

-- nanoseconds as milliseconds, cut to the microsecond; the width is that of the whole ones
abbrev pub time_column : (width nanoseconds : ℕ) → List ℕ
time_column width n = joined (number_column width (n / 1_000_000) ∷ codes "." ∷ digits 3 (n / 1_000) ∷ [])

-- ---- a share in thousandths, in hundredths

abbrev pub share_of : (time total : ℕ) → ℕ
share_of time total = min (time * 1_000 / max total 1) 1_000

abbrev pub share_text : (share : ℕ) → List ℕ
share_text share = joined (number_column 3 (share / 10) ∷ codes "." ∷ digits 1 share ∷ [])
