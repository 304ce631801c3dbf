-- How a reader of CSV reads a field in quotes (section 2 of RFC 4180).
use Rattle.std.specs.Prelude.{ℕ, ◌==◌, Bool, true, false, if◌then◌else◌, List, [], ◌∷◌, ◌++◌, Option, Some, None}

-- with text before it
abbrev pub after : List ℕ → Option (List ℕ × List ℕ) → Option (List ℕ × List ℕ)
after text None = None
after text (Some r) = Some (text ++ r.0, r.1)

-- What a field holds, after its first quote, and what comes after its last one; none where it has no last one. Two quotes
-- are one of the text.
abbrev pub read_field : List ℕ → Option (List ℕ × List ℕ)
read_field [] = None
read_field (x ∷ []) = if x == 34 then Some ([], []) else None
read_field (x ∷ y ∷ rest) =
    if x == 34 then (if y == 34 then after (34 ∷ []) (read_field rest) else Some ([], y ∷ rest))
    else after (x ∷ []) (read_field (y ∷ rest))

abbrev pub begins_with_quote : List ℕ → Bool
begins_with_quote [] = false
begins_with_quote (x ∷ rest) = x == 34
