-- Texts in the fields of CSV (section 2 of RFC 4180).
use Rattle.std.specs.Prelude.{ℕ, Bool, ◌||◌, ◌==◌, if◌then◌else◌, List, [], ◌∷◌, ◌++◌, codes}
use Rattle.std.specs.List.{flat_map}

-- one of these two bytes
abbrev pub is_mark : (a b : ℕ) → ℕ → Bool
is_mark a b x = (x == a) || (x == b)

-- a text with each of these two bytes twice
abbrev pub doubled : (a b : ℕ) → List ℕ → List ℕ
doubled a b = flat_map (λ x. if is_mark a b x then x ∷ x ∷ [] else x ∷ [])

-- a field: in quotes, where a quote is doubled
abbrev pub text_field : List ℕ → List ℕ
text_field text = codes "\"" ++ (doubled 34 34 text ++ codes "\"")

-- A text among the items of a field: in single quotes, where a single quote is doubled, as in CQL. A quote is doubled
-- since the field is in quotes.
abbrev pub text_item : List ℕ → List ℕ
text_item text = codes "'" ++ (doubled 39 34 text ++ codes "'")
