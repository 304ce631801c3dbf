-- The table that a statement names: the name behind the first FROM, INTO, UPDATE or TRUNCATE, with or without TABLE behind that. A keyspace in front of a
-- name, and the dot between them, belong to it. A name is a word, which counts in lower case, or is in double quotes, which are part of it.
--
-- It is looked for in the statement's fingerprint, where each literal is `?`, and white space and comments are one space: so what is left are words, names in
-- double quotes, spaces and signs.
use Rattle.std.specs.Prelude.{ℕ, ◌+◌, ◌==◌, Bool, ◌||◌, List, [], ◌∷◌, codes, Option, Some, None, if◌then◌else◌}
use Rattle.std.specs.Int.{is_in_range}
use Rattle.std.specs.Str.{bytes_eq}
use Rattle.cqlp_capture_summary.specs.Fingerprints.{fingerprint_of, is_word}
use Rattle.cqlp_capture_summary.specs.Names.{Name}
use Rattle.cqlp_capture_exchanges.specs.Labels.{Label, label, taken}
use Rattle.cqlp_capture_exchanges.specs.declared.table_name.Piece.{Piece}
use Rattle.cqlp_capture_exchanges.specs.declared.table_name.Piece.TheVariants as piece
use Rattle.cqlp_capture_exchanges.specs.declared.table_name.Search.{Search}
use Rattle.cqlp_capture_exchanges.specs.declared.table_name.Stage.{Stage}
use Rattle.cqlp_capture_exchanges.specs.declared.table_name.Stage.TheVariants as stage

abbrev pub search : Stage → Piece → Label → Search
search g p name = record { stage = g; piece = p; name = name }

abbrev pub lower : (b : ℕ) → ℕ
lower b = if is_in_range 65 90 b then b + 32 else b

-- ---- where a piece leads to, by where it comes

abbrev pub is_before_name : (word : List ℕ) → Bool
is_before_name w = bytes_eq w (codes "from") || bytes_eq w (codes "into") || bytes_eq w (codes "update")

abbrev pub behind_word : Stage → (word : List ℕ) → Stage
behind_word stage.Before w = if is_before_name w then stage.Due else if bytes_eq w (codes "truncate") then stage.Truncate else stage.Before
behind_word stage.Truncate w = if bytes_eq w (codes "table") then stage.Due else stage.Name
behind_word stage.Due w = stage.Name
behind_word stage.Dot w = stage.Found
behind_word g w = g

-- a name in double quotes
abbrev pub behind_quoted : Stage → Stage
behind_quoted stage.Truncate = stage.Name
behind_quoted stage.Due = stage.Name
behind_quoted stage.Dot = stage.Found
behind_quoted g = g

-- a sign, or a literal
abbrev pub behind_sign : Stage → Stage
behind_sign stage.Before = stage.Before
behind_sign stage.Name = stage.Found
behind_sign stage.Found = stage.Found
behind_sign g = stage.Missing

abbrev pub behind_piece : Piece → Stage → (word : List ℕ) → Stage
behind_piece piece.Word g w = behind_word g w
behind_piece piece.QuotedEnd g w = behind_quoted g
behind_piece p g w = g

-- ---- a byte

abbrev pub signed : Search → Search
signed s = search (behind_sign s.stage) piece.Between s.name

-- a dot, which belongs to a name
abbrev pub dotted_at : Stage → Search → Search
dotted_at stage.Name s = search stage.Dot piece.Between (taken 46 s.name)
dotted_at g s = signed s

-- the first byte of a word or of a name in double quotes
abbrev pub opened_at : Stage → Piece → (b : ℕ) → Search → Search
opened_at stage.Name p b s = search stage.Found piece.Between s.name
opened_at stage.Dot p b s = search stage.Dot p (taken b s.name)
opened_at stage.Found p b s = s
opened_at stage.Missing p b s = s
opened_at g p b s = search g p (taken b (label [] 0 0))

abbrev pub opened : Piece → (b : ℕ) → Search → Search
opened p b s = opened_at s.stage p b s

-- behind a whole piece
abbrev pub begun : (b : ℕ) → Search → Search
begun b s =
    if b == 32 then search s.stage piece.Between s.name
    else if is_word b then opened piece.Word (lower b) s
    else if b == 34 then opened piece.Quoted b s
    else if b == 46 then dotted_at s.stage s
    else signed s

abbrev pub ended : Search → Search
ended s = search (behind_piece s.piece s.stage s.name.text) piece.Between s.name

abbrev pub in_quotes : (b : ℕ) → Piece
in_quotes b = if b == 34 then piece.QuotedEnd else piece.Quoted

abbrev pub after_at : Piece → (b : ℕ) → Search → Search
after_at piece.Between b s = begun b s
after_at piece.Word b s = if is_word b then search s.stage piece.Word (taken (lower b) s.name) else begun b (ended s)
after_at piece.Quoted b s = search s.stage (in_quotes b) (taken b s.name)
after_at piece.QuotedEnd b s = if b == 34 then search s.stage piece.Quoted (taken b s.name) else begun b (ended s)

abbrev pub after : (b : ℕ) → Search → Search
after b s = after_at s.piece b s

-- ---- a statement

abbrev pub read_from : List ℕ → Search → Search
read_from [] s = s
read_from (b ∷ bs) s = read_from bs (after b s)

-- Behind a name that ends a text, more of it could come, unless the text is whole.
abbrev pub found_at : Stage → (is_whole : Bool) → (name : List ℕ) → Option (List ℕ)
found_at stage.Found is_whole name = Some name
found_at stage.Name is_whole name = if is_whole then Some name else None
found_at g is_whole name = None

abbrev pub found : (is_whole : Bool) → Search → Option (List ℕ)
found is_whole s = found_at (if is_whole then (ended s).stage else s.stage) is_whole s.name.text

abbrev pub table_in : (fingerprint : Name) → Option (List ℕ)
table_in f = found f.is_whole (read_from f.bytes (search stage.Before piece.Between (label [] 0 0)))

abbrev pub table_name : (statement : List ℕ) → (is_whole : Bool) → Option (List ℕ)
table_name statement is_whole = table_in (fingerprint_of statement is_whole)
