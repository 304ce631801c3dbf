-- Texts of statements by their ids.
use Rattle.std.specs.Prelude.{◌≡◌, ℕ, Bool, true, false, ◌==◌, List, [], ◌∷◌, length, map, take, Option, Some, None, Vec, if◌then◌else◌}
use Rattle.std.specs.Str.{bytes_eq}
use Rattle.std.specs.Str.Lossy.{utf8_valid_len}

-- what is kept of a text, and whether that is all of it
pub record StatementText : Type 0 where
  pub text : List ℕ
  pub is_whole : Bool

abbrev pub statement_text : (text : List ℕ) → (is_whole : Bool) → StatementText
statement_text text is_whole = record { text = text; is_whole = is_whole }

-- the longest front that is UTF-8
abbrev pub text_front : List ℕ → List ℕ
text_front bytes = take (utf8_valid_len bytes) bytes

-- of at most 252 bytes
abbrev pub front_of : List ℕ → List ℕ
front_of text = text_front (take 252 text)

abbrev pub kept : List ℕ → StatementText
kept text = statement_text (front_of text) (length (front_of text) == length text)

-- ids with their texts
abbrev pub Texts : Type 0
Texts = List (List ℕ × StatementText)

-- the first text that this id has
abbrev pub text_of : Texts → (id : List ℕ) → Option StatementText
text_of [] id = None
text_of ((own, text) ∷ ts) id = if bytes_eq id own then Some text else text_of ts id

abbrev pub is_none : Texts → Bool
is_none [] = true
is_none (t ∷ ts) = false

-- Each id has the same text in both.
abbrev pub FindAlike : (ts us : Texts) → Type 0
FindAlike ts us = (id : List ℕ) → text_of ts id ≡ text_of us id

-- what the entries of a map have
abbrev pub texts_in : {A : Type 0} → List (Vec ℕ A × StatementText) → Texts
texts_in es = map (λ e. (e.0.items, e.1)) es
