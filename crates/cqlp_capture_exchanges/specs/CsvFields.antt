-- Fields of records of CSV (RFC 4180): values as in JSON, but for texts, and nothing in place of one that is not known.
use Rattle.std.specs.Prelude.{ℕ, Bool, true, false, List, [], ◌∷◌, ◌++◌, Option, Some, None, codes}
use Rattle.cqlp_text.specs.CellText.{boolean_text}
use Rattle.cqlp_capture_summary.specs.Shown.{shown_in_field}
use Rattle.cqlp_capture_exchanges.specs.declared.member.Value.{Value}
use Rattle.cqlp_capture_exchanges.specs.declared.member.Value.TheVariants as value
use Rattle.cqlp_capture_exchanges.specs.Members.{value_text}
use Rattle.cqlp_capture_exchanges.specs.Times.{joined}

-- a text of a peer: in quotes, where a quote is doubled, and all else is escaped as in a line
abbrev pub text_field : List ℕ → List ℕ
text_field text = joined (codes "\"" ∷ shown_in_field text ∷ codes "\"" ∷ [])

-- a value, if it is known
abbrev pub if_known : {A : Type 0} → (text : A → List ℕ) → Option A → List ℕ
if_known text None = []
if_known text (Some x) = text x

-- whether all of a text is there that is not there: not, where it was given up
abbrev pub none_whole_field : (is_given_up : Bool) → List ℕ
none_whole_field true = boolean_text false
none_whole_field false = []

-- ---- as the code has them

abbrev pub field_text : Value → List ℕ
field_text value.Null = []
field_text (value.Text text) = text_field text.now
field_text v = value_text v

-- a field, behind another one
abbrev pub field : List ℕ → List ℕ
field text = codes "," ++ text

abbrev pub value_field : Value → List ℕ
value_field v = field (field_text v)
