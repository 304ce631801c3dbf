-- The texts of the warnings of a response, in a line, an object or a record.
use Rattle.std.specs.Prelude.{ℕ, Bool, true, false, ◌&&◌, List, [], ◌∷◌, codes}
use Rattle.std.specs.List.{flat_map}
use Rattle.cqlp_json.specs.Values.{string}
use Rattle.cqlp_text.specs.CellText.{boolean_text}
use Rattle.cqlp_capture_summary.specs.Shown.{shown_in_field, shown_text}
use Rattle.cqlp_capture_exchanges.specs.declared.warning_texts.WarningForm.{WarningForm}
use Rattle.cqlp_capture_exchanges.specs.declared.warning_texts.WarningForm.TheVariants as form
use Rattle.cqlp_capture_exchanges.specs.Times.{joined}
use Rattle.cqlp_capture_exchanges.specs.Warnings.{Listed, Warned, are_whole, texts_in}

-- the quote behind a text, and two points if that is not all of it
abbrev pub closing : (is_whole : Bool) → List ℕ
closing true = codes "\""
closing false = codes "\".."

-- a text behind another one
abbrev pub other_text : WarningForm → Warned → List ℕ
other_text form.Line w = joined (codes " \"" ∷ shown_text w.text ∷ closing w.is_whole ∷ [])
other_text form.Json w = joined (codes "," ∷ string w.text ∷ [])
other_text form.Csv w = joined (codes "; " ∷ shown_in_field w.text ∷ [])

abbrev pub other_texts : WarningForm → Listed → List ℕ
other_texts f l = flat_map (other_text f) (texts_in l)

-- whether all of each text is there
abbrev pub whole_text : (first : Warned) → (others : Listed) → List ℕ
whole_text w l = boolean_text (w.is_whole && are_whole (texts_in l))

-- an array of them
abbrev pub texts_members : (first : Warned) → (others : Listed) → List ℕ
texts_members w l =
    joined (codes ",\"warning_texts\":[" ∷ string w.text ∷ other_texts form.Json l ∷ codes "],\"warning_texts_are_whole\":" ∷ whole_text w l ∷ [])

-- a field with all of them
abbrev pub texts_fields : (first : Warned) → (others : Listed) → List ℕ
texts_fields w l = joined (codes ",\"" ∷ shown_in_field w.text ∷ other_texts form.Csv l ∷ codes "\"," ∷ whole_text w l ∷ [])
