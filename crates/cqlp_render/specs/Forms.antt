-- What is written of the events of a stream, by the form of the text.
use Rattle.std.specs.Prelude.{ℕ, List, [], ◌∷◌}
use Rattle.cqlp_decode.specs.Reading.{Event}
use Rattle.cqlp_render.specs.declared.text_form.TextForm.{TextForm}
use Rattle.cqlp_render.specs.declared.text_form.TextForm.TheVariants as form
use Rattle.cqlp_json.specs.Lines.{json_line, json_lines}
use Rattle.cqlp_text.specs.Lines.{line, lines}
use Rattle.cqlp_text.specs.PageText.{page_part, page_text, place_after}
use Rattle.cqlp_row_text.specs.CsvRows.{csv_part, csv_rows}
use Rattle.cqlp_row_text.specs.JsonRows.{json_part, json_rows}
use Rattle.cqlp_row_text.specs.Places.{table_after}

-- the text of an event at an offset
abbrev pub text_of : TextForm → (at : ℕ) → Event → List ℕ
text_of form.Lines at e = line at e
text_of form.JsonLines at e = json_line at e
text_of (form.Pages place) at e = page_part place e
text_of (form.JsonRows place) at e = json_part place e
text_of (form.CsvRows place) at e = csv_part place e
text_of form.Nothing at e = []

-- the form of what comes after an event
abbrev pub form_after : TextForm → Event → TextForm
form_after form.Lines e = form.Lines
form_after form.JsonLines e = form.JsonLines
form_after (form.Pages place) e = form.Pages (place_after place e)
form_after (form.JsonRows place) e = form.JsonRows (table_after place e)
form_after (form.CsvRows place) e = form.CsvRows (table_after place e)
form_after form.Nothing e = form.Nothing

-- the text of events, one after the other
abbrev pub text : TextForm → List (ℕ × Event) → List ℕ
text form.Lines es = lines es
text form.JsonLines es = json_lines es
text (form.Pages place) es = page_text place es
text (form.JsonRows place) es = json_rows place es
text (form.CsvRows place) es = csv_rows place es
text form.Nothing es = []

-- the form of what comes after events
abbrev pub form_after_all : TextForm → List (ℕ × Event) → TextForm
form_after_all f [] = f
form_after_all f (e ∷ es) = form_after_all (form_after f e.1) es
