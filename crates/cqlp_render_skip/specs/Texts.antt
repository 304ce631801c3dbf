-- What is written of a stream that is read on after frames whose bodies are refused.
use Rattle.std.specs.Prelude.{◌≡◌, ℕ, Bool, true, false, List, [], ◌∷◌, ◌++◌, codes, decimal}
use Rattle.cqlp_note.specs.declared.refusal.Refusal.{Refusal}
use Rattle.cqlp_decode.specs.Reading.{Event}
use Rattle.cqlp_render.specs.declared.text_form.TextForm.{TextForm}
use Rattle.cqlp_render.specs.declared.text_form.TextForm.TheVariants as forms
use Rattle.cqlp_render.specs.Forms.{form_after_all, text}
use Rattle.cqlp_skip.specs.Pieces.{refusal_from}
use Rattle.cqlp_skip.specs.Stretches.{Stretch, base_after, emitted, stream_offset}
use Rattle.cqlp_text.specs.Lines.{spaced}
use Rattle.cqlp_text.specs.Names.{reason_name}
use Rattle.cqlp_text.specs.PageText.{no_page}
use Rattle.cqlp_row_text.specs.CsvRows.{csv_break}
use Rattle.cqlp_row_text.specs.JsonRows.{json_break}
use Rattle.cqlp_row_text.specs.Places.{no_table}

-- ---- to the output

-- the form in which a stretch begins: no page is under way
abbrev pub afresh : TextForm → TextForm
afresh forms.Lines = forms.Lines
afresh forms.JsonLines = forms.JsonLines
afresh (forms.Pages place) = forms.Pages no_page
afresh (forms.JsonRows place) = forms.JsonRows no_table
afresh (forms.CsvRows place) = forms.CsvRows no_table
afresh forms.Nothing = forms.Nothing

-- What ends the text of a stretch that was given up, from the form that it leaves. Of pages a line break, which ends a row that is under
-- way, and else makes an empty line; of rows as JSON or CSV what ends the line under way, where there is a page.
abbrev pub break_of : TextForm → List ℕ
break_of forms.Lines = []
break_of forms.JsonLines = []
break_of (forms.Pages place) = codes "\n"
break_of (forms.JsonRows place) = json_break place
break_of (forms.CsvRows place) = csv_break place
break_of forms.Nothing = []

-- the text of a stretch that was given up
abbrev pub text_cut : TextForm → List (ℕ × Event) → List ℕ
text_cut form events = text form events ++ break_of (form_after_all form events)

-- the text of stretches that were given up, of which the last comes first
abbrev pub text_before : TextForm → List Stretch → List ℕ
text_before form [] = []
text_before form (x ∷ earlier) = text_before form earlier ++ text_cut form (emitted x.from x.events)

-- the text of these, and of the events of the stretch that comes after them
abbrev pub text_with : TextForm → List Stretch → List (ℕ × Event) → List ℕ
text_with form stretches events = text_before form stretches ++ text form (emitted (base_after stretches) events)

-- ---- to the error output

-- the line of a frame that was passed over: where its header begins, why it was refused, and where
abbrev pub skipped_line : (at : ℕ) → Refusal → List ℕ
skipped_line at r =
    codes "skipped" ++ (spaced (decimal at ∷ reason_name r.why ∷ codes "at" ∷ decimal r.at ∷ []) ++ codes "\n")

-- where the header is of the frame that was passed over last
abbrev pub IsLast : List Stretch → (at : ℕ) → Type 0
IsLast [] at = Unit {0}
IsLast (x ∷ earlier) at = at ≡ stream_offset x.from x.frame.at

-- the lines of the frames that were passed over
abbrev pub lines_before : List Stretch → List ℕ
lines_before [] = []
lines_before (x ∷ earlier) =
    lines_before earlier ++ skipped_line (stream_offset x.from x.frame.at) (refusal_from x.from x.refusal)

-- no table of types was given over these stretches
abbrev pub AreGivenNothing : List Stretch → Type 0
AreGivenNothing [] = Unit {0}
AreGivenNothing (x ∷ earlier) = (x.gifts ≡ []) × AreGivenNothing earlier

-- whether a frame was passed over

abbrev pub any : List Stretch → Bool
any [] = false
any (x ∷ earlier) = true
