-- Texts one after the other.
use Rattle.std.proofs.Common.{◌≡◌, ℕ, List, [], ◌∷◌, ◌++◌, Option, refl, sym, ap, ◌∙◌, subst, append_assoc}
use Rattle.std.specs.Io.KnownBytes.{append_known}
use Rattle.cqlp_decode.specs.Reading.{Event}
use Rattle.cqlp_decode.specs.Cells.{Item, GetsAll}
use Rattle.cqlp_decode.specs.Draining.{Passes, fold_events}
use Rattle.cqlp_decode.proofs.Gets.{fold_append}
use Rattle.cqlp_render.specs.declared.text_form.TextForm.{TextForm}
use Rattle.cqlp_render.specs.declared.text_form.TextForm.TheVariants as forms
use Rattle.cqlp_render.specs.Forms.{text, text_of, form_after, form_after_all}
use Rattle.cqlp_render.specs.Rendering.{Rendering, FallsShort, GoesOn, rendering, with_event}
use Rattle.cqlp_render.proofs.Renders.{fold-text, text-last}
use Rattle.cqlp_render.proofs.Buffering.{goes_nowhere, goes_then}
use Rattle.cqlp_skip.specs.Stretches.{emitted, stream_offset}
use Rattle.cqlp_skip.proofs.Folding.{emitted-append}
use Rattle.cqlp_text.specs.Outputs.{Output, output, with_text, StopsWithin}
use Rattle.cqlp_text.proofs.Writing.{known_then}
use Rattle.cqlp_render_skip.specs.Reporting.{Reporting, KeepsOnAtEvent}
use Rattle.cqlp_render_skip.specs.Texts.{afresh}

-- ---- a target that failed

-- after some text
pub short_then : (first : Output) (a b : List ℕ) (new : Output) → FallsShort (with_text first a) b new → FallsShort first (a ++ b) new
short_then first a b new s = record { lost = s.lost; later = s.later; front = s.front ∙ known_then first.given a b; failures = s.failures }

pub stops_short : (old : Output) (x : List ℕ) (new : Output) → StopsWithin old x new → FallsShort old x new
stops_short old x new s = record {
  lost = s.lost;
  later = s.later;
  front = ap (λ g. append_known g (s.lost ∷ s.later)) s.given ∙ known_then old.given s.sent (s.lost ∷ s.later) ∙ ap (append_known old.given) s.split;
  failures = s.failures;
}

some_byte : (first : List ℕ) (x : ℕ) (rest : List ℕ) → (lost : ℕ) × (later : List ℕ) × (first ++ x ∷ rest ≡ lost ∷ later)
some_byte [] x rest = (x, rest, refl)
some_byte (y ∷ first) x rest = (y, first ++ x ∷ rest, refl)

-- what waits is not given
pub short_of_waiting : (first : Output) (x : List ℕ) (given : Option (List ℕ)) (waiting : List ℕ) (f : ℕ) → FallsShort first x (output (append_known given waiting) f) → FallsShort first x (output given f)
short_of_waiting first x given waiting f s =
    let more = some_byte waiting s.lost s.later in
    record {
      lost = more.0;
      later = more.1;
      front = ap (append_known given) (sym more.2) ∙ sym (known_then given waiting (s.lost ∷ s.later)) ∙ s.front;
      failures = s.failures;
    }

-- ---- the form of a stretch

afresh_one : (form : TextForm) (e : Event) → afresh (form_after form e) ≡ afresh form
afresh_one forms.Lines e = refl
afresh_one forms.JsonLines e = refl
afresh_one (forms.Pages place) e = refl
afresh_one (forms.JsonRows place) e = refl
afresh_one (forms.CsvRows place) e = refl
afresh_one forms.Nothing e = refl

pub afresh_after : (form : TextForm) (es : List (ℕ × Event)) → afresh (form_after_all form es) ≡ afresh form
afresh_after form [] = refl
afresh_after form (e ∷ es) = afresh_after (form_after form e.1) es ∙ afresh_one form e.1

-- ---- the text of a stretch

module _ (o : Output) (a : List ℕ) (form : TextForm) where
  -- where a stretch begins
  abbrev pub at_first : Rendering
  at_first = rendering (with_text o a) form

  -- what was taken of it
  pub shown : (es : List (ℕ × Event)) → fold_events with_event at_first es ≡ rendering (with_text o (a ++ text form es)) (form_after_all form es)
  shown es = fold-text (with_text o a) form es ∙ ap (λ g. rendering (output g o.failures) (form_after_all form es)) (known_then o.given a (text form es))

  module _ (base : ℕ) (es more : List (ℕ × Event)) where
    -- one piece after the other
    pub fold_emitted : fold_events with_event at_first (emitted base (es ++ more)) ≡ fold_events with_event (fold_events with_event at_first (emitted base es)) (emitted base more)
    fold_emitted = ap (λ (z : List (ℕ × Event)). fold_events with_event at_first z) (emitted-append base es more) ∙ fold_append with_event at_first (emitted base es) (emitted base more)

    -- the target failed at one more event
    pub short_at : (before : Rendering) (at : ℕ) (e : Event) (new : Output) → before ≡ fold_events with_event at_first (emitted base es) → let v = fold_events with_event before (emitted base more) in FallsShort v.output (text_of v.form (stream_offset base at) e) new
        → FallsShort o (a ++ text form (emitted base (es ++ more ++ (at, e) ∷ []))) new
    short_at before at e new is short =
        let both = emitted base (es ++ more) in
        let here : fold_events with_event before (emitted base more) ≡ rendering (with_text o (a ++ text form both)) (form_after_all form both) = ap (λ v. fold_events with_event v (emitted base more)) is ∙ sym fold_emitted ∙ shown both in
        let there : FallsShort (with_text o (a ++ text form both)) (text_of (form_after_all form both) (stream_offset base at) e) new = subst (λ (v : Rendering). FallsShort v.output (text_of v.form (stream_offset base at) e) new) here short in
        let all : emitted base (es ++ more ++ (at, e) ∷ []) ≡ both ++ (stream_offset base at, e) ∷ [] = emitted-append base (es ++ more) ((at, e) ∷ []) in
        let whole : (a ++ text form both) ++ text_of (form_after_all form both) (stream_offset base at) e ≡ a ++ text form (emitted base (es ++ more ++ (at, e) ∷ [])) =
        append_assoc a (text form both) (text_of (form_after_all form both) (stream_offset base at) e)
        ∙ ap (λ (z : List ℕ). a ++ z) (sym (text-last form both (stream_offset base at) e) ∙ ap (text form) (sym all)) in
        subst (λ (z : List ℕ). FallsShort o z new) whole (short_then o (a ++ text form both) (text_of (form_after_all form both) (stream_offset base at) e) new there)

-- ---- what a report keeps

all_keep : (s t : Reporting) (items : List Item) → GetsAll KeepsOnAtEvent s items t → GoesOn s.text.written.given t.text.written.given × (t.err ≡ s.err) × (t.passed ≡ s.passed)
all_keep s t [] same = rw same (goes_nowhere s.text.written.given, refl, refl)
all_keep s t (x ∷ xs) got =
    let rest = all_keep got.0 t xs got.2 in
    (goes_then s.text.written.given got.0.text.written.given t.text.written.given got.1.0 rest.0, rest.1 ∙ got.1.1, rest.2 ∙ got.1.2)

pub passes_keep : (s t : Reporting) → Passes KeepsOnAtEvent s t → GoesOn s.text.written.given t.text.written.given × (t.err ≡ s.err) × (t.passed ≡ s.passed)
passes_keep s t passed = all_keep s t passed.0 passed.1
