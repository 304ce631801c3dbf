-- What a run over a sink of text leaves.
use Rattle.std.proofs.Common.{◌≡◌, ◌≤◌, ◌⊎◌, length, ℕ, List, [], ◌∷◌, ◌++◌, Option, Some, None, IsSome, refl, sym, ap, ◌∙◌, subst, append_assoc, append-nil}
use Rattle.std.specs.Io.KnownBytes.{append_known}
use Rattle.cqlp_decode.specs.declared.running.Outcome.{Outcome}
use Rattle.cqlp_decode.specs.declared.running.Outcome.TheVariants as outcome
use Rattle.cqlp_decode.specs.Reading.{Event, Gifts, start_with, Says}
use Rattle.cqlp_decode.specs.Progress.{StreamState}
use Rattle.cqlp_decode.specs.Streams.{AfterGifts, EndsAs}
use Rattle.cqlp_decode.specs.Draining.{fold_events, Drains, Fails, Feeds, FeedsInto, HasAll, HasRefused, RunsTo, verdict_of}
use Rattle.cqlp_render.specs.declared.text_form.TextForm.{TextForm}
use Rattle.cqlp_render.specs.declared.text_form.TextForm.TheVariants as forms
use Rattle.cqlp_render.specs.Forms.{text, text_of, form_after, form_after_all}
use Rattle.cqlp_text.specs.Outputs.{Output, output, with_text, StopsWithin}
use Rattle.cqlp_text.proofs.Writing.{known_then}
use Rattle.cqlp_render.specs.Rendering.{Rendering, rendering, with_event, StopsWithinEvent, RendersTo}

pub known_nothing : (given : Option (List ℕ)) → append_known given [] ≡ given
known_nothing None = refl
known_nothing (Some t) = ap (λ k. Some k) (append-nil t)

pub known_still : (given : Option (List ℕ)) (text : List ℕ) → IsSome given → IsSome (append_known given text)
known_still None text known = known
known_still (Some t) text known = refl

-- the text of no events, and of one more
pub text-nil : (form : TextForm) → text form [] ≡ []
text-nil forms.Lines = refl
text-nil forms.JsonLines = refl
text-nil (forms.Pages place) = refl
text-nil (forms.JsonRows place) = refl
text-nil (forms.CsvRows place) = refl
text-nil forms.Nothing = refl

pub text-cons : (form : TextForm) (at : ℕ) (e : Event) (es : List (ℕ × Event)) → text_of form at e ++ text (form_after form e) es ≡ text form ((at, e) ∷ es)
text-cons forms.Lines at e es = refl
text-cons forms.JsonLines at e es = refl
text-cons (forms.Pages place) at e es = refl
text-cons (forms.JsonRows place) at e es = refl
text-cons (forms.CsvRows place) at e es = refl
text-cons forms.Nothing at e es = refl

-- the text of events, and of others after them
pub text-append : (form : TextForm) (es fs : List (ℕ × Event)) → text form (es ++ fs) ≡ text form es ++ text (form_after_all form es) fs
text-append form [] fs = sym (ap (λ k. k ++ text form fs) (text-nil form))
text-append form (e ∷ es) fs =
    sym (text-cons form e.0 e.1 (es ++ fs)) ∙ ap (λ k. text_of form e.0 e.1 ++ k) (text-append (form_after form e.1) es fs)
    ∙ sym (append_assoc (text_of form e.0 e.1) (text (form_after form e.1) es) (text (form_after_all form (e ∷ es)) fs))
    ∙ ap (λ k. k ++ text (form_after_all form (e ∷ es)) fs) (text-cons form e.0 e.1 es)

-- and of one more
pub text-last : (form : TextForm) (es : List (ℕ × Event)) (at : ℕ) (e : Event) → text form (es ++ (at, e) ∷ []) ≡ text form es ++ text_of (form_after_all form es) at e
text-last form es at e =
    text-append form es ((at, e) ∷ []) ∙ ap (λ k. text form es ++ k) (sym (text-cons (form_after_all form es) at e [])
    ∙ ap (λ k. text_of (form_after_all form es) at e ++ k) (text-nil (form_after (form_after_all form es) e)) ∙ append-nil (text_of (form_after_all form es) at e))

-- the text of events, one after the other, is their text
pub fold-text : (o : Output) (form : TextForm) (es : List (ℕ × Event)) → fold_events with_event (rendering o form) es ≡ rendering (with_text o (text form es)) (form_after_all form es)
fold-text o form [] = ap (λ g. rendering (output g o.failures) form) (sym (known_nothing o.given) ∙ ap (append_known o.given) (sym (text-nil form)))
fold-text o form (e ∷ es) =
    fold-text (with_text o (text_of form e.0 e.1)) (form_after form e.1) es
    ∙ ap (λ g. rendering (output g o.failures) (form_after_all form (e ∷ es))) (known_then o.given (text_of form e.0 e.1) (text (form_after form e.1) es) ∙ ap (append_known o.given) (text-cons form e.0 e.1 es))

-- ---- a run over a sink of text, in the words of its text

-- After these gifts, the bytes s and the events es, these bytes were used, and just the text of their events was written.
pub record WritesEvents (form : TextForm) (gifts : Gifts) (new : StreamState) (s : List ℕ) (es : List (ℕ × Event)) (bytes : List ℕ) (before after : Output) : Type 0 where
  pub more : List (ℕ × Event)
  pub conforms : AfterGifts gifts new (s ++ bytes) (es ++ more)
  pub written : after ≡ with_text before (text form more)

-- The same, but within the text of the last event the target failed.
pub record StopsInEvents (form : TextForm) (gifts : Gifts) (new : StreamState) (s : List ℕ) (es : List (ℕ × Event)) (bytes : List ℕ) (before after : Output) : Type 0 where
  pub more : List (ℕ × Event)
  pub at : ℕ
  pub event : Event
  pub conforms : AfterGifts gifts new (s ++ bytes) (es ++ more ++ (at, event) ∷ [])
  pub written : StopsWithin (with_text before (text form more)) (text_of (form_after_all form more) at event) after

-- Of the bytes xs of a reader, `rest` is left or was not used; the text of the events of the others was written.
pub record Renders (form : TextForm) (old new : StreamState) (xs : List ℕ) (before after : Output) : Type 0 where
  pub bytes : List ℕ
  pub rest : List ℕ
  pub parts : xs ≡ bytes ++ rest
  pub events : (gifts : Gifts) (s : List ℕ) (es : List (ℕ × Event)) → AfterGifts gifts old s es → WritesEvents form gifts new s es bytes before after

-- Of the bytes that were not used, the first were looked at, where they are refused, and the others are left. What was
-- written is the text of all events that the bytes read say, and the decoder's refusal, or none, is their verdict, if it
-- had refused nothing before.
pub record RendersAll (form : TextForm) (old new : StreamState) (xs : List ℕ) (left : Option (List ℕ)) (before after : Output) (d : Renders form old new xs before after) : Type 0 where
  pub looked : List ℕ
  pub unread : List ℕ
  pub parts : d.rest ≡ looked ++ unread
  pub others : left ≡ Some unread
  pub none : new.refusal ≡ None → looked ≡ []
  pub says : old.refusal ≡ None → (gifts : Gifts) (s : List ℕ) (es : List (ℕ × Event)) (a : AfterGifts gifts old s es) → Says new.rules (start_with gifts) (s ++ d.bytes ++ looked) (es ++ (d.events gifts s es a).more) (verdict_of new.refusal)

-- The same as `Renders`, but the target failed within the text of the last event.
pub record RendersPart (form : TextForm) (old new : StreamState) (xs : List ℕ) (before after : Output) : Type 0 where
  pub bytes : List ℕ
  pub rest : List ℕ
  pub parts : xs ≡ bytes ++ rest
  pub events : (gifts : Gifts) (s : List ℕ) (es : List (ℕ × Event)) → AfterGifts gifts old s es → StopsInEvents form gifts new s es bytes before after

-- What was written of the bytes xs of a reader, by how it ends: at the end of the input or at a refusal, with what the
-- end of the stream says there; at a reader's fault; after this many reads, each of some byte; or at a target's fault.
-- But for that, all events were written.
abbrev pub TextsTo : TextForm → (turns : ℕ) → Outcome → (old new : StreamState) → (xs : List ℕ) → Option (List ℕ) → (before after : Output) → Type 0
TextsTo form turns (outcome.Finished end) old new xs left before after =
    (d : Renders form old new xs before after) × ((d.rest ≡ []) ⊎ HasRefused new) × EndsAs new end × RendersAll form old new xs left before after d
TextsTo form turns outcome.ReadFault old new xs left before after = (d : Renders form old new xs before after) × (left ≡ Some d.rest) × RendersAll form old new xs left before after d
TextsTo form turns outcome.Turns old new xs left before after = (d : Renders form old new xs before after) × (left ≡ Some d.rest) × (turns ≤ length d.bytes) × RendersAll form old new xs left before after d
TextsTo form turns outcome.SinkFault old new xs left before after = RendersPart form old new xs before after

module _ (gifts : Gifts) (new : StreamState) (s : List ℕ) (es : List (ℕ × Event)) (bytes : List ℕ) (before after : Rendering) where
  abbrev writes_events : Drains with_event gifts new s es bytes before after → WritesEvents before.form gifts new s es bytes before.output after.output
  writes_events d = record { more = d.more; conforms = d.conforms; written = ap (λ r. r.output) (d.got ∙ fold-text before.output before.form d.more) }

  stops_in_events : Fails with_event StopsWithinEvent gifts new s es bytes before after → StopsInEvents before.form gifts new s es bytes before.output after.output
  stops_in_events d = record {
    more = d.more;
    at = d.at;
    event = d.event;
    conforms = d.conforms;
    written = subst (λ (r : Rendering). StopsWithin r.output (text_of r.form d.at d.event) after.output) (fold-text before.output before.form d.more) d.fault;
  }

module _ (old new : StreamState) (xs : List ℕ) (before after : Rendering) where
  abbrev renders : Feeds with_event old new xs before after → Renders before.form old new xs before.output after.output
  renders d = record {
    bytes = d.bytes;
    rest = d.rest;
    parts = d.parts;
    events = λ gifts s es conforms. writes_events gifts new s es d.bytes before after (d.drained gifts s es conforms);
  }

  renders_part : (left : Option (List ℕ)) → FeedsInto with_event StopsWithinEvent old new xs left before after → RendersPart before.form old new xs before.output after.output
  renders_part left d = record {
    bytes = d.bytes;
    rest = d.rest;
    parts = d.parts;
    events = λ gifts s es conforms. stops_in_events gifts new s es d.bytes before after (d.failed gifts s es conforms);
  }

  renders_all : (left : Option (List ℕ)) (d : Feeds with_event old new xs before after) → HasAll with_event old new xs left before after d → RendersAll before.form old new xs left before.output after.output (renders d)
  renders_all left d all = record { looked = all.looked; unread = all.unread; parts = all.parts; others = all.others; none = all.none; says = all.says }

pub renders_to : (turns : ℕ) (o : Outcome) (old new : StreamState) (xs : List ℕ) (left : Option (List ℕ)) (before after : Rendering) → RunsTo with_event StopsWithinEvent turns o old new xs left before after → TextsTo before.form turns o old new xs left before.output after.output
renders_to turns (outcome.Finished end) old new xs left before after ran = (renders old new xs before after ran.0, ran.1, ran.2, renders_all old new xs before after left ran.0 ran.3)
renders_to turns outcome.ReadFault old new xs left before after ran = (renders old new xs before after ran.0, ran.1, renders_all old new xs before after left ran.0 ran.2)
renders_to turns outcome.Turns old new xs left before after ran = (renders old new xs before after ran.0, ran.1, ran.2, renders_all old new xs before after left ran.0 ran.3)
renders_to turns outcome.SinkFault old new xs left before after ran = renders_part old new xs before after left ran

pub texts_to : (form : TextForm) (turns : ℕ) (o : Outcome) (old new : StreamState) (xs : List ℕ) (left : Option (List ℕ)) (before after : Output) → RendersTo form turns o old new xs left before after → TextsTo form turns o old new xs left before after
texts_to form turns o old new xs left before after ran = renders_to turns o old new xs left (rendering before form) (rendering after ran.0) ran.1
