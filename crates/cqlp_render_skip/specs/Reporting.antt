-- What is written while a stream is read on after frames whose bodies are refused.
use Rattle.std.specs.Prelude.{◌≡◌, ℕ, Bool, List, [], ◌∷◌, ◌++◌, drop, Some, None, IsSome, Result, Ok, Err, ◌⊎◌}
use Rattle.cqlp_grammar.specs.declared.sink.SinkFault.{SinkFault}
use Rattle.cqlp_note.specs.declared.refusal.Refusal.{Refusal}
use Rattle.cqlp_note.specs.Limits.{Rules}
use Rattle.cqlp_decode.specs.Reading.{Event, Says, Waits, start_with}
use Rattle.cqlp_decode.specs.Draining.{fold_events}
use Rattle.cqlp_render.specs.declared.text_form.TextForm.{TextForm}
use Rattle.cqlp_render.specs.Rendering.{Buffering, FallsShort, GoesOn, rendered, rendering, with_event}
use Rattle.cqlp_skip.specs.declared.fed.NotSkippable.{NotSkippable}
use Rattle.cqlp_skip.specs.Pieces.{refusal_from}
use Rattle.cqlp_skip.specs.Skipping.{Skipping, AfterSkips, rules_in, skip_of, stream}
use Rattle.cqlp_skip.specs.Stretches.{Stretch, base_after, emitted}
use Rattle.cqlp_text.specs.Outputs.{Output, output, StopsWithin, with_text}
use Rattle.cqlp_render_skip.specs.declared.feeding.Handed.{Handed}
use Rattle.cqlp_render_skip.specs.declared.feeding.Handed.TheVariants as handed
use Rattle.cqlp_render_skip.specs.Texts.{AreGivenNothing, IsLast, afresh, any, break_of, lines_before, skipped_line, text_before, text_with}

-- the output behind a buffer with the form of what comes next, the error output, and whether a frame was passed over
pub record Reporting : Type 0 where
  pub text : Buffering
  pub err : Output
  pub passed : Bool

-- the two outputs
pub record Outputs : Type 0 where
  pub out : Output
  pub err : Output

-- what they were given
abbrev pub outputs : Reporting → Outputs
outputs r = record { out = output r.text.written.given r.text.written.failures; err = r.err }

-- of both it is known what they were given
abbrev pub AreKnown : Outputs → Type 0
AreKnown o = IsSome o.out.given × IsSome o.err.given

-- both were given more
abbrev pub GoOn : (before after : Reporting) → Type 0
GoOn before after =
    GoesOn before.text.written.given after.text.written.given × GoesOn before.err.given after.err.given

-- At an event, or at a fault there, the output may be given more, and nothing else changes.
abbrev pub KeepsOnAtEvent : Reporting → (at : ℕ) → Event → Reporting → Type 0
KeepsOnAtEvent old at e new =
    GoesOn old.text.written.given new.text.written.given × (new.err ≡ old.err) × (new.passed ≡ old.passed)

-- ---- a frame that was passed over

-- Its text ends, all text is passed on, and then its line is written; or one of the outputs failed.
module _ (old : Reporting) (at : ℕ) (r : Refusal) where
  abbrev pub ended : Output
  ended = with_text (rendered old.text).output (break_of old.text.form)

  abbrev pub EndsStretch : Result (Unit {0}) SinkFault → Reporting → Type 0
  EndsStretch (Ok u) new =
      (rendered new.text ≡ rendering ended (afresh old.text.form)) × (new.err ≡ with_text old.err (skipped_line at r))
  EndsStretch (Err e) new =
      (FallsShort (rendered old.text).output (break_of old.text.form) (outputs new).out × (new.err ≡ old.err))
      ⊎ (((outputs new).out ≡ ended) × StopsWithin old.err (skipped_line at r) new.err)

-- ---- what was written

-- A decoder that skips used the bytes s of the stream xs. These stretches were given up, and these events of the present
-- one handed out.
pub record ConformsAt (l : Rules) (xs : List ℕ) (d : Skipping) (s : List ℕ) (stretches : List Stretch)
    (events : List (ℕ × Event)) : Type 0 where
  pub after : AfterSkips xs d s stretches [] events
  pub plain : AreGivenNothing stretches
  pub rules : rules_in d ≡ l
  pub last : IsLast stretches d.last

-- The events are all that the bytes of the present stretch say, which are not refused.
abbrev pub SaysAll : Rules → Skipping → (s : List ℕ) → List (ℕ × Event) → Type 0
SaysAll l d s events = Says l (start_with []) (drop d.base s) events Waits

-- It is refused for good, as the verdict has it: the frame cannot be passed over.
abbrev pub IsRefusedForGood : Skipping → (verdict : Refusal) → Type 0
IsRefusedForGood d verdict =
    (own : Refusal) × ((stream d).refusal ≡ Some own) × (verdict ≡ refusal_from d.base own)
    × (why : NotSkippable) × (skip_of d ≡ Err why)

module _ (form : TextForm) (l : Rules) (xs : List ℕ) (first : Outputs) where
  -- Just the text of the events was taken, and the lines of the frames passed over written.
  pub record Reports (d : Skipping) (s : List ℕ) (now : Reporting) : Type 0 where
    pub stretches : List Stretch
    pub events : List (ℕ × Event)
    pub conforms : ConformsAt l xs d s stretches events
    pub text : rendered now.text ≡ fold_events with_event
        (rendering (with_text first.out (text_before form stretches)) form) (emitted (base_after stretches) events)
    pub err : now.err ≡ with_text first.err (lines_before stretches)
    pub passed : now.passed ≡ any stretches

  -- The output failed: it was given a front of its text, and the error output the lines of the frames passed over, but
  -- for that of the last one where the output failed at the end of that frame's stretch.
  pub record FailsInOutput (passed : Bool) (now : Outputs) : Type 0 where
    pub d : Skipping
    pub s : List ℕ
    pub stretches : List Stretch
    pub events : List (ℕ × Event)
    pub conforms : ConformsAt l xs d s stretches events
    pub out : FallsShort first.out (text_with form stretches events) now.out
    pub emitted : List Stretch
    pub but_last : (emitted ≡ stretches) ⊎ ((x : Stretch) × (stretches ≡ x ∷ emitted) × (events ≡ []))
    pub err : now.err ≡ with_text first.err (lines_before emitted)
    pub any_passed : passed ≡ any stretches

  -- The error output failed within the line of the frame passed over last, after all text of the frames so far.
  pub record FailsInErrors (passed : Bool) (now : Outputs) : Type 0 where
    pub d : Skipping
    pub s : List ℕ
    pub stretches : List Stretch
    pub conforms : ConformsAt l xs d s stretches []
    pub out : now.out ≡ with_text first.out (text_with form stretches [])
    pub err : FallsShort first.err (lines_before stretches) now.err
    pub any_passed : passed ≡ any stretches

  abbrev pub Fails : (passed : Bool) → (now : Outputs) → Type 0
  Fails passed now = FailsInOutput passed now ⊎ FailsInErrors passed now

  -- What a piece leads to, after the bytes s.
  abbrev pub HandsTo : (s piece : List ℕ) → Handed → Skipping → Reporting → Type 0
  HandsTo s piece handed.More d now =
      (r : Reports d (s ++ piece) now) × SaysAll l d (s ++ piece) r.events × ((stream d).refusal ≡ None)
  HandsTo s piece (handed.Refused refusal) d now =
      (bytes : List ℕ) × Reports d bytes now × IsRefusedForGood d refusal
  HandsTo s piece handed.Fault d now = Fails now.passed (outputs now)
