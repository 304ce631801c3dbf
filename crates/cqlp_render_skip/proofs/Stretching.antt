-- One stretch after the other.
use Rattle.std.proofs.Common.{◌≡◌, ℕ, ◌-◌, ◌+◌, ◌<◌, ◌^◌, true, List, [], ◌∷◌, ◌++◌, take, drop, Option, Some, None, IsSome, Result, Ok, Err, refl, sym, ap, inl, inr, ◌∙◌, subst, append_assoc, append-nil, arith}
use Rattle.std.proofs.lemmas.List.{take-append-drop}
use Rattle.cqlp_note.specs.declared.refusal.Refusal.{Refusal}
use Rattle.cqlp_note.specs.Limits.{Rules}
use Rattle.cqlp_decode.specs.Reading.{Event, Says, Waits, start_with}
use Rattle.cqlp_decode.specs.Draining.{fold_events}
use Rattle.cqlp_grammar.specs.declared.sink.SinkFault.{SinkFault}
use Rattle.cqlp_render.specs.declared.text_form.TextForm.{TextForm}
use Rattle.cqlp_render.specs.Forms.{text, form_after_all}
use Rattle.cqlp_render.specs.Rendering.{Rendering, FallsShort, FallsShortAtEvent, GoesOn, rendered, rendering, with_event}
use Rattle.cqlp_render.proofs.Renders.{known_still, text-nil}
use Rattle.cqlp_render.proofs.Buffering.{goes_same, goes_then, known_taken}
use Rattle.cqlp_skip.specs.declared.fed.Skipped.{Skipped}
use Rattle.cqlp_skip.specs.declared.fed.NotSkippable.{NotSkippable}
use Rattle.cqlp_skip.specs.declared.frame.OpenFrame.{OpenFrame}
use Rattle.cqlp_skip.specs.Pieces.{refusal_from}
use Rattle.cqlp_decode.specs.declared.feeding.Fed.{Fed}
use Rattle.cqlp_decode.specs.declared.feeding.Fed.TheVariants as fed
use Rattle.cqlp_skip.specs.Skipping.{Skipping, AfterSkips, Feeds, Hands, BeginsAnew, RefusesBy, SkipsOn, rules_in, skip_by, skip_of, skip_to, stream, stretch_given_up}
use Rattle.cqlp_skip.specs.Skipping as skipping
use Rattle.cqlp_skip.specs.Stretches.{Stretch, base_after, end_within, emitted, stream_offset}
use Rattle.cqlp_skip.proofs.Skips.{end_there}
use Rattle.cqlp_text.specs.Outputs.{Output, output, with_text}
use Rattle.cqlp_text.proofs.Writing.{known_then}
use Rattle.cqlp_render_skip.specs.declared.feeding.Handed.TheVariants as handed
use Rattle.cqlp_render_skip.specs.Reporting.{GoOn, HandsTo, Reporting, Outputs, AreKnown, EndsStretch, Fails, Reports, SaysAll, ConformsAt, ended, outputs}
use Rattle.cqlp_render_skip.specs.Texts.{IsLast, afresh, break_of, lines_before, skipped_line, text_before, text_cut, text_with}
use Rattle.cqlp_render_skip.proofs.Outgoing.{afresh_after, fold_emitted, short_at, short_of_waiting, short_then, shown, stops_short}

-- ---- a skip

-- what a skip that is made says of what it passes over
pub record IsSkipped (o : Option Refusal) (frame : Option OpenFrame) (base used : ℕ) (x : Skipped) : Type 0 where
  pub r : Refusal
  pub f : OpenFrame
  pub end : ℕ
  pub refused : o ≡ Some r
  pub under_way : frame ≡ Some f
  pub there : end_within f base used ≡ Some end
  pub at : x.at ≡ stream_offset base f.at
  pub refusal : x.refusal ≡ refusal_from base r
  pub rest : x.rest ≡ end - used

skipped_to : (r : Refusal) (f : OpenFrame) (base used : ℕ) (x : Skipped) (e : Option ℕ) → end_within f base used ≡ e → skip_to e r f base used ≡ Ok x → IsSkipped (Some r) (Some f) base used x
skipped_to r f base used x None there is = absurd cc
skipped_to r f base used x (Some end) there is =
    let same : ◌≡◌ {A = Skipped} (record { at = stream_offset base f.at; header = f.header; refusal = refusal_from base r; rest = end - used }) x = cc in
    record {
      r = r;
      f = f;
      end = end;
      refused = refl;
      under_way = refl;
      there = there;
      at = sym (ap (λ (z : Skipped). z.at) same);
      refusal = sym (ap (λ (z : Skipped). z.refusal) same);
      rest = sym (ap (λ (z : Skipped). z.rest) same);
    }

skipped_by : (o : Option Refusal) (frame : Option OpenFrame) (base used : ℕ) (x : Skipped) → skip_by o frame base used ≡ Ok x → IsSkipped o frame base used x
skipped_by None frame base used x is = absurd cc
skipped_by (Some r) None base used x is = absurd cc
skipped_by (Some r) (Some f) base used x is = skipped_to r f base used x (end_within f base used) refl is

abbrev pub Skips : Skipping → Skipped → Type 0
Skips d x = IsSkipped (stream d).refusal d.frame d.base d.used x

pub skips : (d : Skipping) (x : Skipped) (result : Result Skipped NotSkippable) → result ≡ skip_of d → result ≡ Ok x → Skips d x
skips d x result is ok = skipped_by (stream d).refusal d.frame d.base d.used x (sym is ∙ ok)

-- the next stretch begins later
pub begins_later : (d new : Skipping) (x : Skipped) → Skips d x → new.base ≡ d.used + x.rest → (d.base < new.base) × (new.base < 2 ^ 64)
begins_later d new x k base =
    let e = end_there k.f d.base d.used k.end k.there in
    (omega (arith, e.0, e.1, e.2, base, k.rest), omega (arith, e.0, e.1, e.2, base, k.rest))

same_frame : (f g : OpenFrame) (o : Option OpenFrame) → o ≡ Some f → o ≡ Some g → f ≡ g
same_frame f g o a b = let e : ◌≡◌ {A = Option OpenFrame} (Some f) (Some g) = sym a ∙ b in cc

same_refusal : (f g : Refusal) (o : Option Refusal) → o ≡ Some f → o ≡ Some g → f ≡ g
same_refusal f g o a b = let e : ◌≡◌ {A = Option Refusal} (Some f) (Some g) = sym a ∙ b in cc

-- ---- what was written

module _ (form : TextForm) (l : Rules) (xs : List ℕ) (first : Outputs) where
  module _ (d : Skipping) (s : List ℕ) (now : Reporting) (r : Reports form l xs first d s now) where
    -- all that was taken
    pub taken_is : rendered now.text ≡ rendering (with_text first.out (text_with form r.stretches r.events)) (form_after_all form (emitted (base_after r.stretches) r.events))
    taken_is = r.text ∙ shown first.out (text_before form r.stretches) form (emitted (base_after r.stretches) r.events)

    pub still_known : AreKnown first → IsSome now.text.written.given × IsSome now.err.given
    still_known known = (
      known_taken now.text.written.given now.text.written.waiting (subst (λ (v : Rendering). IsSome v.output.given) (sym taken_is) (known_still first.out.given (text_with form r.stretches r.events) known.0)),
      subst (λ (o : Output). IsSome o.given) (sym r.err) (known_still first.err.given (lines_before r.stretches) known.1),
    )

    module _ (d' : Skipping) (s' : List ℕ) (now' : Reporting) where
      -- more events were handed out
      abbrev pub reports_more : (h : Hands with_event xs d' s' r.stretches [] r.events (rendered now.text) (rendered now'.text)) → rules_in d' ≡ rules_in d → d'.last ≡ d.last → now'.err ≡ now.err → now'.passed ≡ now.passed → Reports form l xs first d' s' now'
      reports_more h rules last err passed =
          let base : d'.base ≡ base_after r.stretches = h.conforms.base in
          let b = base_after r.stretches in
          record {
            stretches = r.stretches;
            events = r.events ++ h.more;
            conforms = record { after = h.conforms; plain = r.conforms.plain; rules = rules ∙ r.conforms.rules; last = subst (IsLast r.stretches) (sym last) r.conforms.last };
            text =
                h.got ∙ ap (λ (n : ℕ). fold_events with_event (rendered now.text) (emitted n h.more)) base
                ∙ ap (λ v. fold_events with_event v (emitted b h.more)) r.text
                ∙ sym (fold_emitted first.out (text_before form r.stretches) form b r.events h.more);
            err = err ∙ r.err;
            passed = passed ∙ r.passed;
          }

      -- the output failed at an event
      pub fails_more : (h : skipping.Fails with_event xs d' s' r.stretches [] r.events FallsShortAtEvent (rendered now.text) (rendered now'.text)) → rules_in d' ≡ rules_in d → d'.last ≡ d.last → now'.err ≡ now.err → now'.passed ≡ now.passed → Fails form l xs first now'.passed (outputs now')
      fails_more h rules last err passed =
          let base : d'.base ≡ base_after r.stretches = h.conforms.base in
          let fault = subst (λ (n : ℕ). FallsShortAtEvent (fold_events with_event (rendered now.text) (emitted n h.more)) (stream_offset n h.at) h.event (rendered now'.text)) base h.fault in
          inl (record {
            d = d';
            s = s';
            stretches = r.stretches;
            events = r.events ++ h.more ++ (h.at, h.event) ∷ [];
            conforms = record { after = h.conforms; plain = r.conforms.plain; rules = rules ∙ r.conforms.rules; last = subst (IsLast r.stretches) (sym last) r.conforms.last };
            out = short_of_waiting first.out _ now'.text.written.given now'.text.written.waiting now'.text.written.failures
                (short_at first.out (text_before form r.stretches) form (base_after r.stretches) r.events h.more (rendered now.text) h.at h.event (rendered now'.text).output r.text fault);
            emitted = r.stretches;
            but_last = inl refl;
            err = err ∙ r.err;
            any_passed = passed ∙ r.passed;
          })

      -- the output failed when all that waits was passed on
      pub fails_flushed : FallsShort (rendered now.text).output [] (outputs now').out → now'.err ≡ now.err → now'.passed ≡ now.passed → Fails form l xs first now'.passed (outputs now')
      fails_flushed short err passed = inl (record {
        d = d;
        s = s;
        stretches = r.stretches;
        events = r.events;
        conforms = r.conforms;
        out =
            let t = text_with form r.stretches r.events in
            subst (λ (z : List ℕ). FallsShort first.out z (outputs now').out) (append-nil t)
            (short_then first.out t [] (outputs now').out (subst (λ (v : Rendering). FallsShort v.output [] (outputs now').out) taken_is short));
        emitted = r.stretches;
        but_last = inl refl;
        err = err ∙ r.err;
        any_passed = passed ∙ r.passed;
      })

      -- ---- a frame was passed over

      module _ (x : Skipped) (k : Skips d x) (on : SkipsOn (Ok x) d d') (anew : BeginsAnew (Ok x) d d') (fresh : afresh form ≡ form) (passed : now'.passed ≡ true) where
        abbrev y : Stretch
        y = stretch_given_up d [] r.events k.f k.r

        goes_over : AfterSkips xs d' s (y ∷ r.stretches) [] []
        goes_over =
            let e = on xs s r.stretches [] r.events r.conforms.after in
            let f : e.0 ≡ k.f = same_frame e.0 k.f d.frame e.2 k.under_way in
            let q : e.1 ≡ k.r = same_refusal e.1 k.r (stream d).refusal e.3 k.refused in
            subst (λ (z : Refusal). AfterSkips xs d' s (stretch_given_up d [] r.events k.f z ∷ r.stretches) [] []) q
            (subst (λ (z : OpenFrame). AfterSkips xs d' s (stretch_given_up d [] r.events z e.1 ∷ r.stretches) [] []) f e.4)

        conforms_over : ConformsAt l xs d' s (y ∷ r.stretches) []
        conforms_over = record { after = goes_over; plain = (refl, r.conforms.plain); rules = anew.5 ∙ r.conforms.rules; last = anew.3 ∙ k.at }

        here : emitted d.base r.events ≡ emitted (base_after r.stretches) r.events
        here = ap (λ (n : ℕ). emitted n r.events) r.conforms.after.base

        abbrev E : List (ℕ × Event)
        E = emitted (base_after r.stretches) r.events

        form_is : now.text.form ≡ form_after_all form E
        form_is = ap (λ (v : Rendering). v.form) taken_is

        -- what ends its text
        abbrev B : List ℕ
        B = break_of (form_after_all form E)

        break_is : break_of now.text.form ≡ B
        break_is = ap break_of form_is

        text_over : (text_before form r.stretches ++ text form E) ++ B ≡ text_before form (y ∷ r.stretches)
        text_over =
            append_assoc (text_before form r.stretches) (text form E) B
            ∙ ap (λ (z : List (ℕ × Event)). text_before form r.stretches ++ text_cut form z) (sym here)

        ended_is : ended now x.at x.refusal ≡ with_text first.out (text_before form (y ∷ r.stretches))
        ended_is =
            ap (λ (v : Rendering). with_text v.output (break_of now.text.form)) taken_is
            ∙ ap (λ (z : List ℕ). with_text (with_text first.out (text_before form r.stretches ++ text form E)) z) break_is
            ∙ ap (λ g. output g first.out.failures) (known_then first.out.given (text_before form r.stretches ++ text form E) B)
            ∙ ap (λ (z : List ℕ). with_text first.out z) text_over

        line_is : (o : Output) → o ≡ with_text first.err (lines_before r.stretches) → with_text o (skipped_line x.at x.refusal) ≡ with_text first.err (lines_before (y ∷ r.stretches))
        line_is o is =
            ap (λ (z : Output). with_text z (skipped_line x.at x.refusal)) is
            ∙ ap (λ g. output g first.err.failures) (known_then first.err.given (lines_before r.stretches) (skipped_line x.at x.refusal))
            ∙ ap (λ (n : ℕ). with_text first.err (lines_before r.stretches ++ skipped_line n x.refusal)) k.at
            ∙ ap (λ (q : Refusal). with_text first.err (lines_before r.stretches ++ skipped_line (stream_offset d.base k.f.at) q)) k.refusal

        pub reports_over : EndsStretch now x.at x.refusal (Ok tt) now' → Reports form l xs first d' s now'
        reports_over ends = record {
          stretches = y ∷ r.stretches;
          events = [];
          conforms = conforms_over;
          text =
              ends.0 ∙ ap (λ (o : Output). rendering o (afresh now.text.form)) ended_is
              ∙ ap (λ (z : TextForm). rendering (with_text first.out (text_before form (y ∷ r.stretches))) z) (ap afresh form_is ∙ afresh_after form E ∙ fresh);
          err = ends.1 ∙ line_is now.err r.err;
          passed = passed;
        }

        -- the text of the new stretch is none
        nothing_more : text_with form (y ∷ r.stretches) [] ≡ text_before form (y ∷ r.stretches)
        nothing_more = ap (λ (z : List ℕ). text_before form (y ∷ r.stretches) ++ z) (text-nil form) ∙ append-nil (text_before form (y ∷ r.stretches))

        pub fails_over : (e : SinkFault) → EndsStretch now x.at x.refusal (Err e) now' → Fails form l xs first now'.passed (outputs now')
        fails_over e (inl out) = inl (record {
          d = d';
          s = s;
          stretches = y ∷ r.stretches;
          events = [];
          conforms = conforms_over;
          out =
              subst (λ (z : List ℕ). FallsShort first.out z (outputs now').out) (text_over ∙ sym nothing_more)
              (short_then first.out (text_before form r.stretches ++ text form E) B (outputs now').out
              (subst (λ (z : List ℕ). FallsShort (with_text first.out (text_before form r.stretches ++ text form E)) z (outputs now').out) break_is
              (subst (λ (v : Rendering). FallsShort v.output (break_of now.text.form) (outputs now').out) taken_is out.0)));
          emitted = r.stretches;
          but_last = inr (y, refl, refl);
          err = out.1 ∙ r.err;
          any_passed = passed;
        })
        fails_over e (inr err) = inr (record {
          d = d';
          s = s;
          stretches = y ∷ r.stretches;
          conforms = conforms_over;
          out = err.0 ∙ ended_is ∙ ap (λ (z : List ℕ). with_text first.out z) (sym nothing_more);
          err =
              let line = skipped_line (stream_offset d.base k.f.at) (refusal_from d.base k.r) in
              let stops = stops_short now.err (skipped_line x.at x.refusal) now'.err err.1 in
              let stops' : FallsShort now.err line now'.err = subst (λ (q : Refusal). FallsShort now.err (skipped_line (stream_offset d.base k.f.at) q) now'.err) k.refusal (subst (λ (n : ℕ). FallsShort now.err (skipped_line n x.refusal) now'.err) k.at stops) in
              short_then first.err (lines_before r.stretches) line now'.err (subst (λ (o : Output). FallsShort o line now'.err) r.err stops');
          any_passed = passed;
        })

-- ---- a piece that was fed

module _ (form : TextForm) (l : Rules) (xs : List ℕ) (first : Outputs) (d d' : Skipping) (s input later : List ℕ) (now now' : Reporting) (r : Reports form l xs first d s now) (is : xs ≡ (s ++ input) ++ later)
    (rules : rules_in d' ≡ rules_in d) (last : d'.last ≡ d.last) (err : now'.err ≡ now.err) (passed : now'.passed ≡ now.passed) where
  -- what it was fed to
  abbrev pub Fed_to : Fed → Type 0
  Fed_to x = Feeds with_event FallsShortAtEvent d d' input x (rendered now.text) (rendered now'.text)

  pub fed_more : Fed_to fed.More → (stream d').refusal ≡ None → (start piece : List ℕ) → s ++ input ≡ start ++ piece → HandsTo form l xs first start piece handed.More d' now'
  fed_more feeds free start piece all =
      let h = feeds xs s r.stretches [] r.events later is r.conforms.after in
      let more = reports_more form l xs first d s now r d' (s ++ input) now' h.0 rules last err passed in
      let says : Says l (start_with []) (drop d'.base (s ++ input)) more.events Waits = subst (λ (k : Rules). Says k (start_with []) (drop d'.base (s ++ input)) more.events Waits) more.conforms.rules h.1 in
      subst (λ (z : List ℕ). (q : Reports form l xs first d' z now') × SaysAll l d' z q.events × ((stream d').refusal ≡ None)) all (more, says, free)

  pub fed_fault : (used : ℕ) → Fed_to (fed.Fault used) → Fails form l xs first now'.passed (outputs now')
  fed_fault used feeds =
      let h = feeds xs s r.stretches [] r.events later is r.conforms.after in
      fails_more form l xs first d s now r d' (s ++ take used input) now' h rules last err passed

  pub fed_refused : (used : ℕ) (q : Refusal) → Fed_to (fed.Refused used q) → Reports form l xs first d' (s ++ take used input) now'
  fed_refused used q feeds =
      let h = feeds xs s r.stretches [] r.events later is r.conforms.after in
      reports_more form l xs first d s now r d' (s ++ take used input) now' h.0 rules last err passed

-- ---- pieces of a piece

pub next_parts : (xs s piece front rest later : List ℕ) → piece ≡ front ++ rest → xs ≡ (s ++ piece) ++ later → xs ≡ ((s ++ front) ++ rest) ++ later
next_parts xs s piece front rest later split is = is ∙ ap (λ (z : List ℕ). z ++ later) (ap (λ (z : List ℕ). s ++ z) split ∙ sym (append_assoc s front rest))

pub whole_piece : (s piece front rest : List ℕ) → piece ≡ front ++ rest → (s ++ front) ++ rest ≡ s ++ piece
whole_piece s piece front rest split = append_assoc s front rest ∙ ap (λ (z : List ℕ). s ++ z) (sym split)

pub next_split : (piece front rest : List ℕ) (used : ℕ) → piece ≡ front ++ rest → piece ≡ (front ++ take used rest) ++ drop used rest
next_split piece front rest used split = split ∙ ap (λ (z : List ℕ). front ++ z) (sym (take-append-drop used rest)) ∙ sym (append_assoc front (take used rest) (drop used rest))

-- both outputs were given more
pub kept_goes : (a b c : Reporting) → GoOn a b → GoesOn b.text.written.given c.text.written.given × (c.err ≡ b.err) × (c.passed ≡ b.passed) → GoOn a c
kept_goes a b c goes keep = (goes_then _ _ _ goes.0 keep.0, goes_then _ _ _ goes.1 (goes_same _ _ (sym (ap (λ (o : Output). o.given) keep.1))))

pub both_go : (a b c : Reporting) → GoOn a b → GoOn b c → GoOn a c
both_go a b c p q = (goes_then _ _ _ p.0 q.0, goes_then _ _ _ p.1 q.1)

pub refused_here : (form : TextForm) (l : Rules) (xs : List ℕ) (first : Outputs) (d d' : Skipping) (s start piece : List ℕ) (now : Reporting) (refusal : Refusal) (used : ℕ) (why : NotSkippable) (result : Result Skipped NotSkippable) → Reports form l xs first d s now → RefusesBy (fed.Refused used refusal) d → result ≡ skip_of d → result ≡ Err why → BeginsAnew (Err why) d d' → HandsTo form l xs first start piece (handed.Refused refusal) d' now
refused_here form l xs first d d' s start piece now refusal used why result r by is bad same =
    subst (λ (z : Skipping). HandsTo form l xs first start piece (handed.Refused refusal) z now) (sym same) (s, r, (by.0, by.1, by.2, why, sym is ∙ bad))
