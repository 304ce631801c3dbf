-- One text and one verdict of a stream.
use Rattle.std.proofs.Common.{◌≡◌, ◌≢◌, ℕ, true, List, [], ◌∷◌, ◌++◌, length, Option, Some, None, ◌⊎◌, refl, sym, ap, ◌∙◌, inl, inr, subst, append_assoc, append-nil, arith}
use Rattle.std.proofs.lemmas.List.{append_cancel_left, append_cancel_right, length-append}
use Rattle.std.proofs.lemmas.Bool.{cases_lt}
use Rattle.std.specs.Io.KnownBytes.{append_known}
use Rattle.cqlp_note.specs.declared.refusal.Refusal.{Refusal}
use Rattle.cqlp_note.specs.Limits.{Rules}
use Rattle.cqlp_note.specs.Streams.{counted}
use Rattle.cqlp_note.proofs.Runs.{runs_stay, runs_compare}
use Rattle.cqlp_grammar.specs.declared.event.Finish.{Finish}
use Rattle.cqlp_grammar.specs.declared.event.Finish.TheVariants as finish
use Rattle.cqlp_decode.specs.declared.running.Outcome.{Outcome}
use Rattle.cqlp_decode.specs.declared.running.Outcome.TheVariants as outcome
use Rattle.cqlp_decode.specs.Reading.{Event, Gifts, Place, Verdict, Waits, Refused, Says, Reads, start, start_with, step}
use Rattle.cqlp_decode.specs.Progress.{StreamState}
use Rattle.cqlp_decode.specs.Streams.{AfterBy, AfterGifts, FinishesBy}
use Rattle.cqlp_decode.specs.Draining.{verdict_of}
use Rattle.cqlp_laws.proofs.Whole.{says_once, refusal_stays}
use Rattle.cqlp_text.specs.declared.ending.Ending.{Ending}
use Rattle.cqlp_text.specs.declared.ending.Ending.TheVariants as ending
use Rattle.cqlp_text.specs.Endings.{ending_line, finish_status, status_of}
use Rattle.cqlp_tool_laws.specs.Text.{FailsAlike, GoesOnFromOther}
use Rattle.cqlp_text.specs.Outputs.{Output, output, with_text}
use Rattle.cqlp_text.proofs.Writing.{known_then}
use Rattle.cqlp_tool_laws.proofs.OneText.{fronts, known_fronts, counts_up, stops_once}
use Rattle.cqlp_render.specs.declared.text_form.TextForm.{TextForm}
use Rattle.cqlp_render.specs.declared.text_form.TextForm.TheVariants as forms
use Rattle.cqlp_render.specs.Forms.{text, form_after_all}
use Rattle.cqlp_render.specs.Rendering.{RendersFront}
use Rattle.cqlp_render.specs.Showing.{ShowsTo, CountsReads, Concludes, ConcludesCheck, ReadsBy}
use Rattle.cqlp_tool_laws.specs.Tool.{EndsAs, EndsAlike, EndAlike, EndsOnce, ChecksEndOnce, HasTime, IsServedAlike, IsGranted, IsOneOutput, IsRenderedOnceAfter, IsRenderedWholeAfter, IsShownRightly, IsShownOnce, IsCheckedRightly, IsCheckedOnce}
use Rattle.cqlp_render.specs.Streams.{Input, Streams}
use Rattle.cqlp_render.proofs.Renders.{known_nothing, text-append, texts_to, Renders, RendersAll, TextsTo}
use Rattle.cqlp_render.proofs.Shows.{part_is_front}

-- ---- the end of a stream

ends_once : (xs : List ℕ) (es : List (ℕ × Event)) (v : Verdict) (f f' : Finish) → EndsAs xs es v f → EndsAs xs es v f' → f' ≡ f
ends_once xs es (Refused at why) f f' a b = b ∙ sym a
ends_once xs es Waits (finish.Whole n) (finish.Whole m) a b = ap (λ k. finish.Whole k) (b.0 ∙ sym a.0)
ends_once xs es Waits (finish.Whole n) (finish.Cut at m) a b = absurd (omega (arith, b.2 a.1, a.2))
ends_once xs es Waits (finish.Whole n) (finish.Refused r) a b = absurd b
ends_once xs es Waits (finish.Cut at n) (finish.Whole m) a b = absurd (omega (arith, a.2 b.1, b.2))
ends_once xs es Waits (finish.Cut at n) (finish.Cut at' m) a b =
    let from : at' ≡ at = b.1 ∙ sym a.1 in
    let bytes : m ≡ n = b.0 ∙ sym a.0 in
    cc
ends_once xs es Waits (finish.Cut at n) (finish.Refused r) a b = absurd b
ends_once xs es Waits (finish.Refused r) f' a b = absurd a

module _ (gifts : Gifts) where
  -- Of a stream, this front says these events and this verdict, and it ends so. The front is the stream, or it is refused.
  record Ended (l : Rules) (stream : List ℕ) (es : List (ℕ × Event)) (f : Finish) : Type 0 where
    pub front : List ℕ
    pub rest : List ℕ
    pub parts : front ++ rest ≡ stream
    pub verdict : Verdict
    pub says : Says l (start_with gifts) front es verdict
    pub all : verdict ≡ Waits → rest ≡ []
    pub ends : EndsAs stream es verdict f

  no_bytes : (m : List ℕ) → length m ≡ 0 → m ≡ []
  no_bytes [] none = refl
  no_bytes (x ∷ m) none = absurd (omega arith)

  said_on : (l : Rules) (x m t t' : List ℕ) (es es' : List (ℕ × Event)) (v v' : Verdict) → x ++ t ≡ (x ++ m) ++ t' → Says l (start_with gifts) x es v → Says l (start_with gifts) (x ++ m) es' v' → (v ≡ Waits → t ≡ []) → (es' ≡ es) × (v' ≡ v)
  said_on l x m t t' es es' Waits v' e a b none =
      let ends : length x ≡ length ((x ++ m) ++ t') = ap length (sym (append-nil x) ∙ ap (λ k. x ++ k) (sym (none refl)) ∙ e) in
      let nothing : m ≡ [] = no_bytes m (omega (arith, ends, length-append (x ++ m) t', length-append x m)) in
      says_once l (start_with gifts) x es es' Waits v' a (subst (λ (z : List ℕ). Says l (start_with gifts) z es' v') (ap (λ k. x ++ k) nothing ∙ append-nil x) b)
  said_on l x m t t' es es' (Refused k why) v' e a b none = refusal_stays l (start_with gifts) x m es es' (Refused k why) v' a b k why refl

  -- two fronts of one stream, each of which is the stream or is refused
  both_said : (l : Rules) (x t x' t' : List ℕ) (es es' : List (ℕ × Event)) (v v' : Verdict) → x ++ t ≡ x' ++ t' → Says l (start_with gifts) x es v → Says l (start_with gifts) x' es' v' → (v ≡ Waits → t ≡ []) → (v' ≡ Waits → t' ≡ []) → (es' ≡ es) × (v' ≡ v)
  both_said l x t x' t' es es' v v' e a b none none' = elim (fronts x t x' t' e) [
    | inl m ↦ said_on l x m.0 t t' es es' v v' (e ∙ ap (λ k. k ++ t') m.1) a (subst (λ (z : List ℕ). Says l (start_with gifts) z es' v') m.1 b) none
    | inr m ↦
        let same = said_on l x' m.0 t' t es' es v' v (sym e ∙ ap (λ k. k ++ t) m.1) b (subst (λ (z : List ℕ). Says l (start_with gifts) z es v) m.1 a) none' in
        (sym same.0, sym same.1)
  ]

  ended_once : (l : Rules) (stream : List ℕ) (es es' : List (ℕ × Event)) (f f' : Finish) → Ended l stream es f → Ended l stream es' f' → (es' ≡ es) × (f' ≡ f)
  ended_once l stream es es' f f' a b =
      let same = both_said l a.front a.rest b.front b.rest es es' a.verdict b.verdict (a.parts ∙ sym b.parts) a.says b.says a.all b.all in
      let ends : EndsAs stream es a.verdict f' = subst (λ (w : Verdict). EndsAs stream es w f') same.1 (subst (λ (x : List (ℕ × Event)). EndsAs stream x b.verdict f') same.0 b.ends) in
      (same.0, ends_once stream es a.verdict f f' a.ends ends)

  ended_says : (l : Rules) (stream : List ℕ) (es es' : List (ℕ × Event)) (f : Finish) (v : Verdict) → Ended l stream es f → Says l (start_with gifts) stream es' v → (es' ≡ es) × EndsAs stream es' v f
  ended_says l stream es es' f v a says =
      let same = both_said l a.front a.rest stream [] es es' a.verdict v (a.parts ∙ sym (append-nil stream)) a.says says a.all (λ w. refl) in
      (same.0, subst (λ (x : List (ℕ × Event)). EndsAs stream x v f) (sym same.0) (subst (λ (w : Verdict). EndsAs stream es w f) (sym same.1) a.ends))

  -- a run that is Finished
  module _ (form : TextForm) (turns : ℕ) (f : Finish) (old new : StreamState) (xs : List ℕ) (left : Option (List ℕ)) (before after : Output) (ran : TextsTo form turns (outcome.Finished f) old new xs left before after) (l : Rules) (s : List ℕ) (es : List (ℕ × Event)) (a : AfterGifts gifts old s es) (free : old.refusal ≡ None) (rules : new.rules ≡ l) where
    said_by : (all : RendersAll form old new xs left before after ran.0) → Says l (start_with gifts) (s ++ ran.0.bytes ++ all.looked) (es ++ (ran.0.events gifts s es a).more) (verdict_of new.refusal)
    said_by all = subst (λ (r : Rules). Says r (start_with gifts) (s ++ ran.0.bytes ++ all.looked) (es ++ (ran.0.events gifts s es a).more) (verdict_of new.refusal)) rules (all.says free gifts s es a)

    ended_by : (o : Option Refusal) → new.refusal ≡ o → Ended l (s ++ xs) (es ++ (ran.0.events gifts s es a).more) f
    ended_by None is =
        let w = ran.0.events gifts s es a in
        let all = ran.3 in
        let no_rest : ran.0.rest ≡ [] = elim ran.1 [ inl e ↦ e | inr r ↦ let not : new.refusal ≡ Some r.0 = r.1 in absurd cc ] in
        let whole : s ++ ran.0.bytes ≡ s ++ xs = ap (λ k. s ++ k) (sym (ran.0.parts ∙ ap (λ k. ran.0.bytes ++ k) no_rest ∙ append-nil ran.0.bytes)) in
        let read : s ++ ran.0.bytes ++ all.looked ≡ s ++ xs = ap (λ k. s ++ ran.0.bytes ++ k) (all.none is) ∙ append-nil (s ++ ran.0.bytes) ∙ whole in
        record {
          front = s ++ xs;
          rest = [];
          parts = append-nil (s ++ xs);
          verdict = Waits;
          says = subst (λ (z : List ℕ). Says l (start_with gifts) z (es ++ w.more) Waits) read (subst (λ (r : Option Refusal). Says l (start_with gifts) (s ++ ran.0.bytes ++ all.looked) (es ++ w.more) (verdict_of r)) is (said_by all));
          all = λ e. refl;
          ends = subst (λ (z : List ℕ). FinishesBy None z (es ++ w.more) f) whole (subst (λ (r : Option Refusal). FinishesBy r (s ++ ran.0.bytes) (es ++ w.more) f) is (ran.2 gifts (s ++ ran.0.bytes) (es ++ w.more) w.conforms));
        }
    ended_by (Some r) is =
        let w = ran.0.events gifts s es a in
        let all = ran.3 in
        record {
          front = s ++ ran.0.bytes ++ all.looked;
          rest = all.unread;
          parts = append_assoc (s ++ ran.0.bytes) all.looked all.unread ∙ ap (λ k. s ++ ran.0.bytes ++ k) (sym all.parts) ∙ append_assoc s ran.0.bytes ran.0.rest ∙ ap (λ k. s ++ k) (sym ran.0.parts);
          verdict = Refused r.at r.why;
          says = subst (λ (k : Option Refusal). Says l (start_with gifts) (s ++ ran.0.bytes ++ all.looked) (es ++ w.more) (verdict_of k)) is (said_by all);
          all = λ e. absurd cc;
          ends = subst (λ (k : Option Refusal). FinishesBy k (s ++ ran.0.bytes) (es ++ w.more) f) is (ran.2 gifts (s ++ ran.0.bytes) (es ++ w.more) w.conforms);
        }

    pub whole_by : (more : List (ℕ × Event)) (v : Verdict) → Says l (start_with gifts) (s ++ xs) (es ++ more) v → (after ≡ with_text before (text form more)) × EndsAs (s ++ xs) (es ++ more) v f
    whole_by more v says =
        let w = ran.0.events gifts s es a in
        let said = ended_says l (s ++ xs) (es ++ w.more) (es ++ more) f v (ended_by new.refusal refl) says in
        (w.written ∙ ap (λ m. with_text before (text form m)) (sym (append_cancel_left es more w.more said.0)), said.1)

  pub rendered_whole : (form : TextForm) → IsRenderedWholeAfter gifts form
  rendered_whole form turns f old new xs left before after s es more v a free rules says ran = whole_by form turns f old new xs left before after (texts_to form turns (outcome.Finished f) old new xs left before after ran) old.rules s es a free rules more v says

  -- ---- two answers

  -- all that was read was used, where no more of a reader is left than was not used
  all_used : (form : TextForm) (old new : StreamState) (xs : List ℕ) (left : Option (List ℕ)) (before after : Output) (d : Renders form old new xs before after) (all : RendersAll form old new xs left before after d) → left ≡ Some d.rest → all.looked ≡ []
  all_used form old new xs left before after d all is =
      let unread : all.unread ≡ d.rest = let other : left ≡ Some all.unread = all.others in cc in
      no_bytes all.looked (omega (arith, ap length all.parts, length-append all.looked all.unread, ap length unread))

  module _ (form : TextForm) (turns : ℕ) (old new old' new' : StreamState) (xs : List ℕ) (left left' : Option (List ℕ)) (before after after' : Output) (l : Rules) (s : List ℕ) (es : List (ℕ × Event)) (a : AfterGifts gifts old s es) (a' : AfterGifts gifts old' s es) (free : old.refusal ≡ None) (free' : old'.refusal ≡ None) (rules : new.rules ≡ l) (rules' : new'.rules ≡ l) where
    finished_once : (f f' : Finish) → TextsTo form turns (outcome.Finished f) old new xs left before after → TextsTo form turns (outcome.Finished f') old' new' xs left' before after' → (f' ≡ f) × IsOneOutput before after after'
    finished_once f f' ran ran' =
        let w = ran.0.events gifts s es a in
        let w' = ran'.0.events gifts s es a' in
        let one = ended_once l (s ++ xs) (es ++ w.more) (es ++ w'.more) f f' (ended_by form turns f old new xs left before after ran l s es a free rules new.refusal refl) (ended_by form turns f' old' new' xs left' before after' ran' l s es a' free' rules' new'.refusal refl) in
        (one.1, inl (w'.written ∙ ap (λ m. with_text before (text form m)) (append_cancel_left es w'.more w.more one.0) ∙ sym w.written))

    -- a reader that has the same left
    read_once : (d : Renders form old new xs before after) (d' : Renders form old' new' xs before after') → left' ≡ left → left ≡ Some d.rest → left' ≡ Some d'.rest → RendersAll form old new xs left before after d → RendersAll form old' new' xs left' before after' d' → after' ≡ after
    read_once d d' same is is' all all' =
        let w = d.events gifts s es a in
        let w' = d'.events gifts s es a' in
        let rest : d'.rest ≡ d.rest = cc in
        let bytes : d'.bytes ≡ d.bytes = append_cancel_right d'.bytes d.bytes d.rest (ap (λ k. d'.bytes ++ k) (sym rest) ∙ sym d'.parts ∙ d.parts) in
        let says = subst (λ (r : Rules). Says r (start_with gifts) (s ++ d.bytes ++ all.looked) (es ++ w.more) (verdict_of new.refusal)) rules (all.says free gifts s es a) in
        let says' = subst (λ (r : Rules). Says r (start_with gifts) (s ++ d'.bytes ++ all'.looked) (es ++ w'.more) (verdict_of new'.refusal)) rules' (all'.says free' gifts s es a') in
        let at : s ++ d'.bytes ++ all'.looked ≡ s ++ d.bytes ++ all.looked = ap (λ k. s ++ d'.bytes ++ k) (all_used form old' new' xs left' before after' d' all' is' ∙ sym (all_used form old new xs left before after d all is)) ∙ ap (λ k. s ++ k ++ all.looked) bytes in
        let once = says_once l (start_with gifts) (s ++ d.bytes ++ all.looked) (es ++ w.more) (es ++ w'.more) (verdict_of new.refusal) (verdict_of new'.refusal) says (subst (λ (z : List ℕ). Says l (start_with gifts) z (es ++ w'.more) (verdict_of new'.refusal)) at says') in
        w'.written ∙ ap (λ m. with_text before (text form m)) (append_cancel_left es w'.more w.more once.0) ∙ sym w.written

    -- ---- two fronts

    reads_by : (o : Option Refusal) (d : StreamState) (z : List ℕ) (fs : List (ℕ × Event)) → AfterBy o gifts d z fs → (q : Place) × (rest : List ℕ) × Reads d.rules (start_with gifts) z fs q rest
    reads_by None d z fs conforms = (conforms.place, conforms.bytes, conforms.read)
    reads_by (Some r) d z fs refused = (refused.place, refused.bytes, refused.read)

    reads_all : (d : StreamState) (bytes rest : List ℕ) (fs : List (ℕ × Event)) → d.rules ≡ l → xs ≡ bytes ++ rest → AfterGifts gifts d (s ++ bytes) fs → (q : Place) × (end : List ℕ) × Reads l (start_with gifts) (s ++ xs) fs q end
    reads_all d bytes rest fs is parts conforms =
        let r = reads_by d.refusal d (s ++ bytes) fs conforms in
        let run : Reads l (start_with gifts) (s ++ bytes) fs r.0 r.1 = subst (λ (k : Rules). Reads k (start_with gifts) (s ++ bytes) fs r.0 r.1) is r.2 in
        let whole : (s ++ bytes) ++ rest ≡ s ++ xs = append_assoc s bytes rest ∙ ap (λ k. s ++ k) (sym parts) in
        (r.0, r.1 ++ rest, subst (λ (z : List ℕ). Reads l (start_with gifts) z fs r.0 (r.1 ++ rest)) whole (runs_stay (step l) (start_with gifts) (s ++ bytes) rest fs r.0 r.1 run))

    -- the text of more events would make of the shorter output what it would make of the longer
    more_text : (given given' : Option (List ℕ)) (f f' : ℕ) (lost lost' : List ℕ) (fs gs c : List (ℕ × Event)) → es ++ gs ≡ (es ++ fs) ++ c → append_known given lost ≡ append_known before.given (text form fs) → append_known given' lost' ≡ append_known before.given (text form gs) → f' ≡ f → GoesOnFromOther (output given f) (output given' f')
    more_text given given' f f' lost lost' fs gs c longer is is' same =
        let goes : gs ≡ fs ++ c = append_cancel_left es gs (fs ++ c) (longer ∙ append_assoc es fs c) in
        let t = text (form_after_all form fs) c in
        let other : text form gs ≡ text form fs ++ t = ap (text form) goes ∙ text-append form fs c in
        known_fronts given given' f f' (lost ++ t) lost' (sym (known_then given lost t) ∙ ap (λ k. append_known k t) is ∙ known_then before.given (text form fs) t ∙ ap (append_known before.given) (sym other) ∙ sym is') same

    front_once : RendersFront form old new xs before after → RendersFront form old' new' xs before after' → IsOneOutput before after after'
    front_once p p' =
        let w = p.events gifts s es a in
        let w' = p'.events gifts s es a' in
        let r = reads_all new p.bytes p.rest (es ++ w.more) rules p.parts w.conforms in
        let r' = reads_all new' p'.bytes p'.rest (es ++ w'.more) rules' p'.parts w'.conforms in
        let lost = w.short.lost ∷ w.short.later in
        let lost' = w'.short.lost ∷ w'.short.later in
        let same : after'.failures ≡ after.failures = w'.short.failures ∙ sym w.short.failures in
        inr (
          w.short.failures,
          w'.short.failures,
          elim (cases_lt (length (es ++ w'.more)) (length (es ++ w.more))) [
            | inl lt ↦
                let c = runs_compare (step l) (start_with gifts) r'.0 r.0 (s ++ xs) r'.1 r.1 (es ++ w'.more) (es ++ w.more) r'.2 r.2 (omega arith) in
                elim (more_text after'.given after.given after'.failures after.failures lost' lost w'.more w.more c.0 c.1 w'.short.front w.short.front (sym same)) [ inl m ↦ inr m | inr m ↦ inl m ]
            | inr le ↦
                let c = runs_compare (step l) (start_with gifts) r.0 r'.0 (s ++ xs) r.1 r'.1 (es ++ w.more) (es ++ w'.more) r.2 r'.2 le in
                more_text after.given after'.given after.failures after'.failures lost lost' w.more w'.more c.0 c.1 w.short.front w'.short.front same
          ],
        )

    pub runs_once : (o o' : Outcome) → EndsAlike o o' left left' → TextsTo form turns o old new xs left before after → TextsTo form turns o' old' new' xs left' before after' → (o' ≡ o) × IsOneOutput before after after'
    runs_once (outcome.Finished f) (outcome.Finished f') alike ran ran' = let one = finished_once f f' ran ran' in (ap (λ k. outcome.Finished k) one.0, one.1)
    runs_once outcome.ReadFault outcome.ReadFault alike ran ran' = (refl, inl (read_once ran.0 ran'.0 alike ran.1 ran'.1 ran.2 ran'.2))
    runs_once outcome.Turns outcome.Turns alike ran ran' = (refl, inl (read_once ran.0 ran'.0 alike ran.1 ran'.1 ran.3 ran'.3))
    runs_once outcome.SinkFault outcome.SinkFault alike ran ran' = (refl, front_once (part_is_front form old new xs before after ran) (part_is_front form old' new' xs before after' ran'))
    runs_once o o' alike ran ran' = absurd alike

  pub rendered_once : (form : TextForm) → IsRenderedOnceAfter gifts form
  rendered_once form turns o o' old new new' xs left left' before after after' s es a free rules rules' alike ran ran' =
      runs_once form turns old new old new' xs left left' before after after' old.rules s es a a free free rules rules' o o' alike (texts_to form turns o old new xs left before after ran) (texts_to form turns o' old new' xs left' before after' ran')

-- ---- commands

pub shows_once : (form : TextForm) (limits : Rules) (turns : ℕ) (xs : List ℕ) (left left' : Option (List ℕ)) (before after after' : Output) (e e' : Ending) → EndAlike e e' left left' → ShowsTo form limits turns e xs left before after → ShowsTo form limits turns e' xs left' before after' → (e' ≡ e) × IsOneOutput before after after'
shows_once form limits turns xs left left' before after after' (ending.Finished f) (ending.Finished f') alike a b =
    let one = runs_once [] form turns a.old a.new b.old b.new xs left left' before after after' limits [] [] a.fresh b.fresh a.unrefused b.unrefused (a.same_rules ∙ a.rules) (b.same_rules ∙ b.rules) (outcome.Finished f) (outcome.Finished f') tt (texts_to form turns (outcome.Finished f) a.old a.new xs left before after a.renders) (texts_to form turns (outcome.Finished f') b.old b.new xs left' before after' b.renders) in
    let same : outcome.Finished f' ≡ outcome.Finished f = one.0 in
    (cc, one.1)
shows_once form limits turns xs left left' before after after' ending.ReadFault ending.ReadFault alike a b =
    (refl, (runs_once [] form turns a.old a.new b.old b.new xs left left' before after after' limits [] [] a.fresh b.fresh a.unrefused b.unrefused (a.same_rules ∙ a.rules) (b.same_rules ∙ b.rules) outcome.ReadFault outcome.ReadFault alike (texts_to form turns outcome.ReadFault a.old a.new xs left before after a.renders) (texts_to form turns outcome.ReadFault b.old b.new xs left' before after' b.renders)).1)
shows_once form limits turns xs left left' before after after' ending.TooManyTurns ending.TooManyTurns alike a b =
    (refl, (runs_once [] form turns a.old a.new b.old b.new xs left left' before after after' limits [] [] a.fresh b.fresh a.unrefused b.unrefused (a.same_rules ∙ a.rules) (b.same_rules ∙ b.rules) outcome.Turns outcome.Turns alike (texts_to form turns outcome.Turns a.old a.new xs left before after a.renders) (texts_to form turns outcome.Turns b.old b.new xs left' before after' b.renders)).1)
shows_once form limits turns xs left left' before after after' ending.WriteFault ending.WriteFault alike a b =
    (refl, front_once [] form turns a.old a.new b.old b.new xs left left' before after after' limits [] [] a.fresh b.fresh a.unrefused b.unrefused (a.same_rules ∙ a.rules) (b.same_rules ∙ b.rules) a.renders b.renders)
shows_once form limits turns xs left left' before after after' ending.NoMemory ending.NoMemory alike a b = (refl, inl (b ∙ sym a))
shows_once form limits turns xs left left' before after after' e e' alike a b = absurd alike

pub concludes_once : (e : Ending) (before after after' : Output) (status status' : ℕ) → FailsAlike before after after' → Concludes e before status after → Concludes e before status' after' → (status' ≡ status) × IsOneOutput before after after'
concludes_once e before after after' status status' alike (inl a) (inl b) = (b.0 ∙ sym a.0, inl (b.1 ∙ sym a.1))
concludes_once e before after after' status status' alike (inl a) (inr b) = absurd (counts_up before.failures alike.0 (sym b.1.failures ∙ alike.1 ∙ ap (λ o. o.failures) a.1))
concludes_once e before after after' status status' alike (inr a) (inl b) = absurd (counts_up before.failures alike.0 (sym a.1.failures ∙ sym alike.1 ∙ ap (λ o. o.failures) b.1))
concludes_once e before after after' status status' alike (inr a) (inr b) = (b.0 ∙ sym a.0, inr (a.1.failures, b.1.failures, stops_once before after after' (ending_line e) a.1 b.1))

pub shown_once : (form : TextForm) → IsShownOnce form
shown_once form limits turns xs before status status' after after' a b alike fails =
    let one = shows_once form limits turns xs after.input.left after'.input.left before.out after.out after'.out a.0 b.0 alike a.1 b.1 in
    let reported = concludes_once a.0 before.err after.err after'.err status status' fails a.3 (subst (λ (e : Ending). Concludes e before.err status' after'.err) one.0 b.3) in
    (one.0, reported.0, one.1, reported.1)

-- nothing is written of a stream that is checked
nothing_written : (limits : Rules) (turns : ℕ) (f : Finish) (xs : List ℕ) (left : Option (List ℕ)) (out read : Output) → ShowsTo forms.Nothing limits turns (ending.Finished f) xs left out read → read ≡ out
nothing_written limits turns f xs left out read shows = ((texts_to forms.Nothing turns (outcome.Finished f) shows.old shows.new xs left out read shows.renders).0.events [] [] [] shows.fresh).written ∙ ap (λ g. output g out.failures) (known_nothing out.given)

module _ (out err : Output) (status status' : ℕ) (out' err' out'' err'' : Output) (fails : FailsAlike out out' out'') (fails_err : FailsAlike err err' err'') where
  verdict_once : (f : Finish) → ConcludesCheck (ending.Finished f) out err status out' err' → ConcludesCheck (ending.Finished f) out err status' out'' err'' → (status' ≡ status) × IsOneOutput out out' out'' × IsOneOutput err err' err''
  verdict_once f (inl a) (inl b) = (b.0 ∙ sym a.0, inl (b.1 ∙ sym a.1), inl (b.2 ∙ sym a.2))
  verdict_once f (inl a) (inr b) = absurd (counts_up out.failures fails.0 (sym b.0.failures ∙ fails.1 ∙ ap (λ o. o.failures) a.1))
  verdict_once f (inr a) (inl b) = absurd (counts_up out.failures fails.0 (sym a.0.failures ∙ sym fails.1 ∙ ap (λ o. o.failures) b.1))
  verdict_once f (inr a) (inr b) =
      let reported = concludes_once ending.WriteFault err err' err'' status status' fails_err a.1 b.1 in
      (reported.0, inr (a.0.failures, b.0.failures, stops_once out out' out'' (ending_line (ending.Finished f)) a.0 b.0), reported.1)

  fault_once : (e : Ending) (read read' : Output) → IsOneOutput out read read' → (out' ≡ read) × Concludes e err status err' → (out'' ≡ read') × Concludes e err status' err'' → (status' ≡ status) × IsOneOutput out out' out'' × IsOneOutput err err' err''
  fault_once e read read' one a b =
      let reported = concludes_once e err err' err'' status status' fails_err a.1 b.1 in
      (reported.0, subst (λ (o : Output). IsOneOutput out o out'') (sym a.0) (subst (λ (o : Output). IsOneOutput out read o) (sym b.0) one), reported.1)

  check_once : (limits : Rules) (turns : ℕ) (xs : List ℕ) (left left' : Option (List ℕ)) (read read' : Output) (e : Ending) → IsOneOutput out read read' → ShowsTo forms.Nothing limits turns e xs left out read → ShowsTo forms.Nothing limits turns e xs left' out read' → ConcludesCheck e read err status out' err' → ConcludesCheck e read' err status' out'' err''
      → (status' ≡ status) × IsOneOutput out out' out'' × IsOneOutput err err' err''
  check_once limits turns xs left left' read read' (ending.Finished f) one shows shows' a b =
      verdict_once f (subst (λ (o : Output). ConcludesCheck (ending.Finished f) o err status out' err') (nothing_written limits turns f xs left out read shows) a) (subst (λ (o : Output). ConcludesCheck (ending.Finished f) o err status' out'' err'') (nothing_written limits turns f xs left' out read' shows') b)
  check_once limits turns xs left left' read read' ending.ReadFault one shows shows' a b = fault_once ending.ReadFault read read' one a b
  check_once limits turns xs left left' read read' ending.WriteFault one shows shows' a b = fault_once ending.WriteFault read read' one a b
  check_once limits turns xs left left' read read' ending.NoMemory one shows shows' a b = fault_once ending.NoMemory read read' one a b
  check_once limits turns xs left left' read read' ending.TooManyTurns one shows shows' a b = fault_once ending.TooManyTurns read read' one a b
  check_once limits turns xs left left' read read' ending.BadReply one shows shows' a b = absurd shows
  check_once limits turns xs left left' read read' ending.SocketFault one shows shows' a b = absurd shows

pub checked_once : IsCheckedOnce
checked_once limits turns xs before status status' after after' a b alike fails fails_err =
    let left' = after'.input.left in
    let one = shows_once forms.Nothing limits turns xs after.input.left left' before.out a.1 b.1 a.0 b.0 alike a.2 b.2 in
    let shows : ShowsTo forms.Nothing limits turns a.0 xs left' before.out b.1 = subst (λ (e : Ending). ShowsTo forms.Nothing limits turns e xs left' before.out b.1) one.0 b.2 in
    let ends : ConcludesCheck a.0 b.1 before.err status' after'.out after'.err = subst (λ (e : Ending). ConcludesCheck e b.1 before.err status' after'.out after'.err) one.0 b.4 in
    let reported = check_once before.out before.err status status' after.out after.err after'.out after'.err fails fails_err limits turns xs after.input.left left' a.1 b.1 a.0 one.1 a.2 shows a.4 ends in
    (one.0, reported.0, reported.1, reported.2)

-- ---- the right answer

-- a fault is reported only where the outside fails
no_finish : (f : Finish) → finish_status f ≡ 3 → ⊥
no_finish (finish.Whole n) h = absurd (omega arith)
no_finish (finish.Cut at n) h = absurd (omega arith)
no_finish (finish.Refused r) h = absurd (omega arith)

three_of : (e : Ending) (before after : Output) (status : ℕ) → status_of e ≡ 3 → Concludes e before status after → status ≡ 3
three_of e before after status three (inl a) = a.0 ∙ three
three_of e before after status three (inr a) = a.0

-- the turns run out only where so many reads were made, and each gave some byte
no_time : (form : TextForm) (limits : Rules) (turns : ℕ) (xs : List ℕ) (was now : Input) (before after : Output) → HasTime turns xs was now → ShowsTo form limits turns ending.TooManyTurns xs now.left before after → ReadsBy turns ending.TooManyTurns was now → ⊥
no_time form limits turns xs was now before after (inl few) shows reads =
    let ran = texts_to form turns outcome.Turns shows.old shows.new xs now.left before after shows.renders in
    let d = ran.0 in
    absurd (omega (arith, few, ran.2, ap length d.parts, length-append d.bytes d.rest))
no_time form limits turns xs was now before after (inr fewer) shows reads =
    let all = reads.all refl in
    let fits = fewer.0 in
    let less = fewer.1 in
    let counted = reads.counted (omega arith) in
    absurd (omega arith)

module _ (form : TextForm) (limits : Rules) (turns : ℕ) (xs : List ℕ) (before : Streams) (status : ℕ) (after : Streams) where
  no_fault : (e : Ending) → status_of e ≡ 3 → ShowsTo form limits turns e xs after.input.left before.out after.out → CountsReads e before.input.failures after.input.failures → Concludes e before.err status after.err → ReadsBy turns e before.input after.input → IsGranted turns xs before after ⊎ (status ≢ 3) → ⊥
  no_fault e three shows counts ends reads (inr not) = not (three_of e before.err after.err status three ends)
  no_fault (ending.Finished f) three shows counts ends reads (inl g) = no_finish f three
  no_fault ending.ReadFault three shows counts ends reads (inl g) = counts_up before.input.failures g.reader.0 (sym counts ∙ g.reader.1)
  no_fault ending.WriteFault three shows counts ends reads (inl g) = counts_up before.out.failures g.output.0 (sym (shows.renders.events [] [] [] shows.fresh).short.failures ∙ g.output.1)
  no_fault ending.NoMemory three shows counts (inl reported) reads (inl g) = g.memory reported.1
  no_fault ending.NoMemory three shows counts (inr reported) reads (inl g) = counts_up before.err.failures g.error_output.0 (sym reported.1.failures ∙ g.error_output.1)
  no_fault ending.TooManyTurns three shows counts ends reads (inl g) = no_time form limits turns xs before.input after.input before.out after.out g.time shows reads
  no_fault ending.BadReply three shows counts ends reads (inl g) = shows
  no_fault ending.SocketFault three shows counts ends reads (inl g) = shows

  -- a verdict line that fails is the error output's fault
  reported_right : (f : Finish) → Concludes (ending.Finished f) before.err status after.err → IsGranted turns xs before after ⊎ (status ≢ 3) → (status ≡ finish_status f) × (after.err ≡ with_text before.err (ending_line (ending.Finished f)))
  reported_right f (inl reported) g = (reported.0, reported.1)
  reported_right f (inr reported) (inl g) = absurd (counts_up before.err.failures g.error_output.0 (sym reported.1.failures ∙ g.error_output.1))
  reported_right f (inr reported) (inr not) = absurd (not reported.0)

  module _ (es : List (ℕ × Event)) (v : Verdict) (says : Says limits start xs es v) (granted : IsGranted turns xs before after ⊎ (status ≢ 3)) where
    pub shown_right : (e : Ending) → ShowsTo form limits turns e xs after.input.left before.out after.out → CountsReads e before.input.failures after.input.failures → Concludes e before.err status after.err → ReadsBy turns e before.input after.input
        → (f : Finish) × EndsAs xs es v f × (status ≡ finish_status f) × (after.out ≡ with_text before.out (text form es)) × (after.err ≡ with_text before.err (ending_line (ending.Finished f)))
    shown_right (ending.Finished f) shows counts ends reads =
        let whole = whole_by [] form turns f shows.old shows.new xs after.input.left before.out after.out (texts_to form turns (outcome.Finished f) shows.old shows.new xs after.input.left before.out after.out shows.renders) limits [] [] shows.fresh shows.unrefused (shows.same_rules ∙ shows.rules) es v says in
        let reported = reported_right f ends granted in
        (f, whole.1, reported.0, whole.0, reported.1)
    shown_right ending.ReadFault shows counts ends reads = absurd (no_fault ending.ReadFault refl shows counts ends reads granted)
    shown_right ending.WriteFault shows counts ends reads = absurd (no_fault ending.WriteFault refl shows counts ends reads granted)
    shown_right ending.NoMemory shows counts ends reads = absurd (no_fault ending.NoMemory refl shows counts ends reads granted)
    shown_right ending.TooManyTurns shows counts ends reads = absurd (no_fault ending.TooManyTurns refl shows counts ends reads granted)
    shown_right ending.BadReply shows counts ends reads = absurd shows
    shown_right ending.SocketFault shows counts ends reads = absurd shows

pub shown_rightly : (form : TextForm) → IsShownRightly form
shown_rightly form limits turns xs before status after es v says granted a = shown_right form limits turns xs before status after es v says granted a.0 a.1 a.2 a.3 a.4

module _ (limits : Rules) (turns : ℕ) (xs : List ℕ) (before : Streams) (status : ℕ) (after : Streams) (es : List (ℕ × Event)) (v : Verdict) (says : Says limits start xs es v) where
  verdict_right : (f : Finish) → EndsAs xs es v f → ConcludesCheck (ending.Finished f) before.out before.err status after.out after.err → IsGranted turns xs before after ⊎ (status ≢ 3)
      → (f : Finish) × EndsAs xs es v f × (status ≡ finish_status f) × (after.out ≡ with_text before.out (ending_line (ending.Finished f))) × (after.err ≡ before.err)
  verdict_right f is (inl reported) granted = (f, is, reported.0, reported.1, reported.2)
  verdict_right f is (inr reported) (inl g) = absurd (counts_up before.out.failures g.output.0 (sym reported.0.failures ∙ g.output.1))
  verdict_right f is (inr reported) (inr not) = absurd (not (three_of ending.WriteFault before.err after.err status refl reported.1))

  fault_right : (read : Output) (e : Ending) → status_of e ≡ 3 → ShowsTo forms.Nothing limits turns e xs after.input.left before.out read → CountsReads e before.input.failures after.input.failures → (after.out ≡ read) × Concludes e before.err status after.err → ReadsBy turns e before.input after.input → IsGranted turns xs before after ⊎ (status ≢ 3) → ⊥
  fault_right read e three shows counts ends reads granted =
      no_fault forms.Nothing limits turns xs before status (record after { out = read }) e three shows counts ends.1 reads (subst (λ (o : Output). IsGranted turns xs before (record after { out = o }) ⊎ (status ≢ 3)) ends.0 granted)

  pub checked_right : (read : Output) (e : Ending) → ShowsTo forms.Nothing limits turns e xs after.input.left before.out read → CountsReads e before.input.failures after.input.failures → ConcludesCheck e read before.err status after.out after.err → ReadsBy turns e before.input after.input → IsGranted turns xs before after ⊎ (status ≢ 3)
      → (f : Finish) × EndsAs xs es v f × (status ≡ finish_status f) × (after.out ≡ with_text before.out (ending_line (ending.Finished f))) × (after.err ≡ before.err)
  checked_right read (ending.Finished f) shows counts ends reads granted =
      let whole = whole_by [] forms.Nothing turns f shows.old shows.new xs after.input.left before.out read (texts_to forms.Nothing turns (outcome.Finished f) shows.old shows.new xs after.input.left before.out read shows.renders) limits [] [] shows.fresh shows.unrefused (shows.same_rules ∙ shows.rules) es v says in
      verdict_right f whole.1 (subst (λ (o : Output). ConcludesCheck (ending.Finished f) o before.err status after.out after.err) (nothing_written limits turns f xs after.input.left before.out read shows) ends) granted
  checked_right read ending.ReadFault shows counts ends reads granted = absurd (fault_right read ending.ReadFault refl shows counts ends reads granted)
  checked_right read ending.WriteFault shows counts ends reads granted = absurd (fault_right read ending.WriteFault refl shows counts ends reads granted)
  checked_right read ending.NoMemory shows counts ends reads granted = absurd (fault_right read ending.NoMemory refl shows counts ends reads granted)
  checked_right read ending.TooManyTurns shows counts ends reads granted = absurd (fault_right read ending.TooManyTurns refl shows counts ends reads granted)
  checked_right read ending.BadReply shows counts ends reads granted = absurd shows
  checked_right read ending.SocketFault shows counts ends reads granted = absurd shows

pub checked_rightly : IsCheckedRightly
checked_rightly limits turns xs before status after es v says granted a = checked_right limits turns xs before status after es v says a.1 a.0 a.2 a.3 a.4 a.5 granted

-- ---- two commands to which the outside did the same

module _ (form : TextForm) (limits : Rules) (turns : ℕ) (xs : List ℕ) (was input input' : Input) (before out out' : Output) where
  -- but for a write fault, no call of the output failed
  no_write_failed : (e : Ending) → e ≢ ending.WriteFault → (left : Option (List ℕ)) (after : Output) → ShowsTo form limits turns e xs left before after → after.failures ≡ before.failures
  no_write_failed (ending.Finished f) sound left after shows = ap (λ o. o.failures) ((texts_to form turns (outcome.Finished f) shows.old shows.new xs left before after shows.renders).0.events [] [] [] shows.fresh).written
  no_write_failed ending.ReadFault sound left after shows = ap (λ o. o.failures) ((texts_to form turns outcome.ReadFault shows.old shows.new xs left before after shows.renders).0.events [] [] [] shows.fresh).written
  no_write_failed ending.TooManyTurns sound left after shows = ap (λ o. o.failures) ((texts_to form turns outcome.Turns shows.old shows.new xs left before after shows.renders).0.events [] [] [] shows.fresh).written
  no_write_failed ending.WriteFault sound left after shows = absurd (sound refl)
  no_write_failed ending.NoMemory sound left after shows = ap (λ o. o.failures) shows
  no_write_failed ending.BadReply sound left after shows = absurd shows
  no_write_failed ending.SocketFault sound left after shows = absurd shows

  write_failed : (left : Option (List ℕ)) (after : Output) → ShowsTo form limits turns ending.WriteFault xs left before after → after.failures ≡ counted true before.failures
  write_failed left after shows = (shows.renders.events [] [] [] shows.fresh).short.failures

  module _ (alike : FailsAlike before out out') where
    only_second : (e : Ending) → e ≢ ending.WriteFault → ShowsTo form limits turns e xs input.left before out → ShowsTo form limits turns ending.WriteFault xs input'.left before out' → ⊥
    only_second e sound shows shows' = counts_up before.failures alike.0 (sym (write_failed input'.left out' shows') ∙ alike.1 ∙ no_write_failed e sound input.left out shows)

    only_first : (e : Ending) → e ≢ ending.WriteFault → ShowsTo form limits turns ending.WriteFault xs input.left before out → ShowsTo form limits turns e xs input'.left before out' → ⊥
    only_first e sound shows shows' = counts_up before.failures alike.0 (sym (write_failed input.left out shows) ∙ sym alike.1 ∙ no_write_failed e sound input'.left out' shows')

  ends_alike : (e e' : Ending) → ShowsTo form limits turns e xs input.left before out → ShowsTo form limits turns e' xs input'.left before out' → CountsReads e was.failures input.failures → CountsReads e' was.failures input'.failures → ReadsBy turns e was input → ReadsBy turns e' was input' → IsServedAlike turns xs was input input' before out out' e e' → EndAlike e e' input.left input'.left
  ends_alike (ending.Finished f) (ending.Finished f') a b m n r r' s = tt
  ends_alike (ending.Finished f) ending.ReadFault a b m n r r' s = absurd (counts_up was.failures s.reader.0 (sym n ∙ s.reader.1 ∙ m))
  ends_alike (ending.Finished f) ending.TooManyTurns a b m n r r' s = absurd (elim s.time [ inl t ↦ no_time form limits turns xs was input' before out' t.1 b r' | inr t ↦ let is = t.1 refl in cc ])
  ends_alike (ending.Finished f) ending.WriteFault a b m n r r' s = absurd (only_second s.output (ending.Finished f) (λ is. cc) a b)
  ends_alike (ending.Finished f) ending.NoMemory a b m n r r' s = absurd (let is = s.memory.1 refl in cc)
  ends_alike (ending.Finished f) ending.BadReply a b m n r r' s = absurd b
  ends_alike (ending.Finished f) ending.SocketFault a b m n r r' s = absurd b
  ends_alike ending.ReadFault (ending.Finished f') a b m n r r' s = absurd (counts_up was.failures s.reader.0 (sym m ∙ sym s.reader.1 ∙ n))
  ends_alike ending.ReadFault ending.ReadFault a b m n r r' s = s.left (inl refl)
  ends_alike ending.ReadFault ending.TooManyTurns a b m n r r' s = absurd (counts_up was.failures s.reader.0 (sym m ∙ sym s.reader.1 ∙ n))
  ends_alike ending.ReadFault ending.WriteFault a b m n r r' s = absurd (only_second s.output ending.ReadFault (λ is. cc) a b)
  ends_alike ending.ReadFault ending.NoMemory a b m n r r' s = absurd (let is = s.memory.1 refl in cc)
  ends_alike ending.ReadFault ending.BadReply a b m n r r' s = absurd b
  ends_alike ending.ReadFault ending.SocketFault a b m n r r' s = absurd b
  ends_alike ending.TooManyTurns (ending.Finished f') a b m n r r' s = absurd (elim s.time [ inl t ↦ no_time form limits turns xs was input before out t.0 a r | inr t ↦ let is = t.0 refl in cc ])
  ends_alike ending.TooManyTurns ending.ReadFault a b m n r r' s = absurd (counts_up was.failures s.reader.0 (sym n ∙ s.reader.1 ∙ m))
  ends_alike ending.TooManyTurns ending.TooManyTurns a b m n r r' s = s.left (inr refl)
  ends_alike ending.TooManyTurns ending.WriteFault a b m n r r' s = absurd (only_second s.output ending.TooManyTurns (λ is. cc) a b)
  ends_alike ending.TooManyTurns ending.NoMemory a b m n r r' s = absurd (let is = s.memory.1 refl in cc)
  ends_alike ending.TooManyTurns ending.BadReply a b m n r r' s = absurd b
  ends_alike ending.TooManyTurns ending.SocketFault a b m n r r' s = absurd b
  ends_alike ending.WriteFault (ending.Finished f') a b m n r r' s = absurd (only_first s.output (ending.Finished f') (λ is. cc) a b)
  ends_alike ending.WriteFault ending.ReadFault a b m n r r' s = absurd (only_first s.output ending.ReadFault (λ is. cc) a b)
  ends_alike ending.WriteFault ending.TooManyTurns a b m n r r' s = absurd (only_first s.output ending.TooManyTurns (λ is. cc) a b)
  ends_alike ending.WriteFault ending.WriteFault a b m n r r' s = tt
  ends_alike ending.WriteFault ending.NoMemory a b m n r r' s = absurd (let is = s.memory.1 refl in cc)
  ends_alike ending.WriteFault ending.BadReply a b m n r r' s = absurd b
  ends_alike ending.WriteFault ending.SocketFault a b m n r r' s = absurd b
  ends_alike ending.NoMemory (ending.Finished f') a b m n r r' s = absurd (let is = s.memory.0 refl in cc)
  ends_alike ending.NoMemory ending.ReadFault a b m n r r' s = absurd (let is = s.memory.0 refl in cc)
  ends_alike ending.NoMemory ending.TooManyTurns a b m n r r' s = absurd (let is = s.memory.0 refl in cc)
  ends_alike ending.NoMemory ending.WriteFault a b m n r r' s = absurd (let is = s.memory.0 refl in cc)
  ends_alike ending.NoMemory ending.NoMemory a b m n r r' s = tt
  ends_alike ending.NoMemory ending.BadReply a b m n r r' s = absurd b
  ends_alike ending.NoMemory ending.SocketFault a b m n r r' s = absurd b
  ends_alike ending.BadReply (ending.Finished f') a b m n r r' s = absurd a
  ends_alike ending.BadReply ending.ReadFault a b m n r r' s = absurd a
  ends_alike ending.BadReply ending.TooManyTurns a b m n r r' s = absurd a
  ends_alike ending.BadReply ending.WriteFault a b m n r r' s = absurd a
  ends_alike ending.BadReply ending.NoMemory a b m n r r' s = absurd a
  ends_alike ending.BadReply ending.BadReply a b m n r r' s = absurd a
  ends_alike ending.BadReply ending.SocketFault a b m n r r' s = absurd a
  ends_alike ending.SocketFault (ending.Finished f') a b m n r r' s = absurd a
  ends_alike ending.SocketFault ending.ReadFault a b m n r r' s = absurd a
  ends_alike ending.SocketFault ending.TooManyTurns a b m n r r' s = absurd a
  ends_alike ending.SocketFault ending.WriteFault a b m n r r' s = absurd a
  ends_alike ending.SocketFault ending.NoMemory a b m n r r' s = absurd a
  ends_alike ending.SocketFault ending.BadReply a b m n r r' s = absurd a
  ends_alike ending.SocketFault ending.SocketFault a b m n r r' s = absurd a

pub commands_end_once : (form : TextForm) → EndsOnce form
commands_end_once form limits turns xs before status status' after after' a b alike = ends_alike form limits turns xs before.input after.input after'.input before.out after.out after'.out a.0 b.0 a.1 b.1 a.2 b.2 a.4 b.4 alike

pub checks_end_once : ChecksEndOnce
checks_end_once limits turns xs before status status' after after' a b alike = ends_alike forms.Nothing limits turns xs before.input after.input after'.input before.out a.1 b.1 a.0 b.0 a.2 b.2 a.3 b.3 a.5 b.5 alike
