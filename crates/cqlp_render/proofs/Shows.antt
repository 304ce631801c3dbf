-- Rendering through a buffer.
use Rattle.std.proofs.Common.{◌≡◌, ◌≢◌, ℕ, ◌+◌, true, List, [], ◌∷◌, ◌++◌, Option, None, IsSome, refl, sym, ap, inl, inr, ◌∙◌, subst, append_assoc}
use Rattle.std.specs.Io.KnownBytes.{append_known}
use Rattle.cqlp_note.specs.Streams.{counted}
use Rattle.cqlp_decode.specs.declared.running.Outcome.{Outcome}
use Rattle.cqlp_decode.specs.declared.running.Outcome.TheVariants as outcome
use Rattle.cqlp_decode.specs.Progress.{StreamState}
use Rattle.cqlp_decode.specs.Streams.{After}
use Rattle.cqlp_decode.specs.Draining.{Counts, FeedsInto, RunsTo}
use Rattle.cqlp_render.specs.declared.text_form.TextForm.{TextForm}
use Rattle.cqlp_render.specs.Forms.{text, text_of, form_after_all}
use Rattle.cqlp_text.specs.Written.{Written, Receives, BreaksOff, bare, taken}
use Rattle.cqlp_text.specs.Outputs.{Output, output, with_text, StopsWithin}
use Rattle.cqlp_text.proofs.Writing.{known_then}
use Rattle.cqlp_render.specs.Rendering.{Rendering, with_event, StopsWithinEvent, FallsShort, FallsShortAtEvent, GoesOn, RendersFront}
use Rattle.cqlp_render.specs.Streams.{Input}
use Rattle.cqlp_render.specs.Showing.{CountsReads, FlushesTo, IsPassedOn, ReadsBy, RunReads, RendersOrFails, ShowsTo, Concludes, ConcludesCheck, ending_of}
use Rattle.cqlp_text.specs.declared.ending.Ending.{Ending}
use Rattle.cqlp_text.specs.declared.ending.Ending.TheVariants as ending
use Rattle.cqlp_text.specs.Endings.{ending_line, status_of}
use Rattle.cqlp_grammar.specs.declared.event.Finish.{Finish}
use Rattle.cqlp_note.specs.Limits.{Rules}
use Rattle.cqlp_render.proofs.Renders.{known_nothing, known_still, text-last, fold-text, renders_to, texts_to, Renders, RendersPart}
use Rattle.cqlp_render.proofs.Buffering.{known_taken, breaks_short, flushes, goes_same, goes_then}
use Rattle.cqlp_render.proofs.Turns.{runs_on}

-- ---- fronts

some_byte : (first : List ℕ) (x : ℕ) (rest : List ℕ) → (lost : ℕ) × (later : List ℕ) × (first ++ x ∷ rest ≡ lost ∷ later)
some_byte [] x rest = (x, rest, refl)
some_byte (y ∷ first) x rest = (y, first ++ x ∷ rest, refl)

module _ (form : TextForm) (old new : StreamState) (xs : List ℕ) (before : Output) where
  -- a target that failed within the text of an event was given a front
  pub part_is_front : (after : Output) → RendersPart form old new xs before after → RendersFront form old new xs before after
  part_is_front after p = record {
    bytes = p.bytes;
    rest = p.rest;
    parts = p.parts;
    events = λ gifts s es a.
        let w = p.events gifts s es a in
        let t = text form w.more in
        record {
          more = w.more ++ (w.at, w.event) ∷ [];
          conforms = rw (← (append_assoc es w.more ((w.at, w.event) ∷ []))) w.conforms;
          short = record {
            lost = w.written.lost;
            later = w.written.later;
            front =
                ap (λ g. append_known g (w.written.lost ∷ w.written.later)) w.written.given ∙ known_then (append_known before.given t) w.written.sent (w.written.lost ∷ w.written.later)
                ∙ ap (append_known (append_known before.given t)) w.written.split ∙ known_then before.given t (text_of (form_after_all form w.more) w.at w.event)
                ∙ ap (append_known before.given) (sym (text-last form w.more w.at w.event));
            failures = w.written.failures;
          };
        };
  }

  -- all text was taken, and then the target failed before it was given all
  all_is_front : (after end : Output) → FallsShort after [] end → Renders form old new xs before after → RendersFront form old new xs before end
  all_is_front after end short r = record {
    bytes = r.bytes;
    rest = r.rest;
    parts = r.parts;
    events = λ gifts s es a.
        let w = r.events gifts s es a in
        record {
          more = w.more;
          conforms = w.conforms;
          short = record {
            lost = short.lost;
            later = short.later;
            front = short.front ∙ known_nothing after.given ∙ ap (λ o. o.given) w.written;
            failures = short.failures ∙ ap (λ o. counted true o.failures) w.written;
          };
        };
  }

  -- what waits is not given
  front_of_front : (given : Option (List ℕ)) (waiting : List ℕ) (f : ℕ) → RendersFront form old new xs before (output (append_known given waiting) f) → RendersFront form old new xs before (output given f)
  front_of_front given waiting f r = record {
    bytes = r.bytes;
    rest = r.rest;
    parts = r.parts;
    events = λ gifts s es a.
        let w = r.events gifts s es a in
        let more = some_byte waiting w.short.lost w.short.later in
        record {
          more = w.more;
          conforms = w.conforms;
          short = record {
            lost = more.0;
            later = more.1;
            front = ap (append_known given) (sym more.2) ∙ sym (known_then given waiting (w.short.lost ∷ w.short.later)) ∙ w.short.front;
            failures = w.short.failures;
          };
        };
  }

-- a buffer that failed at an event
feeds_front : (old new : StreamState) (xs : List ℕ) (left : Option (List ℕ)) (before after : Rendering) → FeedsInto with_event FallsShortAtEvent old new xs left before after → RendersFront before.form old new xs before.output after.output
feeds_front old new xs left before after p = record {
  bytes = p.bytes;
  rest = p.rest;
  parts = p.parts;
  events = λ gifts s es a.
      let d = p.failed gifts s es a in
      let form = before.form in
      let t = text form d.more in
      let last = text_of (form_after_all form d.more) d.at d.event in
      let f : FallsShort (with_text before.output t) last after.output = subst (λ (r : Rendering). FallsShort r.output (text_of r.form d.at d.event) after.output) (fold-text before.output form d.more) d.fault in
      record {
        more = d.more ++ (d.at, d.event) ∷ [];
        conforms = rw (← (append_assoc es d.more ((d.at, d.event) ∷ []))) d.conforms;
        short = record {
          lost = f.lost;
          later = f.later;
          front = f.front ∙ known_then before.output.given t last ∙ ap (append_known before.output.given) (sym (text-last form d.more d.at d.event));
          failures = f.failures;
        };
      };
}

-- ---- runs with flushes between them

module _ (old new : StreamState) (xs : List ℕ) (left : Option (List ℕ)) (before after : Rendering) (fresh : After old [] []) where
  -- what a run that stopped after its turns has written
  module _ (turns : ℕ) (ran : RunsTo with_event FallsShortAtEvent turns outcome.Turns old new xs left before after) where
    pub reports_on : IsSome before.output.given → IsSome after.output.given
    reports_on known =
        let wrote = (renders_to turns outcome.Turns old new xs left before after ran).0.events [] [] [] fresh in
        subst (λ (g : Option (List ℕ)). IsSome g) (sym (ap (λ o. o.given) wrote.written)) (known_still before.output.given (text before.form wrote.more) known)

    pub front_between : (end : Output) → FallsShort after.output [] end → RendersFront before.form old new xs before.output end
    front_between end short = all_is_front before.form old new xs before.output after.output end short (renders_to turns outcome.Turns old new xs left before after ran).0

  -- a run of some turns, as one of at most this many
  pub renders_or_fails : (turns : ℕ) (o : Outcome) → RunsTo with_event FallsShortAtEvent turns o old new xs left before after → RendersOrFails before.form turns o old new xs left before.output after.output
  renders_or_fails turns (outcome.Finished f) ran = (after.form, ran)
  renders_or_fails turns outcome.ReadFault ran = (after.form, ran)
  renders_or_fails turns outcome.Turns ran = (after.form, ran)
  renders_or_fails turns outcome.SinkFault ran = feeds_front old new xs left before after ran

  pub ends_early : (turn turns : ℕ) (o : Outcome) → o ≢ outcome.Turns → RunsTo with_event FallsShortAtEvent turn o old new xs left before after → RendersOrFails before.form turns o old new xs left before.output after.output
  ends_early turn turns (outcome.Finished f) early ran = renders_or_fails turns (outcome.Finished f) ran
  ends_early turn turns outcome.ReadFault early ran = renders_or_fails turns outcome.ReadFault ran
  ends_early turn turns outcome.Turns early ran = absurd (early refl)
  ends_early turn turns outcome.SinkFault early ran = renders_or_fails turns outcome.SinkFault ran

  -- a run over a target
  pub renders_at_once : (turns : ℕ) (o : Outcome) → RunsTo with_event StopsWithinEvent turns o old new xs left before after → RendersOrFails before.form turns o old new xs left before.output after.output
  renders_at_once turns (outcome.Finished f) ran = (after.form, ran)
  renders_at_once turns outcome.ReadFault ran = (after.form, ran)
  renders_at_once turns outcome.Turns ran = (after.form, ran)
  renders_at_once turns outcome.SinkFault ran = part_is_front before.form old new xs before.output after.output (renders_to turns outcome.SinkFault old new xs left before after ran)

-- one more read, after a flush
pub goes_on : (old mid new : StreamState) (xs : List ℕ) (left left' : Option (List ℕ)) (first before flushed after : Rendering) (turn : ℕ) (o : Outcome) → mid.refusal ≡ None → (ran : RunsTo with_event FallsShortAtEvent turn outcome.Turns old mid xs left first before)
    → flushed ≡ before → RunsTo with_event FallsShortAtEvent 1 o mid new ran.0.rest left' flushed after → RunsTo with_event FallsShortAtEvent (turn + 1) o old new xs left' first after
goes_on old mid new xs left left' first before flushed after turn o waits ran is more =
    runs_on with_event old mid new xs first before after ran.0 FallsShortAtEvent (λ free. waits) turn 1 o left' ran.2 (subst (λ (r : Rendering). RunsTo with_event FallsShortAtEvent 1 o mid new ran.0.rest left' r after) is more)

-- ---- what goes to the output after the buffer

-- where no target failed, all events were written
all_events : (form : TextForm) (turns : ℕ) (o : Outcome) (old new : StreamState) (xs : List ℕ) (left : Option (List ℕ)) (before after : Output) → o ≢ outcome.SinkFault → RendersOrFails form turns o old new xs left before after → Renders form old new xs before after
all_events form turns (outcome.Finished f) old new xs left before after sound ran = (texts_to form turns (outcome.Finished f) old new xs left before after ran).0
all_events form turns outcome.ReadFault old new xs left before after sound ran = (texts_to form turns outcome.ReadFault old new xs left before after ran).0
all_events form turns outcome.Turns old new xs left before after sound ran = (texts_to form turns outcome.Turns old new xs left before after ran).0
all_events form turns outcome.SinkFault old new xs left before after sound ran = absurd (sound refl)

module _ (form : TextForm) (turns : ℕ) (o : Outcome) (old new : StreamState) (xs : List ℕ) (left given : Option (List ℕ)) (f : ℕ) (a b : Written) (starts : a ≡ bare given f) (fresh : After old [] []) (ran : RendersOrFails form turns o old new xs left (output (taken a) a.failures) (output (taken b) b.failures)) where
  -- what the buffer was given at first
  first_given : output (taken a) a.failures ≡ output given f
  first_given = ap (λ w. output (taken w) w.failures) starts ∙ ap (λ g. output g f) (known_nothing given)

  ran_from : RendersOrFails form turns o old new xs left (output given f) (output (taken b) b.failures)
  ran_from = subst (λ (x : Output). RendersOrFails form turns o old new xs left x (output (taken b) b.failures)) first_given ran

  -- the target failed where the run says so
  failed_in : o ≡ outcome.SinkFault → RendersFront form old new xs (output given f) (output b.given b.failures)
  failed_in is = front_of_front form old new xs (output given f) b.given b.waiting b.failures (subst (λ (p : Outcome). RendersOrFails form turns p old new xs left (output given f) (output (taken b) b.failures)) is ran_from)

  reports_taken : IsSome given → o ≢ outcome.SinkFault → IsSome (taken b)
  reports_taken known sound =
      let wrote = ((all_events form turns o old new xs left _ _ sound ran_from).events [] [] [] fresh) in
      subst (λ (g : Option (List ℕ)). IsSome g) (sym (ap (λ x. x.given) wrote.written)) (known_still given (text form wrote.more) known)

  pub reports_given : IsSome given → o ≢ outcome.SinkFault → IsSome b.given
  reports_given known sound = known_taken b.given b.waiting (reports_taken known sound)

  -- the target failed as the buffer was flushed
  failed_later : (c : Written) → IsSome given → o ≢ outcome.SinkFault → BreaksOff b [] c → RendersFront form old new xs (output given f) (output c.given c.failures)
  failed_later c known sound breaks =
      all_is_front form old new xs (output given f) (output (taken b) b.failures) (output c.given c.failures) (breaks_short b c [] breaks (reports_given known sound)) (all_events form turns o old new xs left _ _ sound ran_from)

  -- all was passed on
  passed_through : (c : Written) → IsSome given → o ≢ outcome.SinkFault → Receives b [] c → c.waiting ≡ [] → RendersOrFails form turns o old new xs left (output given f) (output c.given c.failures)
  passed_through c known sound takes none =
      subst (λ (x : Output). RendersOrFails form turns o old new xs left (output given f) x) (flushes b c takes none (reports_given known sound)) ran_from

  flushed_on : (ends : Outcome) (after : Output) (c : Written) → IsSome given → o ≢ outcome.SinkFault → FlushesTo o b ends c → after ≡ output c.given c.failures → RendersOrFails form turns ends old new xs left (output given f) after
  flushed_on ends after c known sound (inl all) is = rw (all.0, is) (passed_through c known sound all.1 all.2)
  flushed_on ends after c known sound (inr failed) is = rw (failed.0, is) (failed_later c known sound failed.1)

  -- the run's text, with what waited after it
  pub passed_on : (ends : Outcome) (after : Output) → IsSome given → IsPassedOn o b ends after → RendersOrFails form turns ends old new xs left (output given f) after
  passed_on ends after known (inl failed) = rw (failed.1, failed.2) (failed_in failed.0)
  passed_on ends after known (inr later) = flushed_on ends after later.1 known later.0 later.2 later.3

-- no less was given
flushed_goes : (o ends : Outcome) (b c : Written) → FlushesTo o b ends c → GoesOn b.given c.given
flushed_goes o ends b c (inl all) text is = let p = all.1.passed text is in (p.0, p.1)
flushed_goes o ends b c (inr failed) text is = let p = failed.1.passed text is in (p.0, p.1)

pub passed_on_goes : (o ends : Outcome) (b : Written) (after : Output) → IsPassedOn o b ends after → GoesOn b.given after.given
passed_on_goes o ends b after (inl failed) = goes_same b.given after.given (sym (ap (λ x. x.given) failed.2))
passed_on_goes o ends b after (inr later) =
    goes_then b.given later.1.given after.given (flushed_goes o ends b later.1 later.2) (goes_same later.1.given after.given (sym (ap (λ x. x.given) later.3)))

-- the buffer reports what it was given
pub reports_at_first : (a : Written) (given : Option (List ℕ)) (f : ℕ) → a ≡ bare given f → IsSome given → IsSome (taken a)
reports_at_first a given f starts known = subst (λ (w : Written). IsSome (taken w)) (sym starts) (known_still given [] known)

pub shows_by : (form : TextForm) (limits : Rules) (turns : ℕ) (o : Outcome) (old new : StreamState) (xs : List ℕ) (left : Option (List ℕ)) (before after : Output) → After old [] [] → old.refusal ≡ None → old.rules ≡ limits → new.rules ≡ old.rules → RendersOrFails form turns o old new xs left before after → ShowsTo form limits turns (ending_of o) xs left before after
shows_by form limits turns (outcome.Finished f) old new xs left before after fresh unrefused rules same ran = record { old = old; new = new; fresh = fresh; unrefused = unrefused; rules = rules; same_rules = same; renders = ran }
shows_by form limits turns outcome.ReadFault old new xs left before after fresh unrefused rules same ran = record { old = old; new = new; fresh = fresh; unrefused = unrefused; rules = rules; same_rules = same; renders = ran }
shows_by form limits turns outcome.Turns old new xs left before after fresh unrefused rules same ran = record { old = old; new = new; fresh = fresh; unrefused = unrefused; rules = rules; same_rules = same; renders = ran }
shows_by form limits turns outcome.SinkFault old new xs left before after fresh unrefused rules same ran = record { old = old; new = new; fresh = fresh; unrefused = unrefused; rules = rules; same_rules = same; renders = ran }

-- a run's reads are those of the command that ends as it does
pub reads_by : (turns : ℕ) (o : Outcome) (old new : Input) → RunReads turns o old new → ReadsBy turns (ending_of o) old new
reads_by turns (outcome.Finished f) old new reads = reads
reads_by turns outcome.ReadFault old new reads = reads
reads_by turns outcome.Turns old new reads = reads
reads_by turns outcome.SinkFault old new reads = (outcome.SinkFault, reads)

reads_flushed : (turns : ℕ) (o ends : Outcome) (b c : Written) (old new : Input) → RunReads turns o old new → FlushesTo o b ends c → ReadsBy turns (ending_of ends) old new
reads_flushed turns o ends b c old new reads (inl all) = rw all.0 (reads_by turns o old new reads)
reads_flushed turns o ends b c old new reads (inr failed) = rw failed.0 (o, reads)

-- and passing on reads nothing
pub reads_passed_on : (turns : ℕ) (o ends : Outcome) (b : Written) (after : Output) (old new : Input) → RunReads turns o old new → IsPassedOn o b ends after → ReadsBy turns (ending_of ends) old new
reads_passed_on turns o ends b after old new reads (inl failed) = rw failed.1 (o, reads)
reads_passed_on turns o ends b after old new reads (inr later) = reads_flushed turns o ends b later.1 old new reads later.2

counts_by : (o : Outcome) (old new : ℕ) → Counts o old new → CountsReads (ending_of o) old new
counts_by (outcome.Finished f) old new counts = counts
counts_by outcome.ReadFault old new counts = counts
counts_by outcome.Turns old new counts = counts
counts_by outcome.SinkFault old new counts = tt

counts_flushed : (o ends : Outcome) (b c : Written) (old new : ℕ) → Counts o old new → FlushesTo o b ends c → CountsReads (ending_of ends) old new
counts_flushed o ends b c old new counts (inl all) = rw all.0 (counts_by o old new counts)
counts_flushed o ends b c old new counts (inr failed) = rw failed.0 tt

pub counts_passed_on : (o ends : Outcome) (b : Written) (after : Output) (old new : ℕ) → Counts o old new → IsPassedOn o b ends after → CountsReads (ending_of ends) old new
counts_passed_on o ends b after old new counts (inl failed) = rw failed.1 tt
counts_passed_on o ends b after old new counts (inr later) = counts_flushed o ends b later.1 old new counts later.2

-- ---- how a check ends

-- the output of a stream that was read reports what it got
pub reports_read : (form : TextForm) (limits : Rules) (turns : ℕ) (f : Finish) (xs : List ℕ) (left : Option (List ℕ)) (before after : Output) → IsSome before.given → ShowsTo form limits turns (ending.Finished f) xs left before after → IsSome after.given
reports_read form limits turns f xs left before after known shows =
    let wrote = (texts_to form turns (outcome.Finished f) shows.old shows.new xs left before after shows.renders).0.events [] [] [] shows.fresh in
    subst (λ (g : Option (List ℕ)). IsSome g) (sym (ap (λ o. o.given) wrote.written)) (known_still before.given (text form wrote.more) known)

module _ (e : Ending) (f : Finish) (is : e ≡ ending.Finished f) (out out' err : Output) (status : ℕ) where
  pub checks_verdict : status ≡ status_of e → out' ≡ with_text out (ending_line e) → ConcludesCheck e out err status out' err
  checks_verdict same wrote = subst (λ (x : Ending). ConcludesCheck x out err status out' err) (sym is) (inl (same ∙ ap status_of is, wrote ∙ ap (λ x. with_text out (ending_line x)) is, refl))

  pub checks_failed : (err' : Output) → StopsWithin out (ending_line e) out' → Concludes ending.WriteFault err status err' → ConcludesCheck e out err status out' err'
  checks_failed err' failed ends = subst (λ (x : Ending). ConcludesCheck x out err status out' err') (sym is) (inr (subst (λ (x : Ending). StopsWithin out (ending_line x) out') is failed, ends))

pub checks_fault : (e : Ending) → ((f : Finish) → e ≡ ending.Finished f → ⊥) → (out err : Output) (status : ℕ) (err' : Output) → Concludes e err status err' → ConcludesCheck e out err status out err'
checks_fault (ending.Finished f) fault out err status err' ends = absurd (fault f refl)
checks_fault ending.ReadFault fault out err status err' ends = (refl, ends)
checks_fault ending.WriteFault fault out err status err' ends = (refl, ends)
checks_fault ending.NoMemory fault out err status err' ends = (refl, ends)
checks_fault ending.TooManyTurns fault out err status err' ends = (refl, ends)
checks_fault ending.BadReply fault out err status err' ends = (refl, ends)
checks_fault ending.SocketFault fault out err status err' ends = (refl, ends)
