-- What is read of bytes in memory, and that a frame within the limits is back.
use Rattle.std.proofs.Common.{◌≡◌, ℕ, ◌+◌, ◌<◌, List, [], ◌∷◌, ◌++◌, length, false, Bool, refl, sym, ap, subst, ◌∙◌, append_assoc, arith}
use Rattle.std.specs.Prelude.{Option, Some, None}
use Rattle.std.proofs.lemmas.List.{length-append}
use Rattle.cqlp_note.specs.declared.limits.Limits.{Limits}
use Rattle.cqlp_note.specs.Limits.{Rules, rules_of}
use Rattle.cqlp_note.proofs.Runs.{runs_compare, runs_stay}
use Rattle.cqlp_grammar.specs.declared.event.Finish.{Finish}
use Rattle.cqlp_grammar.specs.declared.event.Finish.TheVariants as finish
use Rattle.cqlp_message.specs.FrameValues.{FrameValue}
use Rattle.cqlp_message.specs.Parts.{parts_size, parts_events}
use Rattle.cqlp_message.specs.Frames.{Flat, FrameIsInRange, frame_bytes, frame_parts, frame_size, header_of, unfit_of}
use Rattle.cqlp_message.proofs.FramesWritten.{frame_written}
use Rattle.cqlp_decode.specs.declared.running.Outcome.TheVariants as outcome
use Rattle.cqlp_decode.specs.Reading.{Event, Waits, Frame, End, Reads, start, step}
use Rattle.cqlp_decode.specs.Progress.{StreamState}
use Rattle.cqlp_decode.specs.Streams.{Decoding, state, FinishesBy, open_from, frame_from}
use Rattle.cqlp_decode.specs.Draining.{Calls, FeedsInto, MakesReads, RunsTo}
use Rattle.cqlp_laws.specs.OneAnswer.{IsNew}
use Rattle.cqlp_laws.proofs.OneAnswer.{no_further}
use Rattle.cqlp_laws.proofs.OneRun.{after_reads, runs_right}
use Rattle.cqlp_laws.proofs.WrittenFrames.{written_is_read}
use Rattle.cqlp_round_trip.specs.declared.trip.RoundTripError.{RoundTripError}
use Rattle.cqlp_round_trip.specs.declared.trip.RoundTripError.TheVariants as error
use Rattle.cqlp_round_trip.specs.RoundTrip.{Explains, KeepsDecoder, ComesBack, ReadsAll, FailsWithin, FailsReading}

-- ---- the end of a frame

shut : (b : Bool) (es : List (ℕ × Event)) (at n : ℕ) → open_from b (es ++ (at, End n) ∷ []) ≡ false
shut b [] at n = refl
shut b (e ∷ es) at n = shut _ es at n

frame_ends : (k : ℕ) (es : List (ℕ × Event)) (at n : ℕ) → frame_from k (es ++ (at, End n) ∷ []) ≡ at
frame_ends k [] at n = refl
frame_ends k (e ∷ es) at n = frame_ends _ es at n

-- a stream whose last event is the end of a frame, after all of its bytes, is whole
whole_end : (bytes : List ℕ) (es : List (ℕ × Event)) (at n : ℕ) (end : Finish) → length bytes ≡ at → FinishesBy None bytes (es ++ (at, End n) ∷ []) end → end ≡ finish.Whole at
whole_end bytes es at n (finish.Whole b) long h = ap (λ (k : ℕ). finish.Whole k) (h.0 ∙ long)
whole_end bytes es at n (finish.Cut k b) long h = absurd (omega (arith, h.2 (shut false es at n), frame_ends 0 es at n))
whole_end bytes es at n (finish.Refused r) long h = absurd h

-- ---- what was read

module _ {V : Type 0} (f : V → ℕ → Event → V) (faulted : V → ℕ → Event → V → Type 0) (limits : Limits) (d : Decoding) (new : StreamState) (turns : ℕ) (xs : List ℕ) (left : Option (List ℕ)) (before after : V) (fresh : IsNew limits d) (rules : new.rules ≡ (state d).rules) (given : new.given ≡ (state d).given) where
  pub reads_all : (end : Finish) (calls calls' : Calls) → MakesReads turns (outcome.Finished end) calls calls' (Some xs) left → RunsTo f faulted turns (outcome.Finished end) (state d) new xs left before after → ReadsAll f (rules_of limits) xs end before after
  reads_all end calls calls' reads runs es v says = runs_right f faulted limits d new turns xs left before after es v end fresh says (record {
    runs = runs;
    calls = calls;
    calls_after = calls';
    reads = reads;
    waits = tt;
    refused = λ r is. absurd (let e = sym fresh.unrefused ∙ is in cc);
    rules = rules;
    given = given;
  })

  -- the event at which the sink failed is one that the bytes say
  pub fails_reading : FeedsInto f faulted (state d) new xs left before after → FailsReading f faulted (rules_of limits) xs before after
  fails_reading fed es v says =
      let l = rules_of limits in
      let e = fed.failed [] [] [] fresh.fresh in
      let all = e.more ++ (e.at, e.event) ∷ [] in
      let r = after_reads [] new fed.bytes all e.conforms in
      let read : Reads l start fed.bytes all r.0 r.1 = subst (λ (k : Rules). Reads k start fed.bytes all r.0 r.1) (rules ∙ fresh.rules) r.2 in
      let on : Reads l start xs all r.0 (r.1 ++ fed.rest) = subst (λ (z : List ℕ). Reads l start z all r.0 (r.1 ++ fed.rest)) (sym fed.parts) (runs_stay (step l) start fed.bytes fed.rest all r.0 r.1 read) in
      let few = no_further [] l xs es all v r.0 (r.1 ++ fed.rest) says on in
      let c = runs_compare (step l) start r.0 says.0 xs (r.1 ++ fed.rest) says.1 all es on says.2 few in record {
        first = e.more;
        at = e.at;
        event = e.event;
        others = c.0;
        parts = c.1 ∙ append_assoc e.more ((e.at, e.event) ∷ []) c.0;
        fault = e.fault;
      }

  -- each turn gives some byte, so as many turns do not come
  pub no_turns : RunsTo f faulted turns outcome.Turns (state d) new xs left before after → length xs < turns → ⊥
  no_turns runs few = omega (arith, few, runs.2, ap length runs.0.parts, length-append runs.0.bytes runs.0.rest)

-- ---- a frame

module _ {V : Type 0} (f : V → ℕ → Event → V) (limits : Limits) (frame : FrameValue) (fits : unfit_of frame ≡ None) (range : FrameIsInRange frame) (before after : V) where
  pub comes_back : (end : Finish) → ReadsAll f (rules_of limits) (frame_bytes frame) end before after → ComesBack f limits frame end before after
  comes_back end reads within =
      let l = rules_of limits in
      let n = parts_size (frame_parts frame) in
      let r = reads (Flat l 0 frame 0) Waits (written_is_read frame range l fits within) in
      let long = (frame_written frame range fits).1 in
      let front = (0, Frame (header_of frame (n + 0))) ∷ parts_events l (0 + 9) (frame_parts frame) in
      let same : 0 + frame_size frame 0 ≡ frame_size frame 0 = omega arith in record {
        got = r.0;
        whole = whole_end (frame_bytes frame) front (0 + frame_size frame 0) 0 end (long ∙ sym same) r.1 ∙ ap (λ (k : ℕ). finish.Whole k) same;
      }

  pub fails_within : (faulted : V → ℕ → Event → V → Type 0) → FailsReading f faulted (rules_of limits) (frame_bytes frame) before after → FailsWithin f faulted limits frame error.SinkFault before after
  fails_within faulted fails within = fails (Flat (rules_of limits) 0 frame 0) Waits (written_is_read frame range (rules_of limits) fits within)

-- ---- errors

pub explains : (frame : FrameValue) (limits : Limits) (e : RoundTripError) → unfit_of frame ≡ None → KeepsDecoder limits e → Explains frame limits e
explains frame limits (error.Unfit why) fits keeps = absurd keeps
explains frame limits (error.BadLimits bad) fits keeps = (fits, keeps)
explains frame limits error.NoMemory fits keeps = (fits, keeps)
explains frame limits error.SinkFault fits keeps = absurd keeps
