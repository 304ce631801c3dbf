-- A frame that is written into memory and read back from it.
use Rattle.std.specs.Prelude.{◌≡◌, ℕ, ◌++◌, List, ◌∷◌, None, Some, Ok, Err}
use Rattle.cqlp_note.specs.declared.limits.Limits.{Limits}
use Rattle.cqlp_note.specs.Limits.{Rules, first_bad, rules_of}
use Rattle.cqlp_grammar.specs.declared.event.Finish.{Finish}
use Rattle.cqlp_grammar.specs.declared.event.Finish.TheVariants as finish
use Rattle.cqlp_message.specs.FrameValues.{FrameValue}
use Rattle.cqlp_message.specs.Frames.{Flat, IsWithin, frame_size, unfit_of}
use Rattle.cqlp_decode.specs.Reading.{Event, Verdict, Says, start}
use Rattle.cqlp_decode.specs.Draining.{fold_events}
use Rattle.cqlp_laws.specs.OneAnswer.{EndsBy}
use Rattle.cqlp_round_trip.specs.declared.trip.RoundTripError.{RoundTripError}
use Rattle.cqlp_round_trip.specs.declared.trip.RoundTripError.TheVariants as error

-- ---- which answer comes

-- Nothing keeps the frame from being spelled, and each limit is in its range.
abbrev pub CanTravel : FrameValue → Limits → Type 0
CanTravel frame limits = (unfit_of frame ≡ None) × (first_bad limits ≡ Ok tt)

-- What each error says of the frame and the limits.
abbrev pub Explains : FrameValue → Limits → RoundTripError → Type 0
Explains frame limits (error.Unfit why) = unfit_of frame ≡ Some why
Explains frame limits (error.BadLimits bad) = (unfit_of frame ≡ None) × (first_bad limits ≡ Err bad)
Explains frame limits error.NoMemory = CanTravel frame limits
Explains frame limits error.SinkFault = CanTravel frame limits

-- The same of a decoder that was not made.
abbrev pub KeepsDecoder : Limits → RoundTripError → Type 0
KeepsDecoder limits (error.BadLimits bad) = first_bad limits ≡ Err bad
KeepsDecoder limits error.NoMemory = first_bad limits ≡ Ok tt
KeepsDecoder limits e = ⊥

-- The sink is as it was, but where it failed.
abbrev pub LeavesSink : {S : Type 0} → RoundTripError → (old new : S) → Type 0
LeavesSink error.SinkFault old new = Unit {0}
LeavesSink e old new = new ≡ old

-- ---- what the sink gets

module _ {V : Type 0} (f : V → ℕ → Event → V) where
  -- The sink got the frame's own events, just them, and the stream ends with the frame, after all of its bytes.
  pub record IsBack (l : Rules) (frame : FrameValue) (end : Finish) (before after : V) : Type 0 where
    pub got : after ≡ fold_events f before (Flat l 0 frame 0)
    pub whole : end ≡ finish.Whole (frame_size frame 0)

  -- A frame within the limits is back.
  abbrev pub ComesBack : Limits → FrameValue → Finish → (before after : V) → Type 0
  ComesBack limits frame end before after =
      IsWithin (rules_of limits) frame → IsBack (rules_of limits) frame end before after

  -- Within the limits or not, the sink got the events that these bytes say, just them, and the stream ends as they do.
  abbrev pub ReadsAll : Rules → (bytes : List ℕ) → Finish → (before after : V) → Type 0
  ReadsAll l bytes end before after =
      (es : List (ℕ × Event)) (v : Verdict) → Says l start bytes es v
      → (after ≡ fold_events f before es) × EndsBy v bytes es end

  -- ---- where it fails

  module _ (faulted : V → ℕ → Event → V → Type 0) where
    -- The sink got the first of these events, just them, and failed at the next.
    pub record FailsAmong (es : List (ℕ × Event)) (before after : V) : Type 0 where
      pub first : List (ℕ × Event)
      pub at : ℕ
      pub event : Event
      pub others : List (ℕ × Event)
      pub parts : es ≡ first ++ (at, event) ∷ others
      pub fault : faulted (fold_events f before first) at event after

    -- At a frame within the limits, a sink that failed did so at one of the frame's own events.
    abbrev pub FailsWithin : Limits → FrameValue → RoundTripError → (before after : V) → Type 0
    FailsWithin limits frame error.SinkFault before after =
        IsWithin (rules_of limits) frame → FailsAmong (Flat (rules_of limits) 0 frame 0) before after
    FailsWithin limits frame e before after = Unit {0}

    -- Within the limits or not, a sink that failed did so at one of the events that these bytes say.
    abbrev pub FailsReading : Rules → (bytes : List ℕ) → (before after : V) → Type 0
    FailsReading l bytes before after =
        (es : List (ℕ × Event)) (v : Verdict) → Says l start bytes es v → FailsAmong es before after

    abbrev pub StopsReading : Rules → (bytes : List ℕ) → RoundTripError → (before after : V) → Type 0
    StopsReading l bytes error.SinkFault before after = FailsReading l bytes before after
    StopsReading l bytes e before after = Unit {0}
