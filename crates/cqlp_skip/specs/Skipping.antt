-- What calls of a decoder that skips leave.
use Rattle.std.specs.Prelude.{◌≡◌, ℕ, ◌+◌, ◌-◌, ◌≤◌, ◌<◌, ◌^◌, ◌++◌, min, List, [], ◌∷◌, length, take, drop, Option, Some, None, Result, Ok, Err, ◌⊎◌}
use Rattle.cqlp_note.specs.declared.refusal.Refusal.{Refusal}
use Rattle.cqlp_note.specs.Limits.{Rules}
use Rattle.cqlp_grammar.specs.declared.event.Finish.{Finish}
use Rattle.cqlp_grammar.specs.declared.event.Finish.TheVariants as finish
use Rattle.cqlp_decode.specs.Reading.{Event, Gifts, Place, Reads, Waits, Refused, Says, start_with}
use Rattle.cqlp_decode.specs.Progress.{StreamState}
use Rattle.cqlp_decode.specs.Streams.{Decoding, state, AfterGifts, EndsAs, HoldsNothing, buffer_of}
use Rattle.cqlp_decode.specs.Draining.{fold_events}
use Rattle.cqlp_decode.specs.declared.feeding.Fed.{Fed}
use Rattle.cqlp_decode.specs.declared.feeding.Fed.TheVariants as fed
use Rattle.cqlp_skip.specs.declared.fed.Skipped.{Skipped}
use Rattle.cqlp_skip.specs.declared.fed.NotSkippable.{NotSkippable}
use Rattle.cqlp_skip.specs.declared.fed.NotSkippable.TheVariants.{NotRefused, InHeader, TooFar}
use Rattle.cqlp_skip.specs.declared.frame.OpenFrame.{OpenFrame}
use Rattle.cqlp_skip.specs.Pieces.{refusal_from}
use Rattle.cqlp_skip.specs.Stretches.{Stretch, GivenUp, base_after, end_within, frame_under_way, emitted, stream_offset}

-- What contracts see of a decoder that skips: the decoder of the present stretch, where that begins, how many bytes of the whole stream were used, the frame
-- under way, and where the header of the frame is that was passed over last.
pub record Skipping : Type 0 where
  pub decoder : Decoding
  pub base : ℕ
  pub used : ℕ
  pub frame : Option OpenFrame
  pub last : ℕ

abbrev pub stream : Skipping → StreamState
stream d = state d.decoder

abbrev pub rules_in : Skipping → Rules
rules_in d = (stream d).rules

-- ---- after some calls

-- Of the stream xs the bytes s were used, and these stretches were given up. Over the present stretch the caller gave this, and these events were handed out: the
-- reading says them, and the refusal, if there is one, of whatever bytes of the stream are still to come.
pub record AfterSkips (xs : List ℕ) (d : Skipping) (s : List ℕ) (stretches : List Stretch) (gifts : Gifts) (events : List (ℕ × Event)) : Type 0 where
  pub unread : List ℕ
  pub whole : xs ≡ s ++ unread
  pub given_up : GivenUp (rules_in d) xs stretches
  pub base : d.base ≡ base_after stretches
  pub conforms : AfterGifts gifts (stream d) (drop d.base s) events
  pub frame : d.frame ≡ frame_under_way events
  pub used : d.used ≡ min (length s) (2 ^ 64 - 1)
  pub near : d.base < 2 ^ 64
  pub refused : (r : Refusal) → (stream d).refusal ≡ Some r → Says (rules_in d) (start_with gifts) (drop d.base xs) events (Refused r.at r.why)

-- ---- a piece

-- what is refused after a piece
abbrev pub RefusesBy : Fed → Skipping → Type 0
RefusesBy fed.More new = (stream new).refusal ≡ None
RefusesBy (fed.Refused used r) new = (own : Refusal) × ((stream new).refusal ≡ Some own) × (r ≡ refusal_from new.base own)
RefusesBy (fed.Fault used) new = (stream new).refusal ≡ None

-- What a sink has got: f is what it makes of an event, and V is what is seen of it.
module _ {V : Type 0} (f : V → ℕ → Event → V) (xs : List ℕ) (new : Skipping) (s : List ℕ) (stretches : List Stretch) (gifts : Gifts) (events : List (ℕ × Event)) where
  -- these bytes were used, more events handed out, and the sink has got just them, at their offsets in the whole stream
  pub record Hands (before after : V) : Type 0 where
    pub more : List (ℕ × Event)
    pub conforms : AfterSkips xs new s stretches gifts (events ++ more)
    pub got : after ≡ fold_events f before (emitted new.base more)

  -- they are all that the bytes of the present stretch say
  abbrev pub HandsAll : (before after : V) → Type 0
  HandsAll before after = (h : Hands before after) × Says (rules_in new) (start_with gifts) (drop new.base s) (events ++ h.more) Waits

  -- and the bytes used end with the last of them; or no event was handed out, and no byte used but those passed over, which are used in each case
  abbrev pub HandsUpTo : (used passed : ℕ) → (before after : V) → Type 0
  HandsUpTo used passed before after =
      (h : Hands before after)
      × (((used ≡ passed) × (h.more ≡ [])) ⊎ ((q : Place) × Reads (rules_in new) (start_with gifts) (drop new.base s) (events ++ h.more) q []))
      × (passed ≤ used)

  -- the same as `Hands`, but at the last of the events the sink failed, with which the bytes used end
  pub record Fails (faulted : V → ℕ → Event → V → Type 0) (before after : V) : Type 0 where
    pub more : List (ℕ × Event)
    pub at : ℕ
    pub event : Event
    pub conforms : AfterSkips xs new s stretches gifts (events ++ more ++ (at, event) ∷ [])
    pub fault : faulted (fold_events f before (emitted new.base more)) (stream_offset new.base at) event after
    pub ends : (q : Place) × Reads (rules_in new) (start_with gifts) (drop new.base s) (events ++ more ++ (at, event) ∷ []) q []

-- What handing on a piece leaves, by how it ends.
module _ {V : Type 0} (f : V → ℕ → Event → V) (faulted : V → ℕ → Event → V → Type 0) where
  abbrev pub FeedsTo : (xs : List ℕ) → (passed : ℕ) → Skipping → (s : List ℕ) → List Stretch → Gifts → List (ℕ × Event) → (input : List ℕ) → Fed → (before after : V) → Type 0
  FeedsTo xs passed new s stretches gifts events input fed.More before after = HandsAll f xs new (s ++ input) stretches gifts events before after
  FeedsTo xs passed new s stretches gifts events input (fed.Refused used r) before after = HandsUpTo f xs new (s ++ take used input) stretches gifts events used passed before after
  FeedsTo xs passed new s stretches gifts events input (fed.Fault used) before after = Fails f xs new (s ++ take used input) stretches gifts events faulted before after

  -- of any stream that goes on with this piece, and whatever led here
  abbrev pub Feeds : (old new : Skipping) → (input : List ℕ) → Fed → (before after : V) → Type 0
  Feeds old new input x before after =
      (xs s : List ℕ) (stretches : List Stretch) (gifts : Gifts) (events : List (ℕ × Event)) (later : List ℕ)
      → xs ≡ (s ++ input) ++ later → AfterSkips xs old s stretches gifts events
      → FeedsTo xs (min (old.base - old.used) (length input)) new s stretches gifts events input x before after

-- ---- a skip

-- What a skip answers. It is made where a stretch is refused, a frame is under way, and its end has an offset.
abbrev pub skip_to : Option ℕ → Refusal → OpenFrame → (base used : ℕ) → Result Skipped NotSkippable
skip_to None r f base used = Err TooFar
skip_to (Some end) r f base used =
    Ok (record { at = stream_offset base f.at; header = f.header; refusal = refusal_from base r; rest = end - used })

abbrev pub skip_by : Option Refusal → Option OpenFrame → (base used : ℕ) → Result Skipped NotSkippable
skip_by None f base used = Err NotRefused
skip_by (Some r) None base used = Err InHeader
skip_by (Some r) (Some f) base used = skip_to (end_within f base used) r f base used

abbrev pub skip_of : Skipping → Result Skipped NotSkippable
skip_of d = skip_by (stream d).refusal d.frame d.base d.used

-- the present stretch, given up at a refusal in a frame
abbrev pub stretch_given_up : Skipping → Gifts → List (ℕ × Event) → OpenFrame → Refusal → Stretch
stretch_given_up d gifts events f r = record { from = d.base; gifts = gifts; events = events; frame = f; refusal = r }

-- The present stretch is given up, after the same bytes, and another one begins.
abbrev pub SkipsOn : Result Skipped NotSkippable → (old new : Skipping) → Type 0
SkipsOn (Err why) old new = new ≡ old
SkipsOn (Ok x) old new =
    (xs s : List ℕ) (stretches : List Stretch) (gifts : Gifts) (events : List (ℕ × Event)) → AfterSkips xs old s stretches gifts events
    → (f : OpenFrame) × (r : Refusal) × (old.frame ≡ Some f) × ((stream old).refusal ≡ Some r)
    × AfterSkips xs new s (stretch_given_up old gifts events f r ∷ stretches) [] []

-- after a skip nothing is refused, nothing under way, nothing held and nothing given, and the memory is the same
abbrev pub BeginsAnew : Result Skipped NotSkippable → (old new : Skipping) → Type 0
BeginsAnew (Err why) old new = new ≡ old
BeginsAnew (Ok x) old new =
    (new.frame ≡ None) × (new.used ≡ old.used) × (new.base ≡ old.used + x.rest) × (new.last ≡ x.at)
    × ((stream new).refusal ≡ None) × (rules_in new ≡ rules_in old) × HoldsNothing new.decoder × ((stream new).given ≡ None)
    × (buffer_of new.decoder ≡ buffer_of old.decoder)

-- ---- the end

-- how a stream ends of which the present stretch ends so
abbrev pub finish_from : Skipping → Finish → Finish
finish_from d (finish.Whole bytes) = finish.Whole d.used
finish_from d (finish.Cut frame_at bytes) = finish.Cut (stream_offset d.base frame_at) d.used
finish_from d (finish.Refused r) = finish.Refused (refusal_from d.base r)

-- It ends within the frame that was passed over last, while bytes of that are missing, and else as its present stretch does.
pub record FinishesAs (d : Skipping) (f : Finish) : Type 0 where
  pub within : d.used < d.base → f ≡ finish.Cut d.last d.used
  pub behind : d.base ≤ d.used → (own : Finish) × EndsAs (stream d) own × (f ≡ finish_from d own)
