-- What a sink gets of a stream.
use Rattle.std.specs.Prelude.{◌≡◌, ℕ, ◌+◌, ◌-◌, ◌*◌, ◌≤◌, ◌++◌, true, List, [], ◌∷◌, length, take, Option, Some, None, ◌⊎◌, ⊤}
use Rattle.cqlp_note.specs.declared.refusal.Refusal.{Refusal}
use Rattle.cqlp_note.specs.declared.streams.Source.{Ghosts}
use Rattle.cqlp_note.specs.Streams.{counted, CountsUp}
use Rattle.cqlp_decode.specs.declared.feeding.Fed.{Fed}
use Rattle.cqlp_decode.specs.declared.feeding.Fed.TheVariants as fed
use Rattle.cqlp_decode.specs.declared.running.Outcome.{Outcome}
use Rattle.cqlp_decode.specs.declared.running.Outcome.TheVariants as outcome
use Rattle.cqlp_grammar.specs.declared.event.Finish.TheVariants as finish
use Rattle.cqlp_note.specs.Limits.{Rules}
use Rattle.cqlp_decode.specs.Reading.{Event, Gifts, Place, Reads, Verdict, start_with, Says, Waits, Refused}
use Rattle.cqlp_decode.specs.Progress.{StreamState}
use Rattle.cqlp_decode.specs.Streams.{AfterGifts, EndsAs}
use Rattle.cqlp_decode.specs.Cells.{Item, GetsAll}

-- the view after these events, in order
abbrev pub fold_events : {V : Type 0} → (V → ℕ → Event → V) → V → List (ℕ × Event) → V
fold_events f v [] = v
fold_events f v (e ∷ es) = fold_events f (f v e.0 e.1) es

abbrev pub HasRefused : StreamState → Type 0
HasRefused d = (r : Refusal) × (d.refusal ≡ Some r)

-- a refusal, or none, as a verdict
abbrev pub verdict_of : Option Refusal → Verdict
verdict_of None = Waits
verdict_of (Some r) = Refused r.at r.why

-- what is refused after a piece
abbrev pub DrainsBy : Fed → Option Refusal → Type 0
DrainsBy fed.More new = new ≡ None
DrainsBy (fed.Refused used r) new = new ≡ Some r
DrainsBy (fed.Fault used) new = new ≡ None

-- how many bytes of a piece of this length were used
abbrev pub used_of : ℕ → Fed → ℕ
used_of len fed.More = len
used_of len (fed.Refused used r) = used
used_of len (fed.Fault used) = used

-- These bytes of a stream end with its last event; or no event and no byte is new.
abbrev pub EndsAtEvent : Rules → Gifts → (s : List ℕ) → (es more : List (ℕ × Event)) → (used : ℕ) → Type 0
EndsAtEvent l gifts s es more used =
    ((used ≡ 0) × (more ≡ [])) ⊎ ((q : Place) × Reads l (start_with gifts) s (es ++ more) q [])

-- Of the bytes xs of a reader this many reads gave these, from the first on, and each of them from 1 to 4,096; the
-- others are left.
pub record InReads (reads : ℕ) (xs : List ℕ) (left : Option (List ℕ)) : Type 0 where
  pub read : List ℕ
  pub rest : List ℕ
  pub parts : xs ≡ read ++ rest
  pub some : reads ≤ length read
  pub few : length read ≤ 4096 * reads
  pub others : left ≡ Some rest

-- how many reads of a run gave nothing: the last one, where it failed or came to the end of the input
abbrev pub idle_reads : Outcome → ℕ
idle_reads outcome.ReadFault = 1
idle_reads (outcome.Finished (finish.Whole bytes)) = 1
idle_reads (outcome.Finished (finish.Cut frame_at bytes)) = 1
idle_reads o = 0

-- From one sink to another, one event after the other: this holds of each step.
abbrev pub Passes : {S : Type 0} → (S → ℕ → Event → S → Type 0) → (before after : S) → Type 0
Passes also before after = (items : List Item) × GetsAll also before items after

-- What a sink has got: f is what it makes of an event, and V is what is seen of it.
module _ {V : Type 0} (f : V → ℕ → Event → V) where
  -- After these gifts, the bytes s and the events es, these bytes were used and their events handed out, and the sink has
  -- got just them.
  pub record Drains (gifts : Gifts) (new : StreamState) (s : List ℕ) (es : List (ℕ × Event)) (bytes : List ℕ)
      (before after : V) : Type 0 where
    pub more : List (ℕ × Event)
    pub conforms : AfterGifts gifts new (s ++ bytes) (es ++ more)
    pub got : after ≡ fold_events f before more

  -- Of a piece the decoder used these bytes, and the sink has got just their events. They are all events that the piece
  -- says, with this verdict, if nothing was refused before it.
  pub record DrainsAll (gifts : Gifts) (old new : StreamState) (s : List ℕ) (es : List (ℕ × Event))
      (piece bytes : List ℕ) (before after : V) : Type 0 where
    pub drains : Drains gifts new s es bytes before after
    pub says : old.refusal ≡ None
        → Says new.rules (start_with gifts) (s ++ piece) (es ++ drains.more) (verdict_of new.refusal)

  -- the same of any gifts and any stream that led here
  abbrev pub DrainsPiece : (old new : StreamState) → (piece bytes : List ℕ) → (before after : V) → Type 0
  DrainsPiece old new piece bytes before after =
      (gifts : Gifts) (s : List ℕ) (es : List (ℕ × Event)) → AfterGifts gifts old s es
      → DrainsAll gifts old new s es piece bytes before after

  -- Of the bytes xs of a reader, `rest` is left or was not used; the others the decoder used, and the sink has got
  -- their events.
  pub record Feeds (old new : StreamState) (xs : List ℕ) (before after : V) : Type 0 where
    pub bytes : List ℕ
    pub rest : List ℕ
    pub parts : xs ≡ bytes ++ rest
    pub drained : (gifts : Gifts) (s : List ℕ) (es : List (ℕ × Event)) → AfterGifts gifts old s es
        → Drains gifts new s es bytes before after

  -- what was handed out is all that the bytes used and those looked at say, and the refusal, or none, is their verdict
  abbrev pub SaysAll : (old new : StreamState) (xs : List ℕ) (before after : V) → Feeds old new xs before after
      → (looked : List ℕ) → Type 0
  SaysAll old new xs before after d looked =
      (gifts : Gifts) (s : List ℕ) (es : List (ℕ × Event)) (a : AfterGifts gifts old s es)
      → Says new.rules (start_with gifts) (s ++ d.bytes ++ looked) (es ++ (d.drained gifts s es a).more)
      (verdict_of new.refusal)

  -- Of the bytes that were not used, the first were looked at, where they are refused, at most as many as one read may
  -- give, and the others are left. What was handed out is all that they say, if nothing was refused before.
  pub record HasAll (old new : StreamState) (xs : List ℕ) (left : Option (List ℕ)) (before after : V)
      (d : Feeds old new xs before after) : Type 0 where
    pub looked : List ℕ
    pub unread : List ℕ
    pub parts : d.rest ≡ looked ++ unread
    pub others : left ≡ Some unread
    pub none : new.refusal ≡ None → looked ≡ []
    pub few : length looked ≤ 4096
    pub says : old.refusal ≡ None → SaysAll old new xs before after d looked

  -- Which faults an event may lead to.
  module _ (faulted : V → ℕ → Event → V → Type 0) where
    -- The same as `Drains`, but at the last of the events the sink failed.
    pub record Fails (gifts : Gifts) (new : StreamState) (s : List ℕ) (es : List (ℕ × Event)) (bytes : List ℕ)
        (before after : V) : Type 0 where
      pub more : List (ℕ × Event)
      pub at : ℕ
      pub event : Event
      pub conforms : AfterGifts gifts new (s ++ bytes) (es ++ more ++ (at, event) ∷ [])
      pub fault : faulted (fold_events f before more) at event after

    -- the same of any gifts and any stream that led here
    abbrev pub FailsWithin : (old new : StreamState) → (bytes : List ℕ) → (before after : V) → Type 0
    FailsWithin old new bytes before after =
        (gifts : Gifts) (s : List ℕ) (es : List (ℕ × Event)) → AfterGifts gifts old s es
        → Fails gifts new s es bytes before after

    -- What draining a piece leaves, by how it ends: all of its events, those before a refusal, or those up to a fault. The bytes used end
    -- with an event.
    abbrev pub DrainsTo : StreamState → List ℕ → Fed → StreamState → (before after : V) → Type 0
    DrainsTo old input fed.More new before after = DrainsPiece old new input input before after
    DrainsTo old input (fed.Refused used r) new before after =
        (gifts : Gifts) (s : List ℕ) (es : List (ℕ × Event)) → AfterGifts gifts old s es
        → (d : DrainsAll gifts old new s es input (take used input) before after)
        × EndsAtEvent new.rules gifts (s ++ take used input) es d.drains.more used
    DrainsTo old input (fed.Fault used) new before after =
        (gifts : Gifts) (s : List ℕ) (es : List (ℕ × Event)) → AfterGifts gifts old s es
        → (d : Fails gifts new s es (take used input) before after)
        × ((q : Place) × Reads new.rules (start_with gifts) (s ++ take used input) (es ++ d.more ++ (d.at, d.event) ∷ []) q [])

    -- The same as `Feeds`, but at the last of the events the sink failed. Of the bytes that were not used, the first
    -- are lost, at most as many as one read may give, and the others are left.
    pub record FeedsInto (old new : StreamState) (xs : List ℕ) (left : Option (List ℕ)) (before after : V) : Type 0 where
      pub bytes : List ℕ
      pub rest : List ℕ
      pub parts : xs ≡ bytes ++ rest
      pub lost : List ℕ
      pub unread : List ℕ
      pub split : rest ≡ lost ++ unread
      pub few : length lost ≤ 4096
      pub others : left ≡ Some unread
      pub failed : FailsWithin old new bytes before after

    -- What a run leaves, by how it ends; the reader had the bytes xs. It finishes at the end of the input or at a
    -- refusal, with what the end of the stream says there; and each turn has read some byte. But at a sink's fault, all
    -- events were handed out.
    abbrev pub RunsTo : (turns : ℕ) → Outcome → (old new : StreamState) → (xs : List ℕ) → Option (List ℕ)
        → (before after : V) → Type 0
    RunsTo turns (outcome.Finished end) old new xs left before after =
        (d : Feeds old new xs before after) × ((d.rest ≡ []) ⊎ HasRefused new) × EndsAs new end
        × HasAll old new xs left before after d
    RunsTo turns outcome.ReadFault old new xs left before after =
        (d : Feeds old new xs before after) × (left ≡ Some d.rest) × HasAll old new xs left before after d
    RunsTo turns outcome.Turns old new xs left before after =
        (d : Feeds old new xs before after) × (left ≡ Some d.rest) × (turns ≤ length d.bytes)
        × HasAll old new xs left before after d
    RunsTo turns outcome.SinkFault old new xs left before after = FeedsInto old new xs left before after

    -- What the last read of a run leads to: its bytes, or the first of them, were used, and the sink has got their
    -- events, or it failed at the last of those.
    abbrev pub GoesOnTo : Outcome → (mid new : StreamState) → (rest : List ℕ) → Option (List ℕ) → (seen after : V)
        → Type 0
    GoesOnTo outcome.SinkFault mid new rest left seen after = FeedsInto mid new rest left seen after
    GoesOnTo o mid new rest left seen after = Feeds mid new rest seen after

    -- Of a run the last read. The reads before it made a run of just so many turns: when it was made, all events of their
    -- bytes had been handed out, the sink had failed at none of them, and nothing was refused.
    pub record LastRead (turns : ℕ) (o : Outcome) (old new : StreamState) (xs : List ℕ) (was now : ℕ)
        (left : Option (List ℕ)) (before after : V) : Type 0 where
      pub earlier : ℕ
      pub counted : CountsUp (earlier + 1) was now
      pub within : earlier + 1 ≤ turns
      pub mid : StreamState
      pub rest : List ℕ
      pub seen : V
      pub ran : RunsTo earlier outcome.Turns old mid xs (Some rest) before seen
      pub gave : InReads earlier xs (Some rest)
      pub free : mid.refusal ≡ None
      pub rules : mid.rules ≡ old.rules
      pub onward : GoesOnTo o mid new rest left seen after
      pub gives : InReads (1 - idle_reads o) rest left

    -- A run made no read, or its last one when all events of the bytes read before had been handed out.
    abbrev pub ReadsInTime : (turns : ℕ) → Outcome → (old new : StreamState) → (xs : List ℕ) → (was now : ℕ)
        → Option (List ℕ) → (before after : V) → Type 0
    ReadsInTime turns o old new xs was now left before after =
        ((now ≡ was) × (left ≡ Some xs)) ⊎ LastRead turns o old new xs was now left before after

-- after a run that its reader or its turns end nothing was refused, and it may be called again
abbrev pub WaitsAt : Outcome → StreamState → Type 0
WaitsAt outcome.ReadFault new = new.refusal ≡ None
WaitsAt outcome.Turns new = new.refusal ≡ None
WaitsAt o new = ⊤

-- how often a reader was called, and how many bytes of room the calls had
pub record Calls : Type 0 where
  pub reads : ℕ
  pub asked : ℕ

abbrev pub calls : {R : Type 0} → Ghosts R → R → Calls
calls members reader = record { reads = members.reads reader; asked = members.asked reader }

-- A run that may make so many reads made this many that gave some bytes, and those that gave nothing; and no other. Each
-- had room for 4,096 bytes. Each turn was one that gave some bytes, where they ran out.
pub record MakesReads (turns : ℕ) (o : Outcome) (old new : Calls) (was left : Option (List ℕ)) : Type 0 where
  pub giving : ℕ
  pub counted : CountsUp (giving + idle_reads o) old.reads new.reads
  pub asked : CountsUp (4096 * (giving + idle_reads o)) old.asked new.asked
  pub within : giving + idle_reads o ≤ turns
  pub all : o ≡ outcome.Turns → giving ≡ turns
  pub gives : (xs : List ℕ) → was ≡ Some xs → InReads giving xs left

-- a run that says that its reader failed counts a failed call
abbrev pub Counts : Outcome → (old new : ℕ) → Type 0
Counts outcome.ReadFault old new = new ≡ counted true old
Counts o old new = new ≡ old
