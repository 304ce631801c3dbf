-- Laws of one answer: from the same history and the same input, two answers that both meet what a call promises are the
-- same, given what only the outside decides.
use Rattle.std.specs.Prelude.{◌≡◌, ℕ, Bool, true, false, ◌+◌, ◌≤◌, ◌++◌, List, [], ◌∷◌, length, Option, Some, None, ◌⊎◌}
use Rattle.cqlp_note.specs.declared.limits.Limits.{Limits}
use Rattle.cqlp_note.specs.declared.refusal.Refusal.{Refusal}
use Rattle.cqlp_note.specs.Limits.{Rules, rules_of}
use Rattle.cqlp_decode.specs.declared.feeding.Fed.{Fed}
use Rattle.cqlp_decode.specs.declared.feeding.Fed.TheVariants as fed
use Rattle.cqlp_decode.specs.declared.step.Step.{Step}
use Rattle.cqlp_decode.specs.declared.step.Step.TheVariants as step
use Rattle.cqlp_grammar.specs.declared.event.Finish.{Finish}
use Rattle.cqlp_grammar.specs.declared.event.Finish.TheVariants as finish
use Rattle.cqlp_decode.specs.declared.step.Held.{Held}
use Rattle.cqlp_decode.specs.declared.running.Outcome.{Outcome}
use Rattle.cqlp_decode.specs.declared.running.Outcome.TheVariants as outcome
use Rattle.cqlp_decode.specs.Reading.{Event, Verdict, Waits, Refused, Gifts, Says, start}
use Rattle.cqlp_grammar.specs.Events.{event_of}
use Rattle.cqlp_decode.specs.Progress.{StreamState, levels_of}
use Rattle.cqlp_decode.specs.Streams.{Decoding, state, After, AfterGifts, Answers, Finishes, FinishesBy, given_nodes}
use Rattle.cqlp_decode.specs.Draining.{Calls, DrainsBy, DrainsTo, MakesReads, RunsTo, WaitsAt, fold_events, used_of}
use Rattle.cqlp_laws.specs.Reading.{BeginsWith}

-- ---- the decoder

-- what a call answers, wherever a content lies
pub data Answer : Type 0 where
  Hands : (at used : ℕ) → Event → Answer
  Wants : (used : ℕ) → Answer
  Refuses : Refusal → Answer

abbrev pub answer_of : Step → Answer
answer_of (step.Event at used e) = Hands at used (event_of e)
answer_of (step.More used) = Wants used
answer_of (step.Refused r) = Refuses r

-- Two decoders have the same limits, the same refusal, if any, the same types of metadata, and hold the same table that
-- was given, for the same use. Which bytes and how many levels they hold is not among this: that is bounded by the
-- limits, but no clause of `next` decides it.
pub record AreAlike (d d' : StreamState) : Type 0 where
  pub rules : d'.rules ≡ d.rules
  pub refusal : d'.refusal ≡ d.refusal
  pub nodes : d'.place.nodes ≡ d.place.nodes
  pub given : d'.given ≡ d.given
  pub held : d'.place.given ≡ d.place.given

-- what the clauses of `new` and of `restart` say of a decoder within these rules
pub record IsAtStart (l : Rules) (d : Decoding) : Type 0 where
  pub fresh : After (state d) [] []
  pub unrefused : (state d).refusal ≡ None
  pub rules : (state d).rules ≡ l
  pub nothing_held : ((state d).held ≡ []) × ((state d).place.nodes ≡ []) × (levels_of d.parts ≡ 0)
  pub nothing_given : (state d).given ≡ None

abbrev pub IsNew : Limits → Decoding → Type 0
IsNew limits d = IsAtStart (rules_of limits) d

-- Two decoders hold the same bytes, and the same number of levels.
abbrev pub HoldTheSame : (d d' : Decoding) → Type 0
HoldTheSame d d' = ((state d').held ≡ (state d).held) × (levels_of d'.parts ≡ levels_of d.parts)

-- They are at the start of a stream, within the same rules, and hold the same.
abbrev pub StartAlike : (d d' : Decoding) → Type 0
StartAlike d d' =
    AreAlike (state d) (state d') × ((state d).place ≡ start) × ((state d').place ≡ start) × HoldTheSame d d'

-- Any two decoders that were made with the same limits start alike.
abbrev pub IsOneAnswerOfNew : Type 0
IsOneAnswerOfNew = (limits : Limits) (d d' : Decoding) → IsNew limits d → IsNew limits d' → StartAlike d d'

-- Whatever a decoder has read, once it began anew it starts like a new one with the same limits.
abbrev pub IsOneAnswerOfRestart : Type 0
IsOneAnswerOfRestart =
    (limits : Limits) (old new made : Decoding)
    → (state old).rules ≡ rules_of limits → IsAtStart (state old).rules new → IsNew limits made → StartAlike made new

-- After the same gifts, bytes and events the next answer is one, and so is what comes after it.
abbrev pub IsOneAnswerOfNext : Type 0
IsOneAnswerOfNext =
    (gifts : Gifts) (old new new' : StreamState) (s input : List ℕ) (es : List (ℕ × Event)) (x y : Step)
    → AfterGifts gifts old s es → Answers old input x new → Answers old input y new'
    → (answer_of y ≡ answer_of x) × AreAlike new new'

abbrev pub IsOneAnswerOfFinish : Type 0
IsOneAnswerOfFinish =
    (d : StreamState) (s : List ℕ) (es : List (ℕ × Event)) (f f' : Finish)
    → Finishes d s es f → Finishes d s es f' → f' ≡ f

-- what the clauses of `held` say
pub record IsHeld (d : Decoding) (h : Held) : Type 0 where
  pub bytes : h.bytes ≡ length (state d).held
  pub entries : h.entries ≡ length (state d).place.nodes + length (given_nodes (state d).given)
  pub levels : h.levels ≡ levels_of d.parts

abbrev pub IsOneAnswerOfHeld : Type 0
IsOneAnswerOfHeld = (d : Decoding) (h h' : Held) → IsHeld d h → IsHeld d h' → h' ≡ h

-- ---- pieces

-- the sink did not fail
abbrev pub TakesAll : Fed → Type 0
TakesAll (fed.Fault used) = ⊥
TakesAll x = Unit {0}

module _ {V : Type 0} (f : V → ℕ → Event → V) (faulted : V → ℕ → Event → V → Type 0) where
  -- what the clauses of `feed` say
  pub record IsFed (x : Fed) (old new : StreamState) (input : List ℕ) (before after : V) : Type 0 where
    pub within : used_of (length input) x ≤ length input
    pub refusal : DrainsBy x new.refusal
    pub refused :
        (r : Refusal) → old.refusal ≡ Some r → (x ≡ fed.Refused 0 r) × (new ≡ old) × (after ≡ before)
    pub drains : DrainsTo f faulted old input x new before after
    pub rules : new.rules ≡ old.rules
    pub given : new.given ≡ old.given

  -- After the same gifts, bytes and events, over one piece, there is one answer, one view of a sink, and decoders are left
  -- alike.
  abbrev pub IsOneAnswerOfFeed : Type 0
  IsOneAnswerOfFeed =
      (gifts : Gifts) (old new new' : StreamState) (s input : List ℕ) (es : List (ℕ × Event)) (x x' : Fed)
      (before after after' : V)
      → AfterGifts gifts old s es → IsFed x old new input before after → IsFed x' old new' input before after'
      → TakesAll x → TakesAll x' → (x' ≡ x) × (after' ≡ after) × AreAlike new new'

-- ---- runs

-- one list is a front of the other
abbrev pub IsFrontEitherWay : (es fs : List (ℕ × Event)) → Type 0
IsFrontEitherWay es fs = BeginsWith fs es ⊎ BeginsWith es fs

-- the sink did not fail, so all events of what was read were handed to it
abbrev pub IsSound : Outcome → Type 0
IsSound outcome.SinkFault = ⊥
IsSound o = Unit {0}

-- the reader failed
abbrev pub is_read_fault : Outcome → Bool
is_read_fault outcome.ReadFault = true
is_read_fault o = false

-- how a stream ends that says these events and this verdict
abbrev pub EndsBy : Verdict → List ℕ → List (ℕ × Event) → Finish → Type 0
EndsBy Waits bytes es end = FinishesBy None bytes es end
EndsBy (Refused at why) bytes es end = end ≡ finish.Refused (record { at = at; why = why })

module _ {V : Type 0} (f : V → ℕ → Event → V) (faulted : V → ℕ → Event → V → Type 0) where
  -- what the clauses of `run` say of a reader that had the bytes xs
  pub record Ran
      (turns : ℕ) (o : Outcome) (old new : StreamState) (xs : List ℕ) (left : Option (List ℕ)) (before after : V)
      : Type 0 where
    pub runs : RunsTo f faulted turns o old new xs left before after
    pub calls : Calls
    pub calls_after : Calls
    pub reads : MakesReads turns o calls calls_after (Some xs) left
    pub waits : WaitsAt o new
    pub refused :
        (r : Refusal) → old.refusal ≡ Some r
        → (o ≡ outcome.Finished (finish.Refused r)) × (new ≡ old) × (after ≡ before)
    pub rules : new.rules ≡ old.rules
    pub given : new.given ≡ old.given

  -- the events that a run handed to the sink
  abbrev pub handed :
      (turns : ℕ) (o : Outcome) (old new : StreamState) (xs : List ℕ) (left : Option (List ℕ)) (before after : V)
      → RunsTo f faulted turns o old new xs left before after
      → (gifts : Gifts) (s : List ℕ) (es : List (ℕ × Event)) → AfterGifts gifts old s es → List (ℕ × Event)
  handed turns (outcome.Finished end) old new xs left before after ran gifts s es a = (ran.0.drained gifts s es a).more
  handed turns outcome.ReadFault old new xs left before after ran gifts s es a = (ran.0.drained gifts s es a).more
  handed turns outcome.Turns old new xs left before after ran gifts s es a = (ran.0.drained gifts s es a).more
  handed turns outcome.SinkFault old new xs left before after ran gifts s es a =
      let d = ran.failed gifts s es a in
      d.more ++ (d.at, d.event) ∷ []

  -- Two runs from one decoder over one reader's bytes hand out the same events, as far as both go. Where no sink
  -- failed, and both read the same bytes, the sinks are left alike; and where as many reads gave them, and a read failed
  -- in both or in neither, the outcomes are the same. And where both finish, they do so alike, however their reader cut
  -- its bytes.
  pub record AreOneRun
      (turns : ℕ) (o o' : Outcome) (old new new' : StreamState) (xs : List ℕ) (left left' : Option (List ℕ))
      (before after after' : V) (gifts : Gifts) (s : List ℕ) (es : List (ℕ × Event)) (a : AfterGifts gifts old s es)
      (ran : Ran turns o old new xs left before after) (ran' : Ran turns o' old new' xs left' before after')
      : Type 0 where
    pub events :
        IsFrontEitherWay
        (handed turns o old new xs left before after ran.runs gifts s es a)
        (handed turns o' old new' xs left' before after' ran'.runs gifts s es a)
    pub sinks : IsSound o → IsSound o' → left' ≡ left → (after' ≡ after) × (new'.refusal ≡ new.refusal)
    pub outcomes :
        IsSound o → IsSound o' → left' ≡ left → ran'.reads.giving ≡ ran.reads.giving
        → is_read_fault o' ≡ is_read_fault o → o' ≡ o
    pub ends :
        (end end' : Finish) → o ≡ outcome.Finished end → o' ≡ outcome.Finished end'
        → (end' ≡ end) × (after' ≡ after)

  abbrev pub IsOneAnswerOfRun : Type 0
  IsOneAnswerOfRun =
      (turns : ℕ) (o o' : Outcome) (old new new' : StreamState) (xs : List ℕ) (left left' : Option (List ℕ))
      (before after after' : V) (gifts : Gifts) (s : List ℕ) (es : List (ℕ × Event)) (a : AfterGifts gifts old s es)
      (ran : Ran turns o old new xs left before after) (ran' : Ran turns o' old new' xs left' before after')
      → AreOneRun turns o o' old new new' xs left left' before after after' gifts s es a ran ran'

  -- The answer is the right one: of a stream that says these events and this verdict, a run from a new decoder that
  -- finishes has handed out just these events, and ends with that verdict.
  abbrev pub RunsRight : Type 0
  RunsRight =
      (limits : Limits) (d : Decoding) (new : StreamState) (turns : ℕ) (xs : List ℕ) (left : Option (List ℕ))
      (before after : V) (es : List (ℕ × Event)) (v : Verdict) (end : Finish)
      → IsNew limits d → Says (rules_of limits) start xs es v
      → Ran turns (outcome.Finished end) (state d) new xs left before after
      → (after ≡ fold_events f before es) × EndsBy v xs es end
