-- Laws of the calls.
use Rattle.std.specs.Prelude.{◌≡◌, ◌↔◌, ℕ, ◌-◌, ◌≤◌, ◌++◌, true, List, [], ◌∷◌, length, drop, take, Option, Some, Ok, ⊤}
use Rattle.std.specs.Ptr.{Ptr, null_ptr}
use Rattle.cqlp_note.specs.declared.header.Header.{Header}
use Rattle.cqlp_note.specs.Limits.{Rules}
use Rattle.cqlp_grammar.specs.declared.event.Finish.{Finish}
use Rattle.cqlp_decode.specs.Reading.{Event, Gifts}
use Rattle.cqlp_decode.specs.Progress.{StreamState}
use Rattle.cqlp_decode.specs.Streams.{AfterGifts}
use Rattle.cqlp_laws.specs.Contents.{content_in}
use Rattle.cqlp_session.specs.declared.ticket.Reply.TheVariants as reply
use Rattle.cqlp_session.specs.Carried.{new_carrying_client, new_carrying_server}
use Rattle.cqlp_session.specs.Client.{ClientCore as Bare, reply_to}
use Rattle.cqlp_session.specs.Signal.{signal_of}
use Rattle.cqlp_c.specs.declared.batch.Batch.{Batch}
use Rattle.cqlp_c.specs.declared.event.CqlpEvent.{CqlpEvent}
use Rattle.cqlp_c.specs.declared.numbers.TheConstants as numbers
use Rattle.cqlp_c.specs.Batches.{Buffer, IsGathered, IsInInput, IsRead, OthersInInput, Put, events_of}
use Rattle.cqlp_c.specs.Checks.{HasVerdict}
use Rattle.cqlp_c.specs.Clients.{ClientCore}
use Rattle.cqlp_c.specs.Cores.{Starts}
use Rattle.cqlp_c.specs.Events.{of_frame}
use Rattle.cqlp_c.specs.Handle.{PutsInto}
use Rattle.cqlp_c.specs.Headers.{header_in}
use Rattle.cqlp_c.specs.Servers.{ServerCore, event_fields}
use Rattle.cqlp_c.specs.Talked.{is_stream, signal_in}

-- what C gets of an event, wherever its content lies
abbrev pub unplaced : CqlpEvent → CqlpEvent
unplaced c = record c { content = null_ptr }

-- Each of these events was put twice: what C gets is the same, and where the content lies too, if it lies in the input,
-- or in a decoder's memory that begins in one place.
abbrev pub AreSame : (buffer buffer' : Ptr) → List Put → (events events' : List CqlpEvent) → Type 0
AreSame buffer buffer' [] [] [] = ⊤
AreSame buffer buffer' (p ∷ ps) (c ∷ cs) (d ∷ ds) =
    (unplaced d ≡ unplaced c) × (IsInInput p → d ≡ c) × (buffer' ≡ buffer → IsGathered p → d ≡ c)
    × AreSame buffer buffer' ps cs ds
AreSame buffer buffer' ps cs ds = ⊥

-- Two calls made one answer: the same batch, the same events, and the others as they were. The contents of all events but
-- the last lie in the input, each in one place there, and so does that of the last, if it was not gathered. The decoders
-- are left after the same bytes and events, so that what they answer next is one too.
pub record AreOneAnswer (gifts : Gifts) (new new' : StreamState) (s input : List ℕ) (buffer buffer' : Buffer)
    (es : List (ℕ × Event)) (b b' : Batch) (after after' : List CqlpEvent) : Type 0 where
  pub batch : b' ≡ b
  pub puts : List Put
  pub events : AreSame buffer.at buffer'.at puts (take b.events after) (take b.events after')
  pub lie : OthersInInput puts
  pub others : drop b.events after' ≡ drop b.events after
  pub conforms : AfterGifts gifts new (s ++ take b.used input) (es ++ events_of puts)
  pub conforms_too : AfterGifts gifts new' (s ++ take b.used input) (es ++ events_of puts)
  pub rules : new'.rules ≡ new.rules

-- After the same gifts, bytes and events, over the same input and into the same array, there is one answer.
abbrev pub IsOneAnswerOfNext : Type 0
IsOneAnswerOfNext =
    (gifts : Gifts) (old new new' : StreamState) (s input : List ℕ) (begins : Ptr) (buffer buffer' : Buffer) (es : List (ℕ × Event))
    (b b' : Batch) (before after after' : List CqlpEvent)
    → AfterGifts gifts old s es → PutsInto old new input begins buffer b before after
    → PutsInto old new' input begins buffer' b' before after'
    → AreOneAnswer gifts new new' s input buffer buffer' es b b' after after'

-- The bytes of the input where a content lies that was put are the content.
abbrev pub ContentsLieThere : Type 0
ContentsLieThere =
    (l : Rules) (gifts : Gifts) (s input : List ℕ) (es : List (ℕ × Event)) (p : Put) (content : List ℕ)
    → IsRead gifts l (s ++ take p.end input) (es ++ (p.at, p.event) ∷ []) → p.end ≤ length input → IsInInput p
    → content_in p.event ≡ Some content
    → (length content ≤ p.end) × (take (length content) (drop (p.end - length content) input) ≡ content)

-- Of one stream there is one verdict.
abbrev pub IsOneAnswerOfCheck : Type 0
IsOneAnswerOfCheck =
    (l : Rules) (stream : List ℕ) (f f' : Finish) → HasVerdict l stream f → HasVerdict l stream f' → f' ≡ f

-- Where memory is granted, a core that is made is one, and a handle that is in use is refused.
abbrev pub IsOneAnswerOfStart : {C : Type 0} → (fresh : ℕ → C) → Type 0
IsOneAnswerOfStart {C = C} fresh =
    (slots : ℕ) (old : Option C) (code code' : ℕ) (new new' : Option C)
    → Starts fresh slots old code new → Starts fresh slots old code' new'
    → ((code ≡ numbers.NO_MEMORY) ↔ (code' ≡ numbers.NO_MEMORY)) → (code' ≡ code) × (new' ≡ new)

abbrev pub IsOneAnswerOfClientNew : Type 0
IsOneAnswerOfClientNew = IsOneAnswerOfStart {C = ClientCore} new_carrying_client

abbrev pub IsOneAnswerOfServerNew : Type 0
IsOneAnswerOfServerNew = IsOneAnswerOfStart {C = ServerCore} new_carrying_server

-- The event of a frame shows a core what the header of the frame does.
abbrev pub FramesAreHeard : Type 0
FramesAreHeard =
    (at : ℕ) (h : Header) → is_stream h.stream ≡ true → signal_in (of_frame at h) ≡ Some (signal_of h)

-- Each client takes a frame with the header that a server writes of an EVENT for an event that was pushed.
abbrev pub EventsArePushed : Type 0
EventsArePushed =
    (length flags : ℕ) (h : Header) (c : Bare) → header_in (event_fields length flags) ≡ Ok h
    → reply_to c (signal_of h) ≡ Ok reply.ServerEvent
