-- Batches of events, as calls put them into an array.
use Rattle.std.specs.Prelude.{◌≡◌, ℕ, ◌+◌, ◌-◌, ◌*◌, ◌<◌, ◌≤◌, ◌++◌, List, [], ◌∷◌, length, take, drop, Option, Some, None, ◌⊎◌, ⊤}
use Rattle.std.specs.Borrow.{Bor}
use Rattle.std.specs.Ptr.{Ptr, as_ptr, null_ptr}
use denote.RawPtr.{◌+ₚ◌}
use Rattle.cqlp_note.specs.declared.refusal.Refusal.{Refusal}
use Rattle.cqlp_note.specs.Limits.{Rules}
use Rattle.cqlp_grammar.specs.declared.event.Finish.{Finish}
use Rattle.cqlp_grammar.specs.declared.event.Finish.TheVariants as finish
use Rattle.cqlp_decode.specs.Reading.{Event, Gifts, Place, start_with, Reads, Says, Waits}
use Rattle.cqlp_decode.specs.Progress.{StreamState, IsContent, ends_due}
use Rattle.cqlp_decode.specs.Streams.{AfterGifts, Decoding, Refuses, buffer_of, state}
use Rattle.cqlp_laws.specs.Contents.{content_in}
use Rattle.cqlp_c.specs.declared.event.CqlpEvent.{CqlpEvent}
use Rattle.cqlp_c.specs.declared.batch.Batch.{Batch}
use Rattle.cqlp_c.specs.declared.batch.Stop.{Stop}
use Rattle.cqlp_c.specs.declared.batch.Stop.TheVariants as stop
use Rattle.cqlp_c.specs.Events.{before_gathered, content_span, written_at}

-- An event that was put, at this offset of the stream. Its step used the bytes of the input from `from` to `end`.
pub record Put : Type 0 where
  pub at : ℕ
  pub event : Event
  pub from : ℕ
  pub end : ℕ

abbrev pub events_of : List Put → List (ℕ × Event)
events_of [] = []
events_of (p ∷ ps) = (p.at, p.event) ∷ events_of ps

-- how much of the input was used when all of them were put
abbrev pub end_of : (from : ℕ) → List Put → ℕ
end_of from [] = from
end_of from (p ∷ ps) = end_of p.end ps

-- the reading of these bytes, while the caller gives this, says these events, and nothing of what comes next
abbrev pub IsRead : Gifts → Rules → List ℕ → List (ℕ × Event) → Type 0
IsRead gifts l s es = (q : Place) × Reads l (start_with gifts) s es q []

-- After the bytes s and the events es, these events were put out of the input, one after the other, from here on: each is
-- the next that the reading says, of the bytes used up to its end.
abbrev pub Puts : Gifts → Rules → (s input : List ℕ) → (es : List (ℕ × Event)) → (from : ℕ) → List Put → Type 0
Puts gifts l s input es from [] = ⊤
Puts gifts l s input es from (p ∷ ps) =
    (p.from ≡ from) × (p.end ≤ length input) × IsRead gifts l (s ++ take p.end input) (es ++ (p.at, p.event) ∷ [])
    × Puts gifts l s input (es ++ (p.at, p.event) ∷ []) p.end ps

-- ---- where contents lie

-- the content lies whole in the bytes that its step used, so that it is not held by the decoder
abbrev pub IsInInput : Put → Type 0
IsInInput p = p.from + content_span p.event ≤ p.end

-- part of the content came before, so that it was gathered in the decoder
abbrev pub IsGathered : Put → Type 0
IsGathered p = p.end < p.from + content_span p.event

-- The memory in which a decoder holds a content: where it begins, and the bytes that lie there.
pub record Buffer : Type 0 where
  pub at : Ptr
  pub bytes : List ℕ

abbrev pub buffer_in : Decoding → Buffer
buffer_in d = record { at = buffer_of d; bytes = (state d).held }

-- A content that was gathered is what the decoder holds, and lies where its memory begins; a decimal's lies after the
-- scale, which is held with it.
pub record LiesInBuffer (b : Buffer) (e : Event) (content : List ℕ) (place : Ptr) : Type 0 where
  pub is : drop (before_gathered e) b.bytes ≡ content
  pub there : place ≡ b.at +ₚ before_gathered e

-- Where the content lies of an event that was put, out of an input that begins there: one that is whole in the bytes that
-- its step used is the last of them; one that was gathered lies in the decoder's memory. It is null where there is none.
abbrev pub LiesBy : (input : Ptr) → Buffer → Put → Option (List ℕ) → Ptr → Type 0
LiesBy input b p None place = place ≡ null_ptr
LiesBy input b p (Some content) place =
    (IsInInput p → place ≡ input +ₚ (p.end - length content)) × (IsGathered p → LiesInBuffer b p.event content place)

-- C gets this event, and where its content lies.
abbrev pub WritesPut : (input : Ptr) → Buffer → CqlpEvent → Put → Type 0
WritesPut input b c p = (place : Ptr) × LiesBy input b p (content_in p.event) place × (c ≡ written_at p.at p.event place)

-- these are the events, as C sees them, one for one
abbrev pub WritesAll : (input : Ptr) → Buffer → List CqlpEvent → List Put → Type 0
WritesAll input b [] [] = ⊤
WritesAll input b (c ∷ cs) (p ∷ ps) = WritesPut input b c p × WritesAll input b cs ps
WritesAll input b cs ps = ⊥

-- The same of a step, before the address of a gathered content is put.
abbrev pub LiesByStep : (input : Ptr) → Put → Option (List ℕ) → Ptr → Type 0
LiesByStep input p None place = place ≡ null_ptr
LiesByStep input p (Some content) place = IsInInput p → place ≡ input +ₚ (p.end - length content)

abbrev pub WritesStep : (input : Ptr) → CqlpEvent → Put → Type 0
WritesStep input c p = (place : Ptr) × LiesByStep input p (content_in p.event) place × (c ≡ written_at p.at p.event place)

-- an event of a step that lends a content in the decoder is put with where it lies there
abbrev pub PutsGathered : Buffer → (before after : CqlpEvent) → Type 0
PutsGathered b before after =
    (input : Ptr) (p : Put) → p.from ≤ p.end → IsGathered p → IsContent p.event b.bytes → WritesStep input before p
    → WritesPut input b after p

abbrev pub AllInInput : List Put → Type 0
AllInInput [] = ⊤
AllInInput (p ∷ ps) = IsInInput p × AllInInput ps

-- the same but for the last
abbrev pub OthersInInput : List Put → Type 0
OthersInInput [] = ⊤
OthersInInput (p ∷ []) = ⊤
OthersInInput (p ∷ q ∷ ps) = IsInInput p × OthersInInput (q ∷ ps)

abbrev pub LastIsGathered : List Put → Type 0
LastIsGathered [] = ⊥
LastIsGathered (p ∷ []) = IsGathered p
LastIsGathered (p ∷ q ∷ ps) = LastIsGathered (q ∷ ps)

-- ---- how a batch ends

-- More is wanted, with all of the input used; or what comes next is refused, or was before; or the array is full, or the
-- last content lies in the decoder, which the next step may overwrite.
-- another event would have had a place, or there is a refusal that was made before and is said again
abbrev pub MayRefuse : Option Refusal → (room : ℕ) → List Put → Refusal → Type 0
MayRefuse before room puts r = (length puts < room) ⊎ (before ≡ Some r)

abbrev pub StopsBy : Gifts → (old new : StreamState) → (s input : List ℕ) → (es : List (ℕ × Event)) → (room used : ℕ)
    → List Put → Stop → Type 0
StopsBy gifts old new s input es room used puts stop.More =
    (used ≡ length input) × (length puts < room) × AllInInput puts
    × (new.refusal ≡ None) × Says new.rules (start_with gifts) (s ++ input) (es ++ events_of puts) Waits
StopsBy gifts old new s input es room used puts (stop.Refused r) =
    (used ≡ end_of 0 puts) × MayRefuse old.refusal room puts r × AllInInput puts
    × (new.refusal ≡ Some r) × Refuses old.refusal gifts old s (es ++ events_of puts) input r
StopsBy gifts old new s input es room used puts stop.Full =
    (used ≡ end_of 0 puts) × OthersInInput puts × ((length puts ≡ room) ⊎ LastIsGathered puts)

-- What a batch is, after these gifts, the bytes s and the events es: this many bytes of the input were used, and the events that
-- the reading says of them are in the array. No content but the last lies in the decoder, in this memory of it; the others
-- lie in the input, which begins at `begins`.
pub record Fills (gifts : Gifts) (old new : StreamState) (s input : List ℕ) (begins : Ptr) (buffer : Buffer)
    (es : List (ℕ × Event)) (room : ℕ) (b : Batch) (events : List CqlpEvent) : Type 0 where
  pub puts : List Put
  pub count : length puts ≡ b.events
  pub put : Puts gifts old.rules s input es 0 puts
  pub written : WritesAll begins buffer (take b.events events) puts
  pub after : AfterGifts gifts new (s ++ take b.used input) (es ++ events_of puts)
  pub stops : StopsBy gifts old new s input es room b.used puts b.stop

-- The bytes begin at the pointer that the caller gave, which is not looked at where there are none; and at no null pointer.
abbrev pub BeginsAt : Bor (List ℕ) → Ptr → Type 0
BeginsAt bytes begins = ¬ (begins ≡ null_ptr) × (0 < length bytes.now → begins ≡ as_ptr bytes)

-- the same of any gifts and any stream that led here
abbrev pub FillsOn : (old new : StreamState) → (input : List ℕ) → (begins : Ptr) → Buffer → (room : ℕ) → Batch
    → List CqlpEvent → Type 0
FillsOn old new input begins buffer room b events =
    (gifts : Gifts) (s : List ℕ) (es : List (ℕ × Event)) → AfterGifts gifts old s es
    → Fills gifts old new s input begins buffer es room b events

-- after a refusal a batch says it again, also where there is no room, and changes nothing
abbrev pub RepeatsRefusal : Refusal → (old new : StreamState) → Batch → Type 0
RepeatsRefusal r old new b = (b ≡ record { used = 0; events = 0; stop = stop.Refused r }) × (new ≡ old)

-- why a batch ends that has no room, where the stream would end so
abbrev pub stop_without_room : Finish → Stop
stop_without_room (finish.Refused r) = stop.Refused r
stop_without_room (finish.Whole bytes) = stop.Full
stop_without_room (finish.Cut frame_at bytes) = stop.Full

-- an event that a step put, which used the last `taken` of the bytes up to here
abbrev pub put_of : (at : ℕ) → Event → (end taken : ℕ) → Put
put_of at e end taken = record { at = at; event = e; from = end - taken; end = end }

-- a decoder that has refused nothing has used this many bytes, whatever led here
abbrev pub HasUsed : StreamState → ℕ → Type 0
HasUsed d bytes =
    (gifts : Gifts) (s : List ℕ) (es : List (ℕ × Event)) → AfterGifts gifts d s es → d.refusal ≡ None → bytes ≡ length s

-- ---- progress

-- the events that may come of a state before a byte does: the ends of its frame and of the values that are open
abbrev pub due : StreamState → ℕ
due d = ends_due d.place.symbols + d.open_values

-- A batch that ends for want of room has put some event, if there was room for one; and each event takes some byte, or is
-- one that was due. So no loop over batches goes on for ever.
abbrev pub GoesOn : (old new : StreamState) → (room : ℕ) → Batch → Type 0
GoesOn old new room b =
    b.stop ≡ stop.Full
    → (new.refusal ≡ old.refusal) × (0 < room → 0 < b.events) × (due new + b.events ≤ due old + 2 * b.used)
