-- What an inbox hears of what a source gives.
use Rattle.std.specs.Prelude.{◌≡◌, ℕ, ◌+◌, ◌-◌, ◌*◌, ◌≤◌, true, false, List, [], ◌∷◌, ◌++◌, length, take, Option, Some, None, Result, Ok}
use Rattle.std.specs.Prelude.{Err, ⊤, ◌⊎◌}
use Rattle.std.specs.Io.KnownBytes.{Consumes, Keeps, IsAtEnd}
use Rattle.cqlp_note.specs.declared.streams.Source.{Ghosts}
use Rattle.cqlp_note.specs.declared.header.Header.{Header}
use Rattle.cqlp_note.specs.declared.limits.TheConstants.Limits.{DEFAULT}
use Rattle.cqlp_note.specs.declared.refusal.Refusal.{Refusal}
use Rattle.cqlp_note.specs.Limits.{rules_of}
use Rattle.cqlp_note.specs.Streams.{counted, CountsUp}
use Rattle.cqlp_grammar.specs.Events.{Event, Frame, End}
use Rattle.cqlp_decode.specs.Reading.{Verdict, Waits, Refused, Says, start}
use Rattle.cqlp_decode.specs.Progress.{StreamState, IsPending, ends_due}
use Rattle.cqlp_decode.specs.Streams.{Decoding, After, state}
use Rattle.cqlp_decode.specs.Draining.{Calls, calls}
use Rattle.cqlp_loop.specs.declared.fault.LoopFault.{LoopFault}
use Rattle.cqlp_loop.specs.declared.fault.LoopFault.TheVariants as fault
use Rattle.cqlp_loop.specs.declared.inbox.Edge.{Edge}
use Rattle.cqlp_loop.specs.declared.inbox.Edge.TheVariants.{Begin, Finish}
use Rattle.cqlp_loop.specs.declared.inbox.Mark.{Mark}
use Rattle.cqlp_loop.specs.declared.inbox.Mark.TheVariants as mark
use Rattle.cqlp_loop.specs.declared.inbox.Found.{Found}
use Rattle.cqlp_loop.specs.declared.inbox.Found.TheVariants as found
use Rattle.cqlp_loop.specs.declared.inbox.Sought.{Sought}
use Rattle.cqlp_loop.specs.declared.inbox.Sought.TheVariants as sought
use Rattle.cqlp_loop.specs.Hearing.{Hearing, idle, amid, with_events}

-- what a source has left, where that is known, how often it failed, and which calls of it were made
pub record Supply : Type 0 where
  pub left : Option (List ℕ)
  pub failures : ℕ
  pub calls : Calls

abbrev pub supply : {R : Type 0} → Ghosts R → R → Supply
supply members source =
    record { left = members.left source; failures = members.failures source; calls = calls members source }

-- So many calls more were made, each with room for 4,096 bytes.
pub record MakesCalls (count : ℕ) (old new : Calls) : Type 0 where
  pub reads : CountsUp count old.reads new.reads
  pub asked : CountsUp (4096 * count) old.asked new.asked

-- a decoder, the bytes that were read and wait for it, and how many reads the message may still take
pub record InboxState : Type 0 where
  pub decoder : Decoding
  pub waiting : List ℕ
  pub reads : ℕ

-- ---- what a decoder emits

-- A decoder has used these bytes, emitted these events of them, and refused nothing.
abbrev pub HasEmitted : StreamState → List ℕ → List (ℕ × Event) → Type 0
HasEmitted d s es = (d.refusal ≡ None) × After d s es

-- A decoder used these bytes, and their events lead from one hearing to the other.
pub record Emits (old : StreamState) (bytes : List ℕ) (new : StreamState) (before after : Hearing) : Type 0 where
  pub more : List (ℕ × Event)
  pub leads : (s : List ℕ) (es : List (ℕ × Event)) → HasEmitted old s es → HasEmitted new (s ++ bytes) (es ++ more)
  pub heard : with_events before more ≡ after
  pub rules : new.rules ≡ old.rules

-- All that these bytes say are the events that lead from one hearing to the other, and then this: that more bytes are
-- waited for, or that they are refused.
pub record SaysAll (old : StreamState) (bytes : List ℕ) (v : Verdict) (before after : Hearing) : Type 0 where
  pub more : List (ℕ × Event)
  pub says : (s : List ℕ) (es : List (ℕ × Event)) → HasEmitted old s es
      → Says old.rules start (s ++ bytes) (es ++ more) v
  pub heard : with_events before more ≡ after

-- the mark that an event is, if it is the one that is waited for
abbrev pub mark_of : Edge → Event → Option Mark
mark_of Begin (Frame h) = Some (mark.Head h)
mark_of Begin e = None
mark_of Finish (End n) = Some mark.Tail
mark_of Finish e = None

-- while a message's beginning or its end is waited for
abbrev pub awaiting : Edge → List Header → Hearing
awaiting Begin hs = idle hs
awaiting Finish hs = amid hs

-- once it came
abbrev pub past : Mark → List Header → Hearing
past (mark.Head h) hs = amid (hs ++ h ∷ [])
past mark.Tail hs = idle hs

abbrev pub IsAt : Edge → Mark → Type 0
IsAt Begin (mark.Head h) = ⊤
IsAt Finish mark.Tail = ⊤
IsAt edge m = ⊥

-- the ends of frames that are due after it
abbrev pub due_at : Mark → ℕ
due_at (mark.Head h) = 1
due_at mark.Tail = 0

-- Whatever led to the first, at the second nothing is under way: no byte was used that is after the mark.
abbrev pub Stops : StreamState → Mark → StreamState → Type 0
Stops old m new =
    (s : List ℕ) (es : List (ℕ × Event))
    → HasEmitted old s es → IsPending new.pending [] × (ends_due new.place.symbols ≡ due_at m)

-- All of these bytes do not lead to the mark that is waited for.
abbrev pub IsWithout : Edge → StreamState → List ℕ → Verdict → Type 0
IsWithout edge old bytes v = (hs : List Header) → SaysAll old bytes v (awaiting edge hs) (awaiting edge hs)

-- What a piece leads to: the mark that is waited for, after some of its bytes; or all of it was used before that; or it
-- is refused before that.
abbrev pub Seeks : Edge → StreamState → List ℕ → Sought → StreamState → Type 0
Seeks edge old piece (sought.Found used m) new =
    (used ≤ length piece) × IsAt edge m × Stops old m new
    × ((hs : List Header) → Emits old (take used piece) new (awaiting edge hs) (past m hs))
Seeks edge old piece sought.More new =
    IsWithout edge old piece Waits
    × ((hs : List Header) → Emits old piece new (awaiting edge hs) (awaiting edge hs))
Seeks edge old piece sought.Refused new = (r : Refusal) × IsWithout edge old piece (Refused r.at r.why)

-- ---- what an inbox hears

-- at the start of a stream, with the limits where none are given
pub record IsNew (new : InboxState) : Type 0 where
  pub emitted : HasEmitted (state new.decoder) [] []
  pub waiting : new.waiting ≡ []
  pub rules : (state new.decoder).rules ≡ rules_of DEFAULT

-- The decoder used the first of the bytes that waited, and the others are left.
pub record Uses (old new : InboxState) (before after : Hearing) : Type 0 where
  pub used : List ℕ
  pub split : old.waiting ≡ used ++ new.waiting
  pub emits : Emits (state old.decoder) used (state new.decoder) before after

-- The decoder stopped at a mark, and no more bytes wait than a read may give.
pub record StopsAt (old : InboxState) (m : Mark) (new : InboxState) : Type 0 where
  pub stops : Stops (state old.decoder) m (state new.decoder)
  pub waiting : length new.waiting ≤ 4096

-- What waits leads to the mark; or all of it was used before that; or it is refused before that.
abbrev pub Finds : Edge → InboxState → Found → InboxState → Type 0
Finds edge old (found.Mark m) new =
    (new.reads ≡ old.reads) × IsAt edge m × StopsAt old m new
    × ((hs : List Header) → Uses old new (awaiting edge hs) (past m hs))
Finds edge old found.More new =
    (new.reads ≡ old.reads) × (new.waiting ≡ []) × IsWithout edge (state old.decoder) old.waiting Waits
    × ((hs : List Header)
    → Emits (state old.decoder) old.waiting (state new.decoder) (awaiting edge hs) (awaiting edge hs))
Finds edge old found.Refused new =
    (new.reads ≡ old.reads) × (r : Refusal) × IsWithout edge (state old.decoder) old.waiting (Refused r.at r.why)

-- one more read was made, and the source failed, or is at its end
abbrev pub Fails : (from left : Supply) → Type 0
Fails from left =
    MakesCalls 1 from.calls left.calls
    × ((left.failures ≡ counted true from.failures) ⊎ ((left.failures ≡ from.failures) × IsAtEnd left.left))

-- A read gave what waits now; or the message has no read left; or the source failed or ended.
abbrev pub Fills : InboxState → Supply → Result (Unit {0}) LoopFault → InboxState → Supply → Type 0
Fills old from (Ok u) new left =
    (old.reads ≡ new.reads + 1) × (new.decoder ≡ old.decoder) × (length new.waiting ≤ 4096)
    × (1 ≤ length new.waiting) × Consumes from.left left.left new.waiting × (left.failures ≡ from.failures)
    × MakesCalls 1 from.calls left.calls
Fills old from (Err fault.TooManyTurns) new left = (old.reads ≡ 0) × (new ≡ old) × (left ≡ from)
Fills old from (Err fault.SocketFault) new left = Keeps from.left left.left × Fails from left
Fills old from (Err e) new left = ⊥

-- ---- reads

-- Some reads were made, and none failed: each had room for 4,096 bytes and gave 1 or more, together these. So many were
-- left before, and so many after.
pub record Reads (before : ℕ) (from : Supply) (bytes : List ℕ) (after : ℕ) (left : Supply) : Type 0 where
  pub taken : Consumes from.left left.left bytes
  pub failures : left.failures ≡ from.failures
  pub calls : MakesCalls (before - after) from.calls left.calls
  pub least : before ≤ length bytes + after
  pub most : length bytes + 4096 * after ≤ 4096 * before

-- The next message is not whole: what was heard before, and perhaps its header.
abbrev pub IsShort : (before conforms : Hearing) → Type 0
IsShort before conforms =
    (conforms ≡ before)
    ⊎ ((before.under_way ≡ false) × (h : Header) × (conforms ≡ amid (before.headers ++ h ∷ [])))

-- The last read was made only once what waited, and all bytes of the reads before it, were seen not to hold the rest of
-- the message.
pub record IsNeeded (old : InboxState) (bytes : List ℕ) (before : Hearing) : Type 0 where
  pub earlier : List ℕ
  pub last : List ℕ
  pub split : bytes ≡ earlier ++ last
  pub most : length last ≤ 4096
  pub conforms : Hearing
  pub short : IsShort before conforms
  pub says : SaysAll (state old.decoder) (old.waiting ++ earlier) Waits before conforms

abbrev pub AreNeeded : InboxState → List ℕ → Hearing → Type 0
AreNeeded old bytes before = (bytes ≡ []) ⊎ IsNeeded old bytes before

-- Of the bytes that waited and those that were read, the decoder used the first, and the others wait; what it emitted of
-- them leads from one hearing to the other.
pub record Hears (old : InboxState) (from : Supply) (new : InboxState) (left : Supply) (before after : Hearing)
    : Type 0 where
  pub read : List ℕ
  pub used : List ℕ
  pub reads : Reads old.reads from read new.reads left
  pub needed : AreNeeded old read before
  pub split : old.waiting ++ read ≡ used ++ new.waiting
  pub emits : Emits (state old.decoder) used (state new.decoder) before after

-- All bytes that waited and that were read lead only to the other hearing; and then they wait for more, or are refused.
-- So many reads are left.
pub record Lacks (old : InboxState) (from : Supply) (v : Verdict) (reads_left : ℕ) (left : Supply)
    (before after : Hearing) : Type 0 where
  pub read : List ℕ
  pub reads : Reads old.reads from read reads_left left
  pub needed : AreNeeded old read before
  pub says : SaysAll (state old.decoder) (old.waiting ++ read) v before after

-- Why no more is heard: the bytes are refused; or no read is left; or the source failed or ended, where more bytes are
-- waited for.
abbrev pub Misses : InboxState → Supply → LoopFault → Supply → (before after : Hearing) → Type 0
Misses old from fault.BadReply left before after =
    (r : Refusal) × (n : ℕ) × Lacks old from (Refused r.at r.why) n left before after
Misses old from fault.TooManyTurns left before after = Lacks old from Waits 0 left before after
Misses old from fault.SocketFault left before after =
    (n : ℕ) × (at : Supply) × Lacks old from Waits n at before after × Keeps at.left left.left × Fails at left
Misses old from e left before after = ⊥

-- What comes of waiting for an edge.
abbrev pub Pulls : Edge → InboxState → Supply → Result Mark LoopFault → InboxState → Supply → Type 0
Pulls edge old from (Ok m) new left =
    IsAt edge m × StopsAt old m new
    × ((hs : List Header) → Hears old from new left (awaiting edge hs) (past m hs))
Pulls edge old from (Err e) new left =
    (hs : List Header) → Misses old from e left (awaiting edge hs) (awaiting edge hs)

-- an inbox that may make as many reads as one message may take
abbrev pub for_next : InboxState → InboxState
for_next i = record { decoder = i.decoder; waiting = i.waiting; reads = 8192 }

-- What comes of waiting for the header of the next message, which is one more.
abbrev pub HearsHeader : InboxState → Supply → Result Header LoopFault → InboxState → Supply → Type 0
HearsHeader old from (Ok h) new left =
    (hs : List Header) → Hears (for_next old) from new left (idle hs) (amid (hs ++ h ∷ []))
HearsHeader old from (Err e) new left = (hs : List Header) → Misses (for_next old) from e left (idle hs) (idle hs)

-- What comes of waiting for the rest of a message.
abbrev pub HearsRest : InboxState → Supply → Result (Unit {0}) LoopFault → InboxState → Supply → Type 0
HearsRest old from (Ok u) new left =
    StopsAt old mark.Tail new × ((hs : List Header) → Hears old from new left (amid hs) (idle hs))
HearsRest old from (Err e) new left = (hs : List Header) → Misses old from e left (amid hs) (amid hs)

-- ---- one message

-- What comes of waiting for a message, which the core takes or refuses by its header: it came whole; or no header came,
-- or not all that is after it; or its header came, and the core refuses it.
abbrev pub Receives : (takes refuses : Header → Type 0)
    → InboxState → Supply → Result Header LoopFault → InboxState → Supply → Type 0
Receives takes refuses old from (Ok h) new left =
    takes h × StopsAt (for_next old) mark.Tail new × Hears (for_next old) from new left (idle []) (idle (h ∷ []))
Receives takes refuses old from (Err e) new left =
    Misses (for_next old) from e left (idle []) (idle [])
    ⊎ ((h : Header) × takes h × Misses (for_next old) from e left (idle []) (amid (h ∷ [])))
    ⊎ ((h : Header) × refuses h × (e ≡ fault.BadReply)
    × Hears (for_next old) from new left (idle []) (amid (h ∷ [])))
