-- What is written for C of the events of a frame.
use Rattle.std.specs.Prelude.{◌≡◌, ⊤, ℕ, suc, ◌+◌, ◌<◌, ◌≤◌, List, [], ◌∷◌, length, take, drop, Option, Some, None, Result, Ok, Err, IsOk, ◌⊎◌}
use Rattle.std.specs.Borrow.{Bor}
use Rattle.cqlp_note.specs.declared.header.TheConstants.Header.{LONGEST_BODY}
use Rattle.cqlp_note.specs.declared.limits.TheConstants.Limits.{DEPTH}
use Rattle.cqlp_grammar.specs.Events.{Event}
use Rattle.cqlp_build.specs.declared.builder.BuildLimits.{BuildLimits}
use Rattle.cqlp_build.specs.declared.error.BuildError.{BuildError}
use Rattle.cqlp_build.specs.declared.error.BuildError.TheVariants as error
use Rattle.cqlp_compose.specs.CellPages.{IsCellPage}
use Rattle.cqlp_compose.specs.Composing.{ComposerState, IsOfNone, IsWrittenOf, refusal_of, start, with_next}
use Rattle.cqlp_c.specs.declared.encode.CqlpEncoded.{CqlpEncoded}
use Rattle.cqlp_c.specs.declared.encode.Stopped.{Stopped}
use Rattle.cqlp_c.specs.declared.encode.Unencoded.{Unencoded}
use Rattle.cqlp_c.specs.declared.encode.Unencoded.TheVariants as unencoded
use Rattle.cqlp_c.specs.declared.event.CqlpEvent.{CqlpEvent}
use Rattle.cqlp_c.specs.declared.numbers.TheConstants as numbers
use Rattle.cqlp_c.specs.declared.from_c.BadEvent.{BadEvent}
use Rattle.cqlp_c.specs.declared.from_c.BadEvent.TheVariants as bad_event
use Rattle.cqlp_c.specs.Rooms.{PutsBytes}
use Rattle.cqlp_c.specs.FromC.{content_len, event_from_c}

-- ---- events one after the other

-- the events that were taken, and the contents that are left
abbrev pub Taken : Type 0
Taken = ComposerState × List ℕ

abbrev pub unless : Option BuildError → Taken → Result Taken Unencoded
unless None t = Ok t
unless (Some why) t = Err (unencoded.Refused why)

-- an event is taken where nothing keeps it from being the next
abbrev pub with_c_event : ComposerState → Result Event BadEvent → (rest : List ℕ) → Result Taken Unencoded
with_c_event s (Err why) rest = Err (unencoded.BadEvent why)
with_c_event s (Ok e) rest = unless (refusal_of s e) (with_next s e, rest)

-- What becomes of what C passes as an event.
abbrev pub after_one : Taken → CqlpEvent → Result Taken Unencoded
after_one t c = with_c_event t.0 (event_from_c c t.1) (drop (content_len c) t.1)

abbrev pub on_from : (n : ℕ) → Result Taken Unencoded → (Taken → Result Taken Stopped) → Result Taken Stopped
on_from n (Ok t) f = f t
on_from n (Err why) f = Err (record { event = n; why = why })

-- What becomes of what C passes as events, of which the first is the n-th: all are taken, or this one is the first that is not.
abbrev pub after_all : (n : ℕ) → Taken → List CqlpEvent → Result Taken Stopped
after_all n t [] = Ok t
after_all n t (c ∷ cs) = on_from n (after_one t c) (λ u. after_all (suc n) u cs)

-- bytes, wherever they lie
abbrev pub seen : {E : Type 0} → Result (Bor (List ℕ)) E → Result (List ℕ) E
seen (Ok bytes) = Ok bytes.now
seen (Err e) = Err e

-- An event was taken, or was not for this reason. Where memory was refused, nothing else kept it from being taken.
abbrev pub TakesOne : Taken → CqlpEvent → Result (List ℕ) Unencoded → ComposerState → Type 0
TakesOne t c (Ok rest) new = after_one t c ≡ Ok (new, rest)
TakesOne t c (Err (unencoded.Refused error.NoMemory)) new = IsOk (after_one t c)
TakesOne t c (Err why) new = after_one t c ≡ Err why

-- The same of all of them. Where memory was refused at an event, nothing else keeps it and all before it from being taken.
abbrev pub StopsAt : Taken → List CqlpEvent → (n : ℕ) → Unencoded → Type 0
StopsAt t cs n (unencoded.Refused error.NoMemory) = (n < length cs) × IsOk (after_all 0 t (take (n + 1) cs))
StopsAt t cs n why = after_all 0 t cs ≡ Err (record { event = n; why = why })

abbrev pub TakesAll : Taken → List CqlpEvent → Result (List ℕ) Stopped → ComposerState → Type 0
TakesAll t cs (Ok rest) new = after_all 0 t cs ≡ Ok (new, rest)
TakesAll t cs (Err r) new = StopsAt t cs r.event r.why

-- ---- the frame

-- No frame has more fields, type options and events of cells, nor more bytes of texts and contents, than its body has bytes; and no
-- decoder reads types that are nested deeper.
abbrev pub longest : BuildLimits
longest = record { fields = LONGEST_BODY; depth = DEPTH.greatest; bytes = LONGEST_BODY }

-- no event was taken, and all contents are left
abbrev pub at_first : (contents : List ℕ) → Taken
at_first contents = (start longest, contents)

-- They are the bytes of the frame that has these events; of a page whose cells are each one event they may be put with no frame held.
abbrev pub IsWritten : List Event → (bytes : List ℕ) → Type 0
IsWritten es bytes = IsWrittenOf es bytes ⊎ IsCellPage es bytes

-- They are the bytes of the frame that has these events with these contents, of which nothing is left.
abbrev pub IsEncoded : List CqlpEvent → (contents bytes : List ℕ) → Type 0
IsEncoded cs contents bytes =
    (s : ComposerState) × (after_all 0 (at_first contents) cs ≡ Ok (s, [])) × IsWritten s.frame.events bytes

-- Why no frame has the events that were taken, or with no contents left.
abbrev pub HasNone : Taken → Unencoded → Type 0
HasNone (s, []) (unencoded.Refused why) = IsOfNone s.frame.events why
HasNone (s, b ∷ bs) unencoded.LeftOver = ⊤
HasNone t why = ⊥

-- At which event it is refused, of as many: where no frame has them it is one of them, or none; else it is none.
abbrev pub IsPlaced : Unencoded → (event all : ℕ) → Type 0
IsPlaced (unencoded.Refused error.NoFrame) event all = event ≤ all
IsPlaced why event all = event ≡ all

-- No frame has the events, which are as many; or memory was refused before it was known where.
abbrev pub IsMisfitAt : Unencoded → (event all : ℕ) → Type 0
IsMisfitAt (unencoded.Refused error.NoFrame) event all = event ≤ all
IsMisfitAt (unencoded.Refused error.NoMemory) event all = event ≡ all
IsMisfitAt why event all = ⊥

abbrev pub IsMisfit : (all : ℕ) → Stopped → Type 0
IsMisfit all r = IsMisfitAt r.why r.event all

-- An event is not taken; or all are, and then there is no frame.
abbrev pub StopsFor : List CqlpEvent → (contents : List ℕ) → Stopped → Type 0
StopsFor cs contents r =
    (after_all 0 (at_first contents) cs ≡ Err r)
    ⊎ ((t : Taken) × (after_all 0 (at_first contents) cs ≡ Ok t) × IsPlaced r.why r.event (length cs) × HasNone t r.why)

abbrev pub IsUnencodedAt : List CqlpEvent → (contents : List ℕ) → (n : ℕ) → Unencoded → Type 0
IsUnencodedAt cs contents n (unencoded.Refused error.NoMemory) = (n ≤ length cs) × IsOk (after_all 0 (at_first contents) (take (n + 1) cs))
IsUnencodedAt cs contents n why = StopsFor cs contents (record { event = n; why = why })

-- Why there is no frame, and at which event. Where memory was refused, nothing else keeps this event and all before it from being taken.
abbrev pub IsUnencoded : List CqlpEvent → (contents : List ℕ) → Stopped → Type 0
IsUnencoded cs contents r = IsUnencodedAt cs contents r.event r.why

-- ---- what C gets

abbrev pub code_of_bad_event : BadEvent → ℕ
code_of_bad_event bad_event.NoEvent = numbers.NO_EVENT
code_of_bad_event bad_event.Unbuilt = numbers.UNBUILT

abbrev pub code_of_refused : BuildError → ℕ
code_of_refused error.Misplaced = numbers.MISPLACED
code_of_refused error.Unbuilt = numbers.UNBUILT
code_of_refused error.TooManyFields = numbers.TOO_MANY_FIELDS
code_of_refused error.TooDeep = numbers.TOO_DEEP
code_of_refused error.TooManyBytes = numbers.TOO_MANY_BYTES
code_of_refused error.NoFrame = numbers.NO_SUCH_FRAME
code_of_refused error.NoMemory = numbers.NO_MEMORY

abbrev pub code_of_unencoded : Unencoded → ℕ
code_of_unencoded (unencoded.BadEvent why) = code_of_bad_event why
code_of_unencoded (unencoded.Refused why) = code_of_refused why
code_of_unencoded unencoded.LeftOver = numbers.LEFT_OVER

-- The frame's bytes are put, where there is room, and it gets how many they are.
abbrev pub PutsFrame : List CqlpEvent → (contents : List ℕ) → (code : ℕ) → (before after : List ℕ) → CqlpEncoded → Type 0
PutsFrame cs contents code before after written =
    (bytes : List ℕ) × IsEncoded cs contents bytes × PutsBytes bytes code before after written.length × (written.event ≡ length cs)

-- There is no frame: nothing is put, and the code says why.
abbrev pub PutsNone : List CqlpEvent → (contents : List ℕ) → (code : ℕ) → (before after : List ℕ) → CqlpEncoded → Type 0
PutsNone cs contents code before after written =
    (r : Stopped) × IsUnencoded cs contents r × (code ≡ code_of_unencoded r.why) × (after ≡ before)
    × (written ≡ record { length = 0; event = r.event })

-- What `cqlp_encode` answers.
abbrev pub Encodes : List CqlpEvent → (contents : List ℕ) → (code : ℕ) → (before after : List ℕ) → CqlpEncoded → Type 0
Encodes cs contents code before after written =
    PutsFrame cs contents code before after written ⊎ PutsNone cs contents code before after written
