-- Laws of what is written of events.
use Rattle.std.specs.Prelude.{◌≡◌, ⊤, ℕ, suc, ◌++◌, List, [], ◌∷◌, map, Result, Ok, ◌⊎◌, true, false}
use Rattle.std.specs.List.{AllByRecursion, flat_map}
use Rattle.cqlp_note.specs.declared.header.Header.{Header}
use Rattle.cqlp_note.specs.Limits.{Rules}
use Rattle.cqlp_grammar.specs.Events.{Event, Frame, End}
use Rattle.cqlp_message.specs.FrameValues.{FrameValue}
use Rattle.cqlp_message.specs.Frames.{IsWithin, frame_bytes}
use Rattle.cqlp_decode.specs.Reading.{Waits, Says, start}
use Rattle.cqlp_build.specs.Building.{HaveNoParts, is_inner}
use Rattle.cqlp_build.specs.Closing.{closed}
use Rattle.cqlp_build.specs.Laws.{without_offsets}
use Rattle.cqlp_compose.specs.Composing.{ComposerState, refusal_of, with_next}
use Rattle.cqlp_c.specs.declared.encode.CqlpEncoded.{CqlpEncoded}
use Rattle.cqlp_c.specs.declared.encode.Stopped.{Stopped}
use Rattle.cqlp_c.specs.declared.event.CqlpEvent.{CqlpEvent}
use Rattle.cqlp_c.specs.declared.numbers.TheConstants as numbers
use Rattle.cqlp_c.specs.Encoding.{Encodes, IsEncoded, IsWritten, Taken, after_all, on_from, unless}
use Rattle.cqlp_c.specs.Events.{Writes, content_of}
use Rattle.cqlp_c.specs.FromCLaws.{EventIsInRange, is_part, kept}

-- Both have this length, and both name the same event, which is not said where no frame has the events.
abbrev pub AreAlike : (code : ℕ) → (t u : CqlpEncoded) → Type 0
AreAlike code t u = (t.length ≡ u.length) × ((t.event ≡ u.event) ⊎ (code ≡ numbers.NO_SUCH_FRAME))

-- Of the same events with the same contents, and into the same room, there is one answer, but where memory is refused.
abbrev pub IsOneAnswerOfEncode : Type 0
IsOneAnswerOfEncode =
    (cs : List CqlpEvent) (contents before : List ℕ) (a b : ℕ) (one other : List ℕ) (t u : CqlpEncoded)
    → Encodes cs contents a before one t → Encodes cs contents b before other u
    → ((a ≡ b) × (one ≡ other) × AreAlike a t u) ⊎ ((a ≡ numbers.NO_MEMORY) ⊎ (b ≡ numbers.NO_MEMORY))

-- ---- events that a decoder said

-- these are the events, as C gets them, one for one, at some offsets
abbrev pub AreWritten : List CqlpEvent → List Event → Type 0
AreWritten [] [] = ⊤
AreWritten (c ∷ cs) (e ∷ es) = ((at : ℕ) × Writes c at e) × AreWritten cs es
AreWritten cs es = ⊥

-- numbers, arrays and texts are those of Rust values, and no event is a part
abbrev pub CanBeWritten : List Event → Type 0
CanBeWritten [] = ⊤
CanBeWritten (e ∷ es) = EventIsInRange e × (is_part e ≡ false) × CanBeWritten es

-- What becomes of a composer's events, one after the other: all are taken, or the n-th is the first that is not.
abbrev pub after_events : (n : ℕ) → Taken → List Event → Result Taken Stopped
after_events n t [] = Ok t
after_events n t (e ∷ es) = on_from n (unless (refusal_of t.0 e) (with_next t.0 e, t.1)) (λ u. after_events (suc n) u es)

-- What C gets of events, with their contents one after the other, is taken as a composer takes the events.
abbrev pub AllAreReadBack : Type 0
AllAreReadBack =
    (es : List Event) (cs : List CqlpEvent) (n : ℕ) (s : ComposerState) (others : List ℕ)
    → CanBeWritten es → AreWritten cs es
    → after_all n (s, flat_map content_of es ++ others) cs ≡ after_events n (s, others) (map kept es)

-- ---- what is written

-- No scalar of a cell comes in parts, as no limit asks for it, or none does.
abbrev pub AreWhole : Rules → List Event → Type 0
AreWhole l es = (l.parts ≡ false) ⊎ HaveNoParts es

-- The bytes are those of a frame, and a decoder within whose limits it is reads of them its header with these fields and an end, where no
-- scalar of a cell comes in parts.
pub record IsReadAs (h : Header) (fields : List Event) (bytes : List ℕ) : Type 0 where
  pub size : ℕ
  pub frame : FrameValue
  pub are : bytes ≡ frame_bytes frame
  pub said : (l : Rules) → IsWithin l frame
      → (written : List (ℕ × Event)) × Says l start bytes written Waits × (AreWhole l (without_offsets written) → without_offsets written ≡ closed h size fields)

-- What is written of a header and fields is read as these.
abbrev pub WrittenReadsBack : Type 0
WrittenReadsBack = (h : Header) (fields : List Event) (bytes : List ℕ) → IsWritten (Frame h ∷ fields) bytes → IsReadAs h fields bytes

-- Of the events of a frame, as C gets them, with their contents one after the other, what is written is read as the same header and fields.
abbrev pub HandedBackIsRead : Type 0
HandedBackIsRead =
    (h : Header) (fields : List Event) (extra : ℕ) (cs : List CqlpEvent) (bytes : List ℕ)
    → AllByRecursion (λ e. is_inner e ≡ true) fields
    → CanBeWritten (Frame h ∷ fields ++ End extra ∷ []) → AreWritten cs (Frame h ∷ fields ++ End extra ∷ [])
    → IsEncoded cs (flat_map content_of (Frame h ∷ fields ++ End extra ∷ [])) bytes
    → IsReadAs h fields bytes

-- What is written has events: a header, and then fields.
abbrev pub WrittenHasHeader : Type 0
WrittenHasHeader =
    (es : List Event) (bytes : List ℕ) → IsWritten es bytes → (h : Header) × (fields : List Event) × (es ≡ Frame h ∷ fields)
