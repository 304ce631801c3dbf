-- Laws of fields and of headers.
use Rattle.std.specs.Prelude.{◌≡◌, ℕ, ◌<◌, ◌≤◌, ◌↔◌, ◌++◌, Bool, true, false, IsTrue, List, All, length, take, FitsSigned, Option}
use Rattle.std.specs.Prelude.{Some, None, ⊤, Result, Ok, IfOk, is_err}
use Rattle.std.specs.Int.{w16}
use Rattle.std.specs.Ptr.{Ptr}
use Rattle.std.specs.Io.KnownBytes.{ReadConsumes, WriteAppends}
use Rattle.cqlp_note.specs.declared.advance.Push.{Push}
use Rattle.cqlp_note.specs.declared.advance.Push.TheVariants as push
use Rattle.cqlp_note.specs.declared.advance.FieldAdvance.{FieldAdvance}
use Rattle.cqlp_note.specs.declared.advance.FieldAdvance.TheVariants as taken
use Rattle.cqlp_note.specs.declared.refusal.Refusal.{Refusal}
use Rattle.cqlp_note.specs.declared.field.Notation.{Notation}
use Rattle.cqlp_note.specs.declared.header.Header.{Header}
use Rattle.cqlp_note.specs.declared.header.TheConstants.Header.{LONGEST_BODY}
use Rattle.cqlp_note.specs.declared.limits.LimitRange.{LimitRange}
use Rattle.cqlp_note.specs.declared.limits.TheConstants.Limits.{TEXT, CELL, ENTRIES, DEPTH, DEFAULT}
use Rattle.cqlp_note.specs.declared.refusal.Reason.{Reason}
use Rattle.cqlp_note.specs.declared.streams.IoFault.{IoFault}
use Rattle.cqlp_note.specs.declared.whole.WholeField.{WholeField}
use Rattle.cqlp_note.specs.Whole.{IsFrontField, IsLeft}
use Rattle.cqlp_note.specs.Streams.{counted, took_none}
use Rattle.cqlp_note.specs.Reader.{Bad, Got, says}
use Rattle.cqlp_note.specs.Field.{FieldValue, field_of}
use Rattle.cqlp_note.specs.Head.{value_of}
use Rattle.cqlp_note.specs.Partial.{FieldState, IsNew, Advances, Pushes, item_value}
use Rattle.cqlp_note.specs.Field.{content_length}
use Rattle.cqlp_note.specs.Spelling.{Spells, field_bytes, counts_no_more, is_short_enough, IsInRange}
use Rattle.cqlp_note.specs.Heading.{Headed, IsLawful, header_bytes, heading}

-- What is got of a field, its bytes spell.
abbrev pub GotIsSpelled : Type 0
GotIsSpelled =
    (n : Notation) (limit room : ℕ) (bytes : List ℕ) (v : FieldValue) (used : ℕ)
    → says (field_of n limit room) 0 bytes ≡ Got v used → Spells n v (take used bytes)

-- What is spelled, within the limit and the room, is got by exactly its bytes, whatever follows them.
abbrev pub SpelledIsGot : Type 0
SpelledIsGot =
    (n : Notation) (v : FieldValue) (limit room : ℕ) (bytes : List ℕ)
    → Spells n v bytes → content_length v ≤ limit → length bytes ≤ room
    → (t : List ℕ) → says (field_of n limit room) 0 (bytes ++ t) ≡ Got v (length bytes)

-- What was said of a field stays, whatever bytes follow: a value, of bytes that have come, and a refusal.
pub record SaidStays (n : Notation) (limit room : ℕ) (bytes t : List ℕ) : Type 0 where
  pub got :
      (v : FieldValue) (used : ℕ) → says (field_of n limit room) 0 bytes ≡ Got v used
      → (used ≤ length bytes) × (says (field_of n limit room) 0 (bytes ++ t) ≡ Got v used)
  pub bad :
      (why : Reason) → says (field_of n limit room) 0 bytes ≡ Bad why
      → says (field_of n limit room) 0 (bytes ++ t) ≡ Bad why

abbrev pub FieldsStay : Type 0
FieldsStay = (n : Notation) (limit room : ℕ) (bytes t : List ℕ) → SaidStays n limit room bytes t

-- A field that fits is spelled by the bytes that are written of it.
abbrev pub WrittenFieldIsSpelled : Type 0
WrittenFieldIsSpelled =
    (n : Notation) (v : FieldValue)
    → IsInRange n v → counts_no_more n v ≡ true → is_short_enough n v ≡ true → Spells n v (field_bytes n v)

-- A field that bytes spell fits.
abbrev pub SpelledFieldFits : Type 0
SpelledFieldFits =
    (n : Notation) (v : FieldValue) (b : List ℕ)
    → Spells n v b → All (λ x. x < 256) b
    → IsInRange n v × (counts_no_more n v ≡ true) × (is_short_enough n v ≡ true)

-- A lawful header, whose stream id has 16 bits, is read from its bytes.
abbrev pub WrittenIsRead : Type 0
WrittenIsRead = (h : Header) → IsLawful h → FitsSigned w16 h.stream → heading (header_bytes h) ≡ Ok h

-- A header that is read from nine bytes is lawful, and has those bytes.
abbrev pub ReadIsWritten : Type 0
ReadIsWritten =
    (h : Header) (bytes : List ℕ) → length bytes ≡ 9 → All (λ b. b < 256) bytes
    → heading bytes ≡ Ok h → IsLawful h × (header_bytes h ≡ bytes)

-- ---- One answer: from the same history and the same input, two answers of a call that both meet its clauses are the
-- same, and so are the states that they leave, each with the memory that it had.

-- the same field, of which the same bytes have come, and the same room
pub record IsSameField (p q : FieldState) : Type 0 where
  pub room : p.room ≡ q.room
  pub field : p.field ≡ q.field
  pub seen : p.seen ≡ q.seen

-- the same, with its memory there
abbrev pub moved : FieldState → Ptr → FieldState
moved p buffer = record p { buffer = buffer }

-- the same bytes used, and the same value or the same refusal
abbrev pub IsSamePush : Push → Push → Type 0
IsSamePush (push.More m) (push.More n) = m ≡ n
IsSamePush (push.Got m v) (push.Got n w) = (m ≡ n) × (value_of v ≡ value_of w)
IsSamePush (push.Refused r) (push.Refused s) = r ≡ s
IsSamePush a b = ⊥

abbrev pub OneAnswerOfPush : Type 0
OneAnswerOfPush =
    (p q : FieldState) (input : List ℕ) (a b : Push) (new_p new_q : FieldState)
    → IsSameField p q → Pushes p input a new_p → Pushes q input b new_q → IsSamePush a b × (moved new_p q.buffer ≡ new_q)

-- the same of what `advance` answers, where a value lies in the input or in the buffer that is left
abbrev pub IsSameTaken :
    (input : List ℕ) → FieldAdvance → (new_p : FieldState) → FieldAdvance → (new_q : FieldState) → Type 0
IsSameTaken input (taken.More m) new_p (taken.More n) new_q = m ≡ n
IsSameTaken input (taken.Got m i) new_p (taken.Got n j) new_q =
    (m ≡ n) × (item_value i input new_p.content ≡ item_value j input new_q.content)
IsSameTaken input (taken.Refused r) new_p (taken.Refused s) new_q = r ≡ s
IsSameTaken input a new_p b new_q = ⊥

abbrev pub OneAnswerOfAdvance : Type 0
OneAnswerOfAdvance =
    (p q : FieldState) (input : List ℕ) (a b : FieldAdvance) (new_p new_q : FieldState)
    → IsSameField p q → Advances p input a new_p → Advances q input b new_q
    → IsSameTaken input a new_p b new_q × (moved new_p q.buffer ≡ new_q)

-- the same but for the field that was asked for last, which `begin` replaces
pub record IsSameIdle (p q : FieldState) : Type 0 where
  pub room : p.room ≡ q.room
  pub under_way : p.under_way ≡ q.under_way
  pub seen : p.seen ≡ q.seen
  pub content : p.content ≡ q.content

-- where memory was granted to both
abbrev pub OneAnswerOfNew : Type 0
OneAnswerOfNew = (room : ℕ) (p q : FieldState) → IsNew room p → IsNew room q → IsSameIdle p q

abbrev pub OneAnswerOfHeaderRead : Type 0
OneAnswerOfHeaderRead =
    (at : ℕ) (bytes : List ℕ) (a b : Result Header Refusal)
    → Headed at bytes a → Headed at bytes b → a ≡ b

-- the same field, or none
abbrev pub AreSameFrontFields : Option WholeField → Option WholeField → Type 0
AreSameFrontFields None None = ⊤
AreSameFrontFields (Some f) (Some g) = (f.used ≡ g.used) × (value_of f.value ≡ value_of g.value)
AreSameFrontFields a b = ⊥

-- Of the same input `front_field` gives the same field, or none, but where it may leave the field to a `Partial`.
abbrev pub OneAnswerOfFrontField : Type 0
OneAnswerOfFrontField =
    (n : Notation) (limit room : ℕ) (input : List ℕ) (a b : Option WholeField)
    → ¬ (IsLeft n) → IsFrontField n limit room input a → IsFrontField n limit room input b → AreSameFrontFields a b

abbrev pub OneAnswerOfLawful : Type 0
OneAnswerOfLawful = (h : Header) (a b : Bool) → (IsTrue a ↔ IsLawful h) → (IsTrue b ↔ IsLawful h) → a ≡ b

-- What a caller sees after a read or a write: the bytes that are still to come or that were given, where they are
-- known, how many calls failed, and the buffer.
pub record AfterCall : Type 0 where
  pub bytes : Option (List ℕ)
  pub failures : ℕ
  pub buffer : List ℕ

-- what `read` ensures of a source with these bytes to come
pub record IsRead (left : List ℕ) (failed : ℕ) (answer : Result ℕ IoFault) (after : AfterCall) : Type 0 where
  pub bound : IfOk answer (λ n. n ≤ length after.buffer)
  pub bytes : ReadConsumes (Some left) after.bytes answer after.buffer
  pub failures : after.failures ≡ counted (is_err answer) failed

-- The outside decides how many bytes come, or that the reader fails. Then these bytes, those left, and the count of
-- failed calls are the same.
abbrev pub OneAnswerOfRead : Type 0
OneAnswerOfRead =
    (left : List ℕ) (failed : ℕ) (answer : Result ℕ IoFault) (a b : AfterCall)
    → IsRead left failed answer a → IsRead left failed answer b
    → (a.bytes ≡ b.bytes) × (a.failures ≡ b.failures) × IfOk answer (λ n. take n a.buffer ≡ take n b.buffer)

-- what `write` ensures of a target that was given these bytes before
pub record IsWritten (given : List ℕ) (failed : ℕ) (answer : Result ℕ IoFault) (after : AfterCall) : Type 0 where
  pub bound : IfOk answer (λ n. n ≤ length after.buffer)
  pub bytes : WriteAppends (Some given) after.bytes answer after.buffer
  pub failures : after.failures ≡ counted (took_none answer after.buffer) failed

abbrev pub OneAnswerOfWrite : Type 0
OneAnswerOfWrite =
    (given : List ℕ) (failed : ℕ) (answer : Result ℕ IoFault) (a b : AfterCall)
    → a.buffer ≡ b.buffer → IsWritten given failed answer a → IsWritten given failed answer b
    → (a.bytes ≡ b.bytes) × (a.failures ≡ b.failures)

-- The longest body is 2 to the power of 28 bytes.
abbrev pub LongestBody : Type 0
LongestBody = LONGEST_BODY ≡ 268435456

-- The ranges of the limits: bytes of a text and of a cell, type options, and nesting.
abbrev pub RangesOfLimits : Type 0
RangesOfLimits =
    (TEXT ≡ record { least = 32; greatest = 16777216 })
    × (CELL ≡ record { least = 32; greatest = 16777216 })
    × (ENTRIES ≡ record { least = 1; greatest = 65536 })
    × (DEPTH ≡ record { least = 1; greatest = 64 })

-- The limits where none are given.
abbrev pub DefaultLimits : Type 0
DefaultLimits =
    DEFAULT ≡ record { text = 1048576; cell = 1048576; entries = 4096; depth = 16; types = true; parts = false }
