-- The warnings of a response, as far as the bytes before its message have them.
use Rattle.std.specs.Prelude.{ℕ, zero, suc, ◌-◌, ◌==◌, nat_lt, Bool, true, ◌&&◌, List, [], ◌∷◌, length, take, drop, Option, Some, None, if◌then◌else◌}
use Rattle.std.specs.Int.{w16, from_be_bytes}
use Rattle.cqlp_note.specs.declared.header.Header.{Header}
use Rattle.cqlp_note.specs.Heading.{has}
use Rattle.cqlp_capture_exchanges.specs.declared.warning.Warning.{Warning}
use Rattle.cqlp_capture_exchanges.specs.declared.warning.Warnings.{Warnings}
use Rattle.cqlp_capture_exchanges.specs.Statements.{text_front}

-- a text, and whether all of it is there
pub record Warned : Type 0 where
  pub text : List ℕ
  pub is_whole : Bool

-- how many there are to be, and the bytes in which they are
pub record Listed : Type 0 where
  pub left : ℕ
  pub bytes : List ℕ

-- ---- Section 3: a [string list] is so many strings behind their number, and a [string] a length of two bytes and a text.

-- a text of n bytes, as far as it is there
abbrev pub warned_in : (n : ℕ) → (content : List ℕ) → Warned
warned_in n content = record { text = text_front (take n content); is_whole = length (text_front (take n content)) == n }

abbrev pub length_at : List ℕ → ℕ
length_at b = from_be_bytes w16 (take 2 b)

-- The first of so many strings, and the others; none where its length is not there.
abbrev pub first_of : Listed → Option (Warned × Listed)
first_of l =
    if l.left == 0 then None
    else if nat_lt (length l.bytes) 2 then None
    else Some (warned_in (length_at l.bytes) (drop 2 l.bytes), record { left = l.left - 1; bytes = drop (length_at l.bytes) (drop 2 l.bytes) })

-- all of n strings, up to the first one whose length is not there
abbrev pub strings : (n : ℕ) → List ℕ → List Warned
strings zero b = []
strings (suc n) b =
    if nat_lt (length b) 2 then []
    else warned_in (length_at b) (drop 2 b) ∷ strings n (drop (length_at b) (drop 2 b))

abbrev pub texts_in : Listed → List Warned
texts_in l = strings l.left l.bytes

-- whether all of each text is there
abbrev pub are_whole : List Warned → Bool
are_whole [] = true
are_whole (w ∷ more) = w.is_whole && are_whole more

-- ---- Section 2.2: warnings are a [string list]; they come behind the tracing id of 16 bytes, if there is one (02).

abbrev pub behind_trace_id : (flags : ℕ) → List ℕ → List ℕ
behind_trace_id flags b = if has flags 0x02 then drop 16 b else b

abbrev pub none_listed : Listed
none_listed = record { left = 0; bytes = [] }

abbrev pub listed : List ℕ → Listed
listed b = if nat_lt (length b) 2 then none_listed else record { left = length_at b; bytes = drop 2 b }

-- A response has some (08), which are not to be seen in a body that is compressed (01).
abbrev pub warnings_in : Header → (announced : List ℕ) → Listed
warnings_in h b =
    if has h.flags 0x01 then none_listed
    else if has h.flags 0x08 then listed (behind_trace_id h.flags b)
    else none_listed

-- ---- as the code has them

abbrev pub warned_of : Warning → Warned
warned_of w = record { text = w.text.now; is_whole = w.is_whole }

abbrev pub listed_of : Warnings → Listed
listed_of w = record { left = w.left; bytes = w.bytes.now }

abbrev pub taken_of : (Warning × Warnings) → Warned × Listed
taken_of t = (warned_of t.0, listed_of t.1)
