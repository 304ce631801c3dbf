-- What a request asks to be done, as far as the first bytes of its body say it.
use Rattle.std.specs.Prelude.{ℕ, Bool, ◌==◌, nat_lt, List, [], ◌∷◌, length, take, drop, Option, Some, None, if◌then◌else◌}
use Rattle.std.specs.Int.{w16, w32, from_be_bytes}
use Rattle.std.specs.Str.Lossy.{utf8_valid_len}
use Rattle.cqlp_note.specs.declared.header.Header.{Header}
use Rattle.cqlp_note.specs.declared.opcode.Opcode.{Opcode}
use Rattle.cqlp_note.specs.declared.opcode.Opcode.TheVariants as opcode
use Rattle.cqlp_note.specs.Heading.{has}
use Rattle.cqlp_capture_exchanges.specs.declared.statement as declared
use Rattle.cqlp_capture_exchanges.specs.declared.statement.Statement.TheVariants as statement_as

-- a text or an id, and whether all of it is there
pub data Said : Type 0 where
  Text : List ℕ → (is_whole : Bool) → Said
  Id : List ℕ → (is_whole : Bool) → Said

abbrev pub said_of : declared.Statement.Statement → Said
said_of (statement_as.Text text is_whole) = Text text.now is_whole
said_of (statement_as.Id id is_whole) = Id id.now is_whole

-- ---- Section 3: a [long string] is a length of four bytes and a text, a [short bytes] a length of two and bytes.

-- the longest front that is UTF-8 of what is there of a text of n bytes
abbrev pub said_text : (n : ℕ) → (text : List ℕ) → Said
said_text n text = Text text (length text == n)

abbrev pub text_front : List ℕ → List ℕ
text_front there = take (utf8_valid_len there) there

-- A negative length is none.
abbrev pub text_in : (n : ℕ) → (content : List ℕ) → Option Said
text_in n content = if nat_lt n 0x8000_0000 then Some (said_text n (text_front (take n content))) else None

abbrev pub long_string : List ℕ → Option Said
long_string b = if nat_lt (length b) 4 then None else text_in (from_be_bytes w32 (take 4 b)) (drop 4 b)

abbrev pub id_in : (n : ℕ) → (content : List ℕ) → Said
id_in n content = Id (take n content) (length (take n content) == n)

abbrev pub short_bytes : List ℕ → Option Said
short_bytes b = if nat_lt (length b) 2 then None else Some (id_in (from_be_bytes w16 (take 2 b)) (drop 2 b))

-- ---- Section 4.1.7: a BATCH is <type><n><query_1>...<query_n>.., where a query begins with <kind><string_or_id>.

-- how many statements it has
abbrev pub count_in : List ℕ → Option ℕ
count_in b = if nat_lt (length b) 3 then None else Some (from_be_bytes w16 (take 2 (drop 1 b)))

-- The kind 0 is a text, and 1 the id of a statement that was prepared.
abbrev pub entry_of_kind : (kind : ℕ) → List ℕ → Option Said
entry_of_kind kind b = if kind == 0 then long_string b else if kind == 1 then short_bytes b else None

abbrev pub entry_in : List ℕ → Option Said
entry_in [] = None
entry_in (kind ∷ b) = entry_of_kind kind b

-- the first one
abbrev pub first_of : (count : Option ℕ) → List ℕ → Option Said
first_of None b = None
first_of (Some n) b = if n == 0 then None else entry_in (drop 3 b)

abbrev pub first_in : List ℕ → Option Said
first_in b = first_of (count_in b) b

-- ---- Sections 4.1.4 to 4.1.7: the text of a QUERY or a PREPARE, the id of an EXECUTE, the first statement of a BATCH.

abbrev pub statement_in : Opcode → List ℕ → Option Said
statement_in opcode.Query b = long_string b
statement_in opcode.Prepare b = long_string b
statement_in opcode.Execute b = short_bytes b
statement_in opcode.Batch b = first_in b
statement_in o b = None

-- Section 2.2: not of a body that is compressed (01). A custom payload is passed over.
abbrev pub statement : Header → (front : List ℕ) → Option Said
statement h b = if has h.flags 0x01 then None else statement_in h.opcode b

abbrev pub count_of : Opcode → List ℕ → Option ℕ
count_of opcode.Batch b = count_in b
count_of o b = None

abbrev pub statements : Header → (front : List ℕ) → Option ℕ
statements h b = if has h.flags 0x01 then None else count_of h.opcode b

-- ---- Section 3: a [string] is a length of two bytes and a text. Section 9: the message of an ERROR is behind its code.

abbrev pub string_in : List ℕ → Option Said
string_in b =
    if nat_lt (length b) 2 then None
    else Some (said_text (from_be_bytes w16 (take 2 b)) (text_front (take (from_be_bytes w16 (take 2 b)) (drop 2 b))))
