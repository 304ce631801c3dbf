-- Frame headers (section 2 of native_protocol_v4.spec).
use Rattle.std.specs.Prelude.{◌≡◌, ℕ, ◌+◌, ◌≤◌, Bool, true, false, ◌||◌, List, [], ◌∷◌, ◌++◌, take, drop, Option, Some, None}
use Rattle.std.specs.Prelude.{nat_lt, ◌==◌, if◌then◌else◌, slice_index, not, Result, Ok, Err, bit_and}
use Rattle.std.specs.Int.{w16, w32, from_be_bytes, to_be_bytes, cast_signed, cast_unsigned}
use Rattle.cqlp_note.specs.declared.opcode.Opcode.{Opcode}
use Rattle.cqlp_note.specs.declared.opcode.Opcode.TheVariants as opcode
use Rattle.cqlp_note.specs.declared.header.Header.{Header}
use Rattle.cqlp_note.specs.declared.header.TheConstants.Header.{LONGEST_BODY}
use Rattle.cqlp_note.specs.declared.refusal.Reason.{Reason}
use Rattle.cqlp_note.specs.declared.refusal.Reason.TheVariants.{BadVersion, Compressed, BadOpcode, BadDirection, BadLength}
use Rattle.cqlp_note.specs.declared.refusal.Refusal.{Refusal}

-- some bit of these is set
abbrev pub has : (flags bits : ℕ) → Bool
has flags bits = nat_lt 0 (bit_and flags bits)

-- what comes beside a number in a table
abbrev pub beside_number : {A : Type 0} → ℕ → List (ℕ × A) → Option A
beside_number n [] = None
beside_number n (entry ∷ table) = if n == entry.0 then Some entry.1 else beside_number n table

-- Section 2.4: the opcodes by their numbers.
abbrev pub opcodes : List (ℕ × Opcode)
opcodes =
    (0x00, opcode.Error) ∷ (0x01, opcode.Startup) ∷ (0x02, opcode.Ready) ∷ (0x03, opcode.Authenticate)
    ∷ (0x05, opcode.Options) ∷ (0x06, opcode.Supported) ∷ (0x07, opcode.Query) ∷ (0x08, opcode.Result)
    ∷ (0x09, opcode.Prepare) ∷ (0x0A, opcode.Execute) ∷ (0x0B, opcode.Register) ∷ (0x0C, opcode.Event)
    ∷ (0x0D, opcode.Batch) ∷ (0x0E, opcode.AuthChallenge) ∷ (0x0F, opcode.AuthResponse) ∷ (0x10, opcode.AuthSuccess)
    ∷ []

-- an opcode's number
abbrev pub code_of : Opcode → ℕ
code_of opcode.Error = 0x00
code_of opcode.Startup = 0x01
code_of opcode.Ready = 0x02
code_of opcode.Authenticate = 0x03
code_of opcode.Options = 0x05
code_of opcode.Supported = 0x06
code_of opcode.Query = 0x07
code_of opcode.Result = 0x08
code_of opcode.Prepare = 0x09
code_of opcode.Execute = 0x0A
code_of opcode.Register = 0x0B
code_of opcode.Event = 0x0C
code_of opcode.Batch = 0x0D
code_of opcode.AuthChallenge = 0x0E
code_of opcode.AuthResponse = 0x0F
code_of opcode.AuthSuccess = 0x10

-- it is a response's
abbrev pub answers : Opcode → Bool
answers opcode.Error = true
answers opcode.Startup = false
answers opcode.Ready = true
answers opcode.Authenticate = true
answers opcode.Options = false
answers opcode.Supported = true
answers opcode.Query = false
answers opcode.Result = true
answers opcode.Prepare = false
answers opcode.Execute = false
answers opcode.Register = false
answers opcode.Event = true
answers opcode.Batch = false
answers opcode.AuthChallenge = true
answers opcode.AuthResponse = false
answers opcode.AuthSuccess = true

-- Section 2: a header is not compressed, goes in its opcode's direction, and has a body of at most 256 MB.
pub record IsLawful (h : Header) : Type 0 where
  pub plain : has h.flags 0x01 ≡ false
  pub direction : answers h.opcode ≡ h.response
  pub bounded : h.length ≤ LONGEST_BODY

-- Section 2: the nine bytes of a header are the version with the direction, the flags, the stream id, the opcode and
-- the length of the body.
abbrev pub header_bytes : Header → List ℕ
header_bytes h =
    (if h.response then 0x84 else 0x04) ∷ h.flags ∷ to_be_bytes w16 (cast_unsigned w16 h.stream)
    ++ code_of h.opcode ∷ to_be_bytes w32 h.length

-- nine bytes as a header, or which byte is at fault and why
abbrev pub Heading : Type 0
Heading = Result Header (ℕ × Reason)

abbrev pub same : Bool → Bool → Bool
same true b = b
same false b = not b

abbrev pub heading_of : (response : Bool) → List ℕ → Option Opcode → Heading
heading_of response b None = Err (4, BadOpcode)
heading_of response b (Some o) =
    let length = from_be_bytes w32 (take 4 (drop 5 b)) in
    if same (answers o) response
    then (if nat_lt LONGEST_BODY length then Err (5, BadLength)
    else Ok (record {
      response = response;
      flags = slice_index b 1;
      stream = cast_signed w16 (from_be_bytes w16 (take 2 (drop 2 b)));
      opcode = o;
      length = length;
    }))
    else Err (4, BadDirection)

unfoldable pub heading : List ℕ → Heading
heading b =
    if (slice_index b 0 == 0x04) || (slice_index b 0 == 0x84)
    then (if has (slice_index b 1) 0x01
    then Err (1, Compressed)
    else heading_of (slice_index b 0 == 0x84) b (beside_number (slice_index b 4) opcodes))
    else Err (0, BadVersion)

-- a header is the one that the bytes are, lawful, and has those bytes; or the refusal is theirs in a frame that begins
-- at an offset
abbrev pub Headed : (at : ℕ) → List ℕ → Result Header Refusal → Type 0
Headed at bytes (Ok h) = (heading bytes ≡ Ok h) × (h.length ≤ LONGEST_BODY) × IsLawful h × (header_bytes h ≡ bytes)
Headed at bytes (Err r) = (e : ℕ × Reason) × (heading bytes ≡ Err e) × (r.at ≡ at + e.0) × (r.why ≡ e.1)
