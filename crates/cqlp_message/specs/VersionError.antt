-- What a server answers to a request of another version of the protocol: an ERROR with the code of a protocol error
-- (sections 2.1, 4.2.1 and 9 of native_protocol_v4.spec), whose text names the versions.
use Rattle.std.specs.Prelude.{ℕ, ◌+◌, ◌++◌, ◌==◌, ◌||◌, ℤ, pos, List, ◌∷◌, length, take, drop, slice_index, bit_and, codes, decimal}
use Rattle.std.specs.Prelude.{if◌then◌else◌}
use Rattle.std.specs.Int.{w8, w16, w32, cast_signed, cast_unsigned, from_be_bytes, to_be_bytes}
use Rattle.cqlp_message.specs.FrameValues.{FrameValue, Octets, Error, Plain}
use Rattle.cqlp_message.specs.Plain.{plain_frame}

-- the version in a header's first byte, without the bit of the direction
abbrev pub version_in : List ℕ → ℕ
version_in header = bit_and (slice_index header 0) 0x7F

-- The stream id in a header of this version: one byte in versions 1 and 2, and two bytes in all others.
abbrev pub stream_under : (version : ℕ) → List ℕ → ℤ
stream_under version header =
    if (version == 1) || (version == 2)
    then cast_signed w8 (slice_index header 2)
    else cast_signed w16 (from_be_bytes w16 (take 2 (drop 2 header)))

-- the text that names the versions
abbrev pub version_text : (version : ℕ) → Octets
version_text version =
    codes "Invalid or unsupported protocol version (" ++ decimal version
    ++ codes "); the lowest supported version is 4 and the greatest is 4"

-- the frame that answers
abbrev pub version_error : List ℕ → FrameValue
version_error header =
    let version = version_in header in
    plain_frame (stream_under version header) (Error (pos 0x000A) (version_text version) Plain)

-- its bytes: a header of version 4 that is a response with the request's stream id and the opcode 00, and in the body an
-- [int] and a [string]
abbrev pub version_error_bytes : List ℕ → List ℕ
version_error_bytes header =
    let version = version_in header in
    let text = version_text version in
    (0x84 ∷ 0x00 ∷ to_be_bytes w16 (cast_unsigned w16 (stream_under version header)))
    ++ (0x00 ∷ to_be_bytes w32 (6 + length text))
    ++ to_be_bytes w32 0x000A ++ to_be_bytes w16 (length text) ++ text
