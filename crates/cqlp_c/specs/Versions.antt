-- What is written for C of the answer to a request of another version.
use Rattle.std.specs.Prelude.{ℕ, ◌+◌, ◌++◌, ℤ, List, ◌∷◌}
use Rattle.std.specs.Int.{w16, w32, cast_unsigned, to_be_bytes}

-- what comes before the text of an ERROR with the code of a protocol error, where the text is this long (sections 2, 4.2.1
-- and 9 of native_protocol_v4.spec)
abbrev pub error_head : (stream : ℤ) → (text_length : ℕ) → List ℕ
error_head stream n =
    (0x84 ∷ 0x00 ∷ to_be_bytes w16 (cast_unsigned w16 stream)) ++ (0x00 ∷ to_be_bytes w32 (6 + n))
    ++ to_be_bytes w32 0x000A ++ to_be_bytes w16 n
