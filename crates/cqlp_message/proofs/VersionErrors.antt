-- The answer to a request of another version has a spelling.
use Rattle.std.proofs.Common.{◌≡◌, ℕ, ◌<◌, ◌≤◌, ◌^◌, ℤ, pos, true, false, List, ◌++◌, length, None, refl, arith, length-append}
use Rattle.std.specs.Prelude.{nat_lt, slice_index, codes, decimal}
use Rattle.std.proofs.lemmas.Bool.{lt-ltb, le-ltb}
use Rattle.std.proofs.lemmas.Fmt.{length-decimal-le}
use Rattle.std.proofs.lemmas.Nat.{and_le_r}
use Rattle.cqlp_note.specs.declared.header.TheConstants.Header.{LONGEST_BODY}
use Rattle.cqlp_message.specs.FrameValues.{Error, Plain}
use Rattle.cqlp_message.specs.Parts.{parts_size}
use Rattle.cqlp_message.specs.Frames.{frame_parts, unfit_of}
use Rattle.cqlp_message.specs.Plain.{plain_frame}
use Rattle.cqlp_message.specs.VersionError.{stream_under, version_error, version_in, version_text}

error_fits : (stream : ℤ) (text : List ℕ) → length text < 2 ^ 16 → unfit_of (plain_frame stream (Error (pos 0x000A) text Plain)) ≡ None
error_fits stream text short =
    let size = parts_size (frame_parts (plain_frame stream (Error (pos 0x000A) text Plain))) in
    let fits : nat_lt (length text) (2 ^ 16) ≡ true = lt-ltb (length text) (2 ^ 16) short in
    let bounded : nat_lt LONGEST_BODY size ≡ false = le-ltb LONGEST_BODY size (omega arith) in
    rw (fits, bounded) refl

text_short : (version : ℕ) → version ≤ 127 → length (version_text version) < 2 ^ 16
text_short version bound =
    let before = codes "Invalid or unsupported protocol version (" in
    let after = codes "); the lowest supported version is 4 and the greatest is 4" in
    omega (arith, length-append (before ++ decimal version) after, length-append before (decimal version), length-decimal-le 3 version (omega arith) (omega arith) (omega arith))

pub version_error_fits : (header : List ℕ) → unfit_of (version_error header) ≡ None
version_error_fits header =
    error_fits (stream_under (version_in header) header) (version_text (version_in header)) (text_short (version_in header) (and_le_r (slice_index header 0) 0x7F))
