use Rattle.std.proofs.Common.{◌+◌, ◌*◌, ◌<◌, ℕ, ℤ, Fits, to_z, of_z, eqb, refl, sym, ap, ◌∙◌, arith}
use Rattle.std.proofs.Math.Facts.{of_z-to_z}
use Rattle.std.specs.Int.{w16}
use Rattle.std.specs.Prelude.{Ok, slice_index}
use Rattle.cqlp_note.specs.declared.refusal.Reason.TheVariants.{BadVersion, Compressed, BadOpcode, BadDirection, BadLength}
use Rattle.cqlp_note.specs.Heading.{heading_of}
use Rattle.cqlp_note.proofs.Headings.{bad_version, compressed, by_opcode, bad_direction, bad_length, good_header, length_is, stream_is}
use Rattle.cqlp_note.proofs.Written.{read_is_lawful, read_is_written}
use Rattle.cqlp_note.proofs.header.Header.read.Goals as goal

pub returns-then-not-is_version : goal.returns-then-not-is_version
returns-then-not-is_version c = rw c.fault.ensures ((0, BadVersion), bad_version c.args.bytes.now (sym c.if-not-is_version.ensures), omega arith, refl)

pub returns-then-has : goal.returns-then-has
returns-then-has c = rw c.fault-then-has.ensures ((1, Compressed), compressed c.args.bytes.now (sym c.if-not-is_version.ensures) (sym c.if-has.ensures), refl, refl)

pub returns-in_default : goal.returns-in_default
returns-in_default c =
    let b = c.args.bytes.now in
    rw c.fault-in_default.ensures ((4, BadOpcode), by_opcode b (sym c.if-not-is_version.ensures) (sym c.if-has.ensures) ∙ ap (λ o. heading_of (eqb (slice_index b 0) 132) b o) (sym c.from_number.ensures ∙ c.in_default.is), refl, refl)

pub returns-then-is_response-response : goal.returns-then-is_response-response
returns-then-is_response-response c =
    let b = c.args.bytes.now in rw c.fault-then-is_response-response.ensures (
      (4, BadDirection),
      by_opcode b (sym c.if-not-is_version.ensures) (sym c.if-has.ensures) ∙ ap (λ o. heading_of (eqb (slice_index b 0) 132) b o) (sym c.from_number.ensures ∙ c.in-Some.is)
          ∙ bad_direction (eqb (slice_index b 0) 132) b c.in-Some.opcode (rw c.is_response.ensures at c.if-is_response-response.true),
      refl,
      refl,
    )

pub returns-then-length-gt-LONGEST_BODY : goal.returns-then-length-gt-LONGEST_BODY
returns-then-length-gt-LONGEST_BODY c =
    let b = c.args.bytes.now in rw c.fault-then-length-gt-LONGEST_BODY.ensures (
      (5, BadLength),
      by_opcode b (sym c.if-not-is_version.ensures) (sym c.if-has.ensures) ∙ ap (λ o. heading_of (eqb (slice_index b 0) 132) b o) (sym c.from_number.ensures ∙ c.in-Some.is)
          ∙ bad_length (eqb (slice_index b 0) 132) b c.in-Some.opcode (rw c.is_response.ensures at c.if-is_response-response.false) (rw (length_is b c.told-bytes, ← c.from_be_bytes-length.ensures) c.if-length-gt-LONGEST_BODY.true),
      refl,
      refl,
    )

pub returns : goal.returns
returns c =
    let b = c.args.bytes.now in
    let high : slice_index c.args.bytes.now 2 < 256 = c.fits-bytes 2 in
    let low : slice_index c.args.bytes.now 3 < 256 = c.fits-bytes 3 in
    let fits : Fits w16 (slice_index c.args.bytes.now 2 * 256 + slice_index c.args.bytes.now 3) = omega arith in
    let is = by_opcode b (sym c.if-not-is_version.ensures) (sym c.if-has.ensures) ∙ ap (λ o. heading_of (eqb (slice_index b 0) 132) b o) (sym c.from_number.ensures ∙ c.in-Some.is)
    ∙ good_header (eqb (slice_index b 0) 132) b c.in-Some.opcode (rw c.is_response.ensures at c.if-is_response-response.false) c.from_be_bytes-length.result _ (length_is b c.told-bytes ∙ sym c.from_be_bytes-length.ensures) (stream_is b c.told-bytes) c.if-length-gt-LONGEST_BODY.false ∙ ap (λ z. Ok (record { response = eqb (slice_index b 0) 132; flags = slice_index b 1; stream = z; opcode = c.in-Some.opcode; length = c.from_be_bytes-length.result })) (ap (λ (k : ℕ). to_z w16 k) (sym (ap (λ (z : ℤ). of_z w16 z) c.from_be_bytes.ensures ∙ of_z-to_z {w = w16} {n = slice_index b 2 * 256 + slice_index b 3} fits))) in
    (is, c.if-length-gt-LONGEST_BODY.false, read_is_lawful b _ is, read_is_written b _ c.told-bytes (λ i _. c.fits-bytes i) is)
