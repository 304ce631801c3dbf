-- Headers of frames that are gathered are lawful.
use Rattle.std.proofs.Common.{◌≡◌, ◌≤◌, ◌&&◌, Bool, true, false, refl, arith}
use Rattle.std.specs.Prelude.{nat_le, not}
use Rattle.std.proofs.lemmas.Bool.{leb-true}
use Rattle.cqlp_note.specs.declared.header.Header.{Header}
use Rattle.cqlp_note.specs.declared.opcode.Opcode.{Opcode}
use Rattle.cqlp_note.specs.declared.opcode.Opcode.TheVariants as opcode
use Rattle.cqlp_note.specs.Heading.{IsLawful, answers, has}
use Rattle.cqlp_capture_rows.specs.declared.other_limits.TheConstants.{LONGEST_PREPARED}
use Rattle.cqlp_capture_rows.specs.Frames.{is_result, may_prepare}

both : (a b : Bool) → a && b ≡ true → (a ≡ true) × (b ≡ true)
both true b e = (refl, e)
both false b e = absurd (cc e)

answers_result : (o : Opcode) → is_result o ≡ true → answers o ≡ true
answers_result opcode.Result e = refl
answers_result o e = absurd (cc e)

none : (b : Bool) → not b ≡ true → b ≡ false
none true e = absurd (cc e)
none false e = refl

pub is_lawful : (h : Header) → may_prepare h ≡ true → IsLawful h
is_lawful h e =
    let all = both ((is_result h.opcode && not (has h.flags 0x01)) && h.response) (nat_le h.length LONGEST_PREPARED) e in
    let front = both (is_result h.opcode && not (has h.flags 0x01)) h.response all.0 in
    let first = both (is_result h.opcode) (not (has h.flags 0x01)) front.0 in
    let short : h.length ≤ LONGEST_PREPARED = leb-true h.length LONGEST_PREPARED all.1 in
    record {
      plain = none (has h.flags 0x01) first.1;
      direction = rw (answers_result h.opcode first.0, front.1) refl;
      bounded = omega arith;
    }
