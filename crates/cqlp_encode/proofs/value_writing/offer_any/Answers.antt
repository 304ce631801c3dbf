use Rattle.std.proofs.Common.{◌≤◌, length, refl, arith}
use Rattle.cqlp_note.specs.declared.header.TheConstants.Header.{LONGEST_BODY}
use Rattle.cqlp_note.specs.Outputs.{written}
use Rattle.cqlp_value.specs.Owned.{value_of}
use Rattle.cqlp_value.specs.Values.{values_bytes, values_size}
use Rattle.cqlp_value.proofs.ValueSizes.{some_size}
use Rattle.cqlp_value.proofs.ValuesWritten.{written_size}
use Rattle.cqlp_encode.proofs.FramesTaken.{value_few, value_sent, value_offered}
use Rattle.cqlp_encode.proofs.value_writing.offer_any.Goals as goal

pub overflow_sub-from : goal.overflow_sub-from
overflow_sub-from g c = omega (arith, some_size c.args.value.now, c.requires.size, c.from-2.ensures, c.from.ensures)

pub put_measured-requires : goal.put_measured-requires
put_measured-requires g c = omega (arith, some_size c.args.value.now, c.requires.size, c.requires.short, c.from-2.ensures, c.from.ensures)

pub overflow_cast-result : goal.overflow_cast-result
overflow_cast-result g c =
    let value = rw c.new-out.ensures at c.put_measured.ensures in
    let short : values_size (value_of c.args.value.now) ≤ LONGEST_BODY = omega (arith, c.requires.size, c.requires.short) in
    let long : length (values_bytes (value_of c.args.value.now)) ≤ values_size (value_of c.args.value.now) = omega (arith, written_size (value_of c.args.value.now)) in
    let sent = value_sent (written g.W.Target) g.W.Target.writes c.args.target.now c.into_inner.result.now c.into_inner.result.now _ _ _ _ _ _ short long value c.flush.ensures c.into_inner.ensures.output (λ e. refl) in
    omega (arith, sent.1, c.taken-taken.ensures)

pub returns-clause-continued : goal.returns-clause-continued
returns-clause-continued g c =
    let value = rw c.new-out.ensures at c.put_measured.ensures in
    let short : values_size (value_of c.args.value.now) ≤ LONGEST_BODY = omega (arith, c.requires.size, c.requires.short) in
    let long : length (values_bytes (value_of c.args.value.now)) ≤ values_size (value_of c.args.value.now) = omega (arith, written_size (value_of c.args.value.now)) in
    rw (c.taken-taken.ensures, ← c.from.ensures) (value_offered (written g.W.Target) g.W.Target.writes c.args.target.now c.into_inner.result.now _ _ _ _ _ _ _ short long value c.flush.ensures c.into_inner.ensures.output (λ e. grind arith))

pub returns-clause-calls : goal.returns-clause-calls
returns-clause-calls g c =
    let value = rw c.new-out.ensures at c.put_measured.ensures in
    let short : values_size (value_of c.args.value.now) ≤ LONGEST_BODY = omega (arith, c.requires.size, c.requires.short) in
    let long : length (values_bytes (value_of c.args.value.now)) ≤ values_size (value_of c.args.value.now) = omega (arith, written_size (value_of c.args.value.now)) in
    rw (c.taken-taken.ensures, ← c.from.ensures) (value_few (written g.W.Target) g.W.Target.writes c.args.target.now c.into_inner.result.now _ _ _ _ _ _ _ short long value c.flush.ensures c.into_inner.ensures.calls (λ e. grind arith))
