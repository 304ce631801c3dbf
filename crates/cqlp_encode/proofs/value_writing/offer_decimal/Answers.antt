use Rattle.std.proofs.Common.{◌≤◌, length, refl, arith}
use Rattle.cqlp_note.specs.Outputs.{written}
use Rattle.cqlp_value.specs.Owned.{atom_of}
use Rattle.cqlp_value.specs.Values.{NoValue, Scalar_and, values_bytes, values_size}
use Rattle.cqlp_value.proofs.ValuesWritten.{written_size}
use Rattle.cqlp_encode.proofs.Calls.{from_none}
use Rattle.cqlp_encode.proofs.FramesTaken.{value_few, value_sent, value_offered}
use Rattle.cqlp_encode.proofs.value_writing.offer_decimal.Goals as goal

pub overflow_cast-result : goal.overflow_cast-result
overflow_cast-result g c =
    let v = Scalar_and (atom_of c.args.atom.now) NoValue in
    let value = rw c.new-out.ensures at c.put_atom.ensures in
    let long : length (values_bytes v) ≤ values_size v = omega (arith, written_size v) in
    let sent = value_sent (written g.W.Target) g.W.Target.writes c.args.target.now c.into_inner.result.now c.into_inner.result.now _ _ _ _ _ _ c.requires long value c.flush.ensures c.into_inner.ensures.output (λ e. refl) in
    omega (arith, sent.1, c.taken-taken.ensures)

pub returns-clause-continued : goal.returns-clause-continued
returns-clause-continued g c =
    let v = Scalar_and (atom_of c.args.atom.now) NoValue in
    let value = rw c.new-out.ensures at c.put_atom.ensures in
    let long : length (values_bytes v) ≤ values_size v = omega (arith, written_size v) in
    rw c.taken-taken.ensures (value_offered (written g.W.Target) g.W.Target.writes c.args.target.now c.into_inner.result.now _ _ _ _ _ _ _ c.requires long value c.flush.ensures c.into_inner.ensures.output (λ e. grind arith))

pub returns-clause-calls : goal.returns-clause-calls
returns-clause-calls g c =
    let v = Scalar_and (atom_of c.args.atom.now) NoValue in
    let value = rw c.new-out.ensures at c.put_atom.ensures in
    let long : length (values_bytes v) ≤ values_size v = omega (arith, written_size v) in
    rw c.taken-taken.ensures (from_none _ _ _ (value_few (written g.W.Target) g.W.Target.writes c.args.target.now c.into_inner.result.now _ _ _ _ _ _ _ c.requires long value c.flush.ensures c.into_inner.ensures.calls (λ e. grind arith)))
