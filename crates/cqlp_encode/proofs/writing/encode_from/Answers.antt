use Rattle.std.proofs.Common.{◌≡◌, ◌-◌, ℕ, ◌∙◌, ap, sym, refl, arith}
use Rattle.cqlp_message.specs.Owned.{frame_of}
use Rattle.cqlp_message.proofs.Tallies.{none_where_measured, some_where_not, size_where_measured}
use Rattle.cqlp_encode.proofs.Calls.{as_many, no_call}
use Rattle.cqlp_encode.proofs.FramesTaken.{lawful, frame_cut, frame_whole}
use Rattle.cqlp_encode.proofs.writing.encode_from.Goals as goal

pub returns-in-Err-clause-encodes : goal.returns-in-Err-clause-encodes
returns-in-Err-clause-encodes g c = (some_where_not _ _ _ (sym c.measure.ensures.is ∙ c.in-Err.is), refl)

pub write_parts-taken-requires-clause-lawful : goal.write_parts-taken-requires-clause-lawful
write_parts-taken-requires-clause-lawful g c =
    let measured = sym c.measure.ensures.is ∙ c.in-Ok.is in
    lawful _ _ (none_where_measured _ _ _ measured) (omega (arith, size_where_measured _ _ _ measured))

pub write_parts-taken-requires-clause-size : goal.write_parts-taken-requires-clause-size
write_parts-taken-requires-clause-size g c = omega (arith, size_where_measured _ _ _ (sym c.measure.ensures.is ∙ c.in-Ok.is))

pub returns-then-taken-len-clause-encodes : goal.returns-then-taken-len-clause-encodes
returns-then-taken-len-clause-encodes g c =
    let measured = sym c.measure.ensures.is ∙ c.in-Ok.is in
    frame_cut (frame_of c.args.frame.now) _ _ c.in-Ok.len c.args.before _ (none_where_measured _ _ _ measured) (size_where_measured _ _ _ measured) c.write_parts-taken.ensures.continued c.write_parts-taken.ensures.size c.if-taken-len.true

pub returns-else-taken-len-clause-encodes : goal.returns-else-taken-len-clause-encodes
returns-else-taken-len-clause-encodes g c =
    let measured = sym c.measure.ensures.is ∙ c.in-Ok.is in
    frame_whole (frame_of c.args.frame.now) _ _ c.in-Ok.len c.args.before c.write_parts-taken.result (none_where_measured _ _ _ measured) (size_where_measured _ _ _ measured) c.write_parts-taken.ensures.continued c.write_parts-taken.ensures.size c.if-taken-len.false

pub overflow_sub-len : goal.overflow_sub-len
overflow_sub-len g c = omega (arith, size_where_measured _ _ _ (sym c.measure.ensures.is ∙ c.in-Ok.is))

pub returns-in-Err-clause-calls : goal.returns-in-Err-clause-calls
returns-in-Err-clause-calls g c = no_call _ _

pub returns-then-taken-len-clause-calls : goal.returns-then-taken-len-clause-calls
returns-then-taken-len-clause-calls g c = c.write_parts-taken.ensures.calls

pub returns-else-taken-len-clause-calls : goal.returns-else-taken-len-clause-calls
returns-else-taken-len-clause-calls g c =
    let measured = sym c.measure.ensures.is ∙ c.in-Ok.is in
    let same : c.write_parts-taken.result ≡ c.in-Ok.len = omega (arith, c.write_parts-taken.ensures.continued.bound, c.write_parts-taken.ensures.size, size_where_measured _ _ _ measured, c.if-taken-len.false) in
    as_many _ _ _ _ (ap (λ (n : ℕ). n - c.args.before) same) c.write_parts-taken.ensures.calls
