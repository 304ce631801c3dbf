use Rattle.std.proofs.Common.{◌∙◌, ap, refl, arith}
use Rattle.cqlp_note.specs.Outputs.{written}
use Rattle.cqlp_note.specs.Heading.{header_bytes}
use Rattle.cqlp_message.specs.Owned.{frame_of}
use Rattle.cqlp_encode.proofs.FramesTaken.{parts_few, parts_sent, parts_offered}
use Rattle.cqlp_encode.proofs.writing.write_parts.Goals as goal

pub write-requires : goal.write-requires
write-requires g c = rw c.header-header.ensures c.requires.lawful

pub overflow_cast-result : goal.overflow_cast-result
overflow_cast-result g c =
    let is = c.write.ensures.bytes ∙ ap header_bytes c.header-header.ensures in
    let header = rw c.new-out.ensures at c.put.ensures in
    let sent = (parts_sent (written g.W.Target) g.W.Target.writes c.args.target.now c.into_inner.result.now c.into_inner.result.now (frame_of c.args.frame.now) c.args.body_len _ _ _ _ _ _ c.requires.lawful c.requires.size is header c.walk.ensures c.flush.ensures c.into_inner.ensures.output (λ e. refl)) in
    omega (arith, sent.1, c.taken-taken.ensures)

pub returns-clause-continued : goal.returns-clause-continued
returns-clause-continued g c =
    let is = c.write.ensures.bytes ∙ ap header_bytes c.header-header.ensures in
    let header = rw c.new-out.ensures at c.put.ensures in
    rw (c.taken-taken.ensures, ← c.from.ensures) (parts_offered (written g.W.Target) g.W.Target.writes c.args.target.now c.into_inner.result.now _ (frame_of c.args.frame.now) c.args.body_len _ _ _ _ _ _ c.requires.lawful c.requires.size is header c.walk.ensures c.flush.ensures c.into_inner.ensures.output (λ e. grind arith))

pub returns-clause-size : goal.returns-clause-size
returns-clause-size g c =
    let is = c.write.ensures.bytes ∙ ap header_bytes c.header-header.ensures in
    let header = rw c.new-out.ensures at c.put.ensures in
    (parts_sent (written g.W.Target) g.W.Target.writes c.args.target.now c.into_inner.result.now c.into_inner.result.now (frame_of c.args.frame.now) c.args.body_len _ _ _ _ _ _ c.requires.lawful c.requires.size is header c.walk.ensures c.flush.ensures c.into_inner.ensures.output (λ e. refl)).2

pub returns-clause-calls : goal.returns-clause-calls
returns-clause-calls g c =
    let is = c.write.ensures.bytes ∙ ap header_bytes c.header-header.ensures in
    let header = rw c.new-out.ensures at c.put.ensures in
    rw (c.taken-taken.ensures, ← c.from.ensures) (parts_few (written g.W.Target) g.W.Target.writes c.args.target.now c.into_inner.result.now _ (frame_of c.args.frame.now) c.args.body_len _ _ _ _ _ _ c.requires.lawful c.requires.size is header c.walk.ensures c.flush.ensures c.into_inner.ensures.calls (λ e. grind arith))
