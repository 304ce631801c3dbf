use Rattle.std.proofs.Common.{◌≡◌, ◌∙◌, None, ap, sym, subst}
use Rattle.cqlp_type.specs.Table.{Table}
use Rattle.cqlp_decode.specs.Streams.{state}
use Rattle.cqlp_capture_frames.specs.Happenings.{Ends}
use Rattle.cqlp_capture_frames.specs.Frames.{nodes_of, types_read}
use Rattle.cqlp_capture_frames.specs.Reading.{frame_if}
use Rattle.cqlp_capture_frames.specs.Readers.{FrameReading}
use Rattle.cqlp_capture_frames.specs.Directions.{IsReported, direction, ends, happens}
use Rattle.cqlp_capture_frames.proofs.Reading.{types_are}
use Rattle.cqlp_capture_frames.proofs.Directions.{one_leaves}
use Rattle.cqlp_capture_frames.proofs.reader.FrameReader.end.Goals as goal

-- the decoder's table has the types that were read last
pub returns : goal.returns
returns g c responses heads =
    let t = g.T.Transcript in
    let a = c.args in
    let old = c.self.inside in
    let first = state old.decoder in
    let known = t.state a.transcript.now in
    let opened = c.if-not-self.false in
    let types : c.table.result.now.nodes ≡ types_read first.rules (nodes_of first.given) old.came.bytes = ap (λ (t : Table). t.nodes) c.table.ensures ∙ types_are first old.came.bytes c.self.invariant.some (c.self.invariant.reads opened) in
    let frame = frame_if old.is_open old.at (nodes_of first.given) old.came.bytes in
    let before = direction first.rules responses heads frame in
    let closed = direction first.rules responses heads None in
    let is : happens t.manner (Ends c.table.result.now.nodes) known closed ≡ ends t.manner frame known before =
    (λ i. happens t.manner (Ends (types i)) known closed) ∙ (λ i. ends t.manner (frame_if (sym opened i) old.at (nodes_of first.given) old.came.bytes) known before) in
    subst (λ (r : FrameReading). IsReported t.refuses (ends t.manner r.frame known (direction r.rules responses heads r.frame)) c.end.result a.writer.now c.end.new.writer (direction r.rules responses heads None) (t.state c.end.new.self)) c.self.view_is
    (subst (λ z. IsReported t.refuses z c.end.result a.writer.now c.end.new.writer closed (t.state c.end.new.self)) is
    (one_leaves t.refuses c.end.result a.writer.now c.end.new.writer (t.manner.text known (Ends c.table.result.now.nodes)) closed (t.manner.after known (Ends c.table.result.now.nodes)) (t.state c.end.new.self) c.end.ensures.text c.end.ensures.after))
