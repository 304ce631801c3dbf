use Rattle.std.proofs.Common.{◌≡◌, ◌∙◌, List, ℕ, None, Some, Ok, ap, subst, sym}
use Rattle.cqlp_decode.specs.Streams.{state}
use Rattle.cqlp_capture_frames.specs.Frames.{nodes_of, opened}
use Rattle.cqlp_capture_frames.specs.Reading.{frame_if}
use Rattle.cqlp_capture_frames.specs.Readers.{FrameReading}
use Rattle.cqlp_capture_frames.specs.Directions.{IsReported, Reporting, body, direction}
use Rattle.cqlp_capture_frames.proofs.Directions.{body_refused, body_stops, body_waits, whole}
use Rattle.cqlp_capture_frames.proofs.reader.FrameReader.take.Goals as goal

pub returns-in_err-drain-clause-reported : goal.returns-in_err-drain-clause-reported
returns-in_err-drain-clause-reported g c responses heads =
    let t = g.T.Transcript in
    let old = c.self.inside in
    let first = state old.decoder in
    let b = c.args.bytes.now in
    let known = t.state c.args.transcript.now in
    let is : whole t.refuses t.manner first old.at old.came.bytes b known responses heads None ≡ body t.manner b c.args.self.now.frame known (direction c.args.self.now.rules responses heads c.args.self.now.frame) =
    (λ i. body t.manner b (frame_if (sym c.if-not-self.false i) old.at (nodes_of first.given) old.came.bytes) known (direction first.rules responses heads (frame_if (sym c.if-not-self.false i) old.at (nodes_of first.given) old.came.bytes)))
    ∙ ap (λ (r : FrameReading). body t.manner b r.frame known (direction r.rules responses heads r.frame)) c.self.view_is in
    subst (λ (z : Reporting t.State). IsReported t.refuses z c.from_residual.result c.args.writer.now c.drain.new.writer (direction (state c.drain.new.decoder).rules responses heads None) (t.state c.drain.new.transcript)) is
    (body_stops t.refuses t.manner first old.at old.came.bytes b known responses heads None c.from_residual.result _ _ _ _ _ c.from_residual.ensures (c.in_err-drain.ensures.drains old.came.bytes (c.self.invariant.reads c.if-not-self.false)))

pub returns-in-None-clause-reported : goal.returns-in-None-clause-reported
returns-in-None-clause-reported g c responses heads =
    let t = g.T.Transcript in
    let old = c.self.inside in
    let first = state old.decoder in
    let new = state c.drain.new.decoder in
    let b = c.args.bytes.now in
    let known = t.state c.args.transcript.now in
    let drains = rw c.in-None.is at (c.in_ok-drain.ensures.drains old.came.bytes (c.self.invariant.reads c.if-not-self.false)) in
    let is : whole t.refuses t.manner first old.at old.came.bytes b known responses heads None ≡ body t.manner b c.args.self.now.frame known (direction c.args.self.now.rules responses heads c.args.self.now.frame) =
    (λ i. body t.manner b (frame_if (sym c.if-not-self.false i) old.at (nodes_of first.given) old.came.bytes) known (direction first.rules responses heads (frame_if (sym c.if-not-self.false i) old.at (nodes_of first.given) old.came.bytes)))
    ∙ ap (λ (r : FrameReading). body t.manner b r.frame known (direction r.rules responses heads r.frame)) c.self.view_is in
    let reported = body_waits t.refuses t.manner first old.at old.came.bytes b known responses heads None tt new (t.state c.drain.new.transcript) c.args.writer.now c.drain.new.writer c.in_ok-drain.ensures.rules (ap nodes_of c.in_ok-drain.ensures.given) drains in
    subst (λ (z : Reporting t.State). IsReported t.refuses z (Ok tt) c.args.writer.now c.drain.new.writer (direction new.rules responses heads (Some (opened old.at (nodes_of new.given) c.note.new.self.bytes))) (t.state c.drain.new.transcript)) is
    (subst (λ (bs : List ℕ). IsReported t.refuses (whole t.refuses t.manner first old.at old.came.bytes b known responses heads None) (Ok tt) c.args.writer.now c.drain.new.writer (direction new.rules responses heads (Some (opened old.at (nodes_of new.given) bs))) (t.state c.drain.new.transcript)) (sym c.note.ensures) reported)

pub returns-in-Some-clause-reported : goal.returns-in-Some-clause-reported
returns-in-Some-clause-reported g c responses heads =
    let t = g.T.Transcript in
    let old = c.self.inside in
    let first = state old.decoder in
    let b = c.args.bytes.now in
    let known = t.state c.args.transcript.now in
    let drains = rw c.in-Some.is at (c.in_ok-drain.ensures.drains old.came.bytes (c.self.invariant.reads c.if-not-self.false)) in
    let is : whole t.refuses t.manner first old.at old.came.bytes b known responses heads None ≡ body t.manner b c.args.self.now.frame known (direction c.args.self.now.rules responses heads c.args.self.now.frame) =
    (λ i. body t.manner b (frame_if (sym c.if-not-self.false i) old.at (nodes_of first.given) old.came.bytes) known (direction first.rules responses heads (frame_if (sym c.if-not-self.false i) old.at (nodes_of first.given) old.came.bytes)))
    ∙ ap (λ (r : FrameReading). body t.manner b r.frame known (direction r.rules responses heads r.frame)) c.self.view_is in
    subst (λ (z : Reporting t.State). IsReported t.refuses z c.refusal.result c.args.writer.now c.refusal.new.writer (direction (state c.drain.new.decoder).rules responses heads None) (t.state c.refusal.new.self)) is
    (body_refused t.refuses t.manner first old.at old.came.bytes b known responses heads None (state c.drain.new.decoder) c.in-Some.refusal (t.state c.drain.new.transcript) (t.state c.refusal.new.self) _ c.drain.new.writer _ c.in_ok-drain.ensures.rules drains c.refusal.result (rw (sym c.behind.ensures) c.refusal.ensures.text) (rw (sym c.behind.ensures) c.refusal.ensures.after))
