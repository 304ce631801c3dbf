use Rattle.std.proofs.Common.{◌≡◌, None, Ok, ap, subst}
use Rattle.cqlp_observer.specs.Directions.{Closes, after_gap}
use Rattle.cqlp_note.specs.Limits.{rules_of}
use Rattle.cqlp_capture_frames.specs.Faults.{Stops}
use Rattle.cqlp_capture_frames.specs.Readers.{frame_of}
use Rattle.cqlp_capture_frames.specs.Directions.{Direction, IsReported, Reporting, closes, direction, gap_reported, with_heads}
use Rattle.cqlp_capture_frames.proofs.Directions.{gap_stops, gap_writes}
use Rattle.cqlp_capture_frames.proofs.direction.Direction.hear.Goals as goal

pub returns-in_err-close-in-Gap-clause-reported : goal.returns-in_err-close-in-Gap-clause-reported
returns-in_err-close-in-Gap-clause-reported g c =
    let t = g.T.Transcript in
    let a = c.args in
    let n = c.in-Gap.length in
    let old = c.self.inside in
    let rules = rules_of old.limits in
    let known = t.state a.transcript.now in
    let frame = frame_of old.reader in
    let closed = closes t.manner frame known (direction rules old.responses (after_gap n None old.heads).after frame) in
    let is : closes t.manner frame known (direction rules old.responses c.gap.new.self frame) ≡ closed = λ i. closes t.manner frame known (direction rules old.responses (ap (λ (z : Closes). z.after) c.gap.ensures i) frame) in
    let r = c.from_residual-in_err-close-in-Gap.result in
    rw c.in-Gap.is (subst (λ (d : Direction). IsReported t.refuses (gap_reported t.manner a.at n c.in-Gap.cause (closes t.manner d.frame known (with_heads (after_gap n None d.heads).after d))) r a.writer.now c.close-in-Gap.new.writer c.close-in-Gap.new.self (t.state c.close-in-Gap.new.transcript)) c.self.view_is
    (gap_stops t.refuses t.manner a.at n c.in-Gap.cause closed c.close-in-Gap.new.self a.writer.now a.writer.now c.close-in-Gap.new.writer (t.state c.close-in-Gap.new.transcript) r _ c.from_residual-in_err-close-in-Gap.ensures
    (subst (λ (z : Reporting t.State). Stops (t.refuses c.in_err-close-in-Gap.field-0.0) a.writer.now z.text c.close-in-Gap.new.writer) is c.in_err-close-in-Gap.ensures.reported)))

pub returns-in_ok-close-in-Gap-clause-reported : goal.returns-in_ok-close-in-Gap-clause-reported
returns-in_ok-close-in-Gap-clause-reported g c =
    let t = g.T.Transcript in
    let a = c.args in
    let n = c.in-Gap.length in
    let old = c.self.inside in
    let rules = rules_of old.limits in
    let known = t.state a.transcript.now in
    let frame = frame_of old.reader in
    let closed = closes t.manner frame known (direction rules old.responses (after_gap n None old.heads).after frame) in
    let is : closes t.manner frame known (direction rules old.responses c.gap.new.self frame) ≡ closed = λ i. closes t.manner frame known (direction rules old.responses (ap (λ (z : Closes). z.after) c.gap.ensures i) frame) in
    let r = c.gap-in-Gap.result in
    rw c.in-Gap.is (subst (λ (d : Direction). IsReported t.refuses (gap_reported t.manner a.at n c.in-Gap.cause (closes t.manner d.frame known (with_heads (after_gap n None d.heads).after d))) r a.writer.now c.gap-in-Gap.new.writer c.close-in-Gap.new.self (t.state c.gap-in-Gap.new.self)) c.self.view_is
    (gap_writes t.refuses t.manner a.at n c.in-Gap.cause closed c.close-in-Gap.new.self a.writer.now c.close-in-Gap.new.writer c.gap-in-Gap.new.writer (t.state c.close-in-Gap.new.transcript) (t.state c.gap-in-Gap.new.self) r
    (subst (λ (z : Reporting t.State). IsReported t.refuses z (Ok tt) a.writer.now c.close-in-Gap.new.writer c.close-in-Gap.new.self (t.state c.close-in-Gap.new.transcript)) is c.in_ok-close-in-Gap.ensures.reported) c.gap-in-Gap.ensures.text c.gap-in-Gap.ensures.after))
