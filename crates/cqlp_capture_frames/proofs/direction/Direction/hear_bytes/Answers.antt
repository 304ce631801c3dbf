use Rattle.std.proofs.Common.{◌∙◌, ◌-◌, ◌&&◌, ◌==◌, None, Ok, ap, drop, sym, subst, take}
use Rattle.cqlp_observer.specs.Directions.{heard}
use Rattle.cqlp_capture_frames.specs.Faults.{Stops}
use Rattle.cqlp_capture_frames.specs.Directions.{Direction, IsReported, Reporting, all_reported, bytes_reported, reports, with_heads}
use Rattle.cqlp_capture_frames.proofs.Directions.{Goes, step_ends, step_goes_on, step_is, step_stops}
use Rattle.cqlp_capture_frames.proofs.direction.Direction.hear_bytes.Goals as goal

pub returns-in_err-report-clause-reported : goal.returns-in_err-report-clause-reported
returns-in_err-report-clause-reported g c =
    let t = g.T.Transcript in
    let l = c.loop-unread in
    let a = c.args in
    let x = c.take-used.result in
    let v = c.take-used.new.self in
    let known = t.state l.transcript in
    let end = c.behind-end.result in
    let b = take x.used l.unread.bytes.now in
    let whole = bytes_reported t.manner a.has_room a.at a.begins a.bytes.now (t.state a.transcript.now) a.self.now in
    let rest = all_reported t.manner a.has_room l.unread.steps l.end l.unread.begins l.unread.bytes.now known l.self in
    let said = reports t.manner a.has_room end b x.heard known (with_heads v l.self) in
    let later = all_reported t.manner a.has_room (l.unread.steps - 1) end (l.unread.begins && x.used == 0) (drop x.used l.unread.bytes.now) said.known said.after in
    let is = step_is t.manner a.has_room l.unread.steps l.end l.unread.begins l.unread.bytes.now known l.self x v end c.loop-unread-test.true c.behind-end.ensures (c.take-used.ensures.reported ∙ ap (λ (d : Direction). heard None l.unread.begins l.unread.bytes.now d.heads) c.self.view_is) in
    step_stops t.refuses a.writer.now l.writer c.report.new.writer whole rest later said x.heard l.invariant.0 is _ _ c.from_residual.result _ c.from_residual.ensures
    (subst (λ (d : Direction). Stops (t.refuses c.in_err-report.field-0.0) l.writer (reports t.manner a.has_room end b x.heard known (with_heads v d)).text c.report.new.writer) c.self.view_is c.in_err-report.ensures.reported)

pub returns-then-is_done-clause-reported : goal.returns-then-is_done-clause-reported
returns-then-is_done-clause-reported g c =
    let t = g.T.Transcript in
    let l = c.loop-unread in
    let a = c.args in
    let x = c.take-used.result in
    let v = c.take-used.new.self in
    let known = t.state l.transcript in
    let end = c.behind-end.result in
    let b = take x.used l.unread.bytes.now in
    let whole = bytes_reported t.manner a.has_room a.at a.begins a.bytes.now (t.state a.transcript.now) a.self.now in
    let rest = all_reported t.manner a.has_room l.unread.steps l.end l.unread.begins l.unread.bytes.now known l.self in
    let said = reports t.manner a.has_room end b x.heard known (with_heads v l.self) in
    let later = all_reported t.manner a.has_room (l.unread.steps - 1) end (l.unread.begins && x.used == 0) (drop x.used l.unread.bytes.now) said.known said.after in
    let is = step_is t.manner a.has_room l.unread.steps l.end l.unread.begins l.unread.bytes.now known l.self x v end c.loop-unread-test.true c.behind-end.ensures (c.take-used.ensures.reported ∙ ap (λ (d : Direction). heard None l.unread.begins l.unread.bytes.now d.heads) c.self.view_is) in
    let reported = subst (λ (d : Direction). IsReported t.refuses (reports t.manner a.has_room end b x.heard known (with_heads v d)) (Ok tt) l.writer c.report.new.writer c.report.new.self (t.state c.report.new.transcript)) c.self.view_is c.in_ok-report.ensures.reported in
    step_ends t.refuses a.writer.now l.writer c.report.new.writer whole rest later said x.heard l.invariant.0 is c.report.new.self (t.state c.report.new.transcript) tt (sym c.is_done.ensures ∙ c.if-is_done.true) reported

pub loop-unread-preserved : goal.loop-unread-preserved
loop-unread-preserved g c =
    let t = g.T.Transcript in
    let l = c.loop-unread in
    let a = c.args in
    let x = c.take-used.result in
    let v = c.take-used.new.self in
    let known = t.state l.transcript in
    let end = c.behind-end.result in
    let b = take x.used l.unread.bytes.now in
    let whole = bytes_reported t.manner a.has_room a.at a.begins a.bytes.now (t.state a.transcript.now) a.self.now in
    let rest = all_reported t.manner a.has_room l.unread.steps l.end l.unread.begins l.unread.bytes.now known l.self in
    let said = reports t.manner a.has_room end b x.heard known (with_heads v l.self) in
    let later = all_reported t.manner a.has_room (l.unread.steps - 1) end (l.unread.begins && x.used == 0) (drop x.used l.unread.bytes.now) said.known said.after in
    let is = step_is t.manner a.has_room l.unread.steps l.end l.unread.begins l.unread.bytes.now known l.self x v end c.loop-unread-test.true c.behind-end.ensures (c.take-used.ensures.reported ∙ ap (λ (d : Direction). heard None l.unread.begins l.unread.bytes.now d.heads) c.self.view_is) in
    let reported = subst (λ (d : Direction). IsReported t.refuses (reports t.manner a.has_room end b x.heard known (with_heads v d)) (Ok tt) l.writer c.report.new.writer c.report.new.self (t.state c.report.new.transcript)) c.self.view_is c.in_ok-report.ensures.reported in
    let goes = step_goes_on t.refuses a.writer.now l.writer c.report.new.writer whole rest later said x.heard l.invariant.0 is c.report.new.self (t.state c.report.new.transcript) (sym c.is_done.ensures ∙ c.if-is_done.false) reported.0 in (
      subst (λ (z : Reporting t.State). Goes whole z a.writer.now c.report.new.writer)
          (λ i. all_reported t.manner a.has_room (sym c.after-unread.ensures.steps i) end (sym c.after-unread.ensures.begins i) (sym c.after-unread.ensures.bytes i) (sym reported.2 i) (sym reported.1 i)) goes,
      (c.report.ensures.same.0 ∙ ap (λ (d : Direction). d.rules) c.self.view_is ∙ l.invariant.1.0, c.report.ensures.same.1 ∙ ap (λ (d : Direction). d.responses) c.self.view_is ∙ l.invariant.1.1),
    )
