use Rattle.std.proofs.Common.{◌-◌, ◌&&◌, ◌==◌, drop, sym, subst}
use Rattle.std.proofs.lemmas.Result.{err_from_is_err_and}
use Rattle.cqlp_observer.specs.Watches.{progressing}
use Rattle.cqlp_capture_exchanges.specs.Reports.{of_step}
use Rattle.cqlp_capture_exchanges.specs.Talks.{Talk, all_heard, bytes_heard, slot, stepped}
use Rattle.cqlp_capture_exchanges.proofs.Talks.{Hearing, heard_next, heard_none, hearing_ends, hearing_goes_on, hearing_is_done, hearing_known, hearing_refused, hearing_stops}
use Rattle.cqlp_capture_exchanges.proofs.slot.hear_bytes.Goals as goal

pub loop-unread-preserved : goal.loop-unread-preserved
loop-unread-preserved g c = λ known.
    let n = c.args.connection.now in
    let start = c.args.reporter.now in
    let whole = bytes_heard c.args.piece.responses c.args.piece.time c.args.piece.begins c.args.room c.args.piece.bytes.now (slot c.args.watch.now c.args.is_reported.now) in
    let l = c.loop-unread in
    let held = l.invariant known in
    let s = slot l.watch l.is_reported in
    let x = progressing c.in-Ok.step c.take_into.new.reported c.take_into.new.self in
    let ts = of_step c.args.piece.time l.is_reported x in
    let later = all_heard (l.unread.steps - 1) c.args.piece.responses c.args.piece.time (l.unread.begins && x.used == 0) c.args.room (drop x.used l.unread.bytes.now) (stepped x s) in
    let e = heard_next l.unread.steps c.args.piece.responses c.args.piece.time l.unread.begins c.args.room l.unread.bytes.now s x c.loop-unread-test.true c.in-Ok.ensures.reported in
    let now = l.reporter in
    let more = hearing_goes_on n start now c.report_step.new.reporter whole (all_heard l.unread.steps c.args.piece.responses c.args.piece.time l.unread.begins c.args.room l.unread.bytes.now s) later x.is_done ts (stepped x s) held e c.if-step.false (c.in_ok-report_step.ensures (hearing_known n start now whole (all_heard l.unread.steps c.args.piece.responses c.args.piece.time l.unread.begins c.args.room l.unread.bytes.now s) held known)) in
    subst (λ (z : Talk). Hearing n start whole z c.report_step.new.reporter) (λ i. all_heard (sym c.after-unread.ensures.steps i) c.args.piece.responses c.args.piece.time (sym c.after-unread.ensures.begins i) c.args.room (sym c.after-unread.ensures.bytes i) (slot c.take_into.new.self (sym c.is_reported_after.ensures i))) more

pub returns-in_default-clause-reports : goal.returns-in_default-clause-reports
returns-in_default-clause-reports g c = λ known.
    let n = c.args.connection.now in
    let start = c.args.reporter.now in
    let whole = bytes_heard c.args.piece.responses c.args.piece.time c.args.piece.begins c.args.room c.args.piece.bytes.now (slot c.args.watch.now c.args.is_reported.now) in
    let l = c.loop-unread in
    let held = l.invariant known in
    let s = slot l.watch l.is_reported in
    hearing_refused n start l.reporter whole (all_heard l.unread.steps c.args.piece.responses c.args.piece.time l.unread.begins c.args.room l.unread.bytes.now s) held

pub returns-in_err-report_step-clause-reports : goal.returns-in_err-report_step-clause-reports
returns-in_err-report_step-clause-reports g c = λ known.
    let n = c.args.connection.now in
    let start = c.args.reporter.now in
    let whole = bytes_heard c.args.piece.responses c.args.piece.time c.args.piece.begins c.args.room c.args.piece.bytes.now (slot c.args.watch.now c.args.is_reported.now) in
    let l = c.loop-unread in
    let held = l.invariant known in
    let s = slot l.watch l.is_reported in
    let x = progressing c.in-Ok.step c.take_into.new.reported c.take_into.new.self in
    let ts = of_step c.args.piece.time l.is_reported x in
    let later = all_heard (l.unread.steps - 1) c.args.piece.responses c.args.piece.time (l.unread.begins && x.used == 0) c.args.room (drop x.used l.unread.bytes.now) (stepped x s) in
    let e = heard_next l.unread.steps c.args.piece.responses c.args.piece.time l.unread.begins c.args.room l.unread.bytes.now s x c.loop-unread-test.true c.in-Ok.ensures.reported in
    let now = l.reporter in
    let p = err_from_is_err_and c.from_residual.result c.from_residual.ensures.1 in
    rw (p.1, p.2) (hearing_stops n start now c.report_step.new.reporter whole (all_heard l.unread.steps c.args.piece.responses c.args.piece.time l.unread.begins c.args.room l.unread.bytes.now s) later x.is_done ts (stepped x s) _ held e (c.in_err-report_step.ensures (hearing_known n start now whole (all_heard l.unread.steps c.args.piece.responses c.args.piece.time l.unread.begins c.args.room l.unread.bytes.now s) held known)))

pub returns-then-step-clause-reports : goal.returns-then-step-clause-reports
returns-then-step-clause-reports g c = λ known.
    let n = c.args.connection.now in
    let start = c.args.reporter.now in
    let whole = bytes_heard c.args.piece.responses c.args.piece.time c.args.piece.begins c.args.room c.args.piece.bytes.now (slot c.args.watch.now c.args.is_reported.now) in
    let l = c.loop-unread in
    let held = l.invariant known in
    let s = slot l.watch l.is_reported in
    let x = progressing c.in-Ok.step c.take_into.new.reported c.take_into.new.self in
    let ts = of_step c.args.piece.time l.is_reported x in
    let later = all_heard (l.unread.steps - 1) c.args.piece.responses c.args.piece.time (l.unread.begins && x.used == 0) c.args.room (drop x.used l.unread.bytes.now) (stepped x s) in
    let e = heard_next l.unread.steps c.args.piece.responses c.args.piece.time l.unread.begins c.args.room l.unread.bytes.now s x c.loop-unread-test.true c.in-Ok.ensures.reported in
    let now = l.reporter in
    (hearing_is_done n start now c.report_step.new.reporter whole (all_heard l.unread.steps c.args.piece.responses c.args.piece.time l.unread.begins c.args.room l.unread.bytes.now s) later x.is_done ts (stepped x s) held e c.if-step.true (c.in_ok-report_step.ensures (hearing_known n start now whole (all_heard l.unread.steps c.args.piece.responses c.args.piece.time l.unread.begins c.args.room l.unread.bytes.now s) held known))).0

pub returns-then-step-clause-after : goal.returns-then-step-clause-after
returns-then-step-clause-after g c = λ known.
    let n = c.args.connection.now in
    let start = c.args.reporter.now in
    let whole = bytes_heard c.args.piece.responses c.args.piece.time c.args.piece.begins c.args.room c.args.piece.bytes.now (slot c.args.watch.now c.args.is_reported.now) in
    let l = c.loop-unread in
    let held = l.invariant known in
    let s = slot l.watch l.is_reported in
    let x = progressing c.in-Ok.step c.take_into.new.reported c.take_into.new.self in
    let ts = of_step c.args.piece.time l.is_reported x in
    let later = all_heard (l.unread.steps - 1) c.args.piece.responses c.args.piece.time (l.unread.begins && x.used == 0) c.args.room (drop x.used l.unread.bytes.now) (stepped x s) in
    let e = heard_next l.unread.steps c.args.piece.responses c.args.piece.time l.unread.begins c.args.room l.unread.bytes.now s x c.loop-unread-test.true c.in-Ok.ensures.reported in
    let now = l.reporter in
    let last = (hearing_is_done n start now c.report_step.new.reporter whole (all_heard l.unread.steps c.args.piece.responses c.args.piece.time l.unread.begins c.args.room l.unread.bytes.now s) later x.is_done ts (stepped x s) held e c.if-step.true (c.in_ok-report_step.ensures (hearing_known n start now whole (all_heard l.unread.steps c.args.piece.responses c.args.piece.time l.unread.begins c.args.room l.unread.bytes.now s) held known))).1 in
    rw c.is_reported_after.ensures last

pub returns-clause-reports : goal.returns-clause-reports
returns-clause-reports g c = λ known.
    let n = c.args.connection.now in
    let start = c.args.reporter.now in
    let whole = bytes_heard c.args.piece.responses c.args.piece.time c.args.piece.begins c.args.room c.args.piece.bytes.now (slot c.args.watch.now c.args.is_reported.now) in
    let l = c.loop-unread in
    let held = l.invariant known in
    let s = slot l.watch l.is_reported in
    (hearing_ends n start l.reporter whole (all_heard l.unread.steps c.args.piece.responses c.args.piece.time l.unread.begins c.args.room l.unread.bytes.now s) s held (heard_none l.unread.steps c.args.piece.responses c.args.piece.time l.unread.begins c.args.room l.unread.bytes.now s c.loop-unread-test.false)).0

pub returns-clause-after : goal.returns-clause-after
returns-clause-after g c = λ known.
    let n = c.args.connection.now in
    let start = c.args.reporter.now in
    let whole = bytes_heard c.args.piece.responses c.args.piece.time c.args.piece.begins c.args.room c.args.piece.bytes.now (slot c.args.watch.now c.args.is_reported.now) in
    let l = c.loop-unread in
    let held = l.invariant known in
    let s = slot l.watch l.is_reported in
    (hearing_ends n start l.reporter whole (all_heard l.unread.steps c.args.piece.responses c.args.piece.time l.unread.begins c.args.room l.unread.bytes.now s) s held (heard_none l.unread.steps c.args.piece.responses c.args.piece.time l.unread.begins c.args.room l.unread.bytes.now s c.loop-unread-test.false)).1
