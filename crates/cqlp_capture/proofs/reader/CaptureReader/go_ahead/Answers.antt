use Rattle.std.proofs.Common.{◌∙◌, subst, drop}
use Rattle.cqlp_capture.specs.declared.limits.CaptureLimits.{CaptureLimits}
use Rattle.cqlp_capture.specs.Progress.{Moves}
use Rattle.cqlp_capture.proofs.Moving.{moves_then, rest_of}
use Rattle.cqlp_capture.proofs.reader.CaptureReader.go_ahead.Goals as goal

pub steps-preserved : goal.steps-preserved
steps-preserved g c =
    let old = c.args.self.now in
    let mid = c.steps.self in
    let new = c.take_step.new.self in
    let e = c.in-Passed.ensures in
    let same = c.steps.invariant.limits in
    let moves = rw (rest_of c.steps.from c.args.input.now) at e.moves in
    record {
      moves = moves_then old.limits old.spot mid.spot new.spot old.pending c.args.input.now c.steps.from c.in-Passed.used mid.pending new.pending c.steps.invariant.moves (subst (λ (l : CaptureLimits). Moves l mid.spot mid.pending (drop c.steps.from c.args.input.now) c.in-Passed.used new.spot new.pending) same moves) e.none;
      limits = e.limits ∙ same;
      unrefused = e.unrefused;
    }
