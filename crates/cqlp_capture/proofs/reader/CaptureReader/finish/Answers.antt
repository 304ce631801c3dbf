use Rattle.std.proofs.Common.{sym, ap, ◌∙◌, ◌+◌}
use Rattle.cqlp_capture.specs.Progress.{progress}
use Rattle.cqlp_capture.proofs.Tests.{in_range}
use Rattle.cqlp_capture.proofs.Calls.{ends_whole, ends_cut}
use Rattle.cqlp_capture.proofs.Moving.{nothing}
use Rattle.cqlp_capture.proofs.reader.CaptureReader.finish.Goals as goal

pub returns-then-pending-eq0-clause-ends : goal.returns-then-pending-eq0-clause-ends
returns-then-pending-eq0-clause-ends g c =
    let s = c.self.inside in
    let d = progress s.limits s.place s.interfaces s.gathered s.refusal in
    let none = nothing s.gathered.pending (sym c.pending-pending.ensures ∙ c.if-pending-eq0.true) in
    rw (← c.self.view_is) (ends_whole d (in_range s.limits c.self.invariant.range) _ (sym c.is_between.ensures ∙ c.if-is_between.true) none (ap (λ n. s.place.offset + n) c.pending-pending.ensures) c.in_default.is)

pub returns-else-is_between-clause-ends : goal.returns-else-is_between-clause-ends
returns-else-is_between-clause-ends g c =
    let s = c.self.inside in
    let d = progress s.limits s.place s.interfaces s.gathered s.refusal in
    rw (← c.self.view_is) (ends_cut d (in_range s.limits c.self.invariant.range) _ _ c.began-at.ensures (ap (λ n. s.place.offset + n) c.pending-pending.ensures) c.in_default.is)
