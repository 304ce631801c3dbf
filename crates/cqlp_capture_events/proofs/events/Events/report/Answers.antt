use Rattle.std.proofs.Common.{IsSome, subst, sym}
use Rattle.cqlp_capture_events.specs.Listening.{Listening, Reports}
use Rattle.cqlp_capture_events.proofs.Heard.{reports_delivery}
use Rattle.cqlp_capture_events.proofs.events.Events.report.Goals as goal

pub returns : goal.returns
returns g c = λ known.
    let old = c.self.inside in
    let new = c.put_delivery.new in
    subst (λ (s : Listening). Reports s c.args.delivered.now c.args.bytes.now c.put_delivery.result (record { asked = old.asked; table = new.table; output = record { given = new.writer.given; failures = new.writer.failures } })) c.self.view_is
    (reports_delivery old.asked old.table new.table old.writer new.writer c.args.delivered.now c.args.bytes.now c.put_delivery.result c.self.invariant c.put_delivery.ensures.passed (subst (λ (s : Listening). IsSome s.output.given) (sym c.self.view_is) known) c.put_delivery.ensures.text c.put_delivery.ensures.after)
