use Rattle.std.proofs.Common.{true, IsSome, Result, subst, sym}
use Rattle.cqlp_text.specs.Outputs.{output}
use Rattle.cqlp_tcp_connections.specs.declared.ends.Way.TheVariants.{Responses as ByNode}
use Rattle.cqlp_capture_streams.specs.declared.fault.StreamsFault.{StreamsFault}
use Rattle.cqlp_capture_streams.specs.ConnectionEvents.{Of}
use Rattle.cqlp_capture_frames.specs.Directions.{step_reported}
use Rattle.cqlp_capture_rows.specs.Responses.{page_manner}
use Rattle.cqlp_capture_rows.specs.Listening.{Changes, Hears, Listening, hears_responses, listening}
use Rattle.cqlp_capture_rows.proofs.Heard.{changes_so, hears_of, taken}
use Rattle.cqlp_capture_rows.proofs.rows.Rows.hear_delivery.Goals as goal

pub invariant_of-self-in-Responses : goal.invariant_of-self-in-Responses
invariant_of-self-in-Responses g c =
    let i = c.self.inside in
    let t = c.args.delivered.now in
    let x = step_reported page_manner true t.step t.at c.args.bytes.now i.responses i.direction in
    let new = c.hear-put.new in
    c.pass_on.ensures.passed i.writer x.text (taken x c.hear-put.result i.writer new.writer new.self new.transcript c.hear-put.ensures.reported)

pub returns-in-Responses : goal.returns-in-Responses
returns-in-Responses g c = λ known.
    let i = c.self.inside in
    let t = c.args.delivered.now in
    let b = c.args.bytes.now in
    let x = step_reported page_manner true t.step t.at b i.responses i.direction in
    let put = c.hear-put.new in
    let writer = c.pass_on.new.writer in
    let old = listening i.asked i.requests i.direction i.responses i.others (output i.writer.given i.writer.failures) in
    let new = listening i.asked i.requests put.self put.transcript i.others (output writer.given writer.failures) in
    let given = subst (λ (s : Listening). IsSome s.output.given) (sym c.self.view_is) known in
    let so = changes_so i.asked i.requests i.direction put.self i.responses put.transcript i.others i.writer put.writer writer x c.hear-put.result c.pass_on.result c.self.invariant given c.hear-put.ensures.reported c.pass_on.ensures.text c.pass_on.ensures.passed c.pass_on.ensures.ok in
    let changes = subst (λ (r : Result (Unit {0}) StreamsFault). Changes old (hears_responses x old) r new) (sym c.answer_of.ensures) so in
    subst (λ (s : Listening). Hears s (Of t b) c.answer_of.result new) c.self.view_is (hears_of old new t b ByNode c.answer_of.result c.if-delivered-self.false c.in-Responses.is changes)
