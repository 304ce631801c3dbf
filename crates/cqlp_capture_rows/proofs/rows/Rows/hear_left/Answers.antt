use Rattle.std.proofs.Common.{IsSome, Result, subst, sym}
use Rattle.cqlp_text.specs.Outputs.{output}
use Rattle.cqlp_capture_streams.specs.declared.fault.StreamsFault.{StreamsFault}
use Rattle.cqlp_capture_frames.specs.Directions.{closes}
use Rattle.cqlp_capture_rows.specs.Responses.{page_manner}
use Rattle.cqlp_capture_rows.specs.OtherConnections as other
use Rattle.cqlp_capture_rows.specs.Listening.{Changes, Listening, hears_responses, if_asked, leaves, listening, with_connections}
use Rattle.cqlp_capture_rows.proofs.Heard.{change_asked, changes_so, taken}
use Rattle.cqlp_capture_rows.proofs.rows.Rows.hear_left.Goals as goal

pub invariant_of-self-2 : goal.invariant_of-self-2
invariant_of-self-2 g c =
    let i = c.self.inside in
    let x = closes page_manner i.direction.frame i.responses i.direction in
    let new = c.close-put.new in
    c.pass_on.ensures.passed i.writer x.text (taken x c.close-put.result i.writer new.writer new.self new.transcript c.close-put.ensures.reported)

pub returns : goal.returns
returns g c = λ known.
    let i = c.self.inside in
    let x = closes page_manner i.direction.frame i.responses i.direction in
    let put = c.close-put.new in
    let writer = c.pass_on.new.writer in
    let old = listening i.asked i.requests i.direction i.responses i.others (output i.writer.given i.writer.failures) in
    let new = listening i.asked i.requests put.self put.transcript i.others (output writer.given writer.failures) in
    let given = subst (λ (s : Listening). IsSome s.output.given) (sym c.self.view_is) known in
    let so = changes_so i.asked i.requests i.direction put.self i.responses put.transcript i.others i.writer put.writer writer x c.close-put.result c.pass_on.result c.self.invariant given c.close-put.ensures.reported c.pass_on.ensures.text c.pass_on.ensures.passed c.pass_on.ensures.ok in
    let changes = subst (λ (r : Result (Unit {0}) StreamsFault). Changes old (hears_responses x old) r new) (sym c.answer_of.ensures) so in
    subst (λ (s : Listening). Changes s (if_asked c.args.number (leaves s) (with_connections (other.leaves c.args.number s.others) s) s) c.answer_of.result new) c.self.view_is (change_asked old new c.args.number (hears_responses x old) (with_connections (other.leaves c.args.number i.others) old) c.answer_of.result c.if-number-self.false changes)
