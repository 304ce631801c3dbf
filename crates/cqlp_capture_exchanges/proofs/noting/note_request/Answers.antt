use Rattle.std.proofs.Common.{◌∙◌, ap}
use Rattle.cqlp_capture_exchanges.specs.Notings.{noted_named}
use Rattle.cqlp_capture_exchanges.specs.Prepared.{named}
use Rattle.cqlp_capture_exchanges.specs.Statements.{statement}
use Rattle.cqlp_capture_exchanges.proofs.noting.note_request.Goals as goal

pub returns-in-Some-Text : goal.returns-in-Some-Text
returns-in-Some-Text g c =
    let q = c.args.request.now in
    let o = c.args.outcome.now in
    let own = c.statement_of-own.ensures ∙ ap (statement q.frame.header) c.front.ensures in
    let said = rw c.in-Some-Text.field-0-is at c.in-Some-Text.ensures in
    c.note_text.ensures ∙ ap (λ z. noted_named c.args.naming z q o c.args.summary.now) (said ∙ ap (named c.args.known.now) own)

pub returns-in-Some-Id : goal.returns-in-Some-Id
returns-in-Some-Id g c =
    let q = c.args.request.now in
    let o = c.args.outcome.now in
    let own = c.statement_of-own.ensures ∙ ap (statement q.frame.header) c.front.ensures in
    let said = rw c.in-Some-Id.field-0-is at c.in-Some-Id.ensures in
    c.note_id.ensures ∙ ap (λ z. noted_named c.args.naming z q o c.args.summary.now) (said ∙ ap (named c.args.known.now) own)

pub returns-in-None : goal.returns-in-None
returns-in-None g c =
    let q = c.args.request.now in
    let o = c.args.outcome.now in
    let own = c.statement_of-own.ensures ∙ ap (statement q.frame.header) c.front.ensures in
    c.note_opcode.ensures
    ∙ ap (λ z. noted_named c.args.naming z q o c.args.summary.now) (c.in-None.ensures ∙ ap (named c.args.known.now) own)
