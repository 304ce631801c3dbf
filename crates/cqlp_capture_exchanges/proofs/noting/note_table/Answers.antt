use Rattle.std.proofs.Common.{◌∙◌, true, List, ℕ, Option, ap}
use Rattle.cqlp_capture_summary.specs.Summaries.{noted_request}
use Rattle.cqlp_capture_exchanges.specs.Notings.{request_as, table_of, table_request}
use Rattle.cqlp_capture_exchanges.specs.Prepared.{named}
use Rattle.cqlp_capture_exchanges.specs.Statements.{statement}
use Rattle.cqlp_capture_exchanges.proofs.noting.note_table.Goals as goal

pub returns-in-Some : goal.returns-in-Some
returns-in-Some g c =
    let q = c.args.request.now in
    let o = c.args.outcome.now in
    let s = c.args.summary.now in
    let own = c.statement_of-own.ensures ∙ ap (statement q.frame.header) c.front.ensures in
    let found = c.in-Some.ensures ∙ ap table_of (c.named.ensures ∙ ap (named c.args.known.now) own) in
    c.note_as.ensures ∙ (λ i. noted_request (request_as (c.as_slice.ensures.bytes i) true o) s) ∙ ap (λ (n : Option (List ℕ)). noted_request (table_request n q o) s) found

pub returns-in-None : goal.returns-in-None
returns-in-None g c =
    let q = c.args.request.now in
    let o = c.args.outcome.now in
    let s = c.args.summary.now in
    let own = c.statement_of-own.ensures ∙ ap (statement q.frame.header) c.front.ensures in
    let found = c.in-None.ensures ∙ ap table_of (c.named.ensures ∙ ap (named c.args.known.now) own) in
    c.note_opcode.ensures ∙ ap (λ (n : Option (List ℕ)). noted_request (table_request n q o) s) found
