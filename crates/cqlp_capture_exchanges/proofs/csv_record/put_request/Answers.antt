use Rattle.std.proofs.Common.{ap, refl, ◌∙◌}
use Rattle.cqlp_json.specs.Lines.{texts}
use Rattle.cqlp_observer_facts.specs.declared.facts.Facts.{Facts}
use Rattle.cqlp_capture_exchanges.specs.CsvRecords.{count_fields, query_fields, statement_fields}
use Rattle.cqlp_capture_exchanges.specs.Prepared.{named}
use Rattle.cqlp_capture_exchanges.specs.Statements.{statement, statements}
use Rattle.cqlp_text.proofs.Writing.{progress_starts}
use Rattle.cqlp_capture_exchanges.proofs.Texts.{said_last, said_next, said_stops}
use Rattle.cqlp_capture_exchanges.proofs.csv_record.put_request.Goals as goal

pub returns-in_err-put_frame : goal.returns-in_err-put_frame
returns-in_err-put_frame g c =
    said_stops _ c.from_residual.result c.from_residual.ensures.0 (progress_starts _ _) refl refl c.in_err-put_frame.ensures

pub returns-in_err-put_count : goal.returns-in_err-put_count
returns-in_err-put_count g c =
    let s1 = said_next _ (progress_starts _ _) refl refl c.in_ok-put_frame.ensures in
    said_stops _ c.from_residual-in_err-put_count.result c.from_residual-in_err-put_count.ensures.0 s1 refl (ap (λ z. texts (count_fields z)) (c.statements_of-count.ensures ∙ ap (statements c.args.request.now.frame.header) c.front-front.ensures)) c.in_err-put_count.ensures

pub returns-in_err-put_statement : goal.returns-in_err-put_statement
returns-in_err-put_statement g c =
    let s1 = said_next _ (progress_starts _ _) refl refl c.in_ok-put_frame.ensures in
    let s2 = said_next _ s1 refl (ap (λ z. texts (count_fields z)) (c.statements_of-count.ensures ∙ ap (statements c.args.request.now.frame.header) c.front-front.ensures)) c.in_ok-put_count.ensures in
    said_stops _ c.from_residual-in_err-put_statement.result c.from_residual-in_err-put_statement.ensures.0 s2 refl (λ i. texts (statement_fields (c.is_text_dropped.ensures i) ((c.named-statement.ensures ∙ ap (named c.args.known.now) (c.statement_of.ensures ∙ ap (statement c.args.request.now.frame.header) c.front-front.ensures)) i))) c.in_err-put_statement.ensures

pub returns : goal.returns
returns g c =
    let s1 = said_next _ (progress_starts _ _) refl refl c.in_ok-put_frame.ensures in
    let s2 = said_next _ s1 refl (ap (λ z. texts (count_fields z)) (c.statements_of-count.ensures ∙ ap (statements c.args.request.now.frame.header) c.front-front.ensures)) c.in_ok-put_count.ensures in
    let s3 = said_next _ s2 refl (λ i. texts (statement_fields (c.is_text_dropped.ensures i) ((c.named-statement.ensures ∙ ap (named c.args.known.now) (c.statement_of.ensures ∙ ap (statement c.args.request.now.frame.header) c.front-front.ensures)) i))) c.in_ok-put_statement.ensures in
    said_last _ _ c.put_query.result s3 refl (ap (λ (f : Facts). texts (query_fields f)) c.facts.ensures) c.put_query.ensures
