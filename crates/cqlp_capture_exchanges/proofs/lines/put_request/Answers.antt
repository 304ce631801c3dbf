use Rattle.std.proofs.Common.{ap, refl, ◌∙◌}
use Rattle.cqlp_observer_facts.specs.declared.facts.Facts.{Facts}
use Rattle.cqlp_capture_exchanges.specs.Levels.{consistency_text}
use Rattle.cqlp_capture_exchanges.specs.Lines.{count_text, given_up_mark, paging_text, statement_text}
use Rattle.cqlp_capture_exchanges.specs.Prepared.{named}
use Rattle.cqlp_capture_exchanges.specs.Statements.{statement, statements}
use Rattle.cqlp_text.proofs.Writing.{progress_starts}
use Rattle.cqlp_capture_exchanges.proofs.Texts.{said_last, said_next, said_stops}
use Rattle.cqlp_capture_exchanges.proofs.lines.put_request.Goals as goal

pub returns-in_err-put_str : goal.returns-in_err-put_str
returns-in_err-put_str g c =
    said_stops _ c.from_residual.result c.from_residual.ensures.0 (progress_starts _ _) refl c.opcode_name.ensures c.in_err-put_str.ensures

pub returns-in_err-put_consistency : goal.returns-in_err-put_consistency
returns-in_err-put_consistency g c =
    let s1 = said_next _ (progress_starts _ _) refl c.opcode_name.ensures c.in_ok-put_str.ensures in
    said_stops _ c.from_residual-in_err-put_consistency.result c.from_residual-in_err-put_consistency.ensures.0 s1 refl (ap (λ (f : Facts). consistency_text f.consistency) c.facts-facts.ensures) c.in_err-put_consistency.ensures

pub returns-in_err-put_count : goal.returns-in_err-put_count
returns-in_err-put_count g c =
    let s1 = said_next _ (progress_starts _ _) refl c.opcode_name.ensures c.in_ok-put_str.ensures in
    let s2 = said_next _ s1 refl (ap (λ (f : Facts). consistency_text f.consistency) c.facts-facts.ensures) c.in_ok-put_consistency.ensures in
    said_stops _ c.from_residual-in_err-put_count.result c.from_residual-in_err-put_count.ensures.0 s2 refl (ap count_text (c.statements_of-count.ensures ∙ ap (statements c.args.request.now.frame.header) c.front-front.ensures)) c.in_err-put_count.ensures

pub returns-in_err-put_statement : goal.returns-in_err-put_statement
returns-in_err-put_statement g c =
    let s1 = said_next _ (progress_starts _ _) refl c.opcode_name.ensures c.in_ok-put_str.ensures in
    let s2 = said_next _ s1 refl (ap (λ (f : Facts). consistency_text f.consistency) c.facts-facts.ensures) c.in_ok-put_consistency.ensures in
    let s3 = said_next _ s2 refl (ap count_text (c.statements_of-count.ensures ∙ ap (statements c.args.request.now.frame.header) c.front-front.ensures)) c.in_ok-put_count.ensures in
    said_stops _ c.from_residual-in_err-put_statement.result c.from_residual-in_err-put_statement.ensures.0 s3 refl (ap statement_text (c.named-statement.ensures ∙ ap (named c.args.known.now) (c.statement_of.ensures ∙ ap (statement c.args.request.now.frame.header) c.front-front.ensures))) c.in_err-put_statement.ensures

pub returns-in_err-put_str-2 : goal.returns-in_err-put_str-2
returns-in_err-put_str-2 g c =
    let s1 = said_next _ (progress_starts _ _) refl c.opcode_name.ensures c.in_ok-put_str.ensures in
    let s2 = said_next _ s1 refl (ap (λ (f : Facts). consistency_text f.consistency) c.facts-facts.ensures) c.in_ok-put_consistency.ensures in
    let s3 = said_next _ s2 refl (ap count_text (c.statements_of-count.ensures ∙ ap (statements c.args.request.now.frame.header) c.front-front.ensures)) c.in_ok-put_count.ensures in
    let s4 = said_next _ s3 refl (ap statement_text (c.named-statement.ensures ∙ ap (named c.args.known.now) (c.statement_of.ensures ∙ ap (statement c.args.request.now.frame.header) c.front-front.ensures))) c.in_ok-put_statement.ensures in
    said_stops _ c.from_residual-in_err-put_str-2.result c.from_residual-in_err-put_str-2.ensures.0 s4 refl (c.given_up_mark.ensures ∙ ap given_up_mark c.is_text_dropped.ensures) c.in_err-put_str-2.ensures

pub returns-in_err-put_values_if : goal.returns-in_err-put_values_if
returns-in_err-put_values_if g c =
    let s1 = said_next _ (progress_starts _ _) refl c.opcode_name.ensures c.in_ok-put_str.ensures in
    let s2 = said_next _ s1 refl (ap (λ (f : Facts). consistency_text f.consistency) c.facts-facts.ensures) c.in_ok-put_consistency.ensures in
    let s3 = said_next _ s2 refl (ap count_text (c.statements_of-count.ensures ∙ ap (statements c.args.request.now.frame.header) c.front-front.ensures)) c.in_ok-put_count.ensures in
    let s4 = said_next _ s3 refl (ap statement_text (c.named-statement.ensures ∙ ap (named c.args.known.now) (c.statement_of.ensures ∙ ap (statement c.args.request.now.frame.header) c.front-front.ensures))) c.in_ok-put_statement.ensures in
    let s5 = said_next _ s4 refl (c.given_up_mark.ensures ∙ ap given_up_mark c.is_text_dropped.ensures) c.in_ok-put_str-2.ensures in
    said_stops _ c.from_residual-in_err-put_values_if.result c.from_residual-in_err-put_values_if.ensures.0 s5 refl refl c.in_err-put_values_if.ensures

pub returns-in_err-put_paging : goal.returns-in_err-put_paging
returns-in_err-put_paging g c =
    let s1 = said_next _ (progress_starts _ _) refl c.opcode_name.ensures c.in_ok-put_str.ensures in
    let s2 = said_next _ s1 refl (ap (λ (f : Facts). consistency_text f.consistency) c.facts-facts.ensures) c.in_ok-put_consistency.ensures in
    let s3 = said_next _ s2 refl (ap count_text (c.statements_of-count.ensures ∙ ap (statements c.args.request.now.frame.header) c.front-front.ensures)) c.in_ok-put_count.ensures in
    let s4 = said_next _ s3 refl (ap statement_text (c.named-statement.ensures ∙ ap (named c.args.known.now) (c.statement_of.ensures ∙ ap (statement c.args.request.now.frame.header) c.front-front.ensures))) c.in_ok-put_statement.ensures in
    let s5 = said_next _ s4 refl (c.given_up_mark.ensures ∙ ap given_up_mark c.is_text_dropped.ensures) c.in_ok-put_str-2.ensures in
    let s6 = said_next _ s5 refl refl c.in_ok-put_values_if.ensures in
    said_stops _ c.from_residual-in_err-put_paging.result c.from_residual-in_err-put_paging.ensures.0 s6 refl (ap paging_text c.facts-facts.ensures) c.in_err-put_paging.ensures

pub returns : goal.returns
returns g c =
    let s1 = said_next _ (progress_starts _ _) refl c.opcode_name.ensures c.in_ok-put_str.ensures in
    let s2 = said_next _ s1 refl (ap (λ (f : Facts). consistency_text f.consistency) c.facts-facts.ensures) c.in_ok-put_consistency.ensures in
    let s3 = said_next _ s2 refl (ap count_text (c.statements_of-count.ensures ∙ ap (statements c.args.request.now.frame.header) c.front-front.ensures)) c.in_ok-put_count.ensures in
    let s4 = said_next _ s3 refl (ap statement_text (c.named-statement.ensures ∙ ap (named c.args.known.now) (c.statement_of.ensures ∙ ap (statement c.args.request.now.frame.header) c.front-front.ensures))) c.in_ok-put_statement.ensures in
    let s5 = said_next _ s4 refl (c.given_up_mark.ensures ∙ ap given_up_mark c.is_text_dropped.ensures) c.in_ok-put_str-2.ensures in
    let s6 = said_next _ s5 refl refl c.in_ok-put_values_if.ensures in
    let s7 = said_next _ s6 refl (ap paging_text c.facts-facts.ensures) c.in_ok-put_paging.ensures in
    said_last _ _ c.put_frame.result s7 refl refl c.put_frame.ensures
