use Rattle.std.proofs.Common.{ap, refl, ◌∙◌}
use Rattle.cqlp_json.specs.Lines.{texts}
use Rattle.cqlp_observer_facts.specs.declared.facts.Facts.{Facts}
use Rattle.cqlp_capture_exchanges.specs.Objects.{result_members, tracing_members, warnings_members}
use Rattle.cqlp_capture_exchanges.specs.Warnings.{first_of, warnings_in}
use Rattle.cqlp_text.proofs.Writing.{progress_starts}
use Rattle.cqlp_capture_exchanges.proofs.Texts.{said_last, said_next, said_stops}
use Rattle.cqlp_capture_exchanges.proofs.object.put_known.Goals as goal

pub returns-in_err-put_result : goal.returns-in_err-put_result
returns-in_err-put_result g c =
    said_stops _ c.from_residual.result c.from_residual.ensures.0 (progress_starts _ _) refl (ap (λ (f : Facts). texts (result_members f)) c.facts-facts.ensures) c.in_err-put_result.ensures

pub returns-in_err-put_warnings : goal.returns-in_err-put_warnings
returns-in_err-put_warnings g c =
    let s1 = said_next _ (progress_starts _ _) refl (ap (λ (f : Facts). texts (result_members f)) c.facts-facts.ensures) c.in_ok-put_result.ensures in
    said_stops _ c.from_residual-in_err-put_warnings.result c.from_residual-in_err-put_warnings.ensures.0 s1 refl (λ i. warnings_members (c.is_text_dropped.ensures i) (first_of ((c.warnings_of-warnings.ensures ∙ ap (warnings_in c.args.response.now.frame.header) c.announced.ensures) i))) c.in_err-put_warnings.ensures

pub returns : goal.returns
returns g c =
    let s1 = said_next _ (progress_starts _ _) refl (ap (λ (f : Facts). texts (result_members f)) c.facts-facts.ensures) c.in_ok-put_result.ensures in
    let s2 = said_next _ s1 refl (λ i. warnings_members (c.is_text_dropped.ensures i) (first_of ((c.warnings_of-warnings.ensures ∙ ap (warnings_in c.args.response.now.frame.header) c.announced.ensures) i))) c.in_ok-put_warnings.ensures in
    said_last _ _ c.put_tracing.result s2 refl (ap (λ (f : Facts). texts (tracing_members f)) c.facts-facts.ensures) c.put_tracing.ensures
