use Rattle.std.proofs.Common.{◌++◌, ◌∙◌, sym, ap}
use Rattle.cqlp_text.specs.PageText.{after, without_open}
use Rattle.cqlp_text.proofs.Pages.{closed, last_part}
use Rattle.cqlp_text.proofs.Writing.{progress_starts, progress_goes_on, progress_stops}
use Rattle.cqlp_text.proofs.text_writer.TextWriter.put_closing.Goals as goal

pub returns-in_err-put : goal.returns-in_err-put
returns-in_err-put g c =
    let p = c.args.place.now in
    let end = closed p.columns p.column p.open_values c.in-Some.open c.in-Some.ensures ∙ ap (λ t. t ++ after p.columns p.column (without_open p.open_values)) (sym (c.as_bytes.ensures.value ∙ c.closing.ensures)) in
    progress_stops _ c.from_residual.result c.from_residual.ensures.0 (progress_starts _ _) end c.in_err-put.ensures

pub returns : goal.returns
returns g c =
    let p = c.args.place.now in
    let end = closed p.columns p.column p.open_values c.in-Some.open c.in-Some.ensures ∙ ap (λ t. t ++ after p.columns p.column (without_open p.open_values)) (sym (c.as_bytes.ensures.value ∙ c.closing.ensures)) in
    last_part _ c.put_row_end.result (progress_goes_on _ (progress_starts _ _) end c.in_ok-put.ensures) c.ends_row_after_innermost.ensures c.put_row_end.ensures
