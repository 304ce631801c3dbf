use Rattle.std.proofs.Common.{◌∙◌, ap, refl}
use Rattle.cqlp_capture_summary.specs.Lines.{lines, others_line, time_with}
use Rattle.cqlp_text.proofs.Writing.{progress_starts}
use Rattle.cqlp_capture_summary.proofs.Texts.{said_last, said_next, said_stops}
use Rattle.cqlp_capture_summary.proofs.lines.put_summary.Goals as goal

pub returns-in_err-put_header : goal.returns-in_err-put_header
returns-in_err-put_header g c =
    said_stops _ c.from_residual.result c.from_residual.ensures.0 (progress_starts _ _) refl refl c.in_err-put_header.ensures

pub returns-in_err-put_lines : goal.returns-in_err-put_lines
returns-in_err-put_lines g c =
    let s1 = said_next _ (progress_starts _ _) refl refl c.in_ok-put_header.ensures in
    said_stops _ c.from_residual-in_err-put_lines.result c.from_residual-in_err-put_lines.ensures.0 s1 refl (ap (λ t. lines t c.args.names.now c.args.weights.now c.args.tallies.now) (c.time_with-total.ensures ∙ ap (λ t. time_with t c.args.tallies.now) c.time.ensures)) c.in_err-put_lines.ensures

pub returns : goal.returns
returns g c =
    let s1 = said_next _ (progress_starts _ _) refl refl c.in_ok-put_header.ensures in
    let s2 = said_next _ s1 refl (ap (λ t. lines t c.args.names.now c.args.weights.now c.args.tallies.now) (c.time_with-total.ensures ∙ ap (λ t. time_with t c.args.tallies.now) c.time.ensures)) c.in_ok-put_lines.ensures in
    said_last _ _ c.put_others.result s2 refl (ap (λ t. others_line t c.args.others.now) (c.time_with-total.ensures ∙ ap (λ t. time_with t c.args.tallies.now) c.time.ensures)) c.put_others.ensures
