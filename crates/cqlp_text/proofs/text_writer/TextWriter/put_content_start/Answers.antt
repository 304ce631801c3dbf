use Rattle.std.proofs.Common.{◌++◌, codes}
use Rattle.cqlp_text.specs.PageText.{before}
use Rattle.cqlp_text.proofs.Pages.{content_starts}
use Rattle.cqlp_text.proofs.Writing.{progress_starts, progress_goes_on, progress_stops, progress_writes}
use Rattle.cqlp_text.proofs.text_writer.TextWriter.put_content_start.Goals as goal

pub returns-in_err-put_before : goal.returns-in_err-put_before
returns-in_err-put_before g c =
    let start = content_starts c.args.offset (before c.args.column c.args.place.now.open_values ++ codes "0x") c.if-offset-gt0.false in
    progress_stops _ c.from_residual.result c.from_residual.ensures.0 (progress_starts _ _) start c.in_err-put_before.ensures

pub returns : goal.returns
returns g c =
    let start = content_starts c.args.offset (before c.args.column c.args.place.now.open_values ++ codes "0x") c.if-offset-gt0.false in
    progress_writes _ c.put.result (progress_goes_on _ (progress_starts _ _) start c.in_ok-put_before.ensures) c.put.ensures
