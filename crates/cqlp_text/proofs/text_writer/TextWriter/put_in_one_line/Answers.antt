use Rattle.cqlp_text.proofs.Texts.{bytes_at}
use Rattle.cqlp_text.proofs.Writing.{progress_goes_on, progress_stops}
use Rattle.cqlp_text.proofs.text_writer.TextWriter.put_in_one_line.Goals as goal

pub returns-in_err-put_printed : goal.returns-in_err-put_printed
returns-in_err-put_printed g c =
    progress_stops _ c.from_residual.result c.from_residual.ensures.0 c.loop-byte.invariant (bytes_at c.args.bytes.now c.loop-byte.byte-index c.loop-byte-test.true) c.in_err-put_printed.ensures

pub loop-byte-preserved : goal.loop-byte-preserved
loop-byte-preserved g c =
    progress_goes_on _ c.loop-byte.invariant (bytes_at c.args.bytes.now c.loop-byte.byte-index c.loop-byte-test.true) c.in_ok-put_printed.ensures
