use Rattle.std.proofs.Common.{refl}
use Rattle.cqlp_text.proofs.Writing.{progress_goes_on, progress_stops}
use Rattle.cqlp_capture_summary.proofs.Texts.{escapes_at}
use Rattle.cqlp_capture_summary.proofs.shown.put_escapes.Goals as goal

pub returns-in_err-put : goal.returns-in_err-put
returns-in_err-put g c =
    progress_stops _ c.from_residual.result c.from_residual.ensures.0 c.loop-byte.invariant (escapes_at c.args.bytes.now c.loop-byte.byte-index c.loop-byte-test.true) c.in_err-put.ensures

pub returns-in_err-put_hex : goal.returns-in_err-put_hex
returns-in_err-put_hex g c =
    let mark = progress_goes_on _ c.loop-byte.invariant (escapes_at c.args.bytes.now c.loop-byte.byte-index c.loop-byte-test.true) c.in_ok-put.ensures in
    progress_stops _ c.from_residual-in_err-put_hex.result c.from_residual-in_err-put_hex.ensures.0 mark refl c.in_err-put_hex.ensures

pub loop-byte-preserved : goal.loop-byte-preserved
loop-byte-preserved g c =
    let mark = progress_goes_on _ c.loop-byte.invariant (escapes_at c.args.bytes.now c.loop-byte.byte-index c.loop-byte-test.true) c.in_ok-put.ensures in
    progress_goes_on _ mark refl c.in_ok-put_hex.ensures
