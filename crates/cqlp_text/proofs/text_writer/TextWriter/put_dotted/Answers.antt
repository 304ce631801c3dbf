use Rattle.std.proofs.Common.{refl, arith}
use Rattle.cqlp_text.proofs.Texts.{dotted_text, dotted_rest}
use Rattle.cqlp_text.proofs.Writing.{progress_starts, progress_goes_on, progress_stops}
use Rattle.cqlp_text.proofs.text_writer.TextWriter.put_dotted.Goals as goal

pub returns-in_err-put_number : goal.returns-in_err-put_number
returns-in_err-put_number g c =
    let first = dotted_text c.args.bytes 3 _ (omega arith) c.from.ensures in
    progress_stops _ c.from_residual.result c.from_residual.ensures.0 (progress_starts _ _) first c.in_err-put_number.ensures

pub loop-rest-init : goal.loop-rest-init
loop-rest-init g c =
    let first = dotted_text c.args.bytes 3 _ (omega arith) c.from.ensures in
    progress_goes_on _ (progress_starts _ _) first c.in_ok-put_number.ensures

pub returns-in_err-put : goal.returns-in_err-put
returns-in_err-put g c =
    progress_stops _ c.from_residual-in_err-put.result c.from_residual-in_err-put.ensures.0 c.loop-rest.invariant (dotted_rest c.loop-rest.rest.now _ c.in-len1-up.len_at_least refl) c.in_err-put.ensures

pub returns-in_err-put_number-2 : goal.returns-in_err-put_number-2
returns-in_err-put_number-2 g c =
    let dot = progress_goes_on _ c.loop-rest.invariant (dotted_rest c.loop-rest.rest.now _ c.in-len1-up.len_at_least c.from-in-len1-up.ensures) c.in_ok-put.ensures in
    progress_stops _ c.from_residual-in_err-put_number-2.result c.from_residual-in_err-put_number-2.ensures.0 dot refl c.in_err-put_number-2.ensures

pub loop-rest-preserved : goal.loop-rest-preserved
loop-rest-preserved g c =
    let dot = progress_goes_on _ c.loop-rest.invariant (dotted_rest c.loop-rest.rest.now _ c.in-len1-up.len_at_least c.from-in-len1-up.ensures) c.in_ok-put.ensures in
    progress_goes_on _ dot refl c.in_ok-put_number-2.ensures
