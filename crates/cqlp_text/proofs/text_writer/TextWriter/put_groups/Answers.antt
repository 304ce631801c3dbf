use Rattle.std.proofs.Common.{refl, arith}
use Rattle.cqlp_text.proofs.Texts.{colons_text, colons_rest}
use Rattle.cqlp_text.proofs.Writing.{progress_starts, progress_goes_on, progress_stops}
use Rattle.cqlp_text.proofs.text_writer.TextWriter.put_groups.Goals as goal

pub returns-in_err-put_group : goal.returns-in_err-put_group
returns-in_err-put_group g c = progress_stops _ c.from_residual.result c.from_residual.ensures.0 (progress_starts _ _) (colons_text c.args.bytes 14 (omega arith)) c.in_err-put_group.ensures

pub loop-rest-init : goal.loop-rest-init
loop-rest-init g c = progress_goes_on _ (progress_starts _ _) (colons_text c.args.bytes 14 (omega arith)) c.in_ok-put_group.ensures

pub returns-in_err-put : goal.returns-in_err-put
returns-in_err-put g c =
    progress_stops _ c.from_residual-in_err-put.result c.from_residual-in_err-put.ensures.0 c.loop-rest.invariant (colons_rest c.loop-rest.rest.now c.in-len2-up.len_at_least) c.in_err-put.ensures

pub returns-in_err-put_group-2 : goal.returns-in_err-put_group-2
returns-in_err-put_group-2 g c =
    let colon = progress_goes_on _ c.loop-rest.invariant (colons_rest c.loop-rest.rest.now c.in-len2-up.len_at_least) c.in_ok-put.ensures in
    progress_stops _ c.from_residual-in_err-put_group-2.result c.from_residual-in_err-put_group-2.ensures.0 colon refl c.in_err-put_group-2.ensures

pub loop-rest-preserved : goal.loop-rest-preserved
loop-rest-preserved g c =
    let colon = progress_goes_on _ c.loop-rest.invariant (colons_rest c.loop-rest.rest.now c.in-len2-up.len_at_least) c.in_ok-put.ensures in
    progress_goes_on _ colon refl c.in_ok-put_group-2.ensures
