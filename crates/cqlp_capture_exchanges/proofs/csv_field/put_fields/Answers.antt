use Rattle.std.proofs.Common.{refl}
use Rattle.cqlp_text.proofs.Writing.{progress_goes_on, progress_stops}
use Rattle.cqlp_capture_exchanges.specs.declared.member.Value.TheVariants as value
use Rattle.cqlp_capture_exchanges.proofs.Fields.{fields_at}
use Rattle.cqlp_capture_exchanges.proofs.csv_field.put_fields.Goals as goal

pub returns-in_err-put : goal.returns-in_err-put
returns-in_err-put g c =
    progress_stops _ c.from_residual.result c.from_residual.ensures.0 c.loop-value.invariant (fields_at c.args.values.now c.loop-value.value-index value.Null c.loop-value-test.true) c.in_err-put.ensures

pub returns-in_err-put_field : goal.returns-in_err-put_field
returns-in_err-put_field g c =
    let before = progress_goes_on _ c.loop-value.invariant (fields_at c.args.values.now c.loop-value.value-index _ c.loop-value-test.true) c.in_ok-put.ensures in
    progress_stops _ c.from_residual-in_err-put_field.result c.from_residual-in_err-put_field.ensures.0 before refl c.in_err-put_field.ensures

pub loop-value-preserved : goal.loop-value-preserved
loop-value-preserved g c =
    let before = progress_goes_on _ c.loop-value.invariant (fields_at c.args.values.now c.loop-value.value-index _ c.loop-value-test.true) c.in_ok-put.ensures in
    progress_goes_on _ before refl c.in_ok-put_field.ensures
