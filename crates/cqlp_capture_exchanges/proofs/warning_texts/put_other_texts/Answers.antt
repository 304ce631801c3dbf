use Rattle.std.proofs.Common.{ap}
use Rattle.std.specs.List.{flat_map}
use Rattle.cqlp_text.proofs.Writing.{progress_ends, progress_goes_on, progress_stops}
use Rattle.cqlp_capture_exchanges.specs.WarningTexts.{other_text}
use Rattle.cqlp_capture_exchanges.specs.Warnings.{listed_of, warned_of}
use Rattle.cqlp_capture_exchanges.proofs.Warnings.{fewer_left, texts_end, texts_next}
use Rattle.cqlp_capture_exchanges.proofs.warning_texts.put_other_texts.Goals as goal

pub returns-in_err-put_other_text : goal.returns-in_err-put_other_text
returns-in_err-put_other_text g c =
    let next = texts_next (listed_of c.loop-warning.rest) (warned_of c.in-Some.warning) (listed_of c.in-Some.others) c.in-Some.ensures in
    progress_stops _ c.from_residual.result c.from_residual.ensures.0 c.loop-warning.invariant (ap (flat_map (other_text c.args.form)) next) c.in_err-put_other_text.ensures

pub loop-warning-preserved : goal.loop-warning-preserved
loop-warning-preserved g c =
    let next = texts_next (listed_of c.loop-warning.rest) (warned_of c.in-Some.warning) (listed_of c.in-Some.others) c.in-Some.ensures in
    progress_goes_on _ c.loop-warning.invariant (ap (flat_map (other_text c.args.form)) next) c.in_ok-put_other_text.ensures

pub loop-warning-smaller : goal.loop-warning-smaller
loop-warning-smaller g c = fewer_left (listed_of c.loop-warning.rest) (warned_of c.in-Some.warning) (listed_of c.in-Some.others) c.in-Some.ensures

pub returns : goal.returns
returns g c = progress_ends c.loop-warning.invariant (ap (flat_map (other_text c.args.form)) (texts_end (listed_of c.loop-warning.rest) c.in_default.ensures))
