use Rattle.std.proofs.Common.{refl}
use Rattle.cqlp_text.proofs.Calendar.{civil_of}
use Rattle.cqlp_text.proofs.Writing.{progress_starts, progress_goes_on, progress_stops, progress_writes}
use Rattle.cqlp_text.proofs.text_writer.TextWriter.put_civil.Goals as goal

pub returns-in_err-put_digits : goal.returns-in_err-put_digits
returns-in_err-put_digits g c =
    let text = civil_of c.args.day c.date_of-date.result c.year_of-year.result c.from-month.result c.from-day.result c.date_of-date.ensures c.year_of-year.ensures c.from-month.ensures c.from-day.ensures in
    progress_stops _ c.from_residual.result c.from_residual.ensures.0 (progress_starts _ _) text c.in_err-put_digits.ensures

pub returns-in_err-put : goal.returns-in_err-put
returns-in_err-put g c =
    let text = civil_of c.args.day c.date_of-date.result c.year_of-year.result c.from-month.result c.from-day.result c.date_of-date.ensures c.year_of-year.ensures c.from-month.ensures c.from-day.ensures in
    let year = progress_goes_on _ (progress_starts _ _) text c.in_ok-put_digits.ensures in
    progress_stops _ c.from_residual-in_err-put.result c.from_residual-in_err-put.ensures.0 year refl c.in_err-put.ensures

pub returns-in_err-put_digits-2 : goal.returns-in_err-put_digits-2
returns-in_err-put_digits-2 g c =
    let text = civil_of c.args.day c.date_of-date.result c.year_of-year.result c.from-month.result c.from-day.result c.date_of-date.ensures c.year_of-year.ensures c.from-month.ensures c.from-day.ensures in
    let year = progress_goes_on _ (progress_starts _ _) text c.in_ok-put_digits.ensures in
    let dash = progress_goes_on _ year refl c.in_ok-put.ensures in
    progress_stops _ c.from_residual-in_err-put_digits-2.result c.from_residual-in_err-put_digits-2.ensures.0 dash refl c.in_err-put_digits-2.ensures

pub returns-in_err-put-2 : goal.returns-in_err-put-2
returns-in_err-put-2 g c =
    let text = civil_of c.args.day c.date_of-date.result c.year_of-year.result c.from-month.result c.from-day.result c.date_of-date.ensures c.year_of-year.ensures c.from-month.ensures c.from-day.ensures in
    let year = progress_goes_on _ (progress_starts _ _) text c.in_ok-put_digits.ensures in
    let dash = progress_goes_on _ year refl c.in_ok-put.ensures in
    let month = progress_goes_on _ dash refl c.in_ok-put_digits-2.ensures in
    progress_stops _ c.from_residual-in_err-put-2.result c.from_residual-in_err-put-2.ensures.0 month refl c.in_err-put-2.ensures

pub returns : goal.returns
returns g c =
    let text = civil_of c.args.day c.date_of-date.result c.year_of-year.result c.from-month.result c.from-day.result c.date_of-date.ensures c.year_of-year.ensures c.from-month.ensures c.from-day.ensures in
    let year = progress_goes_on _ (progress_starts _ _) text c.in_ok-put_digits.ensures in
    let dash = progress_goes_on _ year refl c.in_ok-put.ensures in
    let month = progress_goes_on _ dash refl c.in_ok-put_digits-2.ensures in
    let second_dash = progress_goes_on _ month refl c.in_ok-put-2.ensures in
    progress_writes _ c.put_digits-3.result second_dash c.put_digits-3.ensures
