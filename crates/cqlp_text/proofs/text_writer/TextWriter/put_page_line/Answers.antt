use Rattle.std.proofs.Common.{◌++◌, codes, decimal, refl, sym, ap}
use Rattle.cqlp_text.proofs.Writing.{progress_starts, progress_goes_on, progress_stops, progress_writes}
use Rattle.cqlp_text.proofs.text_writer.TextWriter.put_page_line.Goals as goal

pub returns-in_err-put : goal.returns-in_err-put
returns-in_err-put g c = progress_stops _ c.from_residual.result c.from_residual.ensures.0 (progress_starts _ _) refl c.in_err-put.ensures

pub returns-in_err-put_number : goal.returns-in_err-put_number
returns-in_err-put_number g c =
    let word = progress_goes_on _ (progress_starts _ _) refl c.in_ok-put.ensures in
    let columns = ap (λ n. decimal n ++ (codes " columns " ++ (decimal c.args.rows ++ codes " rows\n"))) (sym c.from.ensures) in
    progress_stops _ c.from_residual-in_err-put_number.result c.from_residual-in_err-put_number.ensures.0 word columns c.in_err-put_number.ensures

pub returns-in_err-put-2 : goal.returns-in_err-put-2
returns-in_err-put-2 g c =
    let word = progress_goes_on _ (progress_starts _ _) refl c.in_ok-put.ensures in
    let columns = ap (λ n. decimal n ++ (codes " columns " ++ (decimal c.args.rows ++ codes " rows\n"))) (sym c.from.ensures) in
    let number = progress_goes_on _ word columns c.in_ok-put_number.ensures in
    progress_stops _ c.from_residual-in_err-put-2.result c.from_residual-in_err-put-2.ensures.0 number refl c.in_err-put-2.ensures

pub returns-in_err-put_number-2 : goal.returns-in_err-put_number-2
returns-in_err-put_number-2 g c =
    let word = progress_goes_on _ (progress_starts _ _) refl c.in_ok-put.ensures in
    let columns = ap (λ n. decimal n ++ (codes " columns " ++ (decimal c.args.rows ++ codes " rows\n"))) (sym c.from.ensures) in
    let number = progress_goes_on _ word columns c.in_ok-put_number.ensures in
    let second = progress_goes_on _ number refl c.in_ok-put-2.ensures in
    let rows = ap (λ n. decimal n ++ codes " rows\n") (sym c.from-2.ensures) in
    progress_stops _ c.from_residual-in_err-put_number-2.result c.from_residual-in_err-put_number-2.ensures.0 second rows c.in_err-put_number-2.ensures

pub returns : goal.returns
returns g c =
    let word = progress_goes_on _ (progress_starts _ _) refl c.in_ok-put.ensures in
    let columns = ap (λ n. decimal n ++ (codes " columns " ++ (decimal c.args.rows ++ codes " rows\n"))) (sym c.from.ensures) in
    let number = progress_goes_on _ word columns c.in_ok-put_number.ensures in
    let second = progress_goes_on _ number refl c.in_ok-put-2.ensures in
    let rows = ap (λ n. decimal n ++ codes " rows\n") (sym c.from-2.ensures) in
    let last = progress_goes_on _ second rows c.in_ok-put_number-2.ensures in
    progress_writes _ c.put-3.result last c.put-3.ensures
