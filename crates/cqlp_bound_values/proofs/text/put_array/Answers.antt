use Rattle.std.proofs.Common.{◌∙◌, ap, refl}
use Rattle.cqlp_text.specs.CellText.{boolean_text}
use Rattle.cqlp_text.proofs.Writing.{progress_starts}
use Rattle.cqlp_bound_values.proofs.Texts.{said_last, said_next, said_stops}
use Rattle.cqlp_bound_values.proofs.text.put_array.Goals as goal

pub returns-in_err-put : goal.returns-in_err-put
returns-in_err-put g c =
    said_stops _ c.from_residual.result c.from_residual.ensures.0 (progress_starts _ _) refl refl c.in_err-put.ensures

pub returns-in_err-put_items : goal.returns-in_err-put_items
returns-in_err-put_items g c =
    let s1 = said_next _ (progress_starts _ _) refl refl c.in_ok-put.ensures in
    said_stops _ c.from_residual-in_err-put_items.result c.from_residual-in_err-put_items.ensures.0 s1 refl refl c.in_err-put_items.ensures

pub returns-in_err-put-2 : goal.returns-in_err-put-2
returns-in_err-put-2 g c =
    let s1 = said_next _ (progress_starts _ _) refl refl c.in_ok-put.ensures in
    let s2 = said_next _ s1 refl refl c.in_ok-put_items.ensures in
    said_stops _ c.from_residual-in_err-put-2.result c.from_residual-in_err-put-2.ensures.0 s2 refl refl c.in_err-put-2.ensures

pub returns : goal.returns
returns g c =
    let s1 = said_next _ (progress_starts _ _) refl refl c.in_ok-put.ensures in
    let s2 = said_next _ s1 refl refl c.in_ok-put_items.ensures in
    let s3 = said_next _ s2 refl refl c.in_ok-put-2.ensures in
    said_last _ _ c.put_str.result s3 refl (c.boolean_text.ensures ∙ ap boolean_text c.are_whole.ensures) c.put_str.ensures
