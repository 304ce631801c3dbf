use Rattle.std.proofs.Common.{◌∙◌, ap, refl}
use Rattle.cqlp_bound_values.specs.Bindings.{found_of}
use Rattle.cqlp_bound_values.specs.Texts.{behind_named, value_text}
use Rattle.cqlp_text.proofs.Writing.{progress_starts}
use Rattle.cqlp_bound_values.proofs.Texts.{said_last, said_next, said_stops}
use Rattle.cqlp_bound_values.proofs.text.put_present.Goals as goal

pub returns-in_err-put_str : goal.returns-in_err-put_str
returns-in_err-put_str g c =
    said_stops _ c.from_residual.result c.from_residual.ensures.0 (progress_starts _ _) refl c.separator.ensures c.in_err-put_str.ensures

pub returns-in_err-put_name : goal.returns-in_err-put_name
returns-in_err-put_name g c =
    let s1 = said_next _ (progress_starts _ _) refl c.separator.ensures c.in_ok-put_str.ensures in
    said_stops _ c.from_residual-in_err-put_name.result c.from_residual-in_err-put_name.ensures.0 s1 refl refl c.in_err-put_name.ensures

pub returns-in_err-put_value : goal.returns-in_err-put_value
returns-in_err-put_value g c =
    let s1 = said_next _ (progress_starts _ _) refl c.separator.ensures c.in_ok-put_str.ensures in
    let s2 = said_next _ s1 refl refl c.in_ok-put_name.ensures in
    said_stops _ c.from_residual-in_err-put_value.result c.from_residual-in_err-put_value.ensures.0 s2 refl (ap (λ o. value_text c.args.form o (found_of c.args.item.now)) c.option.ensures) c.in_err-put_value.ensures

pub returns : goal.returns
returns g c =
    let s1 = said_next _ (progress_starts _ _) refl c.separator.ensures c.in_ok-put_str.ensures in
    let s2 = said_next _ s1 refl refl c.in_ok-put_name.ensures in
    let s3 = said_next _ s2 refl (ap (λ o. value_text c.args.form o (found_of c.args.item.now)) c.option.ensures) c.in_ok-put_value.ensures in
    said_last _ _ c.put_str-2.result s3 refl (c.behind_named.ensures ∙ ap (behind_named c.args.form) c.are_named.ensures) c.put_str-2.ensures
