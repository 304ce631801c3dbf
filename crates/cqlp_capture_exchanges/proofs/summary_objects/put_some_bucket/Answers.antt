use Rattle.std.proofs.Common.{ap, refl}
use Rattle.cqlp_text.proofs.Writing.{progress_starts}
use Rattle.cqlp_capture_exchanges.proofs.Texts.{said_last, said_next, said_stops}
use Rattle.cqlp_json.specs.Lines.{texts}
use Rattle.cqlp_capture_exchanges.specs.SummaryObjects.{pair_members}
use Rattle.cqlp_capture_exchanges.proofs.summary_objects.put_some_bucket.Goals as goal

pub returns-in_err-put_str : goal.returns-in_err-put_str
returns-in_err-put_str g c =
    said_stops _ c.from_residual.result c.from_residual.ensures.0 (progress_starts _ _) refl c.separator.ensures c.in_err-put_str.ensures

pub returns-in_err-put_pair : goal.returns-in_err-put_pair
returns-in_err-put_pair g c =
    let s1 = said_next _ (progress_starts _ _) refl c.separator.ensures c.in_ok-put_str.ensures in
    said_stops _ c.from_residual-in_err-put_pair.result c.from_residual-in_err-put_pair.ensures.0 s1 refl (ap (λ t. texts (pair_members t c.args.count)) c.greatest_in-greatest.ensures) c.in_err-put_pair.ensures

pub returns : goal.returns
returns g c =
    let s1 = said_next _ (progress_starts _ _) refl c.separator.ensures c.in_ok-put_str.ensures in
    let s2 = said_next _ s1 refl (ap (λ t. texts (pair_members t c.args.count)) c.greatest_in-greatest.ensures) c.in_ok-put_pair.ensures in
    said_last _ _ c.put.result s2 refl refl c.put.ensures
