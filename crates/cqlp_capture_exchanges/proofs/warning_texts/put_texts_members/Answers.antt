use Rattle.std.proofs.Common.{refl}
use Rattle.cqlp_text.proofs.Writing.{progress_starts}
use Rattle.cqlp_capture_exchanges.proofs.Texts.{said_last, said_next, said_stops}
use Rattle.cqlp_capture_exchanges.proofs.warning_texts.put_texts_members.Goals as goal

pub returns-in_err-put : goal.returns-in_err-put
returns-in_err-put g c =
    said_stops _ c.from_residual.result c.from_residual.ensures.0 (progress_starts _ _) refl refl c.in_err-put.ensures

pub returns-in_err-put_string : goal.returns-in_err-put_string
returns-in_err-put_string g c =
    let s1 = said_next _ (progress_starts _ _) refl refl c.in_ok-put.ensures in
    said_stops _ c.from_residual-in_err-put_string.result c.from_residual-in_err-put_string.ensures.0 s1 refl refl c.in_err-put_string.ensures

pub returns-in_err-put_other_texts : goal.returns-in_err-put_other_texts
returns-in_err-put_other_texts g c =
    let s1 = said_next _ (progress_starts _ _) refl refl c.in_ok-put.ensures in
    let s2 = said_next _ s1 refl refl c.in_ok-put_string.ensures in
    said_stops _ c.from_residual-in_err-put_other_texts.result c.from_residual-in_err-put_other_texts.ensures.0 s2 refl refl c.in_err-put_other_texts.ensures

pub returns-in_err-put-2 : goal.returns-in_err-put-2
returns-in_err-put-2 g c =
    let s1 = said_next _ (progress_starts _ _) refl refl c.in_ok-put.ensures in
    let s2 = said_next _ s1 refl refl c.in_ok-put_string.ensures in
    let s3 = said_next _ s2 refl refl c.in_ok-put_other_texts.ensures in
    said_stops _ c.from_residual-in_err-put-2.result c.from_residual-in_err-put-2.ensures.0 s3 refl refl c.in_err-put-2.ensures

pub returns : goal.returns
returns g c =
    let s1 = said_next _ (progress_starts _ _) refl refl c.in_ok-put.ensures in
    let s2 = said_next _ s1 refl refl c.in_ok-put_string.ensures in
    let s3 = said_next _ s2 refl refl c.in_ok-put_other_texts.ensures in
    let s4 = said_next _ s3 refl refl c.in_ok-put-2.ensures in
    said_last _ _ c.put_str.result s4 refl c.whole_text.ensures c.put_str.ensures
