use Rattle.std.proofs.Common.{refl}
use Rattle.cqlp_text.proofs.Writing.{progress_starts}
use Rattle.cqlp_capture_exchanges.proofs.Texts.{said_last, said_next, said_stops}
use Rattle.cqlp_capture_exchanges.proofs.attribute.put_id_name.Goals as goal

pub returns-in_err-put_str : goal.returns-in_err-put_str
returns-in_err-put_str g c =
    said_stops _ c.from_residual.result c.from_residual.ensures.0 (progress_starts _ _) refl c.opcode_name.ensures c.in_err-put_str.ensures

pub returns : goal.returns
returns g c =
    let s1 = said_next _ (progress_starts _ _) refl c.opcode_name.ensures c.in_ok-put_str.ensures in
    said_last _ _ c.put_id.result s1 refl refl c.put_id.ensures
