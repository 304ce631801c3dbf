use Rattle.std.proofs.Common.{refl, rules, w32}
use Rattle.std.proofs.lemmas.Int.{to_z-of_z}
use Rattle.cqlp_text.proofs.Writing.{progress_starts}
use Rattle.cqlp_capture_exchanges.proofs.Texts.{said_last, said_next, said_stops}
use Rattle.cqlp_capture_exchanges.proofs.details_line.put_known_received.Goals as goal

pub returns-in_err-put_consistency : goal.returns-in_err-put_consistency
returns-in_err-put_consistency g c =
    said_stops _ c.from_residual.result c.from_residual.ensures.0 (progress_starts _ _) refl refl c.in_err-put_consistency.ensures

pub returns : goal.returns
returns g c =
    let s1 = said_next _ (progress_starts _ _) refl refl c.in_ok-put_consistency.ensures in
    rw (← to_z-of_z w32 c.args.received (search rules), ← to_z-of_z w32 c.args.required (search rules))
    (said_last _ _ c.put_received_of.result s1 refl refl c.put_received_of.ensures)
