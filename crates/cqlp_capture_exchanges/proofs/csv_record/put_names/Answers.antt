use Rattle.std.proofs.Common.{sym, append-nil}
use Rattle.cqlp_text.proofs.Writing.{progress_starts, progress_goes_on, progress_writes}
use Rattle.cqlp_capture_exchanges.proofs.csv_record.put_names.Goals as goal

pub returns-clause-text : goal.returns-clause-text
returns-clause-text g c = progress_writes _ c.pass_on.result (progress_goes_on _ (progress_starts _ _) (sym (append-nil _)) c.in_ok-put_names_if_first.ensures) c.pass_on.ensures.writes
