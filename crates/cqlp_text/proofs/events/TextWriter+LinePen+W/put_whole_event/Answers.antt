use Rattle.cqlp_text.proofs.Writing.{progress_starts, progress_goes_on, progress_writes}
use Rattle.std.proofs.Common.{sym, append-nil}
use Rattle.cqlp_text.proofs.events.TextWriter+LinePen+W.put_whole_event.Goals as goal

pub returns-clause-line : goal.returns-clause-line
returns-clause-line g c = progress_writes _ c.flush.result (progress_goes_on _ (progress_starts _ _) (sym (append-nil _)) c.in_ok-put_event.ensures) c.flush.ensures.writes
