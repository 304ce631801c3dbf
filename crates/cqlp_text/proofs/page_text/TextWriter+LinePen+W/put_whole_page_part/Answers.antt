use Rattle.cqlp_text.proofs.Writing.{progress_starts, progress_goes_on, progress_writes}
use Rattle.std.proofs.Common.{sym, append-nil}
use Rattle.cqlp_text.proofs.page_text.TextWriter+LinePen+W.put_whole_page_part.Goals as goal

pub returns-clause-part : goal.returns-clause-part
returns-clause-part g c = progress_writes _ c.flush.result (progress_goes_on _ (progress_starts _ _) (sym (append-nil _)) c.in_ok-put_page_part.ensures.part) c.flush.ensures.writes
