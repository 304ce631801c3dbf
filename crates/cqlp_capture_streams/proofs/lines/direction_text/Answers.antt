use Rattle.std.proofs.Common.{append_assoc, string_bytes}
use Rattle.cqlp_capture_streams.proofs.Written.{said}
use Rattle.cqlp_capture_streams.proofs.lines.direction_text.Goals as goal

pub returns : goal.returns
returns g c = said c.format.result string_bytes _ _ c.format.ensures.ok (simp (append_assoc, c.begin_name-begin.ensures, c.end_name-end.ensures, c.saturating_add-gaps.ensures))
