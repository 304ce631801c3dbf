use Rattle.std.proofs.Common.{append_assoc, string_bytes}
use Rattle.cqlp_capture_streams.proofs.Written.{said}
use Rattle.cqlp_capture_streams.proofs.lines.end_text.Goals as goal

pub returns-in-V4 : goal.returns-in-V4
returns-in-V4 g c = said c.format.result string_bytes _ _ c.format.ensures.ok (simp (append_assoc, c.in-V4.is, c.from-ip.ensures))

pub returns-in-V6 : goal.returns-in-V6
returns-in-V6 g c = said c.format-in-V6.result string_bytes _ _ c.format-in-V6.ensures.ok (simp (append_assoc, c.in-V6.is, c.from-ip-in-V6.ensures))
