use Rattle.std.proofs.Common.{append-nil, sym, arith, rules}
use Rattle.std.proofs.lemmas.Grind.{common_steps}
use Rattle.std.specs.Net.Text.{hex}
use Rattle.cqlp_text.proofs.Writing.{progress_starts}
use Rattle.cqlp_capture_exchanges.proofs.Texts.{said_last}
use Rattle.cqlp_capture_exchanges.proofs.end.put_segment.Goals as goal

pub returns : goal.returns
unfolding hex
returns g c =
    said_last _ _ c.put.result (progress_starts _ _) (sym (append-nil _)) (first_of (search rules, grind (arith, common_steps))) c.put.ensures
