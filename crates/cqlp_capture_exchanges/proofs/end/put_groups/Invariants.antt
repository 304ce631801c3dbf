use Rattle.std.proofs.Common.{◌++◌, codes, drop}
use Rattle.std.specs.List.{flat_map}
use Rattle.std.specs.Net.Text.{groups_text, hex}
use Rattle.cqlp_text.proofs.Writing.{Progress}
use Rattle.cqlp_capture_exchanges.proofs.end.put_groups.Given as goal

abbrev pub invariant-loop-segment : goal.invariant-loop-segment
invariant-loop-segment g l = Progress l.fn.writer (groups_text l.segments) (flat_map (λ t. codes ":" ++ hex t) (drop l.segment-index l.rest)) l.writer
