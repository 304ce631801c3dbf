use Rattle.std.proofs.Common.{drop}
use Rattle.std.specs.List.{flat_map}
use Rattle.cqlp_text.proofs.Writing.{Progress}
use Rattle.cqlp_capture_exchanges.specs.Members.{member_text}
use Rattle.cqlp_capture_exchanges.proofs.member.put_members.Given as goal

abbrev pub invariant-loop-member : goal.invariant-loop-member
invariant-loop-member g l = Progress l.fn.writer (flat_map member_text l.members) (flat_map member_text (drop l.member-index l.members)) l.writer
