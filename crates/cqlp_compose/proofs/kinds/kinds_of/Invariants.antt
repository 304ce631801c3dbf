use Rattle.std.proofs.Common.{◌≡◌, ◌≤◌, length, vec_capacity, vec_len}
use Rattle.cqlp_compose.proofs.ColumnKinds.{KindsSoFar}
use Rattle.cqlp_compose.proofs.kinds.kinds_of.Given as goal

-- the columns before this one have these kinds
abbrev pub invariant-loop-spec : goal.invariant-loop-spec
invariant-loop-spec l = record {
  kinds : KindsSoFar l.specs l.kinds.items l.spec-index;
  len : vec_len l.kinds ≡ l.spec-index;
  room : length l.specs ≤ vec_capacity l.kinds;
}
