use Rattle.std.proofs.Common.{◌≡◌, length, take, vec_capacity}
use Rattle.cqlp_columns.specs.Batches.{empty_columns, kinds_in, sites_in}
use Rattle.cqlp_columns.proofs.columns.make_columns.Given as goal

abbrev pub invariant-loop-kind : goal.invariant-loop-kind
invariant-loop-kind g l = record {
  items : l.columns.items ≡ empty_columns l.limits (sites_in l.columns.items);
  kinds : kinds_in l.columns.items ≡ take l.kind-index l.kinds;
  capacity : vec_capacity l.columns ≡ length l.kinds;
}
