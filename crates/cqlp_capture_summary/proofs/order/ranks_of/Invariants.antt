use Rattle.std.proofs.Common.{◌≡◌, ◌<◌, ℕ, length, slice_index_or}
use Rattle.cqlp_capture_summary.specs.Order.{rank_of}
use Rattle.cqlp_capture_summary.proofs.order.ranks_of.Given as goal

abbrev pub invariant-loop-place : goal.invariant-loop-place
invariant-loop-place l = (length l.ranks ≡ 256) × ((k : ℕ) → k < l.place → slice_index_or l.ranks k 0 ≡ rank_of k l.tallies)
