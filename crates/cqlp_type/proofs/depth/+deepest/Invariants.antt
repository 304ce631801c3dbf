use Rattle.std.proofs.Common.{ℕ, ◌≤◌, length}
use Rattle.std.specs.Prelude.{max}
use Rattle.cqlp_type.specs.Depths.{IsDepth}
use Rattle.cqlp_type.proofs.depth.+deepest.Given as goal

abbrev pub decreases-deepest : goal.decreases-deepest
decreases-deepest l = length l.nodes.now

-- the depth of all nodes from that of the rest
abbrev pub invariant-loop-first : goal.invariant-loop-first
invariant-loop-first l = record { depth : (b : ℕ) → IsDepth l.rest b → IsDepth l.fn.nodes (max l.depth b); few : length l.rest ≤ length l.fn.nodes }

abbrev pub decreases-loop-first : goal.decreases-loop-first
decreases-loop-first l = length l.rest
