use Rattle.std.proofs.Common.{◌≡◌, ◌+◌, ℕ, drop}
use Rattle.std.specs.Prelude.{slice_get}
use Rattle.cqlp_type.specs.Table.{beginnings}
use Rattle.cqlp_type.proofs.table.beginning.Given as goal

abbrev pub invariant-loop : goal.invariant-loop
invariant-loop l = (j : ℕ) → slice_get (beginnings l.first 0 l.nodes) (l.counter + j) ≡ slice_get (beginnings (l.first + l.at) 0 (drop l.at l.nodes)) j
