use Rattle.std.proofs.Common.{None, refl}
use Rattle.cqlp_type.specs.Trees.{types_in}
use Rattle.cqlp_type.specs.TypeTrees.{tree_of}
use Rattle.cqlp_value.specs.Owned.{value_of}
use Rattle.cqlp_build_cells.proofs.Whole.{built_refused, built_whole}
use Rattle.cqlp_build_cells.proofs.held.CellEvents.whole.Goals as goal

pub returns-in-None : goal.returns-in-None
returns-in-None c =
    built_whole (types_in (tree_of c.args.tree.now)) (record c.args.self.now { fault = None }) c.value-value.new.self c.check.new.self (value_of c.value-value.result) c.is_over-over.result
    c.value-value.ensures.is c.check.ensures.is c.is_over-over.ensures.0 c.in-None.is

pub returns-in-Some : goal.returns-in-Some
returns-in-Some c =
    rw c.refusal.ensures
    (built_refused (types_in (tree_of c.args.tree.now)) (record c.args.self.now { fault = None }) c.value-value.new.self c.check.new.self (value_of c.value-value.result) c.is_over-over.result
    c.value-value.ensures.is c.check.ensures.is c.is_over-over.ensures.0 c.is_over-over.ensures.1 refl c.in-Some.why c.in-Some.is)
