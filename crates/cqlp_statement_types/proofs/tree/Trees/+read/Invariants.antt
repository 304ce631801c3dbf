use Rattle.std.proofs.Common.{◌+◌, ◌*◌}
use Rattle.cqlp_statement_types.proofs.tree.Trees.+read.Given as goal

abbrev pub decreases-read : goal.decreases-read
decreases-read l = 2 * l.depth

abbrev pub decreases-read_all : goal.decreases-read_all
decreases-read_all l = 2 * l.depth + 1
