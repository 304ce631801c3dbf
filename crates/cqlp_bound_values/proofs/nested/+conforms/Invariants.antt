use Rattle.std.proofs.Common.{◌≡◌, ◌+◌, ◌*◌}
use Rattle.cqlp_bound_values.specs.Columns.{behind_option}
use Rattle.cqlp_bound_values.specs.Nested.{all_conform, conforms, items_as}
use Rattle.cqlp_bound_values.proofs.nested.+conforms.Given as goal

abbrev pub decreases-conforms : goal.decreases-conforms
decreases-conforms l = 4 * l.depth

abbrev pub decreases-item_conforms : goal.decreases-item_conforms
decreases-item_conforms l = 4 * l.depth + 1

abbrev pub decreases-items_conform : goal.decreases-items_conform
decreases-items_conform l = 4 * l.depth + 2

abbrev pub decreases-kind_conforms : goal.decreases-kind_conforms
decreases-kind_conforms l = 4 * l.depth + 3

-- all conform if those that are left do
abbrev pub invariant-items_conform-loop-rest : goal.invariant-items_conform-loop-rest
invariant-items_conform-loop-rest l =
    all_conform (conforms l.depth) (behind_option l.depth) (items_as l.rest) ≡ all_conform (conforms l.depth) (behind_option l.depth) (items_as l.items)

abbrev pub decreases-items_conform-loop-rest : goal.decreases-items_conform-loop-rest
decreases-items_conform-loop-rest l = l.rest.left
