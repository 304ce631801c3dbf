use Rattle.std.proofs.Common.{◌+◌, ◌*◌}
use Rattle.cqlp_text.proofs.Writing.{Progress}
use Rattle.cqlp_bound_values.specs.Columns.{behind_option}
use Rattle.cqlp_bound_values.specs.Nested.{items_as}
use Rattle.cqlp_bound_values.specs.Texts.{all_items, inner_items, typed_text}
use Rattle.cqlp_bound_values.proofs.nested_text.+put_typed.Given as goal

abbrev pub decreases-put_typed : goal.decreases-put_typed
decreases-put_typed g l = 5 * l.depth

abbrev pub decreases-put_inner : goal.decreases-put_inner
decreases-put_inner g l = 5 * l.depth + 1

abbrev pub decreases-put_first : goal.decreases-put_first
decreases-put_first g l = 5 * l.depth + 2

abbrev pub decreases-put_items : goal.decreases-put_items
decreases-put_items g l = 5 * l.depth + 3

abbrev pub decreases-put_nested : goal.decreases-put_nested
decreases-put_nested g l = 5 * l.depth + 4

abbrev pub invariant-put_items-loop-rest : goal.invariant-put_items-loop-rest
invariant-put_items-loop-rest g l =
    Progress l.initial.writer (all_items (typed_text l.depth l.form) (behind_option l.depth) l.form (items_as l.items))
    (inner_items (typed_text l.depth l.form) (behind_option l.depth) l.form l.rest.left l.turn (items_as l.rest)) l.writer

abbrev pub decreases-put_items-loop-rest : goal.decreases-put_items-loop-rest
decreases-put_items-loop-rest g l = l.rest.left
