use Rattle.std.proofs.Common.{◌≡◌, ◌+◌, ◌*◌}
use Rattle.cqlp_bound_values.specs.Columns.{behind_count, behind_fields, behind_option}
use Rattle.cqlp_bound_values.proofs.column_types.+behind_option.Given as goal

abbrev pub decreases-behind_option : goal.decreases-behind_option
decreases-behind_option l = 3 * l.depth

abbrev pub decreases-behind_fields : goal.decreases-behind_fields
decreases-behind_fields l = 3 * l.depth + 1

abbrev pub decreases-behind_kind : goal.decreases-behind_kind
decreases-behind_kind l = 3 * l.depth + 2

-- the fields that are left end where all do
abbrev pub invariant-behind_fields-loop-left : goal.invariant-behind_fields-loop-left
invariant-behind_fields-loop-left l =
    behind_fields (behind_option l.depth) l.are_named l.left l.rest ≡ behind_count (behind_option l.fn.depth) l.fn.are_named l.fn.bytes

abbrev pub decreases-behind_fields-loop-left : goal.decreases-behind_fields-loop-left
decreases-behind_fields-loop-left l = l.left
