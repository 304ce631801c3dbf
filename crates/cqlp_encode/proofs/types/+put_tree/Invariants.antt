use Rattle.std.proofs.Common.{take}
use Rattle.std.specs.List.{flat_map}
use Rattle.cqlp_encode.specs.Progress.{Puts}
use Rattle.cqlp_encode.proofs.Options.{own_bytes, field_option}
use Rattle.cqlp_encode.proofs.types.+put_tree.Given as goal

-- the options so far are taken
abbrev pub invariant-put_fields-loop-name : goal.invariant-put_fields-loop-name
invariant-put_fields-loop-name g l = Puts l.fn.out (flat_map field_option (take l.name-index l.fields)) l.out

abbrev pub invariant-put_types-loop-tree : goal.invariant-put_types-loop-tree
invariant-put_types-loop-tree g l = Puts l.fn.out (flat_map own_bytes (take l.tree-index l.types)) l.out
