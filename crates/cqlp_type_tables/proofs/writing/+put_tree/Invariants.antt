use Rattle.std.proofs.Common.{◌≡◌, ◌++◌, take}
use Rattle.std.specs.List.{flat_map}
use Rattle.cqlp_type_tables.proofs.Options.{own_bytes, field_option}
use Rattle.cqlp_type_tables.proofs.writing.+put_tree.Given as goal

-- the options so far are after what was there
abbrev pub invariant-put_fields-loop-name : goal.invariant-put_fields-loop-name
invariant-put_fields-loop-name g l = l.out.items ≡ l.fn.out.items ++ flat_map field_option (take l.name-index l.fields)

abbrev pub invariant-put_types-loop-tree : goal.invariant-put_types-loop-tree
invariant-put_types-loop-tree g l = l.out.items ≡ l.fn.out.items ++ flat_map own_bytes (take l.tree-index l.types)
