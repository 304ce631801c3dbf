use Rattle.std.proofs.Common.{◌∙◌, ap, arith}
use Rattle.cqlp_type_tables.proofs.Counts.{nodes_of, list_nodes, set_nodes, map_nodes, tuple_nodes, udt_nodes, types_next, fields_next}
use Rattle.cqlp_type_tables.proofs.count.+count_nodes.Goals as goal

pub count_types-loop-tree-preserved : goal.count_types-loop-tree-preserved
count_types-loop-tree-preserved t c =
    let next = types_next c.args.types.now c.loop-tree.tree-index c.tree-item.result c.tree-item.is c.loop-tree-test.true in
    let count = c.loop-tree.invariant in
    omega arith

pub count_fields-loop-name-preserved : goal.count_fields-loop-name-preserved
count_fields-loop-name-preserved t c =
    let next = fields_next c.args.fields.now c.loop-name._name-index c.loop-name-item.result c.loop-name-item.is c.loop-name-test.true in
    let count = c.loop-name.invariant in
    omega arith

pub count_nodes-returns-in-List : goal.count_nodes-returns-in-List
count_nodes-returns-in-List t c =
    let whole = ap nodes_of c.in-List.is ∙ list_nodes c.in-List.inner in
    let inner = rw c.deref.ensures at c.count_nodes.ensures in
    omega arith

pub count_nodes-returns-in-Set : goal.count_nodes-returns-in-Set
count_nodes-returns-in-Set t c =
    let whole = ap nodes_of c.in-Set.is ∙ set_nodes c.in-Set.inner in
    let inner = rw c.deref-in-Set.ensures at c.count_nodes-in-Set.ensures in
    omega arith

pub count_nodes-returns-in-Map : goal.count_nodes-returns-in-Map
count_nodes-returns-in-Map t c =
    let whole = ap nodes_of c.in-Map.is ∙ map_nodes c.in-Map.key c.in-Map.value in
    let key = rw c.deref-in-Map.ensures at c.count_nodes-in-Map.ensures in
    let value = rw c.deref-in-Map-2.ensures at c.count_nodes-in-Map-2.ensures in
    omega arith

pub count_nodes-returns-in-Tuple : goal.count_nodes-returns-in-Tuple
count_nodes-returns-in-Tuple t c =
    let whole = ap nodes_of c.in-Tuple.is ∙ tuple_nodes c.in-Tuple.types in
    let inner = rw c.deref-in-Tuple.ensures.value at c.count_types.ensures in
    omega arith

pub count_nodes-returns-in-Udt : goal.count_nodes-returns-in-Udt
count_nodes-returns-in-Udt t c =
    let whole = ap nodes_of c.in-Udt.is ∙ udt_nodes c.in-Udt.keyspace c.in-Udt.name c.in-Udt.fields in
    let inner = rw c.deref-in-Udt.ensures.value at c.count_fields.ensures in
    omega arith
