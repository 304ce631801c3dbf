use Rattle.std.proofs.Common.{◌∙◌, ap, arith}
use Rattle.cqlp_type.proofs.TreeSizes.{size_of, list_size, set_size, map_size, tuple_size, udt_size, types_size_next, fields_size_next}
use Rattle.cqlp_type.proofs.size.+type_size.Goals as goal

pub types_size-loop-tree-preserved : goal.types_size-loop-tree-preserved
types_size-loop-tree-preserved t c =
    let next = types_size_next c.args.types.now c.loop-tree.tree-index c.tree-item.result c.tree-item.is c.loop-tree-test.true in
    let size = c.loop-tree.invariant in
    omega arith

pub fields_size-loop-name-preserved : goal.fields_size-loop-name-preserved
fields_size-loop-name-preserved t c =
    let next = fields_size_next c.args.fields.now c.loop-name.name-index c.loop-name-item.result c.loop-name-item.is c.loop-name-test.true in
    let size = c.loop-name.invariant in
    omega arith

pub type_size-returns-in-List : goal.type_size-returns-in-List
type_size-returns-in-List t c =
    let whole = ap size_of c.in-List.is ∙ list_size c.in-List.inner in
    let inner = rw c.deref.ensures at c.type_size.ensures in
    omega arith

pub type_size-returns-in-Set : goal.type_size-returns-in-Set
type_size-returns-in-Set t c =
    let whole = ap size_of c.in-Set.is ∙ set_size c.in-Set.inner in
    let inner = rw c.deref-in-Set.ensures at c.type_size-in-Set.ensures in
    omega arith

pub type_size-returns-in-Map : goal.type_size-returns-in-Map
type_size-returns-in-Map t c =
    let whole = ap size_of c.in-Map.is ∙ map_size c.in-Map.key c.in-Map.value in
    let key = rw c.deref-in-Map.ensures at c.type_size-in-Map.ensures in
    let value = rw c.deref-in-Map-2.ensures at c.type_size-in-Map-2.ensures in
    omega arith

pub type_size-returns-in-Tuple : goal.type_size-returns-in-Tuple
type_size-returns-in-Tuple t c =
    let whole = ap size_of c.in-Tuple.is ∙ tuple_size c.in-Tuple.types in
    let inner = rw c.deref-in-Tuple.ensures.value at c.types_size.ensures in
    omega arith

pub type_size-returns-in-Udt : goal.type_size-returns-in-Udt
type_size-returns-in-Udt t c =
    let whole = ap size_of c.in-Udt.is ∙ udt_size c.in-Udt.keyspace c.in-Udt.name c.in-Udt.fields in
    let inner = rw c.deref-in-Udt.ensures.value at c.fields_size.ensures in
    omega arith
