use Rattle.std.proofs.Common.{◌≡◌, length, arith}
use Rattle.cqlp_encode.proofs.Taking.{puts_nil, puts_item, puts_all, puts_then}
use Rattle.cqlp_encode.proofs.Options.{own_bytes, field_option, tuple_bytes, udt_bytes}
use Rattle.cqlp_encode.proofs.types.+put_tree.Goals as goal

pub put_fields-loop-name-init : goal.put_fields-loop-name-init
put_fields-loop-name-init g t c = puts_nil _

pub put_fields-loop-name-preserved : goal.put_fields-loop-name-preserved
put_fields-loop-name-preserved g t c =
    let named = rw c.deref.ensures at c.put_text.ensures in
    puts_item field_option _ _ _ c.loop-name-item.is c.loop-name-test.true c.loop-name.invariant (puts_then _ _ _ _ _ named c.put_tree.ensures)

pub put_fields-returns : goal.put_fields-returns
put_fields-returns g t c = puts_all field_option _ _ c.loop-name-test.false c.loop-name.invariant

pub put_types-loop-tree-init : goal.put_types-loop-tree-init
put_types-loop-tree-init g t c = puts_nil _

pub put_types-loop-tree-preserved : goal.put_types-loop-tree-preserved
put_types-loop-tree-preserved g t c = puts_item own_bytes _ _ _ c.tree-item.is c.loop-tree-test.true c.loop-tree.invariant c.put_tree.ensures

pub put_types-returns : goal.put_types-returns
put_types-returns g t c = puts_all own_bytes _ _ c.loop-tree-test.false c.loop-tree.invariant

pub put_tree-returns-in-Udt : goal.put_tree-returns-in-Udt
put_tree-returns-in-Udt g t c =
    let inner = rw c.deref-in-Udt-3.ensures.value at c.put_fields.ensures in
    let many : c.len.result ≡ length c.in-Udt.fields.items = omega arith in
    let count = rw many at c.put_count16.ensures in
    let first = rw c.deref-in-Udt.ensures at c.put_text-in-Udt.ensures in
    let second = rw c.deref-in-Udt-2.ensures at c.put_text-in-Udt-2.ensures in
    rw (c.in-Udt.is, udt_bytes c.in-Udt.keyspace c.in-Udt.name c.in-Udt.fields)
    (puts_then _ _ _ _ _ c.put_kind-in-Udt.ensures (puts_then _ _ _ _ _ first (puts_then _ _ _ _ _ second (puts_then _ _ _ _ _ count inner))))

pub put_tree-returns-in-Tuple : goal.put_tree-returns-in-Tuple
put_tree-returns-in-Tuple g t c =
    let inner = rw c.deref-in-Tuple.ensures.value at c.put_types.ensures in
    let many : c.len-in-Tuple.result ≡ length c.in-Tuple.types.items = omega arith in
    let count = rw many at c.put_count16-in-Tuple.ensures in
    rw (c.in-Tuple.is, tuple_bytes c.in-Tuple.types) (puts_then _ _ _ _ _ c.put_kind-in-Tuple.ensures (puts_then _ _ _ _ _ count inner))
