use Rattle.std.proofs.Common.{◌≡◌, ℕ, List, ◌++◌, length, arith}
use Rattle.std.specs.Prelude.{string_bytes}
use Rattle.std.specs.List.{flat_map}
use Rattle.std.specs.Int.{w16, to_be_bytes}
use Rattle.cqlp_note.specs.declared.field.Notation.TheVariants as notation
use Rattle.cqlp_note.specs.Field as note
use Rattle.cqlp_note.specs.Spelling.{field_bytes}
use Rattle.cqlp_kind.specs.declared.kind.Kind.TheVariants as kind
use Rattle.cqlp_kind.specs.TypeStep.{IsNode}
use Rattle.cqlp_type.specs.Trees.{item_bytes}
use Rattle.cqlp_type_tables.proofs.Appending.{last, all}
use Rattle.cqlp_type_tables.proofs.Options.{own_bytes, field_option, tuple_bytes, udt_bytes}
use Rattle.cqlp_type_tables.proofs.writing.+put_tree.Goals as goal

pub put_fields-returns : goal.put_fields-returns
put_fields-returns g t c = all field_option _ _ _ _ c.loop-name-test.false c.loop-name.invariant

pub put_types-returns : goal.put_types-returns
put_types-returns g t c = all own_bytes _ _ _ _ c.loop-tree-test.false c.loop-tree.invariant

pub put_tree-returns-in_ok-put_count-in-Udt : goal.put_tree-returns-in_ok-put_count-in-Udt
put_tree-returns-in_ok-put_count-in-Udt g t c =
    let inner = rw c.deref-in-Udt-3.ensures.value at c.put_fields.ensures in
    let many : c.len.result ≡ length c.in-Udt.fields.items = omega arith in
    let count = rw many at c.in_ok-put_count-in-Udt.ensures in
    let first = rw c.deref-in-Udt.ensures at c.in_ok-put_text-in-Udt.ensures in
    let second = rw c.deref-in-Udt-2.ensures at c.in_ok-put_text-in-Udt-2.ensures in
    let new = c.put_fields.new.out.items in
    let r = c.put_fields.result in
    let id : List ℕ = item_bytes (IsNode kind.Udt) in
    let keyspace : List ℕ = field_bytes notation.Text16 (note.Text (string_bytes c.in-Udt.keyspace)) in
    let name : List ℕ = field_bytes notation.Text16 (note.Text (string_bytes c.in-Udt.name)) in
    let size : List ℕ = to_be_bytes w16 (length c.in-Udt.fields.items) in
    let fields : List ℕ = flat_map field_option c.in-Udt.fields.items in
    let counted = last c.put_text-in-Udt-2.new.out.items c.put_count.new.out.items new size fields r count inner in
    let named = last c.put_text-in-Udt.new.out.items c.put_text-in-Udt-2.new.out.items new name (size ++ fields) r second counted in
    let emitted = last c.put_kind-in-Udt.new.out.items c.put_text-in-Udt.new.out.items new keyspace (name ++ (size ++ fields)) r first named in
    rw (c.in-Udt.is, udt_bytes c.in-Udt.keyspace c.in-Udt.name c.in-Udt.fields)
    (last c.args.out.now.items c.put_kind-in-Udt.new.out.items new id (keyspace ++ (name ++ (size ++ fields))) r c.in_ok-put_kind-in-Udt.ensures emitted)

pub put_tree-returns-in_ok-put_count-in-Tuple : goal.put_tree-returns-in_ok-put_count-in-Tuple
put_tree-returns-in_ok-put_count-in-Tuple g t c =
    let inner = rw c.deref-in-Tuple.ensures.value at c.put_types.ensures in
    let many : c.len-in-Tuple.result ≡ length c.in-Tuple.types.items = omega arith in
    let count = rw many at c.in_ok-put_count-in-Tuple.ensures in
    let new = c.put_types.new.out.items in
    let r = c.put_types.result in
    let id : List ℕ = item_bytes (IsNode kind.Tuple) in
    let size : List ℕ = to_be_bytes w16 (length c.in-Tuple.types.items) in
    let types : List ℕ = flat_map own_bytes c.in-Tuple.types.items in
    let counted = last c.put_kind-in-Tuple.new.out.items c.put_count-in-Tuple.new.out.items new size types r count inner in
    rw (c.in-Tuple.is, tuple_bytes c.in-Tuple.types) (last c.args.out.now.items c.put_kind-in-Tuple.new.out.items new id (size ++ types) r c.in_ok-put_kind-in-Tuple.ensures counted)
