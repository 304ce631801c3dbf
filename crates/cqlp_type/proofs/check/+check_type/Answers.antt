use Rattle.std.proofs.Common.{◌≡◌, ℕ, false, ◌^◌, length, refl, sym, ap, ◌∙◌, arith}
use Rattle.std.specs.Prelude.{nat_lt, string_bytes}
use Rattle.cqlp_type.specs.declared.check.TreeCheck.{TreeCheck}
use Rattle.cqlp_type.specs.declared.tree.TypeTree.{TypeTree}
use Rattle.cqlp_type.specs.TreeChecks.{checks_of}
use Rattle.cqlp_type.specs.TypeTrees.{tree_of}
use Rattle.cqlp_type.proofs.TreeChecks.{both_same, same_check, map_check, tuple_check, udt_check, udt_head, count_check, text_check, types_next, fields_next}
use Rattle.cqlp_type.proofs.check.+check_type.Goals as goal

abbrev of_tree : TypeTree → TreeCheck
of_tree t = checks_of false (tree_of t)

pub check_type-returns-in-Map : goal.check_type-returns-in-Map
check_type-returns-in-Map t c =
    c.and.ensures ∙ both_same (c.check_type.ensures ∙ ap of_tree c.deref.ensures) (c.check_type-in-Map.ensures ∙ ap of_tree c.deref-in-Map.ensures)
    ∙ map_check c.in-Map.key c.in-Map.value ∙ ap of_tree (sym c.in-Map.is)

pub check_type-returns-in-Tuple : goal.check_type-returns-in-Tuple
check_type-returns-in-Tuple t c =
    let types = c.in-Tuple.types in
    let many : c.len-in-Tuple.result ≡ length types.items = omega arith in
    let head : c.checked-in-Tuple.result ≡ count_check (length types.items) = c.checked-in-Tuple.ensures ∙ same_check _ _ _ _ _ _ refl (c.is_counted-in-Tuple.ensures ∙ ap (λ (n : ℕ). nat_lt n (2 ^ 16)) many) refl in
    c.and-in-Tuple.ensures ∙ both_same head (rw c.deref-in-Tuple.ensures.value at c.check_types.ensures) ∙ tuple_check types ∙ ap of_tree (sym c.in-Tuple.is)

pub check_type-returns-in-Udt : goal.check_type-returns-in-Udt
check_type-returns-in-Udt t c =
    let fields = c.in-Udt.fields in
    let k = string_bytes c.in-Udt.keyspace in
    let m = string_bytes c.in-Udt.name in
    let many : c.len-in-Udt.result ≡ length fields.items = omega arith in
    let k_long : c.len-in-Udt-2.result ≡ length k = omega arith in
    let m_long : c.len-in-Udt-3.result ≡ length m = omega arith in
    let first = c.checked-in-Udt.ensures ∙ same_check _ _ _ _ _ _ refl (c.is_counted-counts.ensures ∙ ap (λ (n : ℕ). nat_lt n (2 ^ 16)) many) (c.is_counted-in-Udt.ensures ∙ ap (λ (n : ℕ). nat_lt n (2 ^ 16)) k_long) in
    let second = c.checked-in-Udt-2.ensures ∙ same_check _ _ _ _ _ _ refl refl (c.is_counted-in-Udt-2.ensures ∙ ap (λ (n : ℕ). nat_lt n (2 ^ 16)) m_long) in
    let head : c.and-texts.result ≡ udt_head (length fields.items) k m = c.and-texts.ensures ∙ both_same first second in
    c.and-in-Udt.ensures ∙ both_same head (rw c.deref-in-Udt.ensures.value at c.check_fields.ensures) ∙ udt_check c.in-Udt.keyspace c.in-Udt.name fields ∙ ap of_tree (sym c.in-Udt.is)

pub check_types-loop-tree-preserved : goal.check_types-loop-tree-preserved
check_types-loop-tree-preserved t c =
    c.and-check.ensures ∙ both_same c.loop-tree.invariant c.check_type.ensures ∙ types_next c.args.types.now c.loop-tree.tree-index c.tree-item.result c.tree-item.is c.loop-tree-test.true

pub check_fields-loop-name-preserved : goal.check_fields-loop-name-preserved
check_fields-loop-name-preserved t c =
    let x = c.loop-name-item.result in
    let long : c.len.result ≡ length (string_bytes x.0) = omega arith in
    let named : c.checked-named.result ≡ text_check (string_bytes x.0) = c.checked-named.ensures ∙ same_check _ _ _ _ _ _ refl refl (c.is_counted.ensures ∙ ap (λ (n : ℕ). nat_lt n (2 ^ 16)) long) in
    c.and-check.ensures ∙ both_same c.loop-name.invariant (c.and.ensures ∙ both_same named c.check_type.ensures) ∙ fields_next c.args.fields.now c.loop-name.name-index x c.loop-name-item.is c.loop-name-test.true
