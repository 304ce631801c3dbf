use Rattle.std.proofs.Common.{◌≡◌, ◌+◌, ◌&&◌, true, false, Bool, length, drop, sym, ap, ◌∙◌, arith}
use Rattle.cqlp_kind.specs.Types.{Types, first_types}
use Rattle.cqlp_type.specs.Trees.{types_in}
use Rattle.cqlp_type.specs.TypeTrees.{inner_of}
use Rattle.cqlp_type.specs.declared.tree.TypeTree.{TypeTree}
use Rattle.cqlp_value.specs.Values.{values_fit}
use Rattle.cqlp_value.specs.Measures.{all_fit, all_pairs_fit, all_fields_fit, fits_tree, listed_values}
use Rattle.cqlp_value.proofs.ValueFits.{items_next, pairs_next, fields_next, too_many, first_true, first_false, list_fits, set_fits, map_fits, tuple_fits, udt_fits, no_items, no_pairs, no_fields, tuple_types, udt_types, no_inner, no_pair}
use Rattle.cqlp_value.proofs.fitting.+fits.Goals as goal

pub is_any_of-returns-then-has_count : goal.is_any_of-returns-then-has_count
is_any_of-returns-then-has_count t c =
    let tree = c.args.tree.now in
    let items = c.in-List.items in
    let n : c.len.result ≡ length items.items = omega arith in
    let whole = ap (λ x. fits_tree x tree) c.in-List.is ∙ list_fits items tree in
    rw c.deref.ensures.value at c.items_fit.ensures ∙ first_true _ _ _ _ whole (rw n at c.has_count.ensures) c.if-has_count.true

pub is_any_of-returns-else-has_count : goal.is_any_of-returns-else-has_count
is_any_of-returns-else-has_count t c =
    let tree = c.args.tree.now in
    let items = c.in-List.items in
    let n : c.len.result ≡ length items.items = omega arith in
    let whole = ap (λ x. fits_tree x tree) c.in-List.is ∙ list_fits items tree in
    c.if-has_count.false ∙ first_false _ _ _ _ whole (rw n at c.has_count.ensures) c.if-has_count.false

pub is_any_of-returns-then-has_count-2 : goal.is_any_of-returns-then-has_count-2
is_any_of-returns-then-has_count-2 t c =
    let tree = c.args.tree.now in
    let items = c.in-Set.items in
    let n : c.len-in-Set.result ≡ length items.items = omega arith in
    let whole = ap (λ x. fits_tree x tree) c.in-Set.is ∙ set_fits items tree in
    rw c.deref-then-has_count-2.ensures.value at c.items_fit-then-has_count-2.ensures ∙ first_true _ _ _ _ whole (rw n at c.has_count-in-Set.ensures) c.if-has_count-2.true

pub is_any_of-returns-else-has_count-2 : goal.is_any_of-returns-else-has_count-2
is_any_of-returns-else-has_count-2 t c =
    let tree = c.args.tree.now in
    let items = c.in-Set.items in
    let n : c.len-in-Set.result ≡ length items.items = omega arith in
    let whole = ap (λ x. fits_tree x tree) c.in-Set.is ∙ set_fits items tree in
    c.if-has_count-2.false ∙ first_false _ _ _ _ whole (rw n at c.has_count-in-Set.ensures) c.if-has_count-2.false

pub is_any_of-returns-then-has_count-3 : goal.is_any_of-returns-then-has_count-3
is_any_of-returns-then-has_count-3 t c =
    let tree = c.args.tree.now in
    let pairs = c.in-Map.pairs in
    let n : c.len-in-Map.result ≡ length pairs.items = omega arith in
    let whole = ap (λ x. fits_tree x tree) c.in-Map.is ∙ map_fits pairs tree in
    rw c.deref-then-has_count-3.ensures.value at c.pairs_fit.ensures ∙ first_true _ _ _ _ whole (rw n at c.has_count-in-Map.ensures) c.if-has_count-3.true

pub is_any_of-returns-else-has_count-3 : goal.is_any_of-returns-else-has_count-3
is_any_of-returns-else-has_count-3 t c =
    let tree = c.args.tree.now in
    let pairs = c.in-Map.pairs in
    let n : c.len-in-Map.result ≡ length pairs.items = omega arith in
    let whole = ap (λ x. fits_tree x tree) c.in-Map.is ∙ map_fits pairs tree in
    c.if-has_count-3.false ∙ first_false _ _ _ _ whole (rw n at c.has_count-in-Map.ensures) c.if-has_count-3.false

pub is_any_of-returns-then-has_some : goal.is_any_of-returns-then-has_some
is_any_of-returns-then-has_some t c =
    let tree = c.args.tree.now in
    let items = c.in-Tuple.items in
    let n : c.len-in-Tuple.result ≡ length items.items = omega arith in
    let whole = ap (λ x. fits_tree x tree) c.in-Tuple.is ∙ tuple_fits items tree in
    rw c.deref-then-has_some.ensures.value at c.fields_fit.ensures ∙ first_true _ _ _ _ whole (rw n at c.has_some.ensures) c.if-has_some.true

pub is_any_of-returns-else-has_some : goal.is_any_of-returns-else-has_some
is_any_of-returns-else-has_some t c =
    let tree = c.args.tree.now in
    let items = c.in-Tuple.items in
    let n : c.len-in-Tuple.result ≡ length items.items = omega arith in
    let whole = ap (λ x. fits_tree x tree) c.in-Tuple.is ∙ tuple_fits items tree in
    c.if-has_some.false ∙ first_false _ _ _ _ whole (rw n at c.has_some.ensures) c.if-has_some.false

pub is_any_of-returns-then-has_some-2 : goal.is_any_of-returns-then-has_some-2
is_any_of-returns-then-has_some-2 t c =
    let tree = c.args.tree.now in
    let items = c.in-Udt.items in
    let n : c.len-in-Udt.result ≡ length items.items = omega arith in
    let whole = ap (λ x. fits_tree x tree) c.in-Udt.is ∙ udt_fits items tree in
    rw c.deref-then-has_some-2.ensures.value at c.fields_fit-then-has_some-2.ensures ∙ first_true _ _ _ _ whole (rw n at c.has_some-in-Udt.ensures) c.if-has_some-2.true

pub is_any_of-returns-else-has_some-2 : goal.is_any_of-returns-else-has_some-2
is_any_of-returns-else-has_some-2 t c =
    let tree = c.args.tree.now in
    let items = c.in-Udt.items in
    let n : c.len-in-Udt.result ≡ length items.items = omega arith in
    let whole = ap (λ x. fits_tree x tree) c.in-Udt.is ∙ udt_fits items tree in
    c.if-has_some-2.false ∙ first_false _ _ _ _ whole (rw n at c.has_some-in-Udt.ensures) c.if-has_some-2.false

pub each_fits-loop-item-preserved : goal.each_fits-loop-item-preserved
each_fits-loop-item-preserved t c =
    let i = c.loop-item.item-index in
    let items = c.args.items.now in
    let tree = c.args.tree.now in
    let v = c.item-item.result in
    let next = items_next tree items i v c.item-item.is c.loop-item-test.true in
    let fit : fits_tree v tree ≡ true = sym c.is_of.ensures ∙ c.if-not-is_of.false in
    c.loop-item.invariant ∙ next ∙ ap (λ (b : Bool). b && all_fit tree (drop (i + 1) items)) fit

pub each_fits-returns-then-not-is_of : goal.each_fits-returns-then-not-is_of
each_fits-returns-then-not-is_of t c =
    let i = c.loop-item.item-index in
    let items = c.args.items.now in
    let tree = c.args.tree.now in
    let v = c.item-item.result in
    let next = items_next tree items i v c.item-item.is c.loop-item-test.true in
    let fit : fits_tree v tree ≡ false = sym c.is_of.ensures ∙ c.if-not-is_of.true in
    sym (c.loop-item.invariant ∙ next ∙ ap (λ (b : Bool). b && all_fit tree (drop (i + 1) items)) fit)

pub each_pair_fits-loop-key-preserved : goal.each_pair_fits-loop-key-preserved
each_pair_fits-loop-key-preserved t c =
    let i = c.loop-key.key-index in
    let pairs = c.args.pairs.now in
    let keys = c.args.keys.now in
    let values = c.args.values.now in
    let x = c.loop-key-item.result in
    let rest = all_pairs_fit keys values (drop (i + 1) pairs) in
    let next = c.loop-key.invariant ∙ pairs_next keys values pairs i x c.loop-key-item.is c.loop-key-test.true in
    let key : fits_tree x.0 keys ≡ true = sym c.is_of.ensures ∙ c.if-not-is_of.false in
    let value : fits_tree x.1 values ≡ true = sym c.is_of-in-loop-key.ensures ∙ c.if-not-is_of-2.false in
    next ∙ ap (λ (b : Bool). b && (fits_tree x.1 values && rest)) key ∙ ap (λ (b : Bool). b && rest) value

pub each_pair_fits-returns-then-not-is_of : goal.each_pair_fits-returns-then-not-is_of
each_pair_fits-returns-then-not-is_of t c =
    let i = c.loop-key.key-index in
    let pairs = c.args.pairs.now in
    let keys = c.args.keys.now in
    let values = c.args.values.now in
    let x = c.loop-key-item.result in
    let rest = all_pairs_fit keys values (drop (i + 1) pairs) in
    let next = c.loop-key.invariant ∙ pairs_next keys values pairs i x c.loop-key-item.is c.loop-key-test.true in
    let key : fits_tree x.0 keys ≡ false = sym c.is_of.ensures ∙ c.if-not-is_of.true in
    sym (next ∙ ap (λ (b : Bool). b && (fits_tree x.1 values && rest)) key)

pub each_pair_fits-returns-then-not-is_of-2 : goal.each_pair_fits-returns-then-not-is_of-2
each_pair_fits-returns-then-not-is_of-2 t c =
    let i = c.loop-key.key-index in
    let pairs = c.args.pairs.now in
    let keys = c.args.keys.now in
    let values = c.args.values.now in
    let x = c.loop-key-item.result in
    let rest = all_pairs_fit keys values (drop (i + 1) pairs) in
    let next = c.loop-key.invariant ∙ pairs_next keys values pairs i x c.loop-key-item.is c.loop-key-test.true in
    let key : fits_tree x.0 keys ≡ true = sym c.is_of.ensures ∙ c.if-not-is_of.false in
    let value : fits_tree x.1 values ≡ false = sym c.is_of-in-loop-key.ensures ∙ c.if-not-is_of-2.true in
    sym (next ∙ ap (λ (b : Bool). b && (fits_tree x.1 values && rest)) key ∙ ap (λ (b : Bool). b && rest) value)

pub types_fit-returns-then-items-types : goal.types_fit-returns-then-items-types
types_fit-returns-then-items-types t c = sym (too_many (λ t. t) c.args.items.now c.args.types.now (omega arith))

pub named_fit-returns-then-items-fields : goal.named_fit-returns-then-items-fields
named_fit-returns-then-items-fields t c = sym (too_many (λ x. x.1) c.args.items.now c.args.fields.now (omega arith))

pub types_fit-loop-i-preserved : goal.types_fit-loop-i-preserved
types_fit-loop-i-preserved t c =
    let i = c.loop-i.i in
    let items = c.args.items.now in
    let types = c.args.types.now in
    let v = c.index-items-i.result in
    let x = c.index-types-i.result in
    let rest = all_fields_fit (λ t. t) (drop (i + 1) items) (drop (i + 1) types) in
    let next = c.loop-i.invariant ∙ fields_next (λ t. t) items types i v x c.index-items-i.is c.index-types-i.is c.loop-i-test.true (omega arith) in
    let fit : fits_tree v x ≡ true = sym c.is_of.ensures ∙ c.if-not-is_of.false in
    next ∙ ap (λ (b : Bool). b && rest) fit

pub types_fit-returns-then-not-is_of : goal.types_fit-returns-then-not-is_of
types_fit-returns-then-not-is_of t c =
    let i = c.loop-i.i in
    let items = c.args.items.now in
    let types = c.args.types.now in
    let v = c.index-items-i.result in
    let x = c.index-types-i.result in
    let rest = all_fields_fit (λ t. t) (drop (i + 1) items) (drop (i + 1) types) in
    let next = c.loop-i.invariant ∙ fields_next (λ t. t) items types i v x c.index-items-i.is c.index-types-i.is c.loop-i-test.true (omega arith) in
    let fit : fits_tree v x ≡ false = sym c.is_of.ensures ∙ c.if-not-is_of.true in
    sym (next ∙ ap (λ (b : Bool). b && rest) fit)

pub named_fit-loop-i-preserved : goal.named_fit-loop-i-preserved
named_fit-loop-i-preserved t c =
    let i = c.loop-i.i in
    let items = c.args.items.now in
    let fields = c.args.fields.now in
    let v = c.index-items-i.result in
    let x = c.index-fields-i.result in
    let rest = all_fields_fit (λ x. x.1) (drop (i + 1) items) (drop (i + 1) fields) in
    let next = c.loop-i.invariant ∙ fields_next (λ x. x.1) items fields i v x c.index-items-i.is c.index-fields-i.is c.loop-i-test.true (omega arith) in
    let fit : fits_tree v x.1 ≡ true = ap (λ y. fits_tree v y.1) c.index-fields-i.is ∙ sym c.is_of.ensures ∙ c.if-not-is_of.false in
    next ∙ ap (λ (b : Bool). b && rest) fit

pub named_fit-returns-then-not-is_of : goal.named_fit-returns-then-not-is_of
named_fit-returns-then-not-is_of t c =
    let i = c.loop-i.i in
    let items = c.args.items.now in
    let fields = c.args.fields.now in
    let v = c.index-items-i.result in
    let x = c.index-fields-i.result in
    let rest = all_fields_fit (λ x. x.1) (drop (i + 1) items) (drop (i + 1) fields) in
    let next = c.loop-i.invariant ∙ fields_next (λ x. x.1) items fields i v x c.index-items-i.is c.index-fields-i.is c.loop-i-test.true (omega arith) in
    let fit : fits_tree v x.1 ≡ false = ap (λ y. fits_tree v y.1) c.index-fields-i.is ∙ sym c.is_of.ensures ∙ c.if-not-is_of.true in
    sym (next ∙ ap (λ (b : Bool). b && rest) fit)

pub items_fit-returns-in_default : goal.items_fit-returns-in_default
items_fit-returns-in_default t c =
    let none = no_inner c.args.tree.now c.requires c.in_default.not-List c.in_default.not-Set in
    rw none (c.is_empty.ensures ∙ no_items c.args.items.now)

pub pairs_fit-returns-in_default : goal.pairs_fit-returns-in_default
pairs_fit-returns-in_default t c =
    let none = no_pair c.args.tree.now c.requires c.in_default.not-Map in
    rw none (c.is_empty.ensures ∙ no_pairs c.args.pairs.now)

pub fields_fit-returns-in-Tuple : goal.fields_fit-returns-in-Tuple
fields_fit-returns-in-Tuple t c =
    let items = c.args.items.now in
    let types = c.in-Tuple.types in
    let inner = ap (λ (x : TypeTree). types_in (inner_of x)) c.in-Tuple.is ∙ tuple_types types in
    rw c.deref.ensures.value at c.types_fit.ensures ∙ ap (λ (ts : Types). values_fit (first_types (length items) ts) (listed_values items)) (sym inner)

pub fields_fit-returns-in-Udt : goal.fields_fit-returns-in-Udt
fields_fit-returns-in-Udt t c =
    let items = c.args.items.now in
    let fields = c.in-Udt.fields in
    let inner = ap (λ (x : TypeTree). types_in (inner_of x)) c.in-Udt.is ∙ udt_types c.in-Udt.keyspace c.in-Udt.name fields in
    rw c.deref-in-Udt.ensures.value at c.named_fit.ensures ∙ ap (λ (ts : Types). values_fit (first_types (length items) ts) (listed_values items)) (sym inner)

pub fields_fit-returns-in-Plain : goal.fields_fit-returns-in-Plain
fields_fit-returns-in-Plain t c = rw c.in-Plain.is (c.is_empty.ensures ∙ no_fields c.args.items.now)
