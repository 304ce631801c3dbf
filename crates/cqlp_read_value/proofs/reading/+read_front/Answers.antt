use Rattle.std.proofs.Common.{◌≡◌, ℕ, ◌+◌, ◌≤◌, List, [], ◌∷◌, ◌++◌, length, drop, take, true, Ok, refl, sym, ap, ◌∙◌, subst, arith}
use Rattle.std.proofs.lemmas.List.{length-append, length-drop}
use Rattle.cqlp_kind.specs.declared.kind.Kind.{Kind}
use Rattle.cqlp_kind.specs.declared.kind.Kind.TheVariants as kind
use Rattle.cqlp_kind.specs.Types.{Types, NoMore, Type_and}
use Rattle.cqlp_type.specs.Trees.{kind_in, types_in}
use Rattle.cqlp_type.specs.TypeTrees.{head_of, inner_of}
use Rattle.cqlp_cell.specs.Sizes.{is_counted}
use Rattle.cqlp_value.specs.Values.{has_fields}
use Rattle.cqlp_value.specs.Measures.{listed_pairs, listed_values, types_by}
use Rattle.cqlp_value.specs.Owned.{value_of}
use Rattle.cqlp_read_value.specs.declared.error.ReadError.TheVariants as error
use Rattle.cqlp_read_value.specs.Fronts.{ContentStops, FrontStops, ReadsContent, ReadsFields, ReadsFront, ReadsItems, ReadsPairs}
use Rattle.cqlp_read_value.specs.Reading.{whole_rules}
use Rattle.cqlp_read_value.proofs.Progress.{item_refused, second_refused, items_end, items_want, all_counted, field_refused, fields_keep, fields_over}
use Rattle.cqlp_read_value.proofs.Steps.{err_of, fails_as, list_readable, set_readable, keys_readable, values_readable, tuple_readable, udt_readable, type_readable, field_readable, scalar_content, list_content, set_content, map_content, tuple_content, udt_content, tuple_fails, udt_fails, null_value, some_bytes, empty_value, value_refused, body_short, content_short, item_read, pair_read, field_read}
use Rattle.cqlp_read_value.proofs.reading.+read_front.Goals as goal

pub read_content-read_items-requires : goal.read_content-read_items-requires
read_content-read_items-requires t c =
    (omega (arith, c.decreases), (list_readable c.args.tree.now c.deref.result.now c.in-List.inner c.in-List.is c.deref.ensures c.requires.readable, c.requires.short))

pub read_content-read_items-requires-in-Set : goal.read_content-read_items-requires-in-Set
read_content-read_items-requires-in-Set t c =
    (omega (arith, c.decreases), (set_readable c.args.tree.now c.deref-in-Set.result.now c.in-Set.inner c.in-Set.is c.deref-in-Set.ensures c.requires.readable, c.requires.short))

pub read_content-read_pairs-requires : goal.read_content-read_pairs-requires
read_content-read_pairs-requires t c = (
  omega (arith, c.decreases),
  (
    keys_readable c.args.tree.now c.deref-in-Map.result.now c.in-Map.keys c.in-Map.values c.in-Map.is c.deref-in-Map.ensures c.requires.readable,
    (values_readable c.args.tree.now c.deref-in-Map-2.result.now c.in-Map.keys c.in-Map.values c.in-Map.is c.deref-in-Map-2.ensures c.requires.readable, c.requires.short),
  ),
)

pub read_content-read_types-requires : goal.read_content-read_types-requires
read_content-read_types-requires t c =
    (omega (arith, c.decreases), (tuple_readable c.args.tree.now c.in-Tuple.types c.deref-in-Tuple.result.now c.in-Tuple.is c.deref-in-Tuple.ensures.value c.requires.readable, c.requires.short))

pub read_content-read_fields-requires : goal.read_content-read_fields-requires
read_content-read_fields-requires t c =
    (omega (arith, c.decreases), (udt_readable c.args.tree.now c.in-Udt.keyspace c.in-Udt.name c.in-Udt.fields c.deref-in-Udt.result.now c.in-Udt.is c.deref-in-Udt.ensures.value c.requires.readable, c.requires.short))

pub read_content-returns-in-Plain : goal.read_content-returns-in-Plain
read_content-returns-in-Plain t c =
    let l = whole_rules c.args.reading.now.limits in
    scalar_content l c.args.at c.args.tree.now c.in-Plain.kind c.args.content.now c.read_scalar.result (ap (λ x. kind_in (head_of x)) c.in-Plain.is) c.read_scalar.ensures

pub read_content-returns-in-Custom : goal.read_content-returns-in-Custom
read_content-returns-in-Custom t c =
    let l = whole_rules c.args.reading.now.limits in
    scalar_content l c.args.at c.args.tree.now kind.Custom c.args.content.now c.read_scalar-in-Custom.result (ap (λ x. kind_in (head_of x)) c.in-Custom.is) c.read_scalar-in-Custom.ensures

pub read_content-returns-in_err-read_types-in-Tuple : goal.read_content-returns-in_err-read_types-in-Tuple
read_content-returns-in_err-read_types-in-Tuple t c =
    let l = whole_rules c.args.reading.now.limits in
    let e = c.in_err-read_types-in-Tuple.field-0.0 in
    err_of _ (λ r. ReadsContent l c.args.at c.args.tree.now c.args.content.now r) c.from_residual-in_err-read_types-in-Tuple.result e c.from_residual-in_err-read_types-in-Tuple.ensures (λ y same. same)
    (tuple_fails l c.args.at c.args.content.now c.args.tree.now c.in-Tuple.types c.deref-in-Tuple.result.now e c.in-Tuple.is c.deref-in-Tuple.ensures.value c.in_err-read_types-in-Tuple.ensures)

pub read_content-returns-in_err-read_fields-in-Udt : goal.read_content-returns-in_err-read_fields-in-Udt
read_content-returns-in_err-read_fields-in-Udt t c =
    let l = whole_rules c.args.reading.now.limits in
    let e = c.in_err-read_fields-in-Udt.field-0.0 in
    err_of _ (λ r. ReadsContent l c.args.at c.args.tree.now c.args.content.now r) c.from_residual-in_err-read_fields-in-Udt.result e c.from_residual-in_err-read_fields-in-Udt.ensures (λ y same. same)
    (udt_fails l c.args.at c.args.content.now c.args.tree.now c.in-Udt.keyspace c.in-Udt.name c.in-Udt.fields c.deref-in-Udt.result.now e c.in-Udt.is c.deref-in-Udt.ensures.value c.in_err-read_fields-in-Udt.ensures)

pub read_content-returns-in_ok-read_items-in-List : goal.read_content-returns-in_ok-read_items-in-List
read_content-returns-in_ok-read_items-in-List t c =
    let l = whole_rules c.args.reading.now.limits in
    list_content l c.args.at c.args.content.now c.args.tree.now c.deref.result.now c.in-List.inner c.in_ok-read_items-in-List.field-0 c.in-List.is c.deref.ensures c.in_ok-read_items-in-List.ensures

pub read_content-returns-in_ok-read_items-in-Set : goal.read_content-returns-in_ok-read_items-in-Set
read_content-returns-in_ok-read_items-in-Set t c =
    let l = whole_rules c.args.reading.now.limits in
    set_content l c.args.at c.args.content.now c.args.tree.now c.deref-in-Set.result.now c.in-Set.inner c.in_ok-read_items-in-Set.field-0 c.in-Set.is c.deref-in-Set.ensures c.in_ok-read_items-in-Set.ensures

pub read_content-returns-in_ok-read_pairs-in-Map : goal.read_content-returns-in_ok-read_pairs-in-Map
read_content-returns-in_ok-read_pairs-in-Map t c =
    let l = whole_rules c.args.reading.now.limits in
    map_content l c.args.at c.args.content.now c.args.tree.now c.deref-in-Map.result.now c.deref-in-Map-2.result.now c.in-Map.keys c.in-Map.values c.in_ok-read_pairs-in-Map.field-0 c.in-Map.is c.deref-in-Map.ensures c.deref-in-Map-2.ensures c.in_ok-read_pairs-in-Map.ensures

pub read_content-returns-in_ok-read_types-in-Tuple : goal.read_content-returns-in_ok-read_types-in-Tuple
read_content-returns-in_ok-read_types-in-Tuple t c =
    let l = whole_rules c.args.reading.now.limits in
    tuple_content l c.args.at c.args.content.now c.args.tree.now c.in-Tuple.types c.deref-in-Tuple.result.now c.in_ok-read_types-in-Tuple.field-0 c.in-Tuple.is c.deref-in-Tuple.ensures.value c.requires.some c.in_ok-read_types-in-Tuple.ensures

pub read_content-returns-in_ok-read_fields-in-Udt : goal.read_content-returns-in_ok-read_fields-in-Udt
read_content-returns-in_ok-read_fields-in-Udt t c =
    let l = whole_rules c.args.reading.now.limits in
    udt_content l c.args.at c.args.content.now c.args.tree.now c.in-Udt.keyspace c.in-Udt.name c.in-Udt.fields c.deref-in-Udt.result.now c.in_ok-read_fields-in-Udt.field-0 c.in-Udt.is c.deref-in-Udt.ensures.value c.requires.some c.in_ok-read_fields-in-Udt.ensures

pub read_front-returns-in_err-content : goal.read_front-returns-in_err-content
read_front-returns-in_err-content t c =
    let l = whole_rules c.args.reading.now.limits in
    let e = c.in_err-content.field-0.0 in
    err_of _ (λ r. ReadsFront l c.args.at c.args.tree.now c.args.bytes.now r) c.from_residual.result e c.from_residual.ensures (λ y same. same)
    (fails_as (λ r. (k : Kind) (inner : Types) → FrontStops l c.args.at k inner c.args.bytes.now r) (FrontStops l c.args.at (kind_in (head_of c.args.tree.now)) (types_in (inner_of c.args.tree.now)) c.args.bytes.now) (λ r h. h (kind_in (head_of c.args.tree.now)) (types_in (inner_of c.args.tree.now))) e (c.in_err-content.ensures l))

pub read_front-returns-in_default : goal.read_front-returns-in_default
read_front-returns-in_default t c =
    let l = whole_rules c.args.reading.now.limits in
    null_value l c.args.at (kind_in (head_of c.args.tree.now)) (types_in (inner_of c.args.tree.now)) c.args.bytes.now c.in_ok-content.field-0 c.in_default.not-Some (c.in_ok-content.ensures l)

pub read_front-returns-then-is_empty : goal.read_front-returns-then-is_empty
read_front-returns-then-is_empty t c =
    let l = whole_rules c.args.reading.now.limits in
    let h = rw c.in-Some.is at (c.in_ok-content.ensures l) in
    empty_value l (kind_in (head_of c.args.tree.now)) (types_in (inner_of c.args.tree.now)) c.args.bytes.now c.in-Some.content.now (sym c.is_empty.ensures ∙ c.if-is_empty.true) h

pub read_front-read_content-requires : goal.read_front-read_content-requires
read_front-read_content-requires t c =
    let l = whole_rules c.args.reading.now.limits in
    let h = rw c.in-Some.is at (c.in_ok-content.ensures l) in
    (omega (arith, h.0, c.decreases), (c.requires.readable, (some_bytes c.in-Some.content.now (sym c.is_empty.ensures ∙ c.if-is_empty.false), omega (arith, h.0, c.requires.short))))

pub read_front-returns-in_err-value : goal.read_front-returns-in_err-value
read_front-returns-in_err-value t c =
    let l = whole_rules c.args.reading.now.limits in
    let h = rw c.in-Some.is at (c.in_ok-content.ensures l) in
    let e = c.in_err-value.field-0.0 in
    err_of _ (λ r. ReadsFront l c.args.at c.args.tree.now c.args.bytes.now r) c.from_residual-in_err-value.result e c.from_residual-in_err-value.ensures (λ y same. same)
    (value_refused l c.args.at (kind_in (head_of c.args.tree.now)) (types_in (inner_of c.args.tree.now)) c.args.bytes.now c.in-Some.content.now e (sym c.is_empty.ensures ∙ c.if-is_empty.false) h c.in_err-value.ensures)

pub read_front-returns : goal.read_front-returns
read_front-returns t c =
    let l = whole_rules c.args.reading.now.limits in
    let h = rw c.in-Some.is at (c.in_ok-content.ensures l) in
    (h.0, c.in_ok-value.ensures.0 (take (4 + length c.in-Some.content.now) c.args.bytes.now) h.1, c.in_ok-value.ensures.1)

pub read_items-returns-in_err-count : goal.read_items-returns-in_err-count
read_items-returns-in_err-count t c =
    let l = whole_rules c.args.reading.now.limits in
    let e = c.in_err-count.field-0.0 in
    err_of _ (λ r. ReadsItems l c.args.at (Type_and (kind_in (head_of c.args.inner.now)) (types_in (inner_of c.args.inner.now)) NoMore) c.args.content.now r) c.from_residual.result e c.from_residual.ensures (λ y same. same)
    (fails_as (λ r. (k : Kind) (ts : Types) → is_counted k ≡ true → ContentStops l c.args.at k ts c.args.content.now r) (λ r. (k : Kind) → is_counted k ≡ true → ContentStops l c.args.at k (Type_and (kind_in (head_of c.args.inner.now)) (types_in (inner_of c.args.inner.now)) NoMore) c.args.content.now r) (λ r h k is. h k (Type_and (kind_in (head_of c.args.inner.now)) (types_in (inner_of c.args.inner.now)) NoMore) is) e (c.in_err-count.ensures l))

pub read_items-rest-body-requires : goal.read_items-rest-body-requires
read_items-rest-body-requires t c =
    let l = whole_rules c.args.reading.now.limits in
    let counted = c.in_ok-count.ensures l in
    counted.0

pub read_items-overflow_add-at : goal.read_items-overflow_add-at
read_items-overflow_add-at t c =
    let l = whole_rules c.args.reading.now.limits in
    let counted = c.in_ok-count.ensures l in
    omega (arith, counted.0, c.requires.short)

pub read_items-overflow_add-at-in-loop-body : goal.read_items-overflow_add-at-in-loop-body
read_items-overflow_add-at-in-loop-body t c =
    let l = whole_rules c.args.reading.now.limits in
    let counted = c.in_ok-count.ensures l in
    omega (arith, counted.0, c.requires.short, c.loop-body.invariant.inside, length-drop 4 c.args.content.now)

pub read_items-returns-then-used-body : goal.read_items-returns-then-used-body
read_items-returns-then-used-body t c =
    let l = whole_rules c.args.reading.now.limits in
    let counted = c.in_ok-count.ensures l in
    rw c.refused.ensures (λ k is. items_end l c.args.at k is c.args.content.now c.in_ok-count.count counted.1 (Type_and (kind_in (head_of c.args.inner.now)) (types_in (inner_of c.args.inner.now)) NoMore) (length c.loop-body.items.items) (listed_values c.loop-body.items.items) c.loop-body.used c.loop-body.invariant (omega arith) (omega (arith, ap length c.rest-body.ensures)))

pub read_items-returns : goal.read_items-returns
read_items-returns t c =
    let l = whole_rules c.args.reading.now.limits in
    let counted = c.in_ok-count.ensures l in
    all_counted l c.args.at (Type_and (kind_in (head_of c.args.inner.now)) (types_in (inner_of c.args.inner.now)) NoMore) c.args.content.now c.in_ok-count.count (length c.loop-body.items.items) (listed_values c.loop-body.items.items) c.loop-body.used counted.1 c.loop-body.invariant (omega arith) (omega (arith, ap length c.rest-body.ensures))

pub read_items-read_front-requires : goal.read_items-read_front-requires
read_items-read_front-requires t c =
    let l = whole_rules c.args.reading.now.limits in
    let counted = c.in_ok-count.ensures l in
    let short = body_short c.args.at c.loop-body.used c.args.content.now c.rest-body.result.now c.rest.result.now c.rest-body.ensures c.rest.ensures c.loop-body.invariant.inside counted.0 c.requires.short in
    (omega (arith, c.decreases, counted.0, ap length c.rest.ensures, length-drop c.loop-body.used c.rest-body.result.now, ap length c.rest-body.ensures, length-drop 4 c.args.content.now), (c.requires.readable, short))

pub read_items-returns-in_err-front : goal.read_items-returns-in_err-front
read_items-returns-in_err-front t c =
    let l = whole_rules c.args.reading.now.limits in
    let counted = c.in_ok-count.ensures l in
    let e = c.in_err-front.field-0.0 in
    let here = c.rest.ensures ∙ ap (drop c.loop-body.used) c.rest-body.ensures in
    err_of _ (λ r. ReadsItems l c.args.at (Type_and (kind_in (head_of c.args.inner.now)) (types_in (inner_of c.args.inner.now)) NoMore) c.args.content.now r) c.from_residual-in_err-front.result e c.from_residual-in_err-front.ensures (λ y same. same)
    (fails_as (FrontStops l (c.args.at + 8 + c.loop-body.used) (kind_in (head_of c.args.inner.now)) (types_in (inner_of c.args.inner.now)) c.rest.result.now) (λ r. (k : Kind) → is_counted k ≡ true → ContentStops l c.args.at k (Type_and (kind_in (head_of c.args.inner.now)) (types_in (inner_of c.args.inner.now)) NoMore) c.args.content.now r) (λ r h k is.
    item_refused l c.args.at k is c.args.content.now c.in_ok-count.count counted.1 (kind_in (head_of c.args.inner.now)) (types_in (inner_of c.args.inner.now)) NoMore (length c.loop-body.items.items) (listed_values c.loop-body.items.items) c.loop-body.used r c.loop-body.invariant (omega arith)
    (subst (λ (x : List ℕ). FrontStops l (c.args.at + 8 + c.loop-body.used) (kind_in (head_of c.args.inner.now)) (types_in (inner_of c.args.inner.now)) x r) here h)) e c.in_err-front.ensures)

pub read_items-loop-body-preserved : goal.read_items-loop-body-preserved
read_items-loop-body-preserved t c =
    let l = whole_rules c.args.reading.now.limits in
    item_read l (Type_and (kind_in (head_of c.args.inner.now)) (types_in (inner_of c.args.inner.now)) NoMore) c.in_ok-count.count c.args.content.now c.rest-body.result.now c.rest-body.ensures (kind_in (head_of c.args.inner.now)) (types_in (inner_of c.args.inner.now)) refl c.loop-body.items.items c.push.new.self.items c.in_ok-front.front.value c.loop-body.used c.in_ok-front.front.used c.rest.result.now c.in_ok-push.ensures.items c.loop-body.invariant (omega arith) c.rest.ensures c.in_ok-front.ensures

pub read_pairs-returns-in_err-count : goal.read_pairs-returns-in_err-count
read_pairs-returns-in_err-count t c =
    let l = whole_rules c.args.reading.now.limits in
    let e = c.in_err-count.field-0.0 in
    err_of _ (λ r. ReadsPairs l c.args.at (Type_and (kind_in (head_of c.args.keys.now)) (types_in (inner_of c.args.keys.now)) (Type_and (kind_in (head_of c.args.values.now)) (types_in (inner_of c.args.values.now)) NoMore)) c.args.content.now r) c.from_residual.result e c.from_residual.ensures (λ y same. same)
    (fails_as (λ r. (k : Kind) (ts : Types) → is_counted k ≡ true → ContentStops l c.args.at k ts c.args.content.now r) (λ r. (k : Kind) → is_counted k ≡ true → ContentStops l c.args.at k (Type_and (kind_in (head_of c.args.keys.now)) (types_in (inner_of c.args.keys.now)) (Type_and (kind_in (head_of c.args.values.now)) (types_in (inner_of c.args.values.now)) NoMore)) c.args.content.now r) (λ r h k is. h k (Type_and (kind_in (head_of c.args.keys.now)) (types_in (inner_of c.args.keys.now)) (Type_and (kind_in (head_of c.args.values.now)) (types_in (inner_of c.args.values.now)) NoMore)) is) e (c.in_err-count.ensures l))

pub read_pairs-rest-body-requires : goal.read_pairs-rest-body-requires
read_pairs-rest-body-requires t c =
    let l = whole_rules c.args.reading.now.limits in
    let counted = c.in_ok-count.ensures l in
    counted.0

pub read_pairs-overflow_add-at : goal.read_pairs-overflow_add-at
read_pairs-overflow_add-at t c =
    let l = whole_rules c.args.reading.now.limits in
    let counted = c.in_ok-count.ensures l in
    omega (arith, counted.0, c.requires.short)

pub read_pairs-overflow_add-at-in-loop-body : goal.read_pairs-overflow_add-at-in-loop-body
read_pairs-overflow_add-at-in-loop-body t c =
    let l = whole_rules c.args.reading.now.limits in
    let counted = c.in_ok-count.ensures l in
    omega (arith, counted.0, c.requires.short, c.loop-body.invariant.inside, length-drop 4 c.args.content.now)

pub read_pairs-returns-then-used-body : goal.read_pairs-returns-then-used-body
read_pairs-returns-then-used-body t c =
    let l = whole_rules c.args.reading.now.limits in
    let counted = c.in_ok-count.ensures l in
    rw c.refused.ensures (λ k is. items_end l c.args.at k is c.args.content.now c.in_ok-count.count counted.1 (Type_and (kind_in (head_of c.args.keys.now)) (types_in (inner_of c.args.keys.now)) (Type_and (kind_in (head_of c.args.values.now)) (types_in (inner_of c.args.values.now)) NoMore)) (length c.loop-body.pairs.items) (listed_pairs c.loop-body.pairs.items) c.loop-body.used c.loop-body.invariant (omega arith) (omega (arith, ap length c.rest-body.ensures)))

pub read_pairs-returns : goal.read_pairs-returns
read_pairs-returns t c =
    let l = whole_rules c.args.reading.now.limits in
    let counted = c.in_ok-count.ensures l in
    all_counted l c.args.at (Type_and (kind_in (head_of c.args.keys.now)) (types_in (inner_of c.args.keys.now)) (Type_and (kind_in (head_of c.args.values.now)) (types_in (inner_of c.args.values.now)) NoMore)) c.args.content.now c.in_ok-count.count (length c.loop-body.pairs.items) (listed_pairs c.loop-body.pairs.items) c.loop-body.used counted.1 c.loop-body.invariant (omega arith) (omega (arith, ap length c.rest-body.ensures))

pub read_pairs-read_front-requires : goal.read_pairs-read_front-requires
read_pairs-read_front-requires t c =
    let l = whole_rules c.args.reading.now.limits in
    let counted = c.in_ok-count.ensures l in
    let short = body_short c.args.at c.loop-body.used c.args.content.now c.rest-body.result.now c.rest.result.now c.rest-body.ensures c.rest.ensures c.loop-body.invariant.inside counted.0 c.requires.short in
    (omega (arith, c.decreases, counted.0, ap length c.rest.ensures, length-drop c.loop-body.used c.rest-body.result.now, ap length c.rest-body.ensures, length-drop 4 c.args.content.now), (c.requires.keys, short))

pub read_pairs-read_front-requires-in-loop-body : goal.read_pairs-read_front-requires-in-loop-body
read_pairs-read_front-requires-in-loop-body t c =
    let l = whole_rules c.args.reading.now.limits in
    let counted = c.in_ok-count.ensures l in
    let inside : c.loop-body.used + c.in_ok-key.key.used ≤ length (drop 4 c.args.content.now) = omega (arith, c.in_ok-key.ensures.0, ap length c.rest.ensures, length-drop c.loop-body.used c.rest-body.result.now, ap length c.rest-body.ensures, c.loop-body.invariant.inside) in
    let short = body_short c.args.at (c.loop-body.used + c.in_ok-key.key.used) c.args.content.now c.rest-body.result.now c.rest-in-loop-body.result.now c.rest-body.ensures c.rest-in-loop-body.ensures inside counted.0 c.requires.short in
    (omega (arith, c.decreases, counted.0, ap length c.rest-in-loop-body.ensures, length-drop (c.loop-body.used + c.in_ok-key.key.used) c.rest-body.result.now, ap length c.rest-body.ensures, length-drop 4 c.args.content.now), (c.requires.values, short))

pub read_pairs-overflow_add-at-in-loop-body-2 : goal.read_pairs-overflow_add-at-in-loop-body-2
read_pairs-overflow_add-at-in-loop-body-2 t c =
    let l = whole_rules c.args.reading.now.limits in
    let counted = c.in_ok-count.ensures l in
    let inside : c.loop-body.used + c.in_ok-key.key.used ≤ length (drop 4 c.args.content.now) = omega (arith, c.in_ok-key.ensures.0, ap length c.rest.ensures, length-drop c.loop-body.used c.rest-body.result.now, ap length c.rest-body.ensures, c.loop-body.invariant.inside) in
    omega (arith, counted.0, c.requires.short, inside, length-drop 4 c.args.content.now)

pub read_pairs-overflow_add-at-in-loop-body-3 : goal.read_pairs-overflow_add-at-in-loop-body-3
read_pairs-overflow_add-at-in-loop-body-3 t c =
    let l = whole_rules c.args.reading.now.limits in
    let counted = c.in_ok-count.ensures l in
    let inside : c.loop-body.used + c.in_ok-key.key.used ≤ length (drop 4 c.args.content.now) = omega (arith, c.in_ok-key.ensures.0, ap length c.rest.ensures, length-drop c.loop-body.used c.rest-body.result.now, ap length c.rest-body.ensures, c.loop-body.invariant.inside) in
    omega (arith, counted.0, c.requires.short, inside, length-drop 4 c.args.content.now)

pub read_pairs-returns-in_err-key : goal.read_pairs-returns-in_err-key
read_pairs-returns-in_err-key t c =
    let l = whole_rules c.args.reading.now.limits in
    let counted = c.in_ok-count.ensures l in
    let e = c.in_err-key.field-0.0 in
    let here = c.rest.ensures ∙ ap (drop c.loop-body.used) c.rest-body.ensures in
    err_of _ (λ r. ReadsPairs l c.args.at (Type_and (kind_in (head_of c.args.keys.now)) (types_in (inner_of c.args.keys.now)) (Type_and (kind_in (head_of c.args.values.now)) (types_in (inner_of c.args.values.now)) NoMore)) c.args.content.now r) c.from_residual-in_err-key.result e c.from_residual-in_err-key.ensures (λ y same. same)
    (fails_as (FrontStops l (c.args.at + 8 + c.loop-body.used) (kind_in (head_of c.args.keys.now)) (types_in (inner_of c.args.keys.now)) c.rest.result.now) (λ r. (k : Kind) → is_counted k ≡ true → ContentStops l c.args.at k (Type_and (kind_in (head_of c.args.keys.now)) (types_in (inner_of c.args.keys.now)) (Type_and (kind_in (head_of c.args.values.now)) (types_in (inner_of c.args.values.now)) NoMore)) c.args.content.now r) (λ r h k is.
    item_refused l c.args.at k is c.args.content.now c.in_ok-count.count counted.1 (kind_in (head_of c.args.keys.now)) (types_in (inner_of c.args.keys.now)) (Type_and (kind_in (head_of c.args.values.now)) (types_in (inner_of c.args.values.now)) NoMore) (length c.loop-body.pairs.items) (listed_pairs c.loop-body.pairs.items) c.loop-body.used r c.loop-body.invariant (omega arith)
    (subst (λ (x : List ℕ). FrontStops l (c.args.at + 8 + c.loop-body.used) (kind_in (head_of c.args.keys.now)) (types_in (inner_of c.args.keys.now)) x r) here h)) e c.in_err-key.ensures)

pub read_pairs-returns-in_err-value : goal.read_pairs-returns-in_err-value
read_pairs-returns-in_err-value t c =
    let l = whole_rules c.args.reading.now.limits in
    let counted = c.in_ok-count.ensures l in
    let e = c.in_err-value.field-0.0 in
    let at_key = c.rest.ensures ∙ ap (drop c.loop-body.used) c.rest-body.ensures in
    let key = subst (λ (x : List ℕ). ReadsFront l (c.args.at + 8 + c.loop-body.used) c.args.keys.now x (Ok c.in_ok-key.key)) at_key c.in_ok-key.ensures in
    let here = c.rest-in-loop-body.ensures ∙ ap (drop (c.loop-body.used + c.in_ok-key.key.used)) c.rest-body.ensures in
    err_of _ (λ r. ReadsPairs l c.args.at (Type_and (kind_in (head_of c.args.keys.now)) (types_in (inner_of c.args.keys.now)) (Type_and (kind_in (head_of c.args.values.now)) (types_in (inner_of c.args.values.now)) NoMore)) c.args.content.now r) c.from_residual-in_err-value.result e c.from_residual-in_err-value.ensures (λ y same. same)
    (fails_as (FrontStops l (c.args.at + 8 + (c.loop-body.used + c.in_ok-key.key.used)) (kind_in (head_of c.args.values.now)) (types_in (inner_of c.args.values.now)) c.rest-in-loop-body.result.now) (λ r. (k : Kind) → is_counted k ≡ true → ContentStops l c.args.at k (Type_and (kind_in (head_of c.args.keys.now)) (types_in (inner_of c.args.keys.now)) (Type_and (kind_in (head_of c.args.values.now)) (types_in (inner_of c.args.values.now)) NoMore)) c.args.content.now r) (λ r h k is.
    second_refused l c.args.at k is c.args.content.now c.in_ok-count.count counted.1 (kind_in (head_of c.args.keys.now)) (kind_in (head_of c.args.values.now)) (types_in (inner_of c.args.keys.now)) (types_in (inner_of c.args.values.now)) (length c.loop-body.pairs.items) (listed_pairs c.loop-body.pairs.items) (value_of c.in_ok-key.key.value) c.loop-body.used c.in_ok-key.key.used r c.loop-body.invariant (omega arith) key.0 key.1 key.2
    (subst (λ (x : List ℕ). FrontStops l (c.args.at + 8 + (c.loop-body.used + c.in_ok-key.key.used)) (kind_in (head_of c.args.values.now)) (types_in (inner_of c.args.values.now)) x r) here h)) e c.in_err-value.ensures)

pub read_pairs-loop-body-preserved : goal.read_pairs-loop-body-preserved
read_pairs-loop-body-preserved t c =
    let l = whole_rules c.args.reading.now.limits in
    pair_read l (kind_in (head_of c.args.keys.now)) (kind_in (head_of c.args.values.now)) (types_in (inner_of c.args.keys.now)) (types_in (inner_of c.args.values.now)) c.in_ok-count.count c.args.content.now c.rest-body.result.now c.rest-body.ensures c.loop-body.pairs.items c.push.new.self.items c.in_ok-key.key.value c.in_ok-value.value.value c.loop-body.used c.in_ok-key.key.used c.in_ok-value.value.used c.rest.result.now c.rest-in-loop-body.result.now c.in_ok-push.ensures.items c.loop-body.invariant (omega arith) c.rest.ensures c.rest-in-loop-body.ensures c.in_ok-key.ensures c.in_ok-value.ensures

pub read_types-read_front-requires : goal.read_types-read_front-requires
read_types-read_front-requires t c =
    let l = whole_rules c.args.reading.now.limits in
    (omega (arith, c.decreases, ap length c.rest.ensures, length-drop c.loop-tree.used c.args.content.now), (type_readable c.args.types.now c.loop-tree.tree-index c.tree-item.result c.tree-item.is c.loop-tree-test.true c.requires.readable, content_short c.args.at c.loop-tree.used c.args.content.now c.rest.result.now c.rest.ensures c.loop-tree.invariant.fields.inside c.requires.short))

pub read_types-returns-in_err-front : goal.read_types-returns-in_err-front
read_types-returns-in_err-front t c =
    let l = whole_rules c.args.reading.now.limits in
    let e = c.in_err-front.field-0.0 in
    err_of _ (λ r. ReadsFields l c.args.at (types_by (λ t. t) c.args.types.now) c.args.content.now r) c.from_residual.result e c.from_residual.ensures (λ y same. same)
    (fails_as (FrontStops l (c.args.at + 4 + c.loop-tree.used) (kind_in (head_of c.tree-item.result)) (types_in (inner_of c.tree-item.result)) c.rest.result.now) (λ r. (k : Kind) → has_fields k ≡ true → ContentStops l c.args.at k (types_by (λ t. t) c.args.types.now) c.args.content.now r) (λ r h k is.
    field_refused (λ t. t) l c.args.at c.args.types.now c.args.content.now c.loop-tree.tree-index c.tree-item.result c.tree-item.is c.loop-tree-test.true (listed_values c.loop-tree.items.items) c.loop-tree.used c.loop-tree.invariant.fields k is r (omega (arith, c.loop-tree.invariant.fields.inside))
    (subst (λ (y : List ℕ). FrontStops l (c.args.at + 4 + c.loop-tree.used) (kind_in (head_of c.tree-item.result)) (types_in (inner_of c.tree-item.result)) y r) c.rest.ensures h)) e c.in_err-front.ensures)

pub read_types-loop-tree-preserved : goal.read_types-loop-tree-preserved
read_types-loop-tree-preserved t c =
    let l = whole_rules c.args.reading.now.limits in
    record {
      fields = field_read (λ t. t) l c.args.at c.args.types.now c.args.content.now c.loop-tree.tree-index c.tree-item.result c.loop-tree.items.items c.push.new.self.items c.in_ok-front.front.value c.loop-tree.used c.in_ok-front.front.used c.rest.result.now c.tree-item.is c.loop-tree-test.true c.in_ok-push.ensures.items c.loop-tree.invariant.fields (omega (arith, c.loop-tree.invariant.fields.inside)) c.rest.ensures c.in_ok-front.ensures;
      many = omega (arith, c.in_ok-push.ensures.len, c.loop-tree.invariant.many);
    }

pub read_types-returns-then-used-content-2 : goal.read_types-returns-then-used-content-2
read_types-returns-then-used-content-2 t c =
    let l = whole_rules c.args.reading.now.limits in
    rw c.refused.ensures (λ k is. fields_over (λ t. t) l c.args.at c.args.types.now c.args.content.now refl c.loop-tree.tree-index (listed_values c.loop-tree.items.items) c.loop-tree.used c.loop-tree.invariant.fields (omega arith) k is (omega arith))

pub read_fields-read_front-requires : goal.read_fields-read_front-requires
read_fields-read_front-requires t c =
    let l = whole_rules c.args.reading.now.limits in
    (omega (arith, c.decreases, ap length c.rest.ensures, length-drop c.loop-tree.used c.args.content.now), (field_readable c.args.fields.now c.loop-tree.tree-index c.loop-tree-item.result c.loop-tree-item.is c.loop-tree-test.true c.requires.readable, content_short c.args.at c.loop-tree.used c.args.content.now c.rest.result.now c.rest.ensures c.loop-tree.invariant.fields.inside c.requires.short))

pub read_fields-returns-in_err-front : goal.read_fields-returns-in_err-front
read_fields-returns-in_err-front t c =
    let l = whole_rules c.args.reading.now.limits in
    let e = c.in_err-front.field-0.0 in
    err_of _ (λ r. ReadsFields l c.args.at (types_by (λ x. x.1) c.args.fields.now) c.args.content.now r) c.from_residual.result e c.from_residual.ensures (λ y same. same)
    (fails_as (FrontStops l (c.args.at + 4 + c.loop-tree.used) (kind_in (head_of c.loop-tree-item.result.1)) (types_in (inner_of c.loop-tree-item.result.1)) c.rest.result.now) (λ r. (k : Kind) → has_fields k ≡ true → ContentStops l c.args.at k (types_by (λ x. x.1) c.args.fields.now) c.args.content.now r) (λ r h k is.
    field_refused (λ x. x.1) l c.args.at c.args.fields.now c.args.content.now c.loop-tree.tree-index c.loop-tree-item.result c.loop-tree-item.is c.loop-tree-test.true (listed_values c.loop-tree.items.items) c.loop-tree.used c.loop-tree.invariant.fields k is r (omega (arith, c.loop-tree.invariant.fields.inside))
    (subst (λ (y : List ℕ). FrontStops l (c.args.at + 4 + c.loop-tree.used) (kind_in (head_of c.loop-tree-item.result.1)) (types_in (inner_of c.loop-tree-item.result.1)) y r) c.rest.ensures h)) e c.in_err-front.ensures)

pub read_fields-loop-tree-preserved : goal.read_fields-loop-tree-preserved
read_fields-loop-tree-preserved t c =
    let l = whole_rules c.args.reading.now.limits in
    record {
      fields = field_read (λ x. x.1) l c.args.at c.args.fields.now c.args.content.now c.loop-tree.tree-index c.loop-tree-item.result c.loop-tree.items.items c.push.new.self.items c.in_ok-front.front.value c.loop-tree.used c.in_ok-front.front.used c.rest.result.now c.loop-tree-item.is c.loop-tree-test.true c.in_ok-push.ensures.items c.loop-tree.invariant.fields (omega (arith, c.loop-tree.invariant.fields.inside)) c.rest.ensures c.in_ok-front.ensures;
      many = omega (arith, c.in_ok-push.ensures.len, c.loop-tree.invariant.many);
    }

pub read_fields-returns-then-used-content-2 : goal.read_fields-returns-then-used-content-2
read_fields-returns-then-used-content-2 t c =
    let l = whole_rules c.args.reading.now.limits in
    rw c.refused.ensures (λ k is. fields_over (λ x. x.1) l c.args.at c.args.fields.now c.args.content.now refl c.loop-tree.tree-index (listed_values c.loop-tree.items.items) c.loop-tree.used c.loop-tree.invariant.fields (omega arith) k is (omega arith))

pub read_items-returns-in_err-push : goal.read_items-returns-in_err-push
read_items-returns-in_err-push t c =
    let l = whole_rules c.args.reading.now.limits in
    let counted = c.in_ok-count.ensures l in
    let k = kind_in (head_of c.args.inner.now) in
    let inner = types_in (inner_of c.args.inner.now) in
    let new = c.loop-body.items.items ++ c.in_ok-front.front.value ∷ [] in
    let read = item_read l (Type_and k inner NoMore) c.in_ok-count.count c.args.content.now c.rest-body.result.now c.rest-body.ensures k inner refl c.loop-body.items.items new c.in_ok-front.front.value c.loop-body.used c.in_ok-front.front.used c.rest.result.now refl c.loop-body.invariant (omega arith) c.rest.ensures c.in_ok-front.ensures in
    err_of _ (λ r. ReadsItems l c.args.at (Type_and k inner NoMore) c.args.content.now r) c.from_residual-in_err-push.result error.NoMemory c.from_residual-in_err-push.ensures (λ y same. same)
    (λ j is. items_want l c.args.at j is c.args.content.now c.in_ok-count.count counted.1 refl k inner NoMore (length new) (listed_values new) (c.loop-body.used + c.in_ok-front.front.used) read (omega (arith, length-append c.loop-body.items.items (c.in_ok-front.front.value ∷ []))))

pub read_pairs-returns-in_err-push : goal.read_pairs-returns-in_err-push
read_pairs-returns-in_err-push t c =
    let l = whole_rules c.args.reading.now.limits in
    let counted = c.in_ok-count.ensures l in
    let k = kind_in (head_of c.args.keys.now) in
    let inner = types_in (inner_of c.args.keys.now) in
    let j = kind_in (head_of c.args.values.now) in
    let others = types_in (inner_of c.args.values.now) in
    let new = c.loop-body.pairs.items ++ (c.in_ok-key.key.value, c.in_ok-value.value.value) ∷ [] in
    let read = pair_read l k j inner others c.in_ok-count.count c.args.content.now c.rest-body.result.now c.rest-body.ensures c.loop-body.pairs.items new c.in_ok-key.key.value c.in_ok-value.value.value c.loop-body.used c.in_ok-key.key.used c.in_ok-value.value.used c.rest.result.now c.rest-in-loop-body.result.now refl c.loop-body.invariant (omega arith) c.rest.ensures c.rest-in-loop-body.ensures c.in_ok-key.ensures c.in_ok-value.ensures in
    err_of _ (λ r. ReadsPairs l c.args.at (Type_and k inner (Type_and j others NoMore)) c.args.content.now r) c.from_residual-in_err-push.result error.NoMemory c.from_residual-in_err-push.ensures (λ y same. same)
    (λ i is. items_want l c.args.at i is c.args.content.now c.in_ok-count.count counted.1 refl k inner (Type_and j others NoMore) (length new) (listed_pairs new) (c.loop-body.used + c.in_ok-key.key.used + c.in_ok-value.value.used) read (omega (arith, length-append c.loop-body.pairs.items ((c.in_ok-key.key.value, c.in_ok-value.value.value) ∷ []))))

pub read_types-returns-in_err-push : goal.read_types-returns-in_err-push
read_types-returns-in_err-push t c =
    let l = whole_rules c.args.reading.now.limits in
    let new = c.loop-tree.items.items ++ c.in_ok-front.front.value ∷ [] in
    let read = field_read (λ t. t) l c.args.at c.args.types.now c.args.content.now c.loop-tree.tree-index c.tree-item.result c.loop-tree.items.items new c.in_ok-front.front.value c.loop-tree.used c.in_ok-front.front.used c.rest.result.now c.tree-item.is c.loop-tree-test.true refl c.loop-tree.invariant.fields (omega (arith, c.loop-tree.invariant.fields.inside)) c.rest.ensures c.in_ok-front.ensures in
    err_of _ (λ r. ReadsFields l c.args.at (types_by (λ t. t) c.args.types.now) c.args.content.now r) c.from_residual-in_err-push.result error.NoMemory c.from_residual-in_err-push.ensures (λ y same. same)
    (λ k is. fields_keep (λ t. t) l c.args.at c.args.types.now c.args.content.now refl (c.loop-tree.tree-index + 1) (listed_values new) (c.loop-tree.used + c.in_ok-front.front.used) read (omega arith) k is)

pub read_fields-returns-in_err-push : goal.read_fields-returns-in_err-push
read_fields-returns-in_err-push t c =
    let l = whole_rules c.args.reading.now.limits in
    let new = c.loop-tree.items.items ++ c.in_ok-front.front.value ∷ [] in
    let read = field_read (λ x. x.1) l c.args.at c.args.fields.now c.args.content.now c.loop-tree.tree-index c.loop-tree-item.result c.loop-tree.items.items new c.in_ok-front.front.value c.loop-tree.used c.in_ok-front.front.used c.rest.result.now c.loop-tree-item.is c.loop-tree-test.true refl c.loop-tree.invariant.fields (omega (arith, c.loop-tree.invariant.fields.inside)) c.rest.ensures c.in_ok-front.ensures in
    err_of _ (λ r. ReadsFields l c.args.at (types_by (λ x. x.1) c.args.fields.now) c.args.content.now r) c.from_residual-in_err-push.result error.NoMemory c.from_residual-in_err-push.ensures (λ y same. same)
    (λ k is. fields_keep (λ x. x.1) l c.args.at c.args.fields.now c.args.content.now refl (c.loop-tree.tree-index + 1) (listed_values new) (c.loop-tree.used + c.in_ok-front.front.used) read (omega arith) k is)
