use Rattle.std.proofs.Common.{◌≡◌, ◌+◌, ◌++◌, ◌∷◌, [], Bool, true, string_bytes, sym, ap, ◌∙◌, subst, arith}
use Rattle.std.proofs.lemmas.List.{map-append}
use Rattle.std.proofs.lemmas.Grind.{common_steps}
use Rattle.cqlp_kind.specs.declared.kind.Kind.TheVariants as kind
use Rattle.cqlp_type.specs.Trees.{Trees}
use Rattle.cqlp_type.specs.TypeTrees.{tree_of}
use Rattle.cqlp_build.specs.declared.held.FrameEvents.{FrameEvents}
use Rattle.cqlp_build.specs.FrameEvents.{Builds}
use Rattle.cqlp_build.specs.Types.{IsOfKind, field_events, is_built_field, is_built_type, events_after_kind, type_events}
use Rattle.cqlp_build.proofs.Several.{remains_more, remains_none, remains_stuck, some_of}
use Rattle.cqlp_build.proofs.Steps.{with_flag}
use Rattle.cqlp_build.proofs.TypeParts.{custom_builds, field_builds, list_builds, map_builds, no_tree, of_kind, plain_builds, set_builds, tree_builds, tuple_builds, tuple_tree, udt_builds, udt_tree, without_parameters, wrapped}
use Rattle.cqlp_build.proofs.held.FrameEvents.+types.Goals as goal

pub fields-returns-then-is_some-clause-is : goal.fields-returns-then-is_some-clause-is
fields-returns-then-is_some-clause-is t c =
    let f = some_of c.tree-tree.new.self.fault (sym c.is_some.ensures ∙ c.if-is_some.true) in
    remains_stuck field_events is_built_field c.args.count c.args.self.now c.tree-tree.new.self (c.loop.counter + 1) _ _ f.0 (omega arith) f.1
    (remains_more field_events is_built_field c.args.count c.args.self.now c.loop.self c.tree-tree.new.self c.loop.counter _ (string_bytes c.text-name.result, tree_of c.tree-tree.result) c.loop.invariant.remains (field_builds c.text-name.ensures.is c.tree-tree.ensures.is))

pub fields-loop-preserved : goal.fields-loop-preserved
fields-loop-preserved t c =
    let e : c.push.new.self.items ≡ c.loop.fields.items ++ (c.text-name.result, c.tree-tree.result) ∷ [] = grind (arith, common_steps, c.push.ensures.items, c.is_err.ensures) in
    record {
      remains = rw (e, map-append) (remains_more field_events is_built_field c.args.count c.args.self.now c.loop.self c.tree-tree.new.self c.loop.counter _ (string_bytes c.text-name.result, tree_of c.tree-tree.result) c.loop.invariant.remains (field_builds c.text-name.ensures.is c.tree-tree.ensures.is));
      fewer = omega (arith, c.loop.invariant.fewer, c.text-name.ensures.fewer, c.tree-tree.ensures.fewer);
    }

pub fields-returns-clause-is : goal.fields-returns-clause-is
fields-returns-clause-is t c =
    remains_none field_events is_built_field c.args.count c.args.self.now c.loop.self c.loop.counter _ (omega arith) (omega arith) c.loop.invariant.remains

pub tree-returns-in-Some-clause-is : goal.tree-returns-in-Some-clause-is
tree-returns-in-Some-clause-is t c = tree_builds c.in-Some.ensures.is c.tree_of.ensures.is

pub tree-returns-in-None-clause-is : goal.tree-returns-in-None-clause-is
tree-returns-in-None-clause-is t c = no_tree _ c.args.self.now c.next_kind.new.self c.refuse.new.self c.in-None.ensures.is (ap (λ (h : FrameEvents). h.fault) c.refuse.ensures)

pub tree_of-returns-in-Custom-clause-is : goal.tree_of-returns-in-Custom-clause-is
tree_of-returns-in-Custom-clause-is t c = of_kind c.in-Custom.is (custom_builds c.text.ensures.is)

pub tree_of-returns-in-List-clause-is : goal.tree_of-returns-in-List-clause-is
tree_of-returns-in-List-clause-is t c = of_kind c.in-List.is (wrapped kind.List _ _ (list_builds c.tree-inner.ensures.is) c.list.ensures)

pub tree_of-returns-in-Set-clause-is : goal.tree_of-returns-in-Set-clause-is
tree_of-returns-in-Set-clause-is t c = of_kind c.in-Set.is (wrapped kind.Set _ _ (set_builds c.tree-inner-in-Set.ensures.is) c.set.ensures)

pub tree_of-returns-in-Map-clause-is : goal.tree_of-returns-in-Map-clause-is
tree_of-returns-in-Map-clause-is t c = of_kind c.in-Map.is (wrapped kind.Map _ _ (map_builds c.tree-key.ensures.is c.tree-value.ensures.is) c.map.ensures)

pub tree_of-returns-in-Udt-clause-is : goal.tree_of-returns-in-Udt-clause-is
tree_of-returns-in-Udt-clause-is t c =
    of_kind c.in-Udt.is (subst (λ (x : Trees). Builds events_after_kind (IsOfKind kind.Udt) x c.args.self.now c.fields-fields.new.self) (sym (udt_tree c.text-keyspace.result c.text-name.result c.fields-fields.result c.count-count.result))
    (udt_builds c.text-keyspace.ensures.is c.text-name.ensures.is c.count-count.ensures.is c.fields-fields.ensures.is))

pub tree_of-returns-in-Tuple-clause-is : goal.tree_of-returns-in-Tuple-clause-is
tree_of-returns-in-Tuple-clause-is t c =
    of_kind c.in-Tuple.is (subst (λ (x : Trees). Builds events_after_kind (IsOfKind kind.Tuple) x c.args.self.now c.types.new.self) (sym (tuple_tree c.types.result c.count-count-in-Tuple.result))
    (tuple_builds c.count-count-in-Tuple.ensures.is c.types.ensures.is))

pub tree_of-returns-in_default : goal.tree_of-returns-in_default
tree_of-returns-in_default t c =
    let d = c.in_default in
    record {
      is = plain_builds c.args.kind (without_parameters c.args.kind d.not-Custom d.not-List d.not-Set d.not-Map d.not-Udt d.not-Tuple) (with_flag (λ (b : Bool) (u : Unit {0}). b ≡ true) c.is_plain.ensures c.check.ensures.is);
      fewer = c.check.ensures.fewer;
    }

pub types-returns-then-is_some-clause-is : goal.types-returns-then-is_some-clause-is
types-returns-then-is_some-clause-is t c =
    let f = some_of c.tree-tree.new.self.fault (sym c.is_some.ensures ∙ c.if-is_some.true) in
    remains_stuck type_events is_built_type c.args.count c.args.self.now c.tree-tree.new.self (c.loop.counter + 1) _ _ f.0 (omega arith) f.1
    (remains_more type_events is_built_type c.args.count c.args.self.now c.loop.self c.tree-tree.new.self c.loop.counter _ (tree_of c.tree-tree.result) c.loop.invariant.remains c.tree-tree.ensures.is)

pub types-loop-preserved : goal.types-loop-preserved
types-loop-preserved t c =
    let e : c.push.new.self.items ≡ c.loop.types.items ++ c.tree-tree.result ∷ [] = grind (arith, common_steps, c.push.ensures.items, c.is_err.ensures) in
    record {
      remains = rw (e, map-append) (remains_more type_events is_built_type c.args.count c.args.self.now c.loop.self c.tree-tree.new.self c.loop.counter _ (tree_of c.tree-tree.result) c.loop.invariant.remains c.tree-tree.ensures.is);
      fewer = omega (arith, c.loop.invariant.fewer, c.tree-tree.ensures.fewer);
    }

pub types-returns-clause-is : goal.types-returns-clause-is
types-returns-clause-is t c =
    remains_none type_events is_built_type c.args.count c.args.self.now c.loop.self c.loop.counter _ (omega arith) (omega arith) c.loop.invariant.remains
