use Rattle.std.proofs.Common.{◌+◌, List, arith, subst, sym}
use Rattle.cqlp_kind.specs.declared.kind.Kind.{Kind}
use Rattle.cqlp_compose.proofs.ColumnKinds.{KindsSoFar, all_kinds, nested, no_kinds, one_kind}
use Rattle.cqlp_compose.proofs.kinds.kinds_of.Goals as goal

pub loop-spec-init : goal.loop-spec-init
loop-spec-init c = record {
  kinds = subst (λ (ks : List Kind). KindsSoFar c.args.specs.now ks 0) (sym c.in-Ok.ensures.items) (no_kinds c.args.specs.now);
  len = c.in-Ok.ensures.len;
  room = c.in-Ok.ensures.capacity;
}

pub push_reserved-requires : goal.push_reserved-requires
push_reserved-requires c = omega (arith, c.loop-spec.invariant.len, c.loop-spec.invariant.room, c.loop-spec-test.true)

pub returns-in-None : goal.returns-in-None
returns-in-None c = (c.loop-spec.spec-index, nested c.args.specs.now c.loop-spec.spec-index c.spec-item.result c.spec-item.is c.loop-spec-test.true c.in-None.ensures.none)

pub loop-spec-preserved : goal.loop-spec-preserved
loop-spec-preserved c = record {
  kinds = subst (λ (ks : List Kind). KindsSoFar c.args.specs.now ks (c.loop-spec.spec-index + 1)) (sym c.push_reserved.ensures.items)
      (one_kind c.args.specs.now c.loop-spec.kinds.items c.loop-spec.spec-index c.loop-spec.invariant.kinds c.spec-item.result c.in-Some.kind c.spec-item.is c.loop-spec-test.true c.in-Some.ensures.some);
  len = omega (arith, c.push_reserved.ensures.len, c.loop-spec.invariant.len);
  room = omega (arith, c.push_reserved.ensures.capacity, c.loop-spec.invariant.room);
}

pub returns : goal.returns
returns c = all_kinds c.args.specs.now c.loop-spec.kinds.items c.loop-spec.spec-index c.loop-spec.invariant.kinds (omega (arith, c.loop-spec-test.false))
