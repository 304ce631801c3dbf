use Rattle.std.proofs.Common.{◌≡◌, length, suc, ◌+◌, arith, ap}
use Rattle.std.specs.Prelude.{max}
use Rattle.std.proofs.lemmas.List.{take_rest, length-drop}
use Rattle.cqlp_kind.specs.declared.node.Node.{Node}
use Rattle.cqlp_type.proofs.Depths.{depth_few, inner_few, greater, no_nodes, one_more}
use Rattle.cqlp_type.proofs.depth.+deepest.Goals as goal

pub overflow_add-deepest : goal.overflow_add-deepest
overflow_add-deepest t c =
    let inner = ap (length {A = Node}) c.inner_of-inner.ensures in
    let few = inner_few c.in-Some.first.now c.in-Some.after.now in
    let deep = depth_few c.inner_of-inner.result.now c.deepest.result c.deepest.ensures in
    omega (arith, c.in-Some.ensures.cases.1, c.loop-first.invariant.few, c.requires)

pub loop-first-preserved : goal.loop-first-preserved
loop-first-preserved t c =
    let x = c.in-Some.first.now in
    let xs = c.in-Some.after.now in
    let own = c.inner_of-inner.result.now in
    let most : c.max-depth.result ≡ max c.loop-first.depth (suc c.deepest.result) = omega (arith, greater c.loop-first.depth (1 + c.deepest.result)) in
    let left = take_rest xs (length own) in
    record {
      depth = one_more c.args.nodes.now c.loop-first.rest.now c.loop-first.depth c.loop-first.invariant.depth x xs own c.deepest.result c.max-depth.result c.in-Some.ensures.cases.0 c.inner_of-inner.ensures c.deepest.ensures most;
      few = rw left (omega (arith, length-drop (length own) xs, c.in-Some.ensures.cases.1, c.loop-first.invariant.few));
    }

pub returns : goal.returns
returns t c = no_nodes c.args.nodes.now c.loop-first.rest.now c.loop-first.depth c.in_default.ensures.cases c.loop-first.invariant.depth
