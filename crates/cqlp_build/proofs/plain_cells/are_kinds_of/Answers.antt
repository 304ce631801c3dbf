use Rattle.std.proofs.Common.{◌≡◌, suc, length, arith, ap, ◌∙◌}
use Rattle.cqlp_type.specs.declared.tree.TypeTree.{Plain}
use Rattle.cqlp_build.specs.Plain.{kind_types}
use Rattle.cqlp_build.proofs.Plain.{all_kinds, more_kinds}
use Rattle.cqlp_build.proofs.plain_cells.are_kinds_of.Goals as goal

pub loop-column-init : goal.loop-column-init
loop-column-init c = λ n e h.
    let same : n ≡ length c.args.specs.now = omega (arith, e) in
    h ∙ ap (kind_types c.args.kinds.now.items 0) same

pub loop-column-preserved : goal.loop-column-preserved
loop-column-preserved c = λ n e h.
    let tree = c.is_type.ensures c.if-not-is_type.false ∙ ap Plain c.kind_in.ensures in
    c.loop-column.invariant (suc n) (omega (arith, e))
    (more_kinds c.args.kinds.now.items c.args.specs.now c.loop-column.column n c.index-specs-column.result c.index-specs-column.is c.loop-column-test.true tree h)

pub returns : goal.returns
returns c = λ t.
    c.loop-column.invariant 0 (omega (arith, c.loop-column-test.false)) (all_kinds c.args.kinds.now.items c.args.specs.now c.loop-column.column c.loop-column-test.false)
