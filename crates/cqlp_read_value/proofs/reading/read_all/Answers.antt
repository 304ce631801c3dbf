use Rattle.std.proofs.Common.{arith}
use Rattle.cqlp_type.specs.Trees.{kind_in, types_in}
use Rattle.cqlp_type.specs.TypeTrees.{head_of, inner_of, tree_of}
use Rattle.cqlp_value.specs.Owned.{value_of}
use Rattle.cqlp_read_value.specs.Reading.{ReadsAll, whole_rules}
use Rattle.cqlp_read_value.proofs.Steps.{err_of}
use Rattle.cqlp_read_value.proofs.Whole.{reads_fails, more_refused, whole_spells}
use Rattle.cqlp_read_value.proofs.reading.read_all.Goals as goal

pub returns-in_err-front : goal.returns-in_err-front
returns-in_err-front c =
    let l = whole_rules c.args.reading.now.limits in
    let t = c.args.tree.now in
    let e = c.in_err-front.field-0.0 in
    err_of _ (λ r. ReadsAll l (types_in (tree_of t)) c.args.bytes.now r) c.from_residual.result e c.from_residual.ensures (λ y same. same)
    (reads_fails l (kind_in (head_of t)) (types_in (inner_of t)) c.args.bytes.now e c.in_err-front.ensures)

pub returns-then-front-bytes : goal.returns-then-front-bytes
returns-then-front-bytes c =
    let l = whole_rules c.args.reading.now.limits in
    let t = c.args.tree.now in
    let read = c.in_ok-front.ensures in
    rw c.refused.ensures (more_refused l (kind_in (head_of t)) (types_in (inner_of t)) c.args.bytes.now (value_of c.in_ok-front.front.value) c.in_ok-front.front.used read.1 read.2 (omega arith))

pub returns : goal.returns
returns c =
    let l = whole_rules c.args.reading.now.limits in
    let t = c.args.tree.now in
    let read = c.in_ok-front.ensures in
    (whole_spells l (kind_in (head_of t)) (types_in (inner_of t)) c.args.bytes.now (value_of c.in_ok-front.front.value) c.in_ok-front.front.used read.0 (omega arith) read.1, read.2)
