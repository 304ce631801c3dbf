use Rattle.std.proofs.Common.{◌+◌, ◌≡◌, ◌++◌, drop, ap}
use Rattle.std.specs.Prelude.{Some}
use Rattle.cqlp_cell.specs.Contents.{IsReadAs}
use Rattle.cqlp_cell.specs.Items.{bytes_in, content_at}
use Rattle.cqlp_cell.specs.Gathering.{seen_before}
use Rattle.cqlp_cell.specs.Progress.{state_of, due_value}
use Rattle.cqlp_cell.proofs.Gathered.{gathered_is}
use Rattle.cqlp_cell.proofs.Handing.{scalar_waits, leaf_hands}
use Rattle.cqlp_cell.proofs.progress.CellProgress.advance_scalar.Goals as goal

pub returns-in_default-clause-settles : goal.returns-in_default-clause-settles
returns-in_default-clause-settles g c =
    let r = c.requires in
    let seen = seen_before c.args.begun c.args.partial.now in
    scalar_waits c.args.table.now.nodes (state_of c.args.self.now) c.args.len c.args.partial.now c.gather.new.partial c.args.input.now (seen ++ drop c.args.start c.args.input.now) r.due r.decided r.longest c.in_default.ensures

pub returns-clause-settles : goal.returns-clause-settles
returns-clause-settles g c =
    let r = c.requires in
    let seen = seen_before c.args.begun c.args.partial.now in
    let nodes = c.args.table.now.nodes in
    let old = state_of c.args.self.now in
    let found = c.in-Some.found in
    let kind = c.in-Some-kind_read.kind in
    let there : content_at found.content c.args.input.now c.gather.new.partial.content ≡ c.lend_bytes-bytes.result.now = ap bytes_in c.lend_bytes-bytes.ensures in
    let known : IsReadAs old.rules.lenient (due_value nodes old).kind (content_at found.content c.args.input.now c.gather.new.partial.content) (Some kind) = rw (there, ← r.value) c.in-Some-kind_read.ensures in
    leaf_hands nodes old (state_of c.pass.new.self) c.args.len c.args.start c.args.partial.now c.gather.new.partial seen c.args.input.now found r.conforms r.due r.decided r.front r.some c.in-Some.ensures (gathered_is c.args.begun c.args.len (c.args.self.now.offset + 4) c.args.start c.args.partial.now c.gather.new.partial c.args.input.now found r.under_way c.in-Some.ensures) kind c.len-level.result c.len-level.ensures.is known (rw c.from.ensures at c.pass.ensures.state)
