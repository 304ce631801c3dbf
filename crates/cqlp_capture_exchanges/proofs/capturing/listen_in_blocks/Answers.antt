use Rattle.std.proofs.Common.{subst, inr}
use Rattle.cqlp_text.specs.Outputs.{Output}
use Rattle.cqlp_capture_streams.specs.Blocks.{whole_of}
use Rattle.cqlp_capture_exchanges.specs.Capturing.{Listens}
use Rattle.cqlp_capture_exchanges.proofs.Known.{known_with, listens_known, nothing_waits}
use Rattle.cqlp_capture_exchanges.proofs.capturing.listen_in_blocks.Goals as goal

pub returns : goal.returns
returns g c = λ xs is known.
    let b = c.args.blocks in
    let whole = whole_of c.listen-read.result.2 in
    let a = c.listen-read.ensures xs is (known_with b.given b.waiting known) in
    let still = listens_known c.args.streams c.args.limits c.args.given c.args.filter c.args.form c.args.ports.now xs a.0 _ _ _ _ _ _ a.2 (known_with b.given b.waiting known) in
    let heard = subst (λ (o : Output). Listens c.args.streams c.args.limits c.args.given c.args.filter c.args.form c.args.ports.now xs a.0 c.listen-read.result.0 (g.R.Source.left c.listen-read.new.input) o c.listen-read.result.1.sums c.listen-read.result.1.missed whole) (nothing_waits b.given b.failures b.waiting c.requires.none) a.2 in
    (a.0, a.1, (c.listen-read.result.0, whole, heard, inr (c.finish_blocks-answer.ensures still)))
