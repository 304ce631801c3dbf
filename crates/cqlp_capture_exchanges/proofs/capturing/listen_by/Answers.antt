use Rattle.std.proofs.Common.{IsSome, refl, sym, subst, inl}
use Rattle.cqlp_text.specs.Outputs.{output, written}
use Rattle.cqlp_capture_streams.specs.declared.buffering.Buffering.{Buffering}
use Rattle.cqlp_capture_streams.specs.declared.buffering.Buffering.TheVariants as buffering
use Rattle.cqlp_capture_streams.specs.Blocks.{Blocks}
use Rattle.cqlp_capture_streams.specs.Buffers.{Buffers}
use Rattle.cqlp_capture_exchanges.specs.Capturing.{Listens, ListensBy}
use Rattle.cqlp_capture_exchanges.proofs.capturing.listen_by.Goals as goal

pub returns-in-Ok : goal.returns-in-Ok
returns-in-Ok g c = λ xs is known.
    let e = c.in-Ok.ensures.ok in
    let r = c.listen_in_blocks.result in
    let left = g.R.Source.left c.listen_in_blocks.new.input in
    let a = c.listen_in_blocks.ensures xs is (subst (λ (b : Blocks). IsSome b.given) (sym e) known) in
    let own = subst (λ (b : Blocks). ListensBy buffering.Block c.args.streams c.args.limits c.args.given c.args.filter c.args.form c.args.ports.now xs a.0 r.0 left (output b.given b.failures) r.1.sums r.1.missed (written g.O.Target r.2)) e a.2 in
    (a.0, a.1, subst (λ (k : Buffering). ListensBy k c.args.streams c.args.limits c.args.given c.args.filter c.args.form c.args.ports.now xs a.0 r.0 left (written g.O.Target c.args.out) r.1.sums r.1.missed (written g.O.Target r.2)) (sym c.in-Block.is) own)

pub returns-in-Err : goal.returns-in-Err
returns-in-Err g c = λ xs is known.
    let e = c.in-Err.ensures.err in
    let r = c.listen-in-Err.result in
    let out = written g.O.Target r.2 in
    let a = c.listen-in-Err.ensures xs is (subst (λ (o : g.row.O.Denot). IsSome (g.O.Target.contents o)) (sym e) known) in
    let heard = subst (λ (o : g.row.O.Denot). Listens c.args.streams c.args.limits c.args.given c.args.filter c.args.form c.args.ports.now xs a.0 r.0 (g.R.Source.left c.listen-in-Err.new.input) (written g.O.Target o) r.1.sums r.1.missed out) e a.2 in
    (a.0, a.1, (r.0, out, heard, subst (λ (k : Buffering). Buffers k r.0 out r.0 out) (sym c.in-Block.is) (inl (refl, refl))))
