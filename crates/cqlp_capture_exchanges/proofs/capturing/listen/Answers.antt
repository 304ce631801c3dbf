use Rattle.std.proofs.Common.{◌∙◌, arith, IsSome, refl, sym, ap, subst, inr}
use Rattle.cqlp_text.specs.Outputs.{Output, written}
use Rattle.cqlp_capture_streams.specs.Captures.{no_reads}
use Rattle.cqlp_capture_streams.specs.Streams.{ReadsCapture}
use Rattle.cqlp_capture_exchanges.specs.Tables.{Table}
use Rattle.cqlp_capture_exchanges.specs.Listening.{Listening, StopsAt, new_listening, with_connection_event}
use Rattle.cqlp_capture_exchanges.specs.Capturing.{Closes}
use Rattle.cqlp_capture_exchanges.proofs.capturing.listen.Goals as goal

pub returns-in-Err : goal.returns-in-Err
returns-in-Err g c = λ xs is known.
    (no_reads, (λ fits. omega arith, refl, λ fits. omega arith), (new_listening c.args.limits c.args.given c.args.filter c.args.form (written g.O.Target c.args.out), _, inr (refl, refl, is, refl), c.none.ensures.sums, c.none.ensures.missed, (refl, c.in-Err.ensures.err)))

pub returns : goal.returns
returns g c = λ xs is known.
    let first = new_listening c.args.limits c.args.given c.args.filter c.args.form (written g.O.Target c.args.out) in
    let takes_delivery = subst (λ (w : Listening). IsSome w.account.output.given) (sym c.in-Ok.ensures.ok) known in
    let read = c.read_capture-read.result in
    let heard = c.read_capture-read.new.listener in
    let k = c.read_capture-read.ensures.reports takes_delivery in
    let a = c.read_capture-read.ensures.reads xs is takes_delivery in (
      a.0,
      a.1,
      (
        heard,
        read,
        subst (λ (w : Listening). ReadsCapture with_connection_event StopsAt c.args.streams c.args.ports.now xs a.0 read (g.R.Source.left c.read_capture-read.new.input) w heard) c.in-Ok.ensures.ok a.2,
        c.into_parts-out.ensures.sums ∙ c.finish-answer.ensures.sums k,
        c.missed-missed.ensures ∙ ap (λ (t : Table). t.missed) c.finish-answer.ensures.table,
        subst (λ (o : Output). Closes heard.account read c.finish-answer.result o) (sym c.into_parts-out.ensures.output) (c.finish-answer.ensures.closes k),
      ),
    )
