use Rattle.std.proofs.Common.{arith, Err, IsSome, refl, sym, subst, inr}
use Rattle.cqlp_text.specs.Outputs.{written}
use Rattle.cqlp_capture_streams.specs.declared.fault.StreamsFault.TheVariants as fault
use Rattle.cqlp_capture_streams.specs.Captures.{no_reads}
use Rattle.cqlp_capture_streams.specs.Streams.{ReadsCapture}
use Rattle.cqlp_capture_rows.specs.Listening.{Listening, StopsAt, new_listening, with_connection_event}
use Rattle.cqlp_capture_rows.proofs.capturing.write_rows.Goals as goal

pub returns-in-Err-clause-rows : goal.returns-in-Err-clause-rows
returns-in-Err-clause-rows g c = λ xs is known known'.
    (no_reads, (λ fits. omega arith, refl, λ fits. omega arith), (Err fault.NoMemory, (new_listening c.args.given c.args.connection (written g.O.Target c.args.out), inr (refl, refl, is, refl), c.in-Err.ensures.err), c.conclude_capture-status.ensures.concludes known'))

pub returns-clause-rows : goal.returns-clause-rows
returns-clause-rows g c = λ xs is known known'.
    let first = new_listening c.args.given c.args.connection (written g.O.Target c.args.out) in
    let reports = subst (λ (w : Listening). IsSome w.output.given) (sym c.in-Ok.ensures.ok) known in
    let a = c.read_capture-answer.ensures.reads xs is reports in (
      a.0,
      a.1,
      (
        c.read_capture-answer.result,
        (
          c.read_capture-answer.new.listener,
          subst (λ (w : Listening). ReadsCapture with_connection_event StopsAt c.args.limits c.args.ports.now xs a.0 c.read_capture-answer.result (g.R.Source.left c.read_capture-answer.new.input) w c.read_capture-answer.new.listener) c.in-Ok.ensures.ok a.2,
          c.into_output.ensures,
        ),
        c.conclude_capture-status-2.ensures.concludes known',
      ),
    )
