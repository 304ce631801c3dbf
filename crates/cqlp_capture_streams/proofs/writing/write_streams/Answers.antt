use Rattle.std.proofs.Common.{IsSome, sym, subst}
use Rattle.cqlp_text.specs.Outputs.{written}
use Rattle.cqlp_capture_streams.specs.Recordings.{Recording}
use Rattle.cqlp_capture_streams.proofs.Written.{writes_by}
use Rattle.cqlp_capture_streams.proofs.writing.write_streams.Goals as goal

pub returns-clause-streams : goal.returns-clause-streams
returns-clause-streams g c = λ xs is out err.
    let reports = subst (λ (r : Recording). IsSome r.output.given) (sym c.new-recorder.ensures) out in
    let a = c.read_capture-answer.ensures.reads xs is reports in
    let parts = c.into_parts-files.result in
    let done = c.conclude_capture-status.result in
    let all = writes_by a.0 c.args.limits c.args.ports.now xs c.read_capture-answer.result (g.R.Source.left c.read_capture-answer.new.input) (g.F.StreamFiles.calls c.args.files) (g.F.StreamFiles.calls parts.0) (written g.O.Target c.args.out) (written g.O.Target parts.1) (written g.E.Target c.args.err) (written g.E.Target done.1) parts.2 done.0 c.new-recorder.result c.read_capture-answer.new.listener c.new-recorder.ensures c.into_parts-files.ensures a.2 (c.conclude_capture-status.ensures.concludes err) in
    (a.0, all)

pub returns-clause-reads : goal.returns-clause-reads
returns-clause-reads g c = λ xs is out err.
    let reports = subst (λ (r : Recording). IsSome r.output.given) (sym c.new-recorder.ensures) out in
    let a = c.read_capture-answer.ensures.reads xs is reports in
    let parts = c.into_parts-files.result in
    let done = c.conclude_capture-status.result in
    let all = writes_by a.0 c.args.limits c.args.ports.now xs c.read_capture-answer.result (g.R.Source.left c.read_capture-answer.new.input) (g.F.StreamFiles.calls c.args.files) (g.F.StreamFiles.calls parts.0) (written g.O.Target c.args.out) (written g.O.Target parts.1) (written g.E.Target c.args.err) (written g.E.Target done.1) parts.2 done.0 c.new-recorder.result c.read_capture-answer.new.listener c.new-recorder.ensures c.into_parts-files.ensures a.2 (c.conclude_capture-status.ensures.concludes err) in
    (a.0, a.1, all)
