use Rattle.std.proofs.Common.{[], arith, append-nil, sym}
use Rattle.cqlp_text.proofs.Writing.{progress_starts, progress_goes_on, progress_writes, writes_text}
use Rattle.cqlp_capture_streams.specs.Lines.{gap_line}
use Rattle.cqlp_capture_streams.proofs.lines.gap_line.Goals as goal

pub returns : goal.returns
returns g c =
    let line = gap_line c.args.file c.args.at c.args.length c.args.cause in
    let put = progress_goes_on [] (progress_starts _ line) (sym (append-nil line)) c.in-Ok.ensures in
    let writes = progress_writes _ c.flush-passed_on.result put c.flush-passed_on.ensures.writes in
    writes_text g.W.Target.contents g.W.Target.failures c.args.target.now c.into_target-2.result.now _ _ c.flush-passed_on.new.self _ _ c.flush-passed_on.result c.over-writer.ensures c.into_target-2.ensures.given c.flush-passed_on.ensures.empty writes (λ e. grind arith)
