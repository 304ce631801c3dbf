use Rattle.std.proofs.Common.{[], ◌++◌, Err, arith, append-nil, sym}
use Rattle.cqlp_text.proofs.Writing.{progress_starts, progress_goes_on, progress_writes, writes_text}
use Rattle.cqlp_capture_streams.specs.Endings.{busy_line, read_line}
use Rattle.cqlp_capture_streams.proofs.ending.read_line.Goals as goal

pub returns : goal.returns
returns g c =
    let line = busy_line c.args.ports.now c.args.read.now ++ (g.W.LastWords.note c.args.last.now ++ read_line (g.W.LastWords.words c.args.last.now) c.args.read.now) in
    let put = progress_goes_on [] (progress_starts _ line) (sym (append-nil line)) c.in-Ok.ensures in
    let writes = progress_writes _ c.flush-passed_on.result put c.flush-passed_on.ensures.writes in
    writes_text g.E.Target.contents g.E.Target.failures c.args.target.now c.into_target-2.result.now _ _ c.flush-passed_on.new.self _ _ c.flush-passed_on.result c.over-writer.ensures c.into_target-2.ensures.given c.flush-passed_on.ensures.empty writes (λ e. grind arith)

pub returns-in_default : goal.returns-in_default
returns-in_default g c =
    let line = busy_line c.args.ports.now c.args.read.now ++ (g.W.LastWords.note c.args.last.now ++ read_line (g.W.LastWords.words c.args.last.now) c.args.read.now) in
    writes_text g.E.Target.contents g.E.Target.failures c.args.target.now c.into_target.result.now _ _ c.put_all.new.writer _ line (Err c.in_default.field-0) c.over-writer.ensures c.into_target.ensures.given c.in_default.ensures.waiting c.in_default.ensures (λ e. grind arith)
