use Rattle.std.proofs.Common.{Err, sym, append-nil, arith}
use Rattle.cqlp_text.proofs.Writing.{progress_starts, progress_goes_on, progress_writes, writes_text}
use Rattle.cqlp_json.proofs.line.json_line.Goals as goal

pub returns-in-Ok : goal.returns-in-Ok
returns-in-Ok g c =
    let all = progress_writes _ c.flush-passed.result (progress_goes_on _ (progress_starts _ _) (sym (append-nil _)) c.in-Ok.ensures) c.flush-passed.ensures.writes in
    writes_text g.W.Target.contents g.W.Target.failures c.args.target.now c.into_target.result.now _ _ c.flush-passed.new.self _ _ c.flush-passed.result c.over-writer.ensures c.into_target.ensures.given c.flush-passed.ensures.empty all (λ e. grind arith)

pub returns-in-Err : goal.returns-in-Err
returns-in-Err g c =
    writes_text g.W.Target.contents g.W.Target.failures c.args.target.now c.into_target-in-Err.result.now _ _ c.put_json_line.new.writer _ _ (Err c.in-Err.fault) c.over-writer.ensures c.into_target-in-Err.ensures.given c.in-Err.ensures.waiting c.in-Err.ensures (λ e. grind arith)
