use Rattle.std.proofs.Common.{sym, append-nil, arith}
use Rattle.cqlp_text.proofs.Writing.{progress_starts, progress_goes_on, progress_writes, writes_text}
use Rattle.cqlp_row_text.proofs.json_rows.json_part.Goals as goal

pub returns-in-Ok-clause-part : goal.returns-in-Ok-clause-part
returns-in-Ok-clause-part g c =
    let all = progress_writes _ c.flush-passed.result (progress_goes_on _ (progress_starts _ _) (sym (append-nil _)) c.in-Ok.ensures.part) c.flush-passed.ensures.writes in
    writes_text g.W.Target.contents g.W.Target.failures c.args.target.now c.into_target.result.now _ _ c.flush-passed.new.self _ _ c.flush-passed.result c.over-writer.ensures c.into_target.ensures.given c.flush-passed.ensures.empty all (λ e. grind arith)
