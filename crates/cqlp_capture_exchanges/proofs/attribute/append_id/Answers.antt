use Rattle.std.proofs.Common.{[], arith, append-nil, sym}
use Rattle.cqlp_text.proofs.Writing.{progress_starts, progress_goes_on, progress_writes, writes_text}
use Rattle.cqlp_capture_exchanges.specs.Notings.{id_name}
use Rattle.cqlp_capture_exchanges.proofs.attribute.append_id.Goals as goal

pub returns : goal.returns
returns g c =
    let text = id_name c.args.opcode c.args.id.now c.args.is_whole in
    let put = progress_goes_on {x = text} [] (progress_starts _ text) (sym (append-nil text)) c.in-Ok.ensures in
    let writes = progress_writes _ c.flush-passed_on.result put c.flush-passed_on.ensures.writes in
    writes_text g.W.Target.contents g.W.Target.failures c.args.target.now c.into_target-2.result.now _ _ c.flush-passed_on.new.self _ _ c.flush-passed_on.result c.over-writer.ensures c.into_target-2.ensures.given c.flush-passed_on.ensures.empty writes (λ e. grind arith)
