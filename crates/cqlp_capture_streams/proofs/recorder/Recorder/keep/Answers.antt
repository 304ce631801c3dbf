use Rattle.std.proofs.Common.{◌∙◌}
use Rattle.cqlp_capture_streams.proofs.Written.{kept}
use Rattle.cqlp_capture_streams.proofs.recorder.Recorder.keep.Goals as goal

pub returns-in-Ok : goal.returns-in-Ok
returns-in-Ok g c = kept c.args.self.now _ _ _ c.self.view_is c.args.totals.now c.put_line.result _ _ _ _ _ c.in_ok-keep.ensures c.add.ensures c.add-2.ensures (c.deref.ensures ∙ c.in-Ok.ensures) c.put_line.ensures
