use Rattle.cqlp_capture_summary.proofs.Names.{name_kept}
use Rattle.cqlp_capture_summary.proofs.name.Name.new.Goals as goal

pub returns : goal.returns
returns c = name_kept c.copy_from_slice.new.self _ c.args.name.now c.min.result _ _ c.copy_from_slice.ensures.after c.min.ensures c.is_kept_whole.ensures
