use Rattle.cqlp_decode.specs.Progress.{parts_state}
use Rattle.cqlp_decode.proofs.ItemLoop.{level_fits}
use Rattle.cqlp_decode.proofs.progress.StreamProgress.hand_inside.Goals as goal

pub due_item-requires : goal.due_item-requires
due_item-requires g c =
    rw c.page_table-table.ensures (level_fits c.args.self.now (parts_state c.args.parts.now) c.args.page c.requires.ready.here c.args.level.now c.requires.ready.inside c.requires.ready.lawful)
