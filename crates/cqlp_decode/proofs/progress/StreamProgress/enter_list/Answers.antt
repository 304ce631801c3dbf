use Rattle.cqlp_decode.specs.Progress.{parts_state}
use Rattle.cqlp_decode.proofs.ItemLoop.{going_lawful, going_takes}
use Rattle.cqlp_decode.proofs.Lists.{level_goes}
use Rattle.cqlp_decode.proofs.progress.StreamProgress.enter_list.Goals as goal

pub returns-clause-lawful : goal.returns-clause-lawful
returns-clause-lawful g c =
    let enters = rw c.page_table-table.ensures at c.in-Some.ensures in
    going_lawful c.args.self.now (parts_state c.args.parts.now) c.args.page c.requires.here c.requires.lawful c.requires.empty c.args.input.now c.enter.new.self c.in-Some.entered.item enters.0 (level_goes c.enter.new.self c.in-Some.entered.level enters.1)

pub returns-clause-takes : goal.returns-clause-takes
returns-clause-takes g c =
    let enters = rw c.page_table-table.ensures at c.in-Some.ensures in
    going_takes c.args.self.now (parts_state c.args.parts.now) c.args.page c.requires.here c.requires.lawful c.requires.empty c.args.input.now c.enter.new.self c.in-Some.entered.item enters.0 (level_goes c.enter.new.self c.in-Some.entered.level enters.1)
