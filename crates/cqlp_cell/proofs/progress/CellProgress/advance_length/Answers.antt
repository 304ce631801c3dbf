use Rattle.std.proofs.Common.{◌++◌}
use Rattle.cqlp_cell.specs.Gathering.{seen_before}
use Rattle.cqlp_cell.specs.Progress.{state_of}
use Rattle.cqlp_cell.proofs.Coming.{value_due}
use Rattle.cqlp_cell.proofs.Lengths.{length_settles, length_waits, length_fails, settles_from}
use Rattle.cqlp_cell.proofs.progress.CellProgress.advance_length.Goals as goal

pub take_number-requires-clause-place : goal.take_number-requires-clause-place
take_number-requires-clause-place g c =
    let r = c.requires in
    rw c.value-value.ensures (value_due c.args.table.now.nodes (state_of c.args.self.now) r.conforms r.due).inside

pub returns-in-More-clause-settles : goal.returns-in-More-clause-settles
returns-in-More-clause-settles g c =
    let r = c.requires in
    let seen = seen_before c.args.begun c.args.partial.now in
    length_waits c.args.table.now.nodes (state_of c.args.self.now) c.args.partial.now c.take_number.new.partial c.args.input.now (seen ++ c.args.input.now) r.conforms r.due r.longest (rw c.value-value.ensures at c.in-More.ensures)

pub returns-in-Overrun-clause-settles : goal.returns-in-Overrun-clause-settles
returns-in-Overrun-clause-settles g c =
    let r = c.requires in
    let seen = seen_before c.args.begun c.args.partial.now in
    let h = rw c.value-value.ensures at c.in-Overrun.ensures in
    rw c.refuse.ensures.answer (length_fails c.args.table.now.nodes (state_of c.args.self.now) (state_of c.refuse.new.self) c.args.partial.now c.take_number.new.partial (seen ++ c.args.input.now) r.conforms r.due h.0 c.refuse.ensures.state h.1 h.2)

pub returns-in-Got-clause-settles : goal.returns-in-Got-clause-settles
returns-in-Got-clause-settles g c =
    let r = c.requires in
    let seen = seen_before c.args.begun c.args.partial.now in
    let found = rw c.value-value.ensures at c.in-Got.ensures in
    settles_from c.args.table.now.nodes (state_of c.args.self.now) c.args.partial.now c.take_number.new.partial c.args.input.now _ _ _ _ _ _ found.longest found.idle
    (length_settles c.args.table.now.nodes (state_of c.args.self.now) c.args.partial.now c.take_number.new.partial seen c.args.input.now c.in-Got.used c.in-Got.number r.conforms r.due found _ _ _ c.after_length.ensures.settles)
