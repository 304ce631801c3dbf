use Rattle.std.proofs.Common.{◌++◌, refl, arith}
use Rattle.cqlp_cell.specs.Gathering.{seen_before}
use Rattle.cqlp_cell.specs.Progress.{state_of}
use Rattle.cqlp_cell.proofs.Gathered.{gathered_is}
use Rattle.cqlp_cell.proofs.Parting.{part_room, still_wanted, later_waits, later_hands}
use Rattle.cqlp_cell.proofs.progress.CellProgress.advance_part.Goals as goal

pub gather-requires-clause-place : goal.gather-requires-clause-place
gather-requires-clause-place g c =
    let r = c.requires in
    omega (arith, part_room c.args.table.now.nodes (state_of c.args.self.now) refl c.args.offset c.args.total r.next r.conforms, c.min-size.ensures)

pub returns-in_default-clause-settles : goal.returns-in_default-clause-settles
returns-in_default-clause-settles g c =
    let r = c.requires in
    let seen = seen_before c.args.begun c.args.partial.now in
    later_waits c.args.table.now.nodes (state_of c.args.self.now) refl c.args.offset c.args.total r.next r.conforms c.args.partial.now c.gather.new.partial c.args.input.now (seen ++ c.args.input.now) r.longest (rw c.min-size.ensures at c.in_default.ensures)

pub overflow_add-self : goal.overflow_add-self
overflow_add-self g c =
    let r = c.requires in
    omega (arith, part_room c.args.table.now.nodes (state_of c.args.self.now) refl c.args.offset c.args.total r.next r.conforms, c.min-size.ensures)

pub returns-clause-settles : goal.returns-clause-settles
returns-clause-settles g c =
    let r = c.requires in
    let seen = seen_before c.args.begun c.args.partial.now in
    later_hands c.args.table.now.nodes (state_of c.args.self.now) refl c.args.offset c.args.total r.next r.conforms c.args.partial.now c.gather.new.partial seen c.args.input.now c.in-Some.found _ c.len.result _ (still_wanted c.args.table.now.nodes (state_of c.args.self.now) refl c.args.offset c.args.total r.next r.conforms c.args.begun c.args.partial.now r.under_way) (rw c.min-size.ensures at c.in-Some.ensures) (gathered_is c.args.begun _ c.args.self.now.offset 0 c.args.partial.now c.gather.new.partial c.args.input.now c.in-Some.found r.under_way (rw c.min-size.ensures at c.in-Some.ensures)) refl (rw (c.next_part-self.ensures, c.from.ensures, c.min-size.ensures) refl) c.len.ensures.is
