use Rattle.std.proofs.Common.{◌+◌, ◌++◌, drop, refl, ap, arith}
use Rattle.cqlp_cell.specs.declared.progress.NextInCell.TheVariants as next
use Rattle.cqlp_cell.specs.Gathering.{seen_before}
use Rattle.cqlp_cell.specs.Progress.{CellState, state_of}
use Rattle.cqlp_cell.proofs.Gathered.{gathered_is}
use Rattle.cqlp_cell.proofs.Parting.{first_room, first_waits, first_hands}
use Rattle.cqlp_cell.proofs.progress.CellProgress.advance_first.Goals as goal

pub overflow_add-at : goal.overflow_add-at
overflow_add-at g c =
    let r = c.requires in
    omega (arith, first_room c.args.table.now.nodes (state_of c.args.self.now) refl c.args.total r.decided r.conforms r.due)

pub gather-requires-clause-place : goal.gather-requires-clause-place
gather-requires-clause-place g c =
    let r = c.requires in
    omega (arith, first_room c.args.table.now.nodes (state_of c.args.self.now) refl c.args.total r.decided r.conforms r.due, r.decided.can.1)

pub returns-in_default-clause-settles : goal.returns-in_default-clause-settles
returns-in_default-clause-settles g c =
    let r = c.requires in
    let seen = seen_before c.args.begun c.args.partial.now in
    first_waits c.args.table.now.nodes (state_of c.args.self.now) refl c.args.total r.decided c.args.partial.now c.gather.new.partial c.args.input.now (seen ++ drop c.args.start c.args.input.now) r.due r.longest c.in_default.ensures

pub pass-requires-clause-place : goal.pass-requires-clause-place
pass-requires-clause-place g c =
    let r = c.requires in
    omega (arith, first_room c.args.table.now.nodes (state_of c.args.self.now) refl c.args.total r.decided r.conforms r.due, r.decided.can.1)

pub returns-clause-settles : goal.returns-clause-settles
returns-clause-settles g c =
    let r = c.requires in
    let seen = seen_before c.args.begun c.args.partial.now in
    let goes = ap (λ (d : CellState). record d { next = next.Part c.args.self.now.limits.cell c.args.total }) (rw c.from.ensures at c.pass.ensures.state) in
    first_hands c.args.table.now.nodes (state_of c.args.self.now) refl c.args.total r.decided c.args.start c.args.partial.now c.gather.new.partial seen c.args.input.now c.in-Some.found _ c.len-level.result r.conforms r.due r.parts r.front r.some c.in-Some.ensures (gathered_is c.args.begun c.args.self.now.limits.cell (c.args.self.now.offset + 4) c.args.start c.args.partial.now c.gather.new.partial c.args.input.now c.in-Some.found r.under_way c.in-Some.ensures) goes c.len-level.ensures.is
